-- The laws of the field of 256 symbols: each is linear in each of its arguments, and so holds since it holds at the powers of two. Only proofs, for a law: no contract cites it. Assumes nothing.
use Rattle.std.specs.Prelude.{◌⊎◌, not, ◌≡◌, ℕ, zero, suc, ◌%◌, ◌^◌, ◌<◌, List, [], ◌∷◌, ◌==◌, ◌≢◌, bit_xor, slice_index, refl}
use Rattle.std.proofs.Common.{inl, inr, sym, ap, ap₂, ◌∙◌, arith, mod-eq_of_lt, lit<}
use Rattle.std.proofs.lemmas.Nat.{xor_lt, xor_comm}
use Rattle.std.proofs.lemmas.Bool.Decides.{Decides-eqb, Decides-ltb, Decides-or, Decides-not}
use Rattle.std.specs.Int.Bits.{xor_self, xor_assoc, xor_zero_r}
use Rattle.field.specs.Model.{Laws}
use Rattle.field.specs.Residues.{Below, square_chain}
use Rattle.field.specs.Below.{bound, same, modulo-below, modulo_differ, counted}
use Rattle.field.specs.Binary.{product, remainder, times, inverse_of, power_of_two, point_of, binary}
use Rattle.field.specs.Computed.{every, Decides-every}
use Rattle.field.specs.Bitwise.{linear_zero, linear_both, linear_same, linear_below, times_left, times_right}

pub times_zero : (a : ℕ) → times a 0 ≡ 0
times_zero a = linear_zero (times a) (times_right a)

-- the products of powers of two, each computed
commutes : (i : ℕ) → i < 8 → (j : ℕ) → j < 8 → times (2 ^ i) (2 ^ j) ≡ times (2 ^ j) (2 ^ i)
unfolding every times product remainder
commutes = (Decides-every 8 (λ i. Decides-every 8 (λ j. Decides-eqb (times (2 ^ i) (2 ^ j)) (times (2 ^ j) (2 ^ i))))).0 refl

associates : (i : ℕ) → i < 8 → (j : ℕ) → j < 8 → (k : ℕ) → k < 8 → times (times (2 ^ i) (2 ^ j)) (2 ^ k) ≡ times (2 ^ i) (times (2 ^ j) (2 ^ k))
unfolding every times product remainder
associates = (Decides-every 8 (λ i. Decides-every 8 (λ j. Decides-every 8 (λ k.
    Decides-eqb (times (times (2 ^ i) (2 ^ j)) (2 ^ k)) (times (2 ^ i) (times (2 ^ j) (2 ^ k))))))).0 refl

small : (i : ℕ) → i < 8 → (j : ℕ) → j < 8 → times (2 ^ i) (2 ^ j) < 256
unfolding every times product remainder
small = (Decides-every 8 (λ i. Decides-every 8 (λ j. Decides-ltb (times (2 ^ i) (2 ^ j)) 256))).0 refl

unit : (i : ℕ) → i < 8 → times (2 ^ i) 1 ≡ 2 ^ i
unfolding every times product remainder
unit = (Decides-every 8 (λ i. Decides-eqb (times (2 ^ i) 1) (2 ^ i))).0 refl

pub times_lt : (a b : ℕ) → a < 256 → b < 256 → times a b < 256
times_lt a b ha hb =
    linear_below 8 (times a) (times_right a) 8 (λ j lj.
    linear_below 8 (λ a. times a (2 ^ j)) (times_left (2 ^ j)) 8 (λ i li. small i li j lj) a ha) b hb

pub times_comm : (a b : ℕ) → a < 256 → b < 256 → times a b ≡ times b a
times_comm a b ha hb =
    linear_same (times a) (λ b. times b a) (times_right a) (times_left a) 8 (λ j lj.
    linear_same (λ a. times a (2 ^ j)) (times (2 ^ j)) (times_left (2 ^ j)) (times_right (2 ^ j)) 8 (λ i li. commutes i li j lj) a ha) b hb

pub times_assoc : (a b c : ℕ) → a < 256 → b < 256 → c < 256 → times (times a b) c ≡ times a (times b c)
times_assoc a b c ha hb hc =
    linear_same (times (times a b)) (λ c. times a (times b c)) (times_right (times a b)) (linear_both (times a) (times b) (times_right a) (times_right b)) 8 (λ k lk.
    let last = λ (m : ℕ). times m (2 ^ k) in
    linear_same (λ b. last (times a b)) (λ b. times a (last b))
    (linear_both last (times a) (times_left (2 ^ k)) (times_right a)) (linear_both (times a) last (times_right a) (times_left (2 ^ k))) 8 (λ j lj.
    linear_same (λ a. last (times a (2 ^ j))) (λ a. times a (times (2 ^ j) (2 ^ k)))
    (linear_both last (λ m. times m (2 ^ j)) (times_left (2 ^ k)) (times_left (2 ^ j))) (times_left (times (2 ^ j) (2 ^ k))) 8
    (λ i li. associates i li j lj k lk) a ha) b hb) c hc

pub times-one : (a : ℕ) → a < 256 → times a 1 ≡ a
times-one = linear_same (λ a. times a 1) (λ a. a) (times_left 1) (λ x y. refl) 8 unit

-- the inverses and the points, each computed
inverts : (a : ℕ) → a < 255 → times (suc a) (inverse_of (suc a) % 256) % 256 ≡ 1
unfolding every inverse_of square_chain times product remainder
inverts = (Decides-every 255 (λ a. Decides-eqb (times (suc a) (inverse_of (suc a) % 256) % 256) 1)).0 refl

pointed : List ℕ
pointed =
    0 ∷ 1 ∷ 2 ∷ 4 ∷ 8 ∷ 16 ∷ 32 ∷ 64 ∷ 128 ∷ 29 ∷ 58 ∷ 116 ∷ 232 ∷ 205 ∷ 135 ∷ 19 ∷ 38 ∷ 76 ∷ 152 ∷ 45 ∷ 90 ∷ 180 ∷ 117 ∷ 234
    ∷ 201 ∷ 143 ∷ 3 ∷ 6 ∷ 12 ∷ 24 ∷ 48 ∷ 96 ∷ []

listed : (i : ℕ) → i < 32 → point_of i % 256 ≡ slice_index pointed i
unfolding every pointed point_of power_of_two times product remainder
listed = (Decides-every 32 (λ i. Decides-eqb (point_of i % 256) (slice_index pointed i))).0 refl

apart : (i : ℕ) → i < 32 → (j : ℕ) → j < 32 → (slice_index pointed i ≢ slice_index pointed j) ⊎ (i ≡ j)
unfolding every pointed
apart = (Decides-every 32 (λ i. Decides-every 32 (λ j.
    Decides-or (not (slice_index pointed i == slice_index pointed j)) (i == j)
    (Decides-not (slice_index pointed i == slice_index pointed j) (Decides-eqb (slice_index pointed i) (slice_index pointed j))) (Decides-eqb i j)))).0 refl

-- what the operations come to, with no remainder taken
add_is : (x y : Below 256) → (binary.add x y).0 ≡ bit_xor x.0 y.0
add_is x y = mod-eq_of_lt (xor_lt 8 x.0 y.0 (bound 256 x) (bound 256 y))

mul_is : (x y : Below 256) → (binary.mul x y).0 ≡ times x.0 y.0
mul_is x y = mod-eq_of_lt (times_lt x.0 y.0 (bound 256 x) (bound 256 y))

undone : (a b : ℕ) → bit_xor (bit_xor a b) b ≡ a
undone a b = xor_assoc a b b ∙ ap (bit_xor a) (xor_self b) ∙ xor_zero_r a

undo : (x y : Below 256) → binary.add (binary.add x y) y ≡ x
undo x y = same 256 (binary.add (binary.add x y) y) x (add_is (binary.add x y) y ∙ ap (λ (m : ℕ). bit_xor m y.0) (add_is x y) ∙ undone x.0 y.0)

inverse_law : (x : Below 256) (n : ℕ) → x.0 ≡ n → (x ≢ binary.zero) → binary.mul x (binary.inverse x) ≡ binary.one
inverse_law x zero e d = absurd (d (same 256 x binary.zero e))
inverse_law x (suc n) e d = same 256 (binary.mul x (binary.inverse x)) binary.one
    (ap (λ (m : ℕ). times m (inverse_of m % 256) % 256) e ∙ inverts n (omega (arith, bound 256 x)))

point_law : (i j : ℕ) → i < 32 → j < 32 → binary.point i ≡ binary.point j → i ≡ j
point_law i j hi hj e = elim (apart i hi j hj) [
  | inl differ ↦ absurd (differ (sym (listed i hi) ∙ ap (λ (x : Below 256). x.0) e ∙ listed j hj))
  | inr equal ↦ equal
]

stored-byte : (x : ℕ) → x < 256 → (i : ℕ) → slice_index (x ∷ []) i < 256
stored-byte x h zero = h
stored-byte x h (suc i) = lit< tt

pub lawful : Laws binary
lawful = record {
  numbered = counted 256;
  add_assoc = λ x y z. same 256 (binary.add (binary.add x y) z) (binary.add x (binary.add y z))
      (add_is (binary.add x y) z ∙ ap (λ (m : ℕ). bit_xor m z.0) (add_is x y) ∙ xor_assoc x.0 y.0 z.0
      ∙ sym (add_is x (binary.add y z) ∙ ap (bit_xor x.0) (add_is y z)));
  add_comm = λ x y. same 256 (binary.add x y) (binary.add y x) (ap (λ (m : ℕ). m % 256) (xor_comm x.0 y.0));
  mul_assoc = λ x y z. same 256 (binary.mul (binary.mul x y) z) (binary.mul x (binary.mul y z))
      (mul_is (binary.mul x y) z ∙ ap (λ (m : ℕ). times m z.0) (mul_is x y)
      ∙ times_assoc x.0 y.0 z.0 (bound 256 x) (bound 256 y) (bound 256 z)
      ∙ sym (mul_is x (binary.mul y z) ∙ ap (times x.0) (mul_is y z)));
  mul_comm = λ x y. same 256 (binary.mul x y) (binary.mul y x) (ap (λ (m : ℕ). m % 256) (times_comm x.0 y.0 (bound 256 x) (bound 256 y)));
  mul-add = λ x y z. same 256 (binary.mul x (binary.add y z)) (binary.add (binary.mul x y) (binary.mul x z))
      (mul_is x (binary.add y z) ∙ ap (times x.0) (add_is y z) ∙ times_right x.0 y.0 z.0
      ∙ sym (add_is (binary.mul x y) (binary.mul x z) ∙ ap₂ bit_xor (mul_is x y) (mul_is x z)));
  add-zero = λ x. same 256 (binary.add x binary.zero) x (add_is x binary.zero ∙ xor_zero_r x.0);
  mul-one = λ x. same 256 (binary.mul x binary.one) x (mul_is x binary.one ∙ times-one x.0 (bound 256 x));
  zero_not_one = λ e. let f : ◌≡◌ {A = ℕ} 0 1 = ap (λ (x : Below 256). x.0) e in omega arith;
  add-sub = undo;
  sub-add = undo;
  mul-inverse = λ x d. inverse_law x x.0 refl d;
  points_differ = point_law;
  bytes_differ = modulo_differ 256 (lit< tt);
  stored-length = λ x. refl;
  stored_bytes = λ x i. stored-byte x.0 (bound 256 x) i;
  reads_back = λ x. modulo-below 256 (lit< tt) x;
}

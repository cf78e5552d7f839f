-- The laws of the numbers modulo 257. Only proofs, for a law: no contract cites it. Assumes nothing.
use Rattle.std.specs.Prelude.{◌≡◌, ℕ, zero, suc, ◌+◌, ◌*◌, ◌/◌, ◌%◌, ◌<◌, [], ◌∷◌, ◌≢◌, slice_index, refl}
use Rattle.std.proofs.Common.{sym, ap, ◌∙◌, arith, mul_comm, mul_assoc, mul-add, lit<}
use Rattle.std.proofs.Math.Nat.{add-mod}
use Rattle.std.proofs.lemmas.Nat.{mul-mod_first, mul-mod_second}
use Rattle.field.specs.Model.{Laws}
use Rattle.field.specs.Residues.{Below, square_chain}
use Rattle.field.specs.Below.{bound, same, modulo_differ, counted}
use Rattle.field.specs.Prime.{inverse_of, prime}
use Rattle.std.proofs.lemmas.Bool.Decides.{Decides-eqb}
use Rattle.field.specs.Computed.{every, Decides-every}

-- 65536 is 1 modulo 257
pub halves_add : (p : ℕ) → (p % 65536 % 257 + p / 65536 % 257) % 257 ≡ p % 257
halves_add p = omega arith

-- the inverses, each computed
inverts : (a : ℕ) → a < 256 → suc a * (inverse_of (suc a) % 257) % 257 ≡ 1
unfolding every inverse_of square_chain
inverts = (Decides-every 256 (λ a. Decides-eqb (suc a * (inverse_of (suc a) % 257) % 257) 1)).0 refl

inverse_law : (x : Below 257) (n : ℕ) → x.0 ≡ n → (x ≢ prime.zero) → prime.mul x (prime.inverse x) ≡ prime.one
inverse_law x zero e d = absurd (d (same 257 x prime.zero e))
inverse_law x (suc n) e d = same 257 (prime.mul x (prime.inverse x)) prime.one
    (ap (λ (m : ℕ). m * (inverse_of m % 257) % 257) e ∙ inverts n (omega (arith, bound 257 x)))

stored-byte : (x : ℕ) → x < 257 → (i : ℕ) → slice_index (x % 256 ∷ x / 256 ∷ []) i < 256
stored-byte x h zero = omega arith
stored-byte x h (suc zero) = omega arith
stored-byte x h (suc (suc i)) = lit< tt

pub lawful : Laws prime
lawful = record {
  numbered = counted 257;
  add_assoc = λ x y z. same 257 (prime.add (prime.add x y) z) (prime.add x (prime.add y z)) (omega arith);
  add_comm = λ x y. same 257 (prime.add x y) (prime.add y x) (omega arith);
  mul_assoc = λ x y z. same 257 (prime.mul (prime.mul x y) z) (prime.mul x (prime.mul y z))
      (mul-mod_first (x.0 * y.0) z.0 257 ∙ ap (λ (m : ℕ). m % 257) (mul_assoc x.0 y.0 z.0) ∙ sym (mul-mod_second x.0 (y.0 * z.0) 257));
  mul_comm = λ x y. same 257 (prime.mul x y) (prime.mul y x) (ap (λ (m : ℕ). m % 257) (mul_comm x.0 y.0));
  mul-add = λ x y z. same 257 (prime.mul x (prime.add y z)) (prime.add (prime.mul x y) (prime.mul x z))
      (mul-mod_second x.0 (y.0 + z.0) 257 ∙ ap (λ (m : ℕ). m % 257) (mul-add x.0 y.0 z.0) ∙ add-mod (x.0 * y.0) (x.0 * z.0) 257);
  add-zero = λ x. same 257 (prime.add x prime.zero) x (omega (arith, bound 257 x));
  mul-one = λ x. same 257 (prime.mul x prime.one) x (omega (arith, bound 257 x));
  zero_not_one = λ e. let f : ◌≡◌ {A = ℕ} 0 1 = ap (λ (x : Below 257). x.0) e in omega arith;
  add-sub = λ x y. same 257 (prime.sub (prime.add x y) y) x (omega (arith, bound 257 x, bound 257 y));
  sub-add = λ x y. same 257 (prime.add (prime.sub x y) y) x (omega (arith, bound 257 x, bound 257 y));
  mul-inverse = λ x d. inverse_law x x.0 refl d;
  points_differ = λ i j hi hj. modulo_differ 257 (lit< tt) i j (omega arith) (omega arith);
  bytes_differ = λ a b ha hb. modulo_differ 257 (lit< tt) a b (omega arith) (omega arith);
  stored-length = λ x. refl;
  stored_bytes = λ x i. stored-byte x.0 (bound 257 x) i;
  reads_back = λ x. same 257 (prime.loaded (prime.stored x)) x (omega (arith, bound 257 x));
}

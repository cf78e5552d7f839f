-- What the loops of the two fields do in a turn. Assumes nothing.
use Rattle.std.proofs.Common.{fold, List, [], ◌∷◌, length, add-one, ◌≡◌, ℕ, zero, suc, ◌+◌, ◌-◌, ◌*◌, ◌/◌, ◌%◌, ◌^◌, ◌<◌, ◌≤◌, sym, refl, ap, ◌∙◌, ap₂, mod-eq_of_lt, one-mul, pow-suc, zero-mul, arith, lit<}
use Rattle.std.proofs.Math.Nat.{div-div-eq-div-mul}
use lib.Bits.{bit_xor, xor_lt, xor_shifted, xor_comm, xor_assoc}
use Rattle.field.specs.Residues.{square_chain}
use Rattle.field.specs.Binary.{product, remainder, times, power_of_two, point_of}
use Rattle.std.proofs.lemmas.Bool.Decides.{Decides-eqb}
use Rattle.field.specs.Computed.{every, Decides-every}
use Rattle.field.specs.Bitwise.{times_right}
use Rattle.field.specs.BinaryLaws.{times_lt, times_assoc, times_comm, times-one, times_zero}

pub add_plain : (a b : ℕ) → a < 256 → b < 256 → bit_xor a b ≡ bit_xor (a % 256) (b % 256) % 256
add_plain a b ha hb =
    sym (ap₂ (λ (x y : ℕ). bit_xor x y % 256) (mod-eq_of_lt ha) (mod-eq_of_lt hb) ∙ mod-eq_of_lt (xor_lt 8 a b ha hb))

pub mul_plain : (a b : ℕ) → a < 256 → b < 256 → times a b ≡ times (a % 256) (b % 256) % 256
mul_plain a b ha hb =
    sym (ap₂ (λ (x y : ℕ). times x y % 256) (mod-eq_of_lt ha) (mod-eq_of_lt hb) ∙ mod-eq_of_lt (times_lt a b ha hb))

-- the product with x
pub doubled_is : (a : ℕ) → a < 256 → bit_xor (a % 128 * 2) (a / 128 * 0x1D) ≡ times a 2
unfolding every times product remainder
doubled_is = (Decides-every 256 (λ a. Decides-eqb (bit_xor (a % 128 * 2) (a / 128 * 0x1D)) (times a 2))).0 refl

pub twice_is : (a : ℕ) → a < 128 → times 2 a ≡ 2 * a
unfolding every times product remainder
twice_is = (Decides-every 128 (λ a. Decides-eqb (times 2 a) (2 * a))).0 refl

-- a number by its halves
halved : (r : ℕ) → r ≡ bit_xor (2 * (r / 2)) (r % 2)
halved r =
    let e : bit_xor (r / 2 * 2) (r % 2) ≡ r / 2 * 2 + r % 2 = xor_shifted (r / 2) 1 (r % 2) (omega arith) in
    let f : 2 * (r / 2) ≡ r / 2 * 2 = omega arith in
    let g : r ≡ r / 2 * 2 + r % 2 = omega arith in
    g ∙ sym e ∙ ap (λ (m : ℕ). bit_xor m (r % 2)) (sym f)

-- one turn of the product
pub turn : (s r : ℕ) → s < 256 → r < 256 → times s r ≡ bit_xor (times (times s 2) (r / 2)) (times s (r % 2))
turn s r hs hr =
    ap (times s) (halved r) ∙ times_right s (2 * (r / 2)) (r % 2)
    ∙ ap (λ (m : ℕ). bit_xor m (times s (r % 2)))
    (ap (times s) (sym (twice_is (r / 2) (omega arith))) ∙ sym (times_assoc s 2 (r / 2) hs (lit< tt) (omega arith)))

-- the product with one bit
bit_product : (s q : ℕ) → s < 256 → q < 2 → times s q ≡ q * s
bit_product s zero hs hq = times_zero s ∙ sym (zero-mul s)
bit_product s (suc zero) hs hq = times-one s hs ∙ sym (one-mul s)
bit_product s (suc (suc q)) hs hq = absurd (omega arith)

-- one turn, with the sum so far
pub turn_sum : (s r sum : ℕ) → s < 256 → r < 256 → bit_xor sum (times s r) ≡ bit_xor (bit_xor sum (r % 2 * s)) (times (times s 2) (r / 2))
turn_sum s r sum hs hr =
    let rest = times (times s 2) (r / 2) in
    ap (bit_xor sum) (turn s r hs hr ∙ ap (bit_xor rest) (bit_product s (r % 2) hs (omega arith)) ∙ xor_comm rest (r % 2 * s))
    ∙ sym (xor_assoc sum (r % 2 * s) rest)

-- a bit times a byte is a byte
pub bit_fits : (q s : ℕ) → q < 2 → s < 256 → q * s < 256
bit_fits zero s hq hs = omega (arith, zero-mul s)
bit_fits (suc zero) s hq hs = omega arith
bit_fits (suc (suc q)) s hq hs = absurd (omega arith)

-- the bits from i + 1 on
pub next_bits : (b i : ℕ) → b / 2 ^ i / 2 ≡ b / 2 ^ (i + 1)
next_bits b i = div-div-eq-div-mul b (2 ^ i) 2 ∙ ap (λ (m : ℕ). b / m) (omega (arith, pow-suc 2 i, ap (λ (m : ℕ). 2 ^ m) (add-one i)))

pub chain_more : {A : Type 0} (mul : A → A → A) (n i : ℕ) (acc s : A) → i < n → square_chain mul (n - i) acc s ≡ square_chain mul (n - (i + 1)) (mul acc s) (mul s s)
unfolding square_chain
chain_more mul n i acc s h =
    let e : n - i ≡ suc (n - (i + 1)) = omega arith in
    ap (λ (m : ℕ). square_chain mul m acc s) e

pub chain_none : {A : Type 0} (mul : A → A → A) (n i : ℕ) (acc s : A) → n ≤ i → square_chain mul (n - i) acc s ≡ acc
unfolding square_chain
chain_none mul n i acc s h = let e : n - i ≡ 0 = omega arith in ap (λ (m : ℕ). square_chain mul m acc s) e

-- doubled once for each item of xs, a power of two grows by as many places
doubled_over : (xs : List ℕ) (i a : ℕ) → a < 256 → a ≡ power_of_two i → fold (λ (p k : ℕ). times p 2) a xs ≡ power_of_two (i + length xs)
unfolding power_of_two
doubled_over [] i a h e = e ∙ ap power_of_two (omega arith)
doubled_over (x ∷ xs) i a h e =
    doubled_over xs (suc i) (times a 2) (times_lt a 2 h (lit< tt)) (times_comm a 2 h (lit< tt) ∙ ap (times 2) e) ∙ ap power_of_two (omega arith)

-- 1, doubled j - 1 times
pub doubled_point : (xs : List ℕ) (j : ℕ) → 1 ≤ j → length xs ≡ j - 1 → fold (λ (p k : ℕ). times p 2) 1 xs ≡ point_of j
unfolding point_of power_of_two
doubled_point xs zero h n = absurd (omega arith)
doubled_point xs (suc j) h n = doubled_over xs 0 1 (lit< tt) refl ∙ ap power_of_two (omega arith)

pub point-zero : 0 ≡ point_of 0
unfolding point_of
point-zero = refl

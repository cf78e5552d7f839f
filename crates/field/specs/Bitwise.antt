-- Polynomials over 0 and 1: what is linear, and what holds at the powers of two and is kept by exclusive or. Only proofs, for a law: no contract cites it. Assumes nothing.
use Rattle.std.specs.Prelude.{◌≡◌, ℕ, zero, suc, ◌+◌, ◌*◌, ◌/◌, ◌%◌, ◌^◌, ◌<◌, bit_xor, refl}
use Rattle.std.proofs.Common.{sym, ap, ap₂, subst, ◌∙◌, inl, inr, arith, zero-mul, one-mul, pow-suc, lit<, pow_pos}
use Rattle.std.specs.Int.Bits.{xor_assoc, xor_zero_r, xor_self, xor_shifted}
use Rattle.std.proofs.lemmas.Nat.{div_below, shr_split, mod_below, xor_lt, xor_comm, xor_shr, xor_mod, xor_block}
use Rattle.std.proofs.lemmas.Bool.{cases_eq}
use Rattle.field.specs.Binary.{product, remainder, times}

-- what holds of 0 and of the powers of two below 2^n, and is kept by exclusive or, holds of each number below 2^n
pub span : (P : ℕ → Type 0) → P 0 → ((x y : ℕ) → P x → P y → P (bit_xor x y)) → (n : ℕ) → ((i : ℕ) → i < n → P (2 ^ i)) → (b : ℕ) → b < 2 ^ n → P b
span P none kept zero at b h = let e : b ≡ 0 = omega arith in subst P (sym e) none
span P none kept (suc n) at b h =
    let low = span P none kept n (λ i l. at i (omega arith)) (b % 2 ^ n) (mod_below b (2 ^ n) (pow_pos n)) in
    let t : b / 2 ^ n < 2 = div_below b (2 ^ n) 2 (pow_pos n) (omega (arith, pow-suc 2 n)) in
    let bit : (q : ℕ) → q < 2 → P (q * 2 ^ n) = λ q l. elim (cases_eq q 0) [
      | inl e ↦ subst P (sym (ap (λ (m : ℕ). m * 2 ^ n) e ∙ zero-mul (2 ^ n))) none
      | inr d ↦ let e : q ≡ 1 = omega arith in subst P (sym (ap (λ (m : ℕ). m * 2 ^ n) e ∙ one-mul (2 ^ n))) (at n (omega arith))
    ] in
    subst P (xor_shifted (b / 2 ^ n) n (b % 2 ^ n) (mod_below b (2 ^ n) (pow_pos n)) ∙ shr_split b n) (kept _ _ (bit (b / 2 ^ n) t) low)

-- a function that takes sums to sums
abbrev pub Linear : (ℕ → ℕ) → Type 0
Linear f = (x y : ℕ) → f (bit_xor x y) ≡ bit_xor (f x) (f y)

-- it takes 0 to 0
pub linear_zero : (f : ℕ → ℕ) → Linear f → f 0 ≡ 0
linear_zero f linear = linear 0 0 ∙ xor_self (f 0)

-- one after another is linear
pub linear_both : (f g : ℕ → ℕ) → Linear f → Linear g → Linear (λ x. f (g x))
linear_both f g linear linear' x y = ap f (linear' x y) ∙ linear (g x) (g y)

-- two that agree at the powers of two agree
pub linear_same : (f g : ℕ → ℕ) → Linear f → Linear g → (n : ℕ) → ((i : ℕ) → i < n → f (2 ^ i) ≡ g (2 ^ i)) → (b : ℕ) → b < 2 ^ n → f b ≡ g b
linear_same f g linear linear' = span (λ b. f b ≡ g b) (linear_zero f linear ∙ sym (linear_zero g linear')) (λ x y p q. linear x y ∙ ap₂ bit_xor p q ∙ sym (linear' x y))

-- one that is below 2^k at the powers of two is below it
pub linear_below : (k : ℕ) (f : ℕ → ℕ) → Linear f → (n : ℕ) → ((i : ℕ) → i < n → f (2 ^ i) < 2 ^ k) → (b : ℕ) → b < 2 ^ n → f b < 2 ^ k
linear_below k f linear = span (λ b. f b < 2 ^ k) (subst (λ (m : ℕ). m < 2 ^ k) (sym (linear_zero f linear)) (pow_pos k))
    (λ x y p q. subst (λ (m : ℕ). m < 2 ^ k) (sym (linear x y)) (xor_lt k (f x) (f y) p q))

-- the four terms of two sums, sorted otherwise
pub middle : (a b c d : ℕ) → bit_xor (bit_xor a b) (bit_xor c d) ≡ bit_xor (bit_xor a c) (bit_xor b d)
middle a b c d =
    xor_assoc a b (bit_xor c d)
    ∙ ap (bit_xor a) (sym (xor_assoc b c d) ∙ ap (λ (m : ℕ). bit_xor m d) (xor_comm b c) ∙ xor_assoc c b d)
    ∙ sym (xor_assoc a c (bit_xor b d))

-- a bit times m
bit_scale : (p q m : ℕ) → p < 2 → q < 2 → bit_xor p q * m ≡ bit_xor (p * m) (q * m)
bit_scale zero q m hp hq = sym (ap (λ (z : ℕ). bit_xor z (q * m)) (zero-mul m))
bit_scale (suc zero) zero m hp hq = sym (ap (bit_xor (1 * m)) (zero-mul m) ∙ xor_zero_r (1 * m))
bit_scale (suc zero) (suc zero) m hp hq = zero-mul m ∙ sym (xor_self (1 * m))
bit_scale (suc zero) (suc (suc q)) m hp hq = absurd (omega arith)
bit_scale (suc (suc p)) q m hp hq = absurd (omega arith)

pub odd_scale : (x y m : ℕ) → (bit_xor x y % 2) * m ≡ bit_xor ((x % 2) * m) ((y % 2) * m)
odd_scale x y m =
    ap (λ (z : ℕ). z * m) (xor_mod x y 1) ∙ bit_scale (x % 2) (y % 2) m (omega arith) (omega arith)

-- a bit times a sum
bit_times : (p x y : ℕ) → p < 2 → p * bit_xor x y ≡ bit_xor (p * x) (p * y)
bit_times zero x y h = zero-mul (bit_xor x y) ∙ sym (ap₂ bit_xor (zero-mul x) (zero-mul y))
bit_times (suc zero) x y h = one-mul (bit_xor x y) ∙ sym (ap₂ bit_xor (one-mul x) (one-mul y))
bit_times (suc (suc p)) x y h = absurd (omega arith)

pub twice : (x y : ℕ) → 2 * bit_xor x y ≡ bit_xor (2 * x) (2 * y)
twice x y =
    let b : bit_xor (x * 2 + 0) (y * 2 + 0) ≡ bit_xor x y * 2 + 0 = xor_block 1 x y 0 0 (lit< tt) (lit< tt) in
    let ex : 2 * x ≡ x * 2 + 0 = omega arith in
    let ey : 2 * y ≡ y * 2 + 0 = omega arith in
    let e : 2 * bit_xor x y ≡ bit_xor x y * 2 + 0 = omega arith in
    e ∙ sym b ∙ sym (ap₂ bit_xor ex ey)

pub product_right : (n a b c : ℕ) → product n a (bit_xor b c) ≡ bit_xor (product n a b) (product n a c)
unfolding product
product_right zero a b c = refl
product_right (suc n) a b c =
    ap₂ bit_xor (odd_scale b c a) (ap (product n (2 * a)) (xor_shr b c 1) ∙ product_right n (2 * a) (b / 2) (c / 2))
    ∙ middle ((b % 2) * a) ((c % 2) * a) (product n (2 * a) (b / 2)) (product n (2 * a) (c / 2))

pub product_left : (n a b c : ℕ) → product n (bit_xor a b) c ≡ bit_xor (product n a c) (product n b c)
unfolding product
product_left zero a b c = refl
product_left (suc n) a b c =
    ap₂ bit_xor (bit_times (c % 2) a b (omega arith)) (ap (λ (m : ℕ). product n m (c / 2)) (twice a b) ∙ product_left n (2 * a) (2 * b) (c / 2))
    ∙ middle ((c % 2) * a) ((c % 2) * b) (product n (2 * a) (c / 2)) (product n (2 * b) (c / 2))

pub remainder_sum : (n a b : ℕ) → remainder n (bit_xor a b) ≡ bit_xor (remainder n a) (remainder n b)
unfolding remainder
remainder_sum zero a b = refl
remainder_sum (suc n) a b =
    ap (remainder n) (ap (bit_xor (bit_xor a b)) (ap (λ (m : ℕ). (m % 2) * (0x11D * 2 ^ n)) (xor_shr a b (8 + n)) ∙ odd_scale (a / 2 ^ (8 + n)) (b / 2 ^ (8 + n)) (0x11D * 2 ^ n)) ∙ middle a b ((a / 2 ^ (8 + n) % 2) * (0x11D * 2 ^ n)) ((b / 2 ^ (8 + n) % 2) * (0x11D * 2 ^ n)))
    ∙ remainder_sum n (bit_xor a ((a / 2 ^ (8 + n) % 2) * (0x11D * 2 ^ n))) (bit_xor b ((b / 2 ^ (8 + n) % 2) * (0x11D * 2 ^ n)))

pub times_right : (a : ℕ) → Linear (times a)
unfolding times
times_right a b c = ap (remainder 7) (product_right 8 a b c) ∙ remainder_sum 7 (product 8 a b) (product 8 a c)

pub times_left : (c : ℕ) → Linear (λ a. times a c)
unfolding times
times_left c a b = ap (remainder 7) (product_left 8 a b c) ∙ remainder_sum 7 (product 8 a c) (product 8 b c)

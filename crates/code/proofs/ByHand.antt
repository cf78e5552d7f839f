-- The examples worked by hand. Assumes nothing.
use Rattle.std.proofs.Common.{◌≡◌, ℕ, suc, ◌+◌, ◌*◌, ◌<◌, [], ◌∷◌, get_or, refl, arith, lit<}
use Rattle.field.specs.Model.{Ops}
use Rattle.field.specs.Residues.{square_chain}
use Rattle.field.specs.Binary as two
use Rattle.field.specs.Prime as prime
use Rattle.code.specs.Polynomials.{eval}
use Rattle.code.specs.Shares.{block_length, block_byte, serial, Payload}
use Rattle.code.specs.Decoding.{symbol_bytes, Fits, Right, Decodes}
use Rattle.code.specs.Examples.{Worked}

-- a rule for 0 and 1, for the numbers below 2
below_two : (P : ℕ → Type 0) → P 0 → P 1 → (b : ℕ) → b < 2 → P b
below_two P zero one ℕ.zero h = zero
below_two P zero one (suc ℕ.zero) h = one
below_two P zero one (suc (suc b)) h = absurd (omega arith)

below_one : (P : ℕ → Type 0) → P 0 → (i : ℕ) → i < 1 → P i
below_one P zero ℕ.zero h = zero
below_one P zero (suc i) h = absurd (omega arith)

-- a share of two bytes, by the two coefficients of the polynomial
line : {E : Type 0} (F : Ops E) (a b j : ℕ) (c d : E) → eval F (c ∷ d ∷ []) (F.point 0) ≡ F.byte a → eval F (c ∷ d ∷ []) (F.point 1) ≡ F.byte b
    → Payload F 2 (a ∷ b ∷ []) j (F.stored (eval F (c ∷ d ∷ []) (F.point j)))
unfolding block_length serial
line F a b j c d at_zero at_one = record {
  value = λ _. eval F (c ∷ d ∷ []) (F.point j);
  right = λ i h. (
    c ∷ d ∷ [],
    record {
      degree = refl;
      values = below_one (λ i. (m : ℕ) → m < 2 → eval F (c ∷ d ∷ []) (F.point m) ≡ F.byte (block_byte (a ∷ b ∷ []) 2 m i))
          (below_two (λ m. eval F (c ∷ d ∷ []) (F.point m) ≡ F.byte (block_byte (a ∷ b ∷ []) 2 m 0)) at_zero at_one) i h;
    },
    refl,
  );
  holds = refl;
}

-- 9 and 11 as shares 2 and 3 lie on 5 + 2 x
fits : Fits prime.prime 2 1 (2 ∷ 3 ∷ []) (9 ∷ 0 ∷ 11 ∷ 0 ∷ []) 0 (prime.symbol 5 ∷ prime.symbol 2 ∷ [])
unfolding eval symbol_bytes
fits = record {
  degree = refl;
  values = below_two (λ m. (prime.prime).stored (eval prime.prime (prime.symbol 5 ∷ prime.symbol 2 ∷ []) (prime.symbol (get_or (2 ∷ 3 ∷ []) m 0))) ≡ symbol_bytes 2 (9 ∷ 0 ∷ 11 ∷ 0 ∷ []) 1 m 0)
      refl refl;
}

back_byte : (b y : ℕ) → prime.symbol y ≡ eval prime.prime (prime.symbol 5 ∷ prime.symbol 2 ∷ []) (prime.symbol b) → Right prime.prime 2 1 (2 ∷ 3 ∷ []) (9 ∷ 0 ∷ 11 ∷ 0 ∷ []) b 0 y
back_byte b y e = record { p = prime.symbol 5 ∷ prime.symbol 2 ∷ []; fits = fits; value = e }

small : (t : ℕ) → get_or (5 ∷ 7 ∷ []) t 0 < 256
small ℕ.zero = lit< tt
small (suc ℕ.zero) = lit< tt
small (suc (suc t)) = lit< tt

back : Decodes prime.prime 2 2 (2 ∷ 3 ∷ []) (9 ∷ 0 ∷ 11 ∷ 0 ∷ []) (5 ∷ 7 ∷ [])
unfolding block_length eval
back = record {
  size = refl;
  bytes = small;
  right = λ b i h within.
      below_one (λ i. (b : ℕ) → b * 1 + i < 2 → Right prime.prime 2 1 (2 ∷ 3 ∷ []) (9 ∷ 0 ∷ 11 ∷ 0 ∷ []) b i (get_or (5 ∷ 7 ∷ []) (b * 1 + i) 0))
      (λ b l. below_two (λ b. Right prime.prime 2 1 (2 ∷ 3 ∷ []) (9 ∷ 0 ∷ 11 ∷ 0 ∷ []) b 0 (get_or (5 ∷ 7 ∷ []) (b * 1 + 0) 0)) (back_byte 0 5 refl) (back_byte 1 7 refl) b (omega arith))
      i h b within;
}

pub worked : Worked
unfolding two.times two.product two.remainder two.inverse_of two.point_of two.power_of_two prime.inverse_of square_chain eval
worked = record {
  twice = refl;
  inverse_two = refl;
  binary_0 = line two.binary 5 7 0 (two.symbol 5) (two.symbol 2) refl refl;
  binary_1 = line two.binary 5 7 1 (two.symbol 5) (two.symbol 2) refl refl;
  binary_2 = line two.binary 5 7 2 (two.symbol 5) (two.symbol 2) refl refl;
  binary_3 = line two.binary 5 7 3 (two.symbol 5) (two.symbol 2) refl refl;
  inverse-prime = refl;
  prime_0 = line prime.prime 5 3 0 (prime.symbol 5) (prime.symbol 255) refl refl;
  prime_1 = line prime.prime 5 3 1 (prime.symbol 5) (prime.symbol 255) refl refl;
  prime_2 = line prime.prime 5 3 2 (prime.symbol 5) (prime.symbol 255) refl refl;
  prime_3 = line prime.prime 5 3 3 (prime.symbol 5) (prime.symbol 255) refl refl;
  back = back;
}

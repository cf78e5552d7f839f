-- The field of 256 symbols: a symbol is a byte, read as a polynomial over 0 and 1, bit i being the coefficient of x^i. Assumes nothing.
use Rattle.std.specs.Prelude.{ℕ, zero, suc, ◌+◌, ◌*◌, ◌/◌, ◌%◌, ◌^◌, [], ◌∷◌, bit_xor, slice_index}
use Rattle.std.proofs.Common.{lit<}
use Rattle.field.specs.Model.{Ops}
use Rattle.field.specs.Residues.{Below, modulo, square_chain}

-- the carry-less product of two polynomials, the second of degree below n: the exclusive or of a x^i over the bits i of b that are set
unfoldable pub product : ℕ → ℕ → ℕ → ℕ
product zero a b = 0
product (suc n) a b = bit_xor ((b % 2) * a) (product n (2 * a) (b / 2))

-- the remainder of a polynomial of degree below 8 + n by x^8 + x^4 + x^3 + x^2 + 1, which is 0x11D:
-- where bit 8 + i is set, i falling from n - 1 to 0, 0x11D x^i is taken away
unfoldable pub remainder : ℕ → ℕ → ℕ
remainder zero a = a
remainder (suc n) a = remainder n (bit_xor a ((a / 2 ^ (8 + n) % 2) * (0x11D * 2 ^ n)))

-- the product of two symbols: the carry-less product, reduced by 0x11D
unfoldable pub times : ℕ → ℕ → ℕ
times a b = remainder 7 (product 8 a b)

-- the inverse: a^254, as a^2 a^4 .. a^128
unfoldable pub inverse_of : ℕ → ℕ
inverse_of a = square_chain times 7 1 (times a a)

-- 2 to the power j
unfoldable pub power_of_two : ℕ → ℕ
power_of_two zero = 1
power_of_two (suc j) = times 2 (power_of_two j)

-- point 0 is 0, and point j is 2 to the power j - 1
unfoldable pub point_of : ℕ → ℕ
point_of zero = 0
point_of (suc j) = power_of_two j

-- the symbol of a byte
abbrev pub symbol : ℕ → Below 256
symbol x = modulo 256 (lit< tt) x

-- sum and difference are exclusive or; a symbol is stored in one byte
abbrev pub binary : Ops (Below 256)
binary = record {
  size = 256;
  zero = symbol 0;
  one = symbol 1;
  add = λ x y. symbol (bit_xor x.0 y.0);
  sub = λ x y. symbol (bit_xor x.0 y.0);
  mul = λ x y. symbol (times x.0 y.0);
  inverse = λ x. symbol (inverse_of x.0);
  point = λ j. symbol (point_of j);
  byte = symbol;
  width = 1;
  stored = λ x. x.0 ∷ [];
  loaded = λ bs. symbol (slice_index bs 0);
}

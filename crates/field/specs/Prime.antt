-- The field of the 257 whole numbers modulo 257. Assumes nothing.
use Rattle.std.specs.Prelude.{ℕ, ◌+◌, ◌-◌, ◌*◌, ◌/◌, ◌%◌, [], ◌∷◌, slice_index}
use Rattle.std.proofs.Common.{lit<}
use Rattle.field.specs.Model.{Ops}
use Rattle.field.specs.Residues.{Below, modulo, square_chain}

-- the product of two numbers modulo 257
abbrev pub times : ℕ → ℕ → ℕ
times a b = a * b % 257

-- the inverse: a^255, as a a^2 .. a^128
unfoldable pub inverse_of : ℕ → ℕ
inverse_of a = square_chain times 8 1 a

-- a number modulo 257
abbrev pub symbol : ℕ → Below 257
symbol x = modulo 257 (lit< tt) x

-- point j is j, byte b is b, and a symbol is stored in two bytes, low byte first
abbrev pub prime : Ops (Below 257)
prime = record {
  size = 257;
  zero = symbol 0;
  one = symbol 1;
  add = λ x y. symbol (x.0 + y.0);
  sub = λ x y. symbol (x.0 + (257 - y.0));
  mul = λ x y. symbol (x.0 * y.0);
  inverse = λ x. symbol (inverse_of x.0);
  point = symbol;
  byte = symbol;
  width = 2;
  stored = λ x. x.0 % 256 ∷ x.0 / 256 ∷ [];
  loaded = λ bs. symbol (slice_index bs 0 + slice_index bs 1 * 256);
}

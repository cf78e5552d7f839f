-- What a field is: its operations, and the laws that they keep. Assumes nothing.
use Rattle.std.specs.Prelude.{◌≡◌, ℕ, ◌<◌, List, length, ◌≢◌, slice_index}

-- The operations of a field over its symbols E.
pub record Ops (E : Type 0) : Type 0 where
  -- how many symbols there are
  pub size : ℕ
  pub zero : E
  pub one : E
  pub add : E → E → E
  pub sub : E → E → E
  pub mul : E → E → E
  pub inverse : E → E
  -- the points, of which those numbered below 32 are used
  pub point : ℕ → E
  -- the symbol that a byte stands for
  pub byte : ℕ → E
  -- how many bytes a symbol is stored in, which bytes, and the symbol that is read from bytes
  pub width : ℕ
  pub stored : E → List ℕ
  pub loaded : List ℕ → E

-- There are exactly n symbols: they are numbered by the numbers below n, each by one.
pub record Numbered (E : Type 0) (n : ℕ) : Type 0 where
  pub number : E → ℕ
  pub below : (a : E) → number a < n
  pub differ : (a b : E) → number a ≡ number b → a ≡ b
  pub every : (i : ℕ) → i < n → (a : E) × (number a ≡ i)

-- The laws of a field.
pub record Laws {E : Type 0} (F : Ops E) : Type 0 where
  pub numbered : Numbered E F.size
  pub add_assoc : (a b c : E) → F.add (F.add a b) c ≡ F.add a (F.add b c)
  pub add_comm : (a b : E) → F.add a b ≡ F.add b a
  pub mul_assoc : (a b c : E) → F.mul (F.mul a b) c ≡ F.mul a (F.mul b c)
  pub mul_comm : (a b : E) → F.mul a b ≡ F.mul b a
  pub mul-add : (a b c : E) → F.mul a (F.add b c) ≡ F.add (F.mul a b) (F.mul a c)
  pub add-zero : (a : E) → F.add a F.zero ≡ a
  pub mul-one : (a : E) → F.mul a F.one ≡ a
  pub zero_not_one : F.zero ≡ F.one → ⊥
  -- difference and sum undo each other, in either order
  pub add-sub : (a b : E) → F.sub (F.add a b) b ≡ a
  pub sub-add : (a b : E) → F.add (F.sub a b) b ≡ a
  -- every symbol but zero has an inverse
  pub mul-inverse : (a : E) → (a ≢ F.zero) → F.mul a (F.inverse a) ≡ F.one
  -- the 32 points are different
  pub points_differ : (i j : ℕ) → i < 32 → j < 32 → F.point i ≡ F.point j → i ≡ j
  -- different bytes stand for different symbols
  pub bytes_differ : (a b : ℕ) → a < 256 → b < 256 → F.byte a ≡ F.byte b → a ≡ b
  -- a symbol is stored in width bytes, and reads back
  pub stored-length : (a : E) → length (F.stored a) ≡ F.width
  pub stored_bytes : (a : E) (i : ℕ) → slice_index (F.stored a) i < 256
  pub reads_back : (a : E) → F.loaded (F.stored a) ≡ a

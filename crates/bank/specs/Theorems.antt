-- What follows from the bounds of a rack. Assumes nothing.
use Rattle.std.specs.Prelude.{◌≡◌, ℕ, ◌≤◌, length, None}
use Rattle.bank.specs.Meaning.{Rack, Sound, sled_at, no_sled, held}

-- a sled from the number of sleds on holds nothing and takes nothing, and no sled holds a share from 32 on
pub record EmptyBeyond (rack : Rack) : Type 0 where
  pub sleds : (k : ℕ) → length rack ≤ k → sled_at rack k ≡ no_sled
  pub shares : (k id n : ℕ) → 32 ≤ n → held (sled_at rack k) id n ≡ None

-- past the bounds of a rack there is nothing
abbrev pub NothingBeyond : Type 0
NothingBeyond = (rack : Rack) → Sound rack → EmptyBeyond rack

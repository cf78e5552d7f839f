-- What the layers make of the racks below them. Assumes nothing.
use Rattle.std.specs.Prelude.{ℕ, suc, ◌-◌, min, List, [], ◌∷◌, ◌++◌, take, slice_index}
use Rattle.bank.specs.Meaning.{Rack, Sled, count}

-- the quota of a sled, by the numbers of all; one above 4,096 counts as 4,096
abbrev pub quota_of : List ℕ → ℕ → ℕ
quota_of numbers k = min (slice_index numbers k) 4096

-- a sled under the quota q: its size is the smaller of q and the size below, its room the smaller of the room below and q less the
-- count, which is 0 where the count passes q
abbrev pub under : ℕ → Sled → Sled
under q s = record { shares = s.shares; room = min s.room (q - count s); size = min q s.size }

-- each sled under its own quota
abbrev pub limited : (ℕ → ℕ) → Rack → Rack
limited q [] = []
limited q (s ∷ rest) = under (q 0) s ∷ limited (λ k. q (suc k)) rest

-- the sleds of the second rack after those of the first; those past number 31 are not seen
abbrev pub joined : Rack → Rack → Rack
joined a b = take 32 (a ++ b)

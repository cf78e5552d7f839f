-- The shares of a file on the sleds of a rack, one sled after another. Assumes nothing.
use Rattle.std.specs.Prelude.{◌≡◌, ℕ, ◌%◌, ◌<◌, List, [], length, get_or, Some, Option, unwrap_or, slice_index_or}
use Rattle.std.specs.List.{flat_map}
use Rattle.bank.specs.Meaning.{Rack, sled_at, held}
use Rattle.dumps.specs.declared.shares.Share.{Share}
use Rattle.dumps.specs.Shares.{payload_of}

-- what the rack holds of the share of this number: share n is on sled n, counted round
abbrev pub kept_of : (rack : Rack) (id n : ℕ) → Option (List ℕ)
kept_of rack id n = held (sled_at rack (n % length rack)) id n

-- the rack holds these bytes as the share of this number
abbrev pub HoldsPayload : (rack : Rack) (id n : ℕ) (bytes : List ℕ) → Type 0
HoldsPayload rack id n bytes = kept_of rack id n ≡ Some bytes

-- the rack holds each of the shares
abbrev pub AllKept : (rack : Rack) (id : ℕ) (shares : List Share) → Type 0
AllKept rack id shares =
    (j : ℕ) (none : Share) → j < length shares → HoldsPayload rack id (get_or shares j none).number (payload_of (slice_index_or shares j none))

-- the payloads that the rack holds of the shares of these numbers, one after another
abbrev pub held_payloads : (rack : Rack) (id : ℕ) (ns : List ℕ) → List ℕ
held_payloads rack id ns = flat_map (λ n. unwrap_or (kept_of rack id n) []) ns

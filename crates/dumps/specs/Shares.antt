-- The shares that the program makes. Assumes nothing.
use Rattle.std.specs.Prelude.{◌≡◌, ℕ, ◌<◌, ◌==◌, Bool, not, List, [], length, map, filter, vec_items, slice_index_or}
use Rattle.std.specs.List.{flat_map, list_any, range_with_len}
use Rattle.code.specs.declared.shape.Code.{Code}
use Rattle.code.specs.Codes.{numbers, field_of}
use Rattle.code.specs.Shares.{Bytes, Payload}
use Rattle.code.specs.Decoding.{SharesOf}
use Rattle.dumps.specs.declared.shares.Share.{Share}

-- the bytes that a share holds
abbrev pub payload_of : Share → List ℕ
payload_of share = vec_items share.payload

-- the share has the number j, and holds the payload that the code gives share j of the file
abbrev pub MadeShare : Code → List ℕ → ℕ → Share → Type 0
MadeShare c file j share =
    (share.number ≡ j) × Payload (field_of (numbers c).field).model (numbers c).k file j (payload_of share)

-- at each place of the list stands the share of the file whose number is the place
abbrev pub AllMade : Code → List ℕ → List Share → Type 0
AllMade c file shares = (j : ℕ) (none : Share) → j < length shares → MadeShare c file j (slice_index_or shares j none)

-- the payloads of the shares at these places, one after another
abbrev pub joined : List Share → List ℕ → List ℕ
joined shares js = flat_map (λ j. slice_index_or (map payload_of shares) j []) js

-- where the payloads are those of k different shares of a file of this length, what comes back is that file
abbrev pub BringsBack : Code → (shares payloads : List ℕ) → ℕ → List ℕ → Type 0
BringsBack c shares payloads len back =
    (file : List ℕ) → Bytes file → length file ≡ len
    → SharesOf (field_of (numbers c).field).model (numbers c).k (numbers c).n file shares payloads → back ≡ file

-- whether the number stands in the list
abbrev pub stands : ℕ → List ℕ → Bool
stands j is = list_any (λ i. i == j) is

-- the numbers below n that do not stand in the list, the smallest first
abbrev pub absent : ℕ → List ℕ → List ℕ
absent n kept = filter (λ j. not (stands j kept)) (range_with_len 0 n)

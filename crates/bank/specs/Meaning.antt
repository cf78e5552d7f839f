-- What a bank means: a rack of sleds, and the shares that each of them holds. Assumes nothing.
use Rattle.std.specs.Prelude.{◌≡◌, ℕ, ◌+◌, ◌^◌, ◌<◌, ◌≤◌, Bool, cond, ◌&&◌, List, [], ◌∷◌, length, Some, None, Option, ◌==◌, slice_index_or}
use Rattle.std.specs.List.{AllByRecursion}

-- a share of a file: the file's id, the share's number, and its bytes
pub record Share : Type 0 where
  pub id : ℕ
  pub number : ℕ
  pub payload : List ℕ

-- a sled, one storage server of the rack: the shares that it holds, how many more it takes, and how many it takes when it is empty
pub record Sled : Type 0 where
  pub shares : List Share
  pub room : ℕ
  pub size : ℕ

-- a rack: its sleds, numbered from 0
abbrev pub Rack : Type 0
Rack = List Sled

-- what stands at a number that no sled has: it holds nothing and takes nothing
abbrev pub no_sled : Sled
no_sled = record { shares = []; room = 0; size = 0 }

-- the sled of this number
abbrev pub sled_at : Rack → ℕ → Sled
sled_at rack k = slice_index_or rack k no_sled

-- how many shares a sled holds
abbrev pub count : Sled → ℕ
count s = length s.shares

-- whether a share has this id and this number
abbrev pub keyed : (x : Share) (id n : ℕ) → Bool
keyed x id n = x.id == id && x.number == n

-- the payload among these shares under an id and a number
abbrev pub lookup : (xs : List Share) (id n : ℕ) → Option (List ℕ)
lookup [] id n = None
lookup (x ∷ xs) id n = cond (keyed x id n) (Some x.payload) (lookup xs id n)

-- the payload that a sled holds under an id and a number
abbrev pub held : (s : Sled) (id n : ℕ) → Option (List ℕ)
held s id n = lookup s.shares id n

-- no two shares have the same id and number
abbrev pub Distinct : List Share → Type 0
Distinct [] = Unit {0}
Distinct (x ∷ xs) = (lookup xs x.id x.number ≡ None) × Distinct xs

-- a payload has 1 to 1,024 bytes
pub record PayloadLength (len : ℕ) : Type 0 where
  pub some : 1 ≤ len
  pub fits : len ≤ 1024

-- a share within the bounds: an id of 32 bits, a number below 32, and a payload of bytes
pub record SoundShare (x : Share) : Type 0 where
  pub id_fits : x.id < 2 ^ 32
  pub number_fits : x.number < 32
  pub sized : PayloadLength (length x.payload)
  pub bytes : AllByRecursion (λ b. b < 256) x.payload

-- a sled within the bounds: no key twice, and room plus count, and size, at most 4,096
pub record SoundSled (s : Sled) : Type 0 where
  pub distinct : Distinct s.shares
  pub sound_shares : AllByRecursion SoundShare s.shares
  pub few : s.room + count s ≤ 4096
  pub small : s.size ≤ 4096

-- a rack within the bounds: 1 to 32 sleds
pub record Sound (rack : Rack) : Type 0 where
  pub some : 1 ≤ length rack
  pub at_most : length rack ≤ 32
  pub sound_sleds : AllByRecursion SoundSled rack

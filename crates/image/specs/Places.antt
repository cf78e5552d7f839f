-- The places of a sled in an image, an entry of 16 bytes and a cell of 1,024 bytes each, and the shares that they hold. Assumes nothing.
use Rattle.std.specs.Prelude.{ℕ, Bool, cond, not, ◌&&◌, List, [], ◌∷◌, ◌++◌, length, take, is_some, ◌==◌, nat_le, nat_lt, slice_index}
use Rattle.std.specs.List.{between}
use Rattle.std.specs.Int.{w16, w32, w64, from_le_bytes, to_le_bytes}
use Rattle.bank.specs.Meaning.{Share, lookup}
use Rattle.image.specs.Fnv.{fnv}

-- a place: what its entry says, and the bytes of its cell
pub record Place : Type 0 where
  pub state : ℕ
  pub number : ℕ
  pub len : ℕ
  pub id : ℕ
  pub check : ℕ
  pub cell : List ℕ

-- the place with this entry and this cell: an entry is the state, the share number, the payload's length in two bytes, the id in four, and
-- the check in eight, each with its low byte first
abbrev pub place_of : (entry cell : List ℕ) → Place
place_of entry cell =
    record {
      state = slice_index entry 0;
      number = slice_index entry 1;
      len = from_le_bytes w16 (between 2 4 entry);
      id = from_le_bytes w32 (between 4 8 entry);
      check = from_le_bytes w64 (between 8 16 entry);
      cell = cell;
    }

-- the entry of share n of a file, as a put writes it
abbrev pub entry_of : (id n : ℕ) (payload : List ℕ) → List ℕ
entry_of id n payload = 1 ∷ n ∷ (to_le_bytes w16 (length payload) ++ (to_le_bytes w32 id ++ to_le_bytes w64 (fnv payload)))

-- whether a place is free: its state is 0
abbrev pub is_free : Place → Bool
is_free p = p.state == 0

-- the payload in a place: as many bytes of its cell as its entry says
abbrev pub payload_of : Place → List ℕ
payload_of p = take p.len p.cell

-- whether a place is sound: its state is 1, its share number below 32, its length 1 to 1,024, and its check that of the payload
abbrev pub is_sound : Place → Bool
is_sound p =
    (p.state == 1) && (nat_lt p.number 32 && (nat_le 1 p.len && (nat_le p.len 1024 && fnv (payload_of p) == p.check)))

-- whether a place is sound and has this id and this share number
abbrev pub answers : (id n : ℕ) (p : Place) → Bool
answers id n p = p.id == id && (p.number == n && is_sound p)

-- the share that a place holds
abbrev pub share_of : Place → Share
share_of p = record { id = p.id; number = p.number; payload = payload_of p }

-- these shares, and that of one place more: it counts if it is sound and none of these has its id and number
abbrev pub with_place : List Share → Place → List Share
with_place xs p = cond (is_sound p && not (is_some (lookup xs p.id p.number))) (xs ++ share_of p ∷ []) xs

-- these shares, and those of some places more, one after another
abbrev pub with_places : List Share → List Place → List Share
with_places xs [] = xs
with_places xs (p ∷ ps) = with_places (with_place xs p) ps

-- the shares that these places hold: of two sound places with the same id and number, the first counts
abbrev pub shares_of : List Place → List Share
shares_of ps = with_places [] ps

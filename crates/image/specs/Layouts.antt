-- How a sled of C places lies in C times 1,040 bytes, and how its places are used, in each of the two layouts. Assumes nothing.
use Rattle.std.specs.Prelude.{ℕ, zero, suc, ◌+◌, ◌-◌, ◌*◌, Bool, true, false, cond, ◌&&◌, List, [], ◌∷◌, ◌++◌, map, reverse, length, take, drop, codes, nat_lt}
use Rattle.std.specs.List.{between, range_with_len, count_by, position_or_len}
use Rattle.bank.specs.Meaning.{Sled}
use Rattle.image.specs.declared.layout.Layout.{Layout}
use Rattle.image.specs.declared.layout.Layout.TheVariants.{Tray, Zone}
use Rattle.image.specs.Places.{Place, place_of, entry_of, is_free, shares_of}

-- the four bytes that an image begins with
abbrev pub mark : Layout → List ℕ
mark Tray = codes "TRAY"
mark Zone = codes "ZONE"

-- where the entry of place e begins in the bytes of a sled: a tray has its entries one after another, a zone one before each cell
abbrev pub entry_at : Layout → (C e : ℕ) → ℕ
entry_at Tray C e = e * 16
entry_at Zone C e = e * 1040

-- where the cell of place e begins: a tray has its cells after all its entries, a zone each after its entry
abbrev pub cell_at : Layout → (C e : ℕ) → ℕ
cell_at Tray C e = C * 16 + e * 1024
cell_at Zone C e = e * 1040 + 16

-- place e of a sled
abbrev pub place_at : (l : Layout) (C : ℕ) (bytes : List ℕ) (e : ℕ) → Place
place_at l C bytes e =
    place_of (between (entry_at l C e) (entry_at l C e + 16) bytes) (between (cell_at l C e) (cell_at l C e + 1024) bytes)

-- the places of a sled
abbrev pub places : (l : Layout) (C : ℕ) (bytes : List ℕ) → List Place
places l C bytes = map (place_at l C bytes) (range_with_len 0 C)

-- the log of a zone: the places before the first free one
abbrev pub log : List Place → List Place
log ps = take (position_or_len is_free ps) ps

-- the places that are seen, those that count before others first: in a tray all of them, the lowest first; in a zone those of the log, the
-- latest first
abbrev pub seen : Layout → List Place → List Place
seen Tray ps = ps
seen Zone ps = reverse (log ps)

-- the room: in a tray the number of free places, in a zone that of the places that are not in the log
abbrev pub room_of : Layout → List Place → ℕ
room_of Tray ps = count_by is_free ps
room_of Zone ps = length ps - length (log ps)

-- what the bytes of a sled of C places mean
abbrev pub sled_of : (l : Layout) (C : ℕ) (bytes : List ℕ) → Sled
sled_of l C bytes = record { shares = shares_of (seen l (places l C bytes)); room = room_of l (places l C bytes); size = C }

-- the bytes with these ones written over them from a place on; all others are as they were
abbrev pub over : (at : ℕ) (new bytes : List ℕ) → List ℕ
over at new bytes = take at bytes ++ (new ++ drop (at + length new) bytes)

-- a sled with the state of place e set to 0
abbrev pub freed : (l : Layout) (C e : ℕ) (bytes : List ℕ) → List ℕ
freed l C e bytes = over (entry_at l C e) (0 ∷ []) bytes

-- a sled with the states of its first n places set to 0
abbrev pub freed_below : (l : Layout) (C n : ℕ) (bytes : List ℕ) → List ℕ
freed_below l C zero bytes = bytes
freed_below l C (suc n) bytes = freed l C n (freed_below l C n bytes)

-- a sled with share n of a file written to place e: its entry, and its payload to the start of the cell
abbrev pub written : (l : Layout) (C e id n : ℕ) (payload bytes : List ℕ) → List ℕ
written l C e id n payload bytes = over (cell_at l C e) payload (over (entry_at l C e) (entry_of id n payload) bytes)

-- whether a put also frees the place after the one that it writes, if there is one
abbrev pub frees_next : Layout → Bool
frees_next Tray = false
frees_next Zone = true

-- a sled with a share put to place e
abbrev pub put_at : (l : Layout) (C e id n : ℕ) (payload bytes : List ℕ) → List ℕ
put_at l C e id n payload bytes =
    cond (frees_next l && nat_lt (e + 1) C) (freed l C (e + 1) (written l C e id n payload bytes)) (written l C e id n payload bytes)

-- the bytes of a sled after a put: the share is put to the first free place, which in a zone is where the log ends
abbrev pub sled_after_put : (l : Layout) (C id n : ℕ) (payload bytes : List ℕ) → List ℕ
sled_after_put l C id n payload bytes = put_at l C (position_or_len is_free (places l C bytes)) id n payload bytes

-- how many states a blank sets to 0: in a tray all of them, in a zone the first
abbrev pub blanked_places : Layout → (C : ℕ) → ℕ
blanked_places Tray C = C
blanked_places Zone C = 1

-- the bytes of a sled after a blank
abbrev pub sled_after_blank : (l : Layout) (C : ℕ) (bytes : List ℕ) → List ℕ
sled_after_blank l C bytes = freed_below l C (blanked_places l C) bytes

-- What the bytes of a sled mean keeps the bounds of a sled. Only proofs, for a law: no contract cites it. Assumes nothing.
use Rattle.std.specs.Prelude.{◌≡◌, ℕ, zero, suc, ◌+◌, ◌-◌, ◌*◌, ◌^◌, ◌<◌, ◌≤◌, List, [], ◌∷◌, reverse, length, drop, slice_index}
use Rattle.std.proofs.Common.{sym, subst, ◌∙◌, arith}
use Rattle.std.specs.Int.{w32, from_le_bytes}
use Rattle.std.specs.List.{between, AllByRecursion, position_or_len}
use Rattle.std.proofs.lemmas.List.{length-reverse, get_or-reverse, length-take}
use Rattle.std.proofs.lemmas.List.Edits.{length-between}
use Rattle.std.proofs.ByRecursion.{All-from_get_or, All-get_or, All-take, All-drop}
use Rattle.std.proofs.lemmas.List.FromFn.{length-map-range_with_len, get_or-map-range_with_len}
use Rattle.bank.specs.Meaning.{SoundSled}
use Rattle.image.specs.declared.layout.Layout.{Layout}
use Rattle.image.specs.declared.layout.Layout.TheVariants.{Tray, Zone}
use Rattle.image.specs.Places.{Place, shares_of, is_free}
use Rattle.image.specs.Layouts.{entry_at, cell_at, place_at, places, log, seen, room_of, sled_of}
use Rattle.image.specs.Gathered.{Typed, few_with_places, distinct_with_places, all_with_places}
use Rattle.image.specs.Laid.{cell_fits}

abbrev Byte : ℕ → Type 0
Byte b = b < 256

byte_at : (xs : List ℕ) → AllByRecursion Byte xs → (i : ℕ) → slice_index xs i < 256
byte_at [] h i = omega arith
byte_at (x ∷ xs) h zero = h.0
byte_at (x ∷ xs) h (suc i) = byte_at xs h.1 i

-- a number in four bytes has 32 bits
four_fit : (xs : List ℕ) → AllByRecursion Byte xs → from_le_bytes w32 xs < 2 ^ 32
four_fit xs h =
    let a = byte_at xs h 0 in
    let b = byte_at xs h 1 in
    let c = byte_at xs h 2 in
    let d = byte_at xs h 3 in
    omega arith

all_between : (i j : ℕ) (xs : List ℕ) → AllByRecursion Byte xs → AllByRecursion Byte (between i j xs)
all_between i j xs h = All-take Byte (j - i) (drop i xs) (All-drop Byte i xs h)

typed_at : (l : Layout) (C : ℕ) (bytes : List ℕ) → length bytes ≡ C * 1040 → AllByRecursion Byte bytes → (e : ℕ) → e < C → Typed (place_at l C bytes e)
typed_at l C bytes whole h e lt =
    let f = cell_fits l C e lt in
    record {
      id_fits = four_fit _ (all_between 4 8 (between (entry_at l C e) (entry_at l C e + 16) bytes) (all_between (entry_at l C e) (entry_at l C e + 16) bytes h));
      long = length-between bytes (cell_at l C e) (cell_at l C e + 1024) (omega arith) ∙ (let m : cell_at l C e + 1024 - cell_at l C e ≡ 1024 = omega arith in m);
      bytes = all_between (cell_at l C e) (cell_at l C e + 1024) bytes h;
    }

all_places : (l : Layout) (C : ℕ) (bytes : List ℕ) → length bytes ≡ C * 1040 → AllByRecursion Byte bytes → AllByRecursion Typed (places l C bytes)
all_places l C bytes whole h =
    let all = length-map-range_with_len (place_at l C bytes) 0 C in
    All-from_get_or Typed (places l C bytes) (place_at l C bytes 0)
    (λ k lt. subst Typed (sym (get_or-map-range_with_len (place_at l C bytes) 0 C k k (place_at l C bytes 0) (omega arith) (omega arith))) (typed_at l C bytes whole h k (omega arith)))

all_reverse : (P : Place → Type 0) (ps : List Place) (d : Place) → AllByRecursion P ps → AllByRecursion P (reverse ps)
all_reverse P ps d h =
    let n = length-reverse ps in
    All-from_get_or P (reverse ps) d (λ k lt. subst P (sym (get_or-reverse ps k d (omega arith))) (All-get_or P ps (length ps - 1 - k) d (omega arith) h))

-- those that are seen are among the places
all_seen : (l : Layout) (ps : List Place) (d : Place) → AllByRecursion Typed ps → AllByRecursion Typed (seen l ps)
all_seen Tray ps d h = h
all_seen Zone ps d h = all_reverse Typed (log ps) d (All-take Typed (position_or_len is_free ps) ps h)

-- room and count together are at most the number of places
few : (l : Layout) (ps : List Place) → room_of l ps + length (shares_of (seen l ps)) ≤ length ps
few Tray ps = let f = few_with_places [] ps in omega arith
few Zone ps =
    let f = few_with_places [] (reverse (log ps)) in
    let r = length-reverse (log ps) in
    let t = length-take (position_or_len is_free ps) ps in
    omega arith

pub sled_bounds : (l : Layout) (C : ℕ) (bytes : List ℕ) → length bytes ≡ C * 1040 → C ≤ 64 → AllByRecursion Byte bytes → SoundSled (sled_of l C bytes)
sled_bounds l C bytes whole most h =
    let all = length-map-range_with_len (place_at l C bytes) 0 C in
    let f = few l (places l C bytes) in
    record {
      distinct = distinct_with_places [] (seen l (places l C bytes)) tt;
      sound_shares = all_with_places [] (seen l (places l C bytes)) (all_seen l (places l C bytes) (place_at l C bytes 0) (all_places l C bytes whole h)) tt;
      few = omega arith;
      small = omega arith;
    }

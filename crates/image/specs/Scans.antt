-- The order in which the places of a sled are looked through. Only inner functions cite this. Assumes nothing.
use Rattle.std.specs.Prelude.{ℕ, ◌-◌, Bool, ◌&&◌, List, map, ◌==◌}
use Rattle.std.specs.List.{range_with_len, position_or_len}
use Rattle.image.specs.declared.layout.Layout.{Layout}
use Rattle.image.specs.declared.layout.Layout.TheVariants.{Tray, Zone}
use Rattle.image.specs.Places.{Place, is_free, is_sound, answers}
use Rattle.image.specs.Layouts.{places, place_at}

-- how many places are seen
abbrev pub seen_count : Layout → (C : ℕ) (bytes : List ℕ) → ℕ
seen_count Tray C bytes = C
seen_count Zone C bytes = position_or_len is_free (places Zone C bytes)

-- the place that has its turn at j, of n places that are seen
abbrev pub turn : Layout → (n j : ℕ) → ℕ
turn Tray n j = j
turn Zone n j = n - 1 - j

-- the first n places, in the order of their turns
abbrev pub scan : (l : Layout) (C : ℕ) (bytes : List ℕ) (n : ℕ) → List Place
scan l C bytes n = map (λ j. place_at l C bytes (turn l n j)) (range_with_len 0 n)

-- whether the place p, at turn j of these, counts: it is sound, and no earlier one has its id and number
abbrev pub counts : (ps : List Place) (j : ℕ) (p : Place) → Bool
counts ps j p = is_sound p && position_or_len (answers p.id p.number) ps == j

-- What the bytes of one sled, as the code holds them, mean. Only inner functions cite this. Assumes nothing.
use Rattle.std.specs.Prelude.{ℕ, Bool, List}
use Rattle.bank.specs.Meaning.{Sled}
use Rattle.image.specs.declared.sled.Sled.{Sled as SledBytes}
use Rattle.image.specs.declared.place.Place.{Place as PlaceBytes}
use Rattle.image.specs.Places.{Place, place_of, is_free, answers}
use Rattle.image.specs.Layouts.{place_at, places, sled_of}
use Rattle.image.specs.Scans.{seen_count, scan, turn, counts}

-- the place with this entry and this cell
abbrev pub read : PlaceBytes → Place
read p = place_of p.entry.now p.cell.now

-- place e of the sled
abbrev pub place_in : SledBytes → ℕ → Place
place_in s e = place_at s.plan.layout s.plan.cells s.bytes.now e

-- all its places
abbrev pub places_in : SledBytes → List Place
places_in s = places s.plan.layout s.plan.cells s.bytes.now

-- how many of them are seen
abbrev pub seen_in : SledBytes → ℕ
seen_in s = seen_count s.plan.layout s.plan.cells s.bytes.now

-- the first n places in the order of their turns
abbrev pub turns_in : SledBytes → ℕ → List Place
turns_in s n = scan s.plan.layout s.plan.cells s.bytes.now n

-- whether place e is free
unfoldable pub free_in : SledBytes → ℕ → Bool
free_in s e = is_free (place_in s e)

-- whether the place that has its turn at j, of n places that are seen, is sound and has this id and this share number
unfoldable pub answers_in : SledBytes → (n id k j : ℕ) → Bool
answers_in s n id k j = answers id k (place_in s (turn s.plan.layout n j))

-- whether the place that has its turn at j, of n places that are seen, counts
unfoldable pub counts_in : SledBytes → (n j : ℕ) → Bool
counts_in s n j = counts (turns_in s n) j (place_in s (turn s.plan.layout n j))

-- what the sled means
abbrev pub meaning_of : SledBytes → Sled
meaning_of s = sled_of s.plan.layout s.plan.cells s.bytes.now

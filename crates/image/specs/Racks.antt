-- An image: a header of 8 bytes, then the sleds one after another. Assumes nothing.
use Rattle.std.specs.Prelude.{ℕ, ◌+◌, ◌*◌, List, map, slice_index}
use Rattle.std.specs.List.{between, range_with_len}
use Rattle.bank.specs.Meaning.{Rack}
use Rattle.image.specs.declared.layout.Layout.{Layout}
use Rattle.image.specs.Layouts.{sled_of, over, sled_after_put, sled_after_blank}

-- the number of sleds
abbrev pub sleds_of : List ℕ → ℕ
sleds_of img = slice_index img 4

-- the number of cells, and so of places, that each sled has
abbrev pub cells_of : List ℕ → ℕ
cells_of img = slice_index img 5

-- where the bytes of sled k begin; a sled of C places has C times 1,040 bytes
abbrev pub sled_start : (C k : ℕ) → ℕ
sled_start C k = 8 + k * (C * 1040)

-- the bytes of sled k, in an image whose sleds have C places
abbrev pub sled_bytes : (C : ℕ) (img : List ℕ) (k : ℕ) → List ℕ
sled_bytes C img k = between (sled_start C k) (sled_start C k + C * 1040) img

-- what the bytes of an image mean
abbrev pub rack_of : (l : Layout) (img : List ℕ) → Rack
rack_of l img = map (λ k. sled_of l (cells_of img) (sled_bytes (cells_of img) img k)) (range_with_len 0 (sleds_of img))

-- the image with other bytes for sled k
abbrev pub with_sled : (k : ℕ) (bytes img : List ℕ) → List ℕ
with_sled k bytes img = over (sled_start (cells_of img) k) bytes img

-- the whole image after a put on sled k
abbrev pub after_put : (l : Layout) (k id n : ℕ) (payload img : List ℕ) → List ℕ
after_put l k id n payload img =
    with_sled k (sled_after_put l (cells_of img) id n payload (sled_bytes (cells_of img) img k)) img

-- the whole image after a blank of sled k
abbrev pub after_blank : (l : Layout) (k : ℕ) (img : List ℕ) → List ℕ
after_blank l k img = with_sled k (sled_after_blank l (cells_of img) (sled_bytes (cells_of img) img k)) img

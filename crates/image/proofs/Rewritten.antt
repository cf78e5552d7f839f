-- What a plan that is an image's own makes of a slice of the image's bytes. Assumes nothing.
use Rattle.std.proofs.Common.{◌≡◌, ℕ, ◌<◌, List, sym, ap, ◌∙◌, subst}
use Rattle.std.specs.List.{position_or_len}
use Rattle.image.specs.declared.layout.Layout.{Layout}
use Rattle.image.specs.Places.{is_free}
use Rattle.image.specs.Layouts.{places, over}
use Rattle.image.specs.Racks.{cells_of, sled_start, sled_bytes}

module _ (l m : Layout) (k C : ℕ) (bytes img : List ℕ) (layout : l ≡ m) (cells : C ≡ cells_of img) (same : bytes ≡ img) where
  -- a change of one sled
  pub changed_sled : (change : Layout → ℕ → List ℕ → List ℕ)
      → over (sled_start C k) (change l C (sled_bytes C bytes k)) bytes
      ≡ over (sled_start (cells_of img) k) (change m (cells_of img) (sled_bytes (cells_of img) img k)) img
  changed_sled change =
      ap (λ x. over (sled_start C k) (change x C (sled_bytes C bytes k)) bytes) layout
      ∙ ap (λ c. over (sled_start c k) (change m c (sled_bytes c bytes k)) bytes) cells
      ∙ ap (λ xs. over (sled_start (cells_of img) k) (change m (cells_of img) (sled_bytes (cells_of img) xs k)) xs) same

  -- a free place
  pub place_within : position_or_len is_free (places m (cells_of img) (sled_bytes (cells_of img) img k)) < cells_of img
      → position_or_len is_free (places l C (sled_bytes C bytes k)) < C
  place_within lt =
      subst (λ x. position_or_len is_free (places x C (sled_bytes C bytes k)) < C) (sym layout)
      (subst (λ c. position_or_len is_free (places m c (sled_bytes c bytes k)) < c) (sym cells)
      (subst (λ xs. position_or_len is_free (places m (cells_of img) (sled_bytes (cells_of img) xs k)) < cells_of img) (sym same) lt))

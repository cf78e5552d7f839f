-- When an image is opened, and why it is refused. Assumes nothing.
use Rattle.std.specs.Prelude.{◌≡◌, ℕ, ◌+◌, ◌*◌, ◌<◌, ◌≤◌, List, [], ◌∷◌, length, take, ◌≢◌, slice_index}
use Rattle.refusal.specs.declared.Layer.TheVariants.{Image}
use Rattle.refusal.specs.Refusals.{Refusal, refusal, layer_number}
use Rattle.refusal.specs.Grounds.{Ground, ground}
use Rattle.image.specs.declared.layout.Layout.{Layout}
use Rattle.image.specs.Layouts.{mark}
use Rattle.image.specs.Racks.{sleds_of, cells_of}

-- what is known of the header and of the length of an open image
pub record Shape (img : List ℕ) : Type 0 where
  pub some_sleds : 1 ≤ sleds_of img
  pub few_sleds : sleds_of img ≤ 32
  pub some_cells : 1 ≤ cells_of img
  pub few_cells : cells_of img ≤ 64
  pub zeros : (slice_index img 6 ≡ 0) × (slice_index img 7 ≡ 0)
  pub whole : length img ≡ 8 + sleds_of img * (cells_of img * 1040)

-- a bad image, told by the layer image with this detail
abbrev pub by_image : ℕ → Refusal
by_image detail = refusal 18 (layer_number Image) detail

-- why an image of this layout is not opened, in the order in which it is told: it is shorter than its header, it has another mark, it has not 1
-- to 32 sleds, or not 1 to 64 cells, the last two bytes of the header are not zero, or the whole length is another
abbrev pub open_grounds : Layout → List ℕ → List Ground
open_grounds l img =
    ground (length img < 8) (by_image 8)
    ∷ ground (take 4 img ≢ mark l) (by_image 0)
    ∷ ground ((1 ≤ sleds_of img) × (sleds_of img ≤ 32) → ⊥) (by_image 4)
    ∷ ground ((1 ≤ cells_of img) × (cells_of img ≤ 64) → ⊥) (by_image 5)
    ∷ ground ((slice_index img 6 ≡ 0) × (slice_index img 7 ≡ 0) → ⊥) (by_image 6)
    ∷ ground (length img ≢ 8 + sleds_of img * (cells_of img * 1040)) (by_image 8)
    ∷ []

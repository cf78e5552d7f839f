-- The bytes of an open image, and why one was not opened. Assumes nothing.
use Rattle.std.specs.Prelude.{ℕ, List, Vec, vec_items}
use Rattle.std.specs.declared.alloc.Global.{Global}
use Rattle.refusal.specs.Refusals.{Refusal, refusal_of}
use Rattle.image.specs.declared.image.Image.{Image}
use Rattle.image.specs.declared.image.Unopened.{Unopened}

module _ {F : _} {g : _} where
  -- the vector that holds the bytes of an open image
  abbrev pub vec_of : Image F g → Vec ℕ Global
  vec_of i = i.bytes

  -- the bytes of an open image
  abbrev pub bytes_of : Image F g → List ℕ
  bytes_of i = vec_items i.bytes

-- why an image was not opened
abbrev pub why : Unopened → Refusal
why u = refusal_of u.fault

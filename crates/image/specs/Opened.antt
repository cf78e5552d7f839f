-- What is known of an open image. Only proofs, for a law: no contract cites it. Assumes nothing.
use Rattle.bank.specs.Meaning.{Sound}
use Rattle.image.specs.declared.image.Image.{Image}
use Rattle.image.specs.declared.layout.Layout.{Layout}
use Rattle.image.specs.Racks.{rack_of}
use Rattle.image.specs.Images.{bytes_of}
use Rattle.image.specs.Rows.{rack_bounds}

-- what it holds keeps the bounds of a rack, in either layout
pub bounds_in : {F : _} {g : _} (l : Layout) (i : Image F g) → Sound (rack_of l (bytes_of i))
bounds_in l i = rack_bounds l (bytes_of i) i.shape i.typed

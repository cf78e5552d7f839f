use Rattle.std.proofs.Common.{sym, ap, ◌∙◌}
use Rattle.image.specs.Racks.{sleds_of}
use Rattle.image.specs.Images.{bytes_of}
use Rattle.image.specs.Rows.{length-rack}
use Rattle.image.proofs.image.Image.sled_count.Goals as goal

pub returns : goal.returns
returns g c =
    let i = c.args.self.now in
    c.from.ensures ∙ ap sleds_of c.as_slice.ensures.value ∙ sym (length-rack g.F.Format.LAYOUT (bytes_of i) i.shape)

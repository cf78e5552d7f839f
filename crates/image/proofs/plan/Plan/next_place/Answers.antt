use Rattle.std.proofs.Common.{◌≡◌, refl}
use Rattle.std.specs.List.{position_or_len}
use Rattle.image.specs.Places.{is_free}
use Rattle.image.specs.Layouts.{places}
use Rattle.image.proofs.Scanned.{first_free_there}
use Rattle.image.proofs.plan.Plan.next_place.Goals as goal

pub unwrap-requires : goal.unwrap-requires
unwrap-requires c = rw (first_free_there _ c.first_free.result c.first_free.ensures c.requires.room) refl

pub returns : goal.returns
returns c =
    let first = first_free_there _ c.first_free.result c.first_free.ensures c.requires.room in
    let at : c.unwrap.result ≡ position_or_len is_free (places c.args.self.layout c.args.self.cells c.args.bytes.now) = cc in
    at

use Rattle.std.proofs.Common.{ap, ◌∙◌}
use Rattle.image.specs.Places.{answers}
use Rattle.image.specs.Sleds.{answers_in}
use Rattle.image.proofs.sled.Seen.answers.Goals as goal

pub returns : goal.returns
unfolding answers_in
returns c = c.answers.ensures ∙ ap (answers c.args.key.id c.args.key.number) c.place.ensures

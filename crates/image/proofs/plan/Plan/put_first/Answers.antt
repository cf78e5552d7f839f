use Rattle.std.proofs.Common.{ap, ◌∙◌}
use Rattle.image.specs.Layouts.{put_at}
use Rattle.image.proofs.plan.Plan.put_first.Goals as goal

pub returns : goal.returns
returns c =
    c.put_at.ensures ∙ ap (λ e. put_at c.args.self.layout c.args.self.cells e c.args.share.now.key.id c.args.share.now.key.number c.args.share.now.payload.now c.args.bytes.now) c.requires.first

use Rattle.std.proofs.Common.{ap, ◌∙◌}
use Rattle.std.specs.Prelude.{count_by}
use Rattle.std.specs.List.{range_with_len}
use Rattle.image.specs.Sleds.{counts_in}
use Rattle.image.proofs.Scanned.{counts_are}
use Rattle.image.proofs.sled.Sled.count.Goals as goal

pub returns : goal.returns
returns c = c.total.ensures ∙ ap (λ s. count_by (counts_in s c.seen.result.count) (range_with_len 0 c.seen.result.count)) c.seen.ensures.sled ∙ counts_are c.args.self.now c.seen.result.count c.seen.ensures.count

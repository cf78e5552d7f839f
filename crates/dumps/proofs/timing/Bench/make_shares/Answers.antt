use Rattle.std.proofs.Common.{◌≡◌, ◌+◌, ◌-◌, rules, arith}
use Rattle.dumps.proofs.timing.Bench.make_shares.Goals as goal

pub loop-share-preserved : goal.loop-share-preserved
loop-share-preserved c =
    let same : c.loop-share.share + 1 - 1 ≡ c.loop-share.share = omega arith in
    (search rules, λ _. rw same c.in_ok-make_share.ensures.made)

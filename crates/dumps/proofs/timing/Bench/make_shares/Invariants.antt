use Rattle.std.proofs.Common.{◌-◌, ◌<◌}
use Rattle.dumps.specs.Bench.{HasMade, SameWork}
use Rattle.dumps.proofs.timing.Bench.make_shares.Given as goal

-- the code and the file stay, and the share before this one is made
abbrev pub invariant-loop-share : goal.invariant-loop-share
invariant-loop-share l = SameWork l.initial.self l.self × (16 < l.share → HasMade l.self (l.share - 1))

use Rattle.std.proofs.Common.{◌<◌}
use Rattle.dumps.specs.Bench.{HasMade, SameWork}
use Rattle.dumps.proofs.timing.Bench.time_round.Given as goal

-- the code and the file stay, and once the shares were made, the last of them is there
abbrev pub invariant-loop : goal.invariant-loop
invariant-loop g l = SameWork l.initial.self l.self × (0 < l.counter → HasMade l.self 31)

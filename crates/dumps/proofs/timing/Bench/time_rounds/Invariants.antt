use Rattle.dumps.specs.Bench.{HasMade, SameWork}
use Rattle.dumps.proofs.timing.Bench.time_rounds.Given as goal

-- the code and the file stay, and the last of the shares is there
abbrev pub invariant-loop-time : goal.invariant-loop-time
invariant-loop-time g l = SameWork l.initial.self l.self × HasMade l.self 31

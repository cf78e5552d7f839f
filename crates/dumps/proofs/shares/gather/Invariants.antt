use Rattle.std.proofs.Common.{◌≡◌, take, vec_items}
use Rattle.dumps.specs.Shares.{joined}
use Rattle.dumps.proofs.shares.gather.Given as goal

-- so far the payloads of the first numbers are there
abbrev pub invariant-loop-number : goal.invariant-loop-number
invariant-loop-number l = vec_items l.payloads ≡ joined l.shares (take l.number-index l.numbers)

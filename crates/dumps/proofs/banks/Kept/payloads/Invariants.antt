use Rattle.std.proofs.Common.{◌≡◌, take, vec_items}
use Rattle.dumps.specs.Kept.{held_payloads}
use Rattle.dumps.proofs.banks.Kept.payloads.Given as goal

-- so far the payloads of the first numbers are there
abbrev pub invariant-loop-number : goal.invariant-loop-number
invariant-loop-number g l = vec_items l.payloads ≡ held_payloads (g.B.Bank.meaning l.self.bank.now) l.self.id (take l.number-index l.numbers)

use Rattle.std.proofs.Common.{rules}
use Rattle.bank.specs.Joined.{sled_by_side}
use Rattle.bank.proofs.join.Join.side.Goals as goal

pub returns-clause-same : goal.returns-clause-same
returns-clause-same g c = sled_by_side _ _ (g.met.L.Bank.sound c.args.self.now.first).at_most c.args.sled (search rules)

use Rattle.std.proofs.Common.{◌≡◌, refl, arith}
use Rattle.std.proofs.lemmas.Grind.{common_steps}
use Rattle.dumps.proofs.shares.make_share.Goals as goal

pub returns-clause-made : goal.returns-clause-made
returns-clause-made c =
    let made = c.in_ok-size.ensures.answer.1 in
    let e : c.truncate.new.self.items ≡ made.bytes = grind (arith, common_steps) in
    (refl, rw e made.payload)

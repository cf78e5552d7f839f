use Rattle.code.proofs.ByHand.{worked}
use Rattle.code.proofs.theorems.examples_stand.Goals as goal

pub returns : goal.returns
returns c = worked

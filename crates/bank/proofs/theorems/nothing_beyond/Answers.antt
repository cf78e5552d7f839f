use Rattle.bank.proofs.Beyond.{nothing_beyond_lem}
use Rattle.bank.proofs.theorems.nothing_beyond.Goals as goal

pub returns : goal.returns
returns c = nothing_beyond_lem

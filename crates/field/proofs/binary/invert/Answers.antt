use Rattle.std.proofs.Common.{ap, ◌∙◌}
use Rattle.field.specs.Residues.{square_chain}
use Rattle.field.specs.Binary.{times, inverse_of}
use Rattle.field.proofs.binary.invert.Goals as goal

pub returns : goal.returns
unfolding inverse_of
returns c = c.product_of_squares.ensures times (λ x y r p. p.0) ∙ ap (square_chain times 7 1) c.multiply.ensures.plain

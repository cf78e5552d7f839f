use Rattle.std.proofs.Common.{sym, ◌∙◌}
use native.Mathlib.Nat.{mod-mod}
use Rattle.field.specs.Residues.{square_chain}
use Rattle.field.specs.Prime.{times, inverse_of}
use Rattle.field.proofs.prime.invert.Goals as goal

pub returns : goal.returns
unfolding inverse_of square_chain
returns c = c.product_of_squares.ensures times (λ x y r p. p.0) ∙ sym (mod-mod _ 257)

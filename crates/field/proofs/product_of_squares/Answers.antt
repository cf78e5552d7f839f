use Rattle.std.proofs.Common.{◌+◌, ◌-◌, sym, ◌∙◌, ap₂, arith}
use Rattle.field.specs.Residues.{square_chain}
use Rattle.field.proofs.Steps.{chain_more, chain_none}
use Rattle.field.proofs.product_of_squares.Goals as goal

pub loop-preserved : goal.loop-preserved
loop-preserved g c = (
  c.loop.invariant.0,
  λ times computes.
      ap₂ (square_chain times (c.args.n - (c.loop.counter + 1))) (computes _ _ _ c.mul-product.ensures) (computes _ _ _ c.mul-square.ensures)
      ∙ sym (chain_more times c.args.n c.loop.counter c.loop.product c.loop.square (omega arith)) ∙ c.loop.invariant.1 times computes,
)

pub returns : goal.returns
returns g c = λ times computes.
    sym (chain_none times c.args.n c.loop.counter c.loop.product c.loop.square (omega arith)) ∙ c.loop.invariant.1 times computes

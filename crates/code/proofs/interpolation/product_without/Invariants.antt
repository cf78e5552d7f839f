use Rattle.std.proofs.Common.{◌≡◌}
use Rattle.code.specs.Lagrange.{entry, others}
use Rattle.code.proofs.interpolation.product_without.Given as goal

abbrev pub invariant-loop-m : goal.invariant-loop-m
invariant-loop-m g l = let f = g.F.Field in f.elem l.product ≡ others f.model (entry f l.points) l.b l.m (f.elem l.y)

use Rattle.std.proofs.Common.{◌≡◌, ℕ, ◌<◌, ◌≤◌}
use Rattle.code.specs.Lagrange.{entry}
use Rattle.code.proofs.interpolation.add_scaled.Given as goal

abbrev pub invariant-loop-i : goal.invariant-loop-i
invariant-loop-i g l =
    let f = g.F.Field in
    ((t : ℕ) → t < l.i → entry f l.sums t ≡ f.model.add (entry f l.initial.sums t) (f.model.mul (f.elem l.weight) (entry f l.row t)))
    × ((t : ℕ) → l.i ≤ t → entry f l.sums t ≡ entry f l.initial.sums t)

use Rattle.std.proofs.Common.{◌≡◌, ℕ, ◌<◌, length, get_or}
use Rattle.code.specs.Lagrange.{entry}
use Rattle.code.proofs.interpolation.points_of.Given as goal

abbrev pub invariant-loop-i : goal.invariant-loop-i
invariant-loop-i g l =
    (length l.points ≡ 16) × ((i : ℕ) → i < l.i → entry g.F.Field l.points i ≡ g.F.Field.model.point (get_or l.shares i 0))

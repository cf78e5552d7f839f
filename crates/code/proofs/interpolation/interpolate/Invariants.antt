use Rattle.std.proofs.Common.{◌≡◌, ℕ, ◌+◌, ◌*◌, ◌<◌, length}
use Rattle.code.specs.Lagrange.{entry, weight, total}
use Rattle.code.proofs.interpolation.interpolate.Given as goal

abbrev pub invariant-loop-m : goal.invariant-loop-m
invariant-loop-m g l =
    let f = g.F.Field in
    (length l.sums ≡ 1024)
    × ((i : ℕ) → i < l.block → entry f l.sums i ≡ total f.model (λ m. f.model.mul (entry f l.rows (m * l.block + i)) (weight f.model (entry f l.points) (length l.points) (f.elem l.y) m)) l.m)

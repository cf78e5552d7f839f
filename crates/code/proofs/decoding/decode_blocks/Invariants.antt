use Rattle.std.proofs.Common.{◌≡◌, ℕ, ◌+◌, ◌*◌, ◌<◌, length, get_or}
use Rattle.code.specs.Lagrange.{value_at, IsByteOf}
use Rattle.code.proofs.decoding.decode_blocks.Given as goal

abbrev pub invariant-loop-b : goal.invariant-loop-b
invariant-loop-b g l =
    let f = g.F.Field in
    (length l.found ≡ 16384)
    × ((b i : ℕ) → b < l.b → i < l.block → b * l.block + i < l.len
    → IsByteOf f.model (value_at f l.points l.rows l.block (f.model.point b) i) (get_or l.found (b * l.block + i) 0))

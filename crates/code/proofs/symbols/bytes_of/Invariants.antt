use Rattle.std.proofs.Common.{ℕ, ◌<◌, get_or}
use Rattle.code.specs.Lagrange.{entry, IsByteOf}
use Rattle.code.proofs.symbols.bytes_of.Given as goal

abbrev pub invariant-loop-i : goal.invariant-loop-i
invariant-loop-i g l =
    let f = g.F.Field in
    (i : ℕ) → i < l.i → IsByteOf f.model (entry f l.symbols i) (get_or l.out i 0)

use Rattle.std.proofs.Common.{◌≡◌, ℕ, ◌*◌, ◌<◌, length, take, drop}
use Rattle.code.specs.Lagrange.{entry}
use Rattle.code.proofs.symbols.read_symbols.Given as goal

abbrev pub invariant-loop-t : goal.invariant-loop-t
invariant-loop-t g l =
    let f = g.F.Field in
    (length l.symbols ≡ 16384)
    × ((s : ℕ) → s < l.t → f.model.stored (entry f l.symbols s) ≡ take f.model.width (drop (s * f.model.width) l.bytes))

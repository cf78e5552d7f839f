use Rattle.std.proofs.Common.{◌≡◌, ◌*◌, ◌++◌, drop}
use Rattle.code.specs.Lagrange.{entry}
use Rattle.code.specs.Shares.{serial}
use Rattle.code.proofs.symbols.store.Given as goal

abbrev pub invariant-loop-i : goal.invariant-loop-i
invariant-loop-i g l =
    let f = g.F.Field in
    l.out ≡ serial f.model (entry f l.symbols) l.i ++ drop (l.i * f.model.width) l.initial.out

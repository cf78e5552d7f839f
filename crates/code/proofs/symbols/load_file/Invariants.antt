use Rattle.std.proofs.Common.{◌≡◌, ℕ, ◌<◌, ◌≤◌, length, get_or}
use Rattle.code.specs.Lagrange.{entry}
use Rattle.code.proofs.symbols.load_file.Given as goal

abbrev pub invariant-loop-t : goal.invariant-loop-t
invariant-loop-t g l =
    let f = g.F.Field in
    (length l.symbols ≡ 16384)
    × ((s : ℕ) → s < l.t → entry f l.symbols s ≡ f.model.byte (get_or l.file s 0))
    × ((s : ℕ) → l.t ≤ s → s < 16384 → entry f l.symbols s ≡ f.model.byte 0)

use Rattle.std.proofs.Common.{◌≡◌, ℕ, ◌+◌, ◌==◌, get_or, sym, ap, ◌∙◌, arith}
use Rattle.std.proofs.lemmas.List.Edits.{get_or-between}
use Rattle.image.specs.Layouts.{entry_at}
use Rattle.image.specs.Sleds.{free_in}
use Rattle.image.proofs.sled.Sled.is_free.Goals as goal

pub returns : goal.returns
unfolding free_in
returns c =
    let s = c.args.self.now in
    let at = entry_at s.plan.layout s.plan.cells c.args.number in
    let first : c.entry_at.result ≡ at + 0 = omega (arith, c.entry_at.ensures.value) in
    ap (λ (i : ℕ). get_or s.bytes.now i 0 == 0) first
    ∙ ap (λ (x : ℕ). x == 0) (sym (get_or-between s.bytes.now at (at + 16) 0 0 (omega arith)))

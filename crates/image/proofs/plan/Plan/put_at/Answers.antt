use Rattle.std.proofs.Common.{◌≡◌, ◌+◌, false, ◌&&◌, ltb, sym, ap, ap₂, ◌∙◌}
use Rattle.std.proofs.lemmas.Bool.{cond-false, le-ltb}
use Rattle.image.specs.Layouts.{freed, written, frees_next}
use Rattle.image.proofs.plan.Plan.put_at.Goals as goal
use Rattle.image.proofs.plan.Plan.put_at.Goals.{else-frees_next-via-then-frees_next+else-place-self, else-frees_next-via-else-frees_next}

pub returns-else-frees_next : goal.returns-else-frees_next
returns-else-frees_next c =
    let l = c.args.self.layout in
    let C = c.args.self.cells in
    let e = c.args.place in
    let new = written l C e c.args.share.now.key.id c.args.share.now.key.number c.args.share.now.payload.now c.args.bytes.now in
    let test : frees_next l && ltb (e + 1) C ≡ false =
    elim c.else-frees_next.branch [
      | else-frees_next-via-then-frees_next+else-place-self w ↦ ap₂ (λ a b. a && b) (sym c.frees_next.ensures ∙ w.if-frees_next.true) (le-ltb (e + 1) C w.if-place-self.false)
      | else-frees_next-via-else-frees_next w ↦ ap (λ b. b && ltb (e + 1) C) (sym c.frees_next.ensures ∙ w.if-frees_next.false)
    ] in
    c.write.ensures ∙ sym (cond-false (frees_next l && ltb (e + 1) C) (freed l C (e + 1) new) new test)

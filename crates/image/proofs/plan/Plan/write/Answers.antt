use Rattle.std.proofs.Common.{length, refl, ap, ◌∙◌}
use Rattle.image.specs.Places.{entry_of}
use Rattle.image.specs.Layouts.{cell_at, over}
use Rattle.image.specs.Overwrites.{put_mid-over}
use Rattle.image.proofs.plan.Plan.write.Goals as goal

pub returns : goal.returns
returns c =
    let payload = c.args.share.now.payload.now in
    let entry = entry_of c.args.share.now.key.id c.args.share.now.key.number payload in
    put_mid-over c.cell_at-at.result (length payload) _ _ payload c.copy_from_slice-2.ensures.after refl
    ∙ ap (over c.cell_at-at.result payload) (put_mid-over c.entry_at-start.result 16 _ _ entry (c.copy_from_slice.ensures.after ∙ c.entry.ensures) refl)
    ∙ ap (λ at. over at payload (over c.entry_at-start.result entry c.args.bytes.now)) c.cell_at-at.ensures.value
    ∙ ap (λ at. over (cell_at c.args.self.layout c.args.self.cells c.args.place) payload (over at entry c.args.bytes.now)) c.entry_at-start.ensures.value

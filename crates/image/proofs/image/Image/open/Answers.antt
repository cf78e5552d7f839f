use Rattle.std.proofs.Common.{ℕ, ◌<◌, List, get_or, vec_items, refl, subst}
use Rattle.refusal.specs.Grounds.{Clear, Told}
use Rattle.refusal.specs.Refusals.{refusal_of}
use Rattle.image.specs.Opening.{open_grounds}
use Rattle.image.specs.Rows.{marked, shape}
use Rattle.image.proofs.image.Image.open.Goals as goal

pub invariant_of-result : goal.invariant_of-result
invariant_of-result g c =
    let l = g.F.Format.LAYOUT in
    let img = vec_items c.args.bytes in
    let clear = subst (λ xs. Clear (open_grounds l xs)) c.as_slice.ensures.value c.in-Ok.ensures.answers.0 in
    record {
      marked = marked l img clear;
      shape = shape l img clear;
      typed = subst (λ (xs : List ℕ). (k : ℕ) → get_or xs k 0 < 256) c.as_slice.ensures.value c.check_header.ensures.bytes;
    }

pub returns-in-Err : goal.returns-in-Err
returns-in-Err g c = (subst (λ xs. Told (open_grounds g.F.Format.LAYOUT xs) (refusal_of c.in-Err.fault)) c.as_slice.ensures.value c.in-Err.ensures.answers.0, refl)

pub returns-in-Ok : goal.returns-in-Ok
returns-in-Ok g c = (subst (λ xs. Clear (open_grounds g.F.Format.LAYOUT xs)) c.as_slice.ensures.value c.in-Ok.ensures.answers.0, refl)

use Rattle.std.proofs.Common.{◌≡◌, ◌<◌, ◌≤◌, length, take, sym, ap, ap₂, ◌∙◌, ⊎_elim, arith}
use Rattle.std.proofs.lemmas.Bool.{cases_lt}
use Rattle.std.proofs.lemmas.List.{take_all}
use Rattle.image.proofs.place.Place.payload.Goals as goal

pub returns : goal.returns
returns c =
    let cell = c.as_slice-cell.result.now in
    ⊎_elim
    (λ (long : length cell < c.length.result). take_all c.min.result cell (omega arith) ∙ sym (take_all c.length.result cell (omega arith)))
    (λ (fits : c.length.result ≤ length cell). ap (λ n. take n cell) (let z : c.min.result ≡ c.length.result = omega arith in z))
    (cases_lt (length cell) c.length.result)
    ∙ ap₂ take c.length.ensures c.as_slice-cell.ensures

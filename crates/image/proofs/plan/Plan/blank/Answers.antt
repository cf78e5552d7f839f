use Rattle.std.proofs.Common.{◌≡◌, sym, ap, ◌∙◌, add-one, arith}
use Rattle.image.specs.Layouts.{freed, freed_below}
use Rattle.image.proofs.plan.Plan.blank.Goals as goal

pub loop-place-preserved : goal.loop-place-preserved
loop-place-preserved c =
    c.free.ensures
    ∙ ap (freed c.args.self.layout c.args.self.cells c.loop-place.place) c.loop-place.invariant
    ∙ sym (ap (λ n. freed_below c.args.self.layout c.args.self.cells n c.args.bytes.now) (add-one c.loop-place.place))

pub returns : goal.returns
returns c =
    let done : c.loop-place.place ≡ c.blanked_places-place-end.result = omega arith in
    c.loop-place.invariant
    ∙ ap (λ n. freed_below c.args.self.layout c.args.self.cells n c.args.bytes.now) (done ∙ c.blanked_places-place-end.ensures.value)

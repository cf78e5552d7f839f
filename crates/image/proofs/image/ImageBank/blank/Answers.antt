use Rattle.std.proofs.Common.{◌<◌, ℕ, List, get_or, take, sym, ap, ◌∙◌, subst, arith}
use Rattle.std.proofs.lemmas.List.{with_items_is}
use Rattle.refusal.specs.Grounds.{Clear}
use Rattle.bank.specs.Calls.{sled_checks, blank_grounds, Blanked}
use Rattle.image.specs.Layouts.{sled_after_blank}
use Rattle.image.specs.Racks.{rack_of}
use Rattle.image.specs.Opening.{Shape}
use Rattle.image.specs.Images.{bytes_of}
use Rattle.image.specs.Rows.{sled_within}
use Rattle.image.proofs.Changed.{sled_there, blank_shape, blank_mark, image_blank}
use Rattle.image.proofs.Rewritten.{changed_sled}
use Rattle.image.proofs.image.ImageBank.blank.Goals as goal

pub blank_on-requires : goal.blank_on-requires
blank_on-requires g c =
    let i = c.args.self.now in
    let l = g.F.Format.LAYOUT in
    let img = bytes_of i in
    let there = sled_there l img i.shape c.args.sled (subst (λ n. Clear (sled_checks n c.args.sled)) c.sleds.ensures c.in_ok-check_sled.ensures.0) in
    sled_within l img i.shape c.plan-plan.result.cells c.args.sled c.as_mut_slice-image.result.now c.plan-plan.ensures.cells c.as_mut_slice-image.ensures.value there

pub invariant_of-self : goal.invariant_of-self
invariant_of-self g c =
    let i = c.args.self.now in
    let l = g.F.Format.LAYOUT in
    let img = bytes_of i in
    let plan = c.plan-plan in
    let slice = c.as_mut_slice-image in
    let there = sled_there l img i.shape c.args.sled (subst (λ n. Clear (sled_checks n c.args.sled)) c.sleds.ensures c.in_ok-check_sled.ensures.0) in
    let back = with_items_is i.bytes c.blank_on.new.image (omega (arith, c.blank_on.auto.image, slice.ensures.len)) in
    let now = back ∙ c.blank_on.ensures.after
    ∙ changed_sled plan.result.layout l c.args.sled plan.result.cells slice.result.now img plan.ensures.layout plan.ensures.cells slice.ensures.value sled_after_blank in
    record {
      marked = ap (take 4) now ∙ blank_mark l img i.shape c.args.sled there ∙ i.marked;
      shape = subst Shape (sym now) (blank_shape l img i.shape c.args.sled there);
      typed = subst (λ (xs : List ℕ). (k : ℕ) → get_or xs k 0 < 256) (sym back) c.blank_on.ensures.bytes;
    }

pub returns : goal.returns
returns g c =
    let i = c.args.self.now in
    let l = g.F.Format.LAYOUT in
    let img = bytes_of i in
    let plan = c.plan-plan in
    let slice = c.as_mut_slice-image in
    let clear : Clear (blank_grounds (rack_of l img) c.args.sled) = subst (λ n. Clear (sled_checks n c.args.sled)) c.sleds.ensures c.in_ok-check_sled.ensures.0 in
    let there = sled_there l img i.shape c.args.sled clear in
    let now = with_items_is i.bytes c.blank_on.new.image (omega (arith, c.blank_on.auto.image, slice.ensures.len)) ∙ c.blank_on.ensures.after
    ∙ changed_sled plan.result.layout l c.args.sled plan.result.cells slice.result.now img plan.ensures.layout plan.ensures.cells slice.ensures.value sled_after_blank in
    record {
      answer = record { answer = (clear, subst (λ after. Blanked (rack_of l img) (rack_of l after) c.args.sled) (sym now) (image_blank l img i.shape c.args.sled there)) };
      image = now;
    }

use Rattle.std.proofs.Common.{◌<◌, ℕ, List, get_or, length, take, sym, refl, ap, ◌∙◌, subst, arith}
use Rattle.std.proofs.lemmas.List.{with_items_is}
use Rattle.std.proofs.lemmas.Result.{err_from_is_err_and}
use Rattle.bank.specs.Calls.{Put}
use Rattle.image.specs.Layouts.{sled_after_put}
use Rattle.image.specs.Racks.{rack_of}
use Rattle.image.specs.Opening.{Shape}
use Rattle.image.specs.Images.{bytes_of}
use Rattle.image.specs.Rows.{sled_within}
use Rattle.image.proofs.Changed.{allowed, put_shape, put_mark, image_put}
use Rattle.image.proofs.Rewritten.{changed_sled, place_within}
use Rattle.image.proofs.image.ImageBank.put.Goals as goal

pub returns-in_err-check_put : goal.returns-in_err-check_put
returns-in_err-check_put g c =
    let i = c.args.self.now in
    let key = c.args.key in
    let p = err_from_is_err_and c.from_residual.result c.from_residual.ensures.1 in
    let told = c.in_err-check_put.ensures.0 in
    rw (p.1, p.2) (record { answer = record { answer = (told, refl) }; image = refl })

pub put_on-requires : goal.put_on-requires
put_on-requires g c =
    let i = c.args.self.now in
    let key = c.args.key in
    let l = g.F.Format.LAYOUT in
    let img = bytes_of i in
    let plan = c.plan-plan in
    let slice = c.as_mut_slice-image in
    let clear = c.in_ok-check_put.ensures.0 in
    let may = allowed l img i.shape c.args.sled key.id key.number (length c.args.payload.now) clear in
    record {
      there = sled_within l img i.shape plan.result.cells c.args.sled slice.result.now plan.ensures.cells slice.ensures.value may.there;
      room = place_within plan.result.layout l c.args.sled plan.result.cells slice.result.now img plan.ensures.layout plan.ensures.cells slice.ensures.value may.place;
    }

pub invariant_of-self : goal.invariant_of-self
invariant_of-self g c =
    let i = c.args.self.now in
    let key = c.args.key in
    let l = g.F.Format.LAYOUT in
    let img = bytes_of i in
    let plan = c.plan-plan in
    let slice = c.as_mut_slice-image in
    let clear = c.in_ok-check_put.ensures.0 in
    let may = allowed l img i.shape c.args.sled key.id key.number (length c.args.payload.now) clear in
    let back = with_items_is i.bytes c.put_on.new.image (omega (arith, c.put_on.auto.image, slice.ensures.len)) in
    let now = back ∙ c.put_on.ensures.after
    ∙ changed_sled plan.result.layout l c.args.sled plan.result.cells slice.result.now img plan.ensures.layout plan.ensures.cells slice.ensures.value (λ m C. sled_after_put m C key.id key.number c.args.payload.now) in
    record {
      marked = ap (take 4) now ∙ put_mark l img i.shape c.args.sled key.id key.number c.args.payload.now (omega arith) may ∙ i.marked;
      shape = subst Shape (sym now) (put_shape l img i.shape c.args.sled key.id key.number c.args.payload.now (omega arith) may);
      typed = subst (λ (xs : List ℕ). (k : ℕ) → get_or xs k 0 < 256) (sym back) c.put_on.ensures.bytes;
    }

pub returns : goal.returns
returns g c =
    let i = c.args.self.now in
    let key = c.args.key in
    let l = g.F.Format.LAYOUT in
    let img = bytes_of i in
    let plan = c.plan-plan in
    let slice = c.as_mut_slice-image in
    let clear = c.in_ok-check_put.ensures.0 in
    let may = allowed l img i.shape c.args.sled key.id key.number (length c.args.payload.now) clear in
    let now = with_items_is i.bytes c.put_on.new.image (omega (arith, c.put_on.auto.image, slice.ensures.len)) ∙ c.put_on.ensures.after
    ∙ changed_sled plan.result.layout l c.args.sled plan.result.cells slice.result.now img plan.ensures.layout plan.ensures.cells slice.ensures.value (λ m C. sled_after_put m C key.id key.number c.args.payload.now) in
    record {
      answer = record {
        answer = (
          clear,
          subst (λ after. Put (rack_of l img) (rack_of l after) c.args.sled key.id key.number c.args.payload.now) (sym now)
              (image_put l img i.shape c.args.sled key.id key.number c.args.payload.now (omega arith) may),
        );
      };
      image = now;
    }

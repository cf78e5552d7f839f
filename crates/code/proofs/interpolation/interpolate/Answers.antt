use Rattle.std.proofs.Common.{ℕ, ◌+◌, ◌-◌, ◌*◌, ◌<◌, length, take, drop, sym, ap, ◌∙◌, ap₂, arith}
use Rattle.code.specs.Lagrange.{entry, weight}
use Rattle.code.proofs.Turns.{total-zero, total_more}
use Rattle.code.proofs.Rows.{row_ends, row_length, row_item}
use Rattle.code.proofs.interpolation.interpolate.Goals as goal

pub loop-m-init : goal.loop-m-init
loop-m-init g c =
    let f = g.F.Field in
    (omega arith, λ i h. c.requires.zeros i h ∙ total-zero f.model (λ m. f.model.mul (entry f c.args.rows.now (m * c.args.block + i)) (weight f.model (entry f c.args.points.now) (length c.args.points.now) (f.elem c.args.y) m)))

pub loop-m-preserved : goal.loop-m-preserved
loop-m-preserved g c =
    let f = g.F.Field in
    let o = f.model in
    let m = c.loop-m.m in
    let B = c.args.block in
    let rows = c.args.rows.now in
    let points = c.args.points.now in
    let w = weight o (entry f points) (length points) (f.elem c.args.y) in
    let term = λ (m : ℕ) (i : ℕ). o.mul (entry f rows (m * B + i)) (w m) in
    let ends = row_ends m (length points) B (length rows) c.loop-m-test.true (omega arith) in (
      omega arith,
      λ i h.
          let within : i < length (take (m * B + B - m * B) (drop (m * B) rows)) = rw (row_length rows (m * B) B ends) h in
          c.add_scaled.ensures i within
          ∙ ap₂ o.add (c.loop-m.invariant.1 i h)
          (ap₂ o.mul c.weight_of-weight.ensures (ap f.elem (row_item (f.sym o.zero) rows (m * B) B i h)) ∙ g.met.F.Field.lawful.mul_comm (w m) (entry f rows (m * B + i)))
          ∙ sym (total_more o (λ m. term m i) m),
    )

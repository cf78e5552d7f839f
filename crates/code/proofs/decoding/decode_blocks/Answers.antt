use Rattle.std.proofs.Common.{◌≡◌, ℕ, ◌+◌, ◌-◌, ◌*◌, ◌<◌, ◌≤◌, length, get_or, take, ap, ◌∙◌, sym, subst, inl, inr, arith, length-take}
use Rattle.std.proofs.lemmas.Nat.{mul-le}
use Rattle.std.proofs.lemmas.Bool.{cases_eq}
use Rattle.std.proofs.lemmas.List.{get_or-take, length-take-le}
use Rattle.code.specs.Lagrange.{entry, value_at, IsByteOf}
use Rattle.code.proofs.Coded.{known, filled}
use Rattle.code.proofs.Rows.{row_ends, fails}
use borrow.Rule.Slice.PartMut.{put_mid, same_len_mid}
use Rattle.code.proofs.Writes.{before_part, in_part}
use Rattle.code.proofs.decoding.decode_blocks.Given as given
use Rattle.code.proofs.decoding.decode_blocks.Goals as goal
use Rattle.code.proofs.decoding.decode_blocks.Goals.{After-interpolate}

-- the sums of a turn are the values at the block's point
value : (g : given.Over) (c : After-interpolate g) (i : ℕ) → i < c.args.block
    → entry g.F.Field c.interpolate.new.sums i ≡ value_at g.F.Field c.args.points.now c.args.rows.now c.args.block (g.F.Field.model.point c.loop-b.b) i
value g c i h =
    let f = g.F.Field in
    let at = rw c.unwrap-point.ensures at c.point.ensures in
    c.interpolate.ensures.values i h ∙ ap (λ y. value_at f c.args.points.now c.args.rows.now c.args.block y i) (known f g.met.F.Field.recovers at.1)

pub interpolate-requires : goal.interpolate-requires
interpolate-requires g c =
    let f = g.F.Field in
    let whole = mul-le (length c.args.points.now) c.args.block 16 1024 c.requires.few c.requires.short in
    let zeros = λ (i : ℕ) (l : i < c.args.block). filled f g.met.F.Field.recovers 1024 i c.zero-sums.result f.model.zero c.zero-sums.ensures (omega (arith, c.requires.short)) in
    (omega (arith, g.met.F.Field.small), (omega (arith, g.met.F.Field.small), (c.requires.short, (omega arith, zeros))))

pub returns-in_err-bytes_of : goal.returns-in_err-bytes_of
returns-in_err-bytes_of g c =
    let bad = c.in_err-bytes_of.ensures in
    let within : bad.0 < c.min-count.result = omega (arith, bad.1, length-take {A = g.row.F-Symbol.Denot}) in
    let place : bad.0 < c.args.block = omega (arith, within, c.min-count.ensures) in
    fails _ _ c.from_residual.result c.from_residual.ensures.0 (
      c.loop-b.b,
      bad.0,
      place,
      omega (arith, within, c.min-count.ensures),
      λ y h e. bad.2 y h (e ∙ sym (value g (goal.at.returns-in_err-bytes_of g c).After-interpolate bad.0 place)
          ∙ sym (ap g.F.Field.elem (get_or-take c.min-count.result c.interpolate.new.sums bad.0 (g.F.Field.sym g.F.Field.model.zero) within))),
    )

pub loop-b-preserved : goal.loop-b-preserved
loop-b-preserved g c =
    let f = g.F.Field in
    let B = c.args.block in
    let n = c.min-count.result in
    let a = c.loop-b.b * B in
    let k = 16384 - a in
    let xs = c.loop-b.found in
    let ys = c.bytes_of.new.out in
    let now = put_mid a k xs ys in
    let sums = c.interpolate.new.sums in
    let whole = mul-le (length c.args.points.now) B 16 1024 c.requires.few c.requires.short in
    let inside : a ≤ length xs = omega arith in
    let size : length (take n sums) ≡ n = length-take-le n sums (omega (arith, c.min-count.ensures, c.interpolate.ensures.size)) in (
      same_len_mid a k xs ys c.bytes_of.auto.out ∙ c.loop-b.invariant.0,
      λ b i hb h within. elim (cases_eq b c.loop-b.b) [
        | inl e ↦
            let count : i < n = omega (arith, c.min-count.ensures, ap (λ (n : ℕ). n * B) e) in
            let here = c.in_ok-bytes_of.ensures i (omega arith) in
            let read : get_or now (a + i) 0 ≡ get_or ys i 0 = in_part 0 xs ys a k inside i (omega (arith, c.bytes_of.auto.out)) in
            subst (λ (n : ℕ). IsByteOf f.model (value_at f c.args.points.now c.args.rows.now B (f.model.point n) i) (get_or now (n * B + i) 0))
            (sym e) (rw read (here.0, here.1 ∙ ap f.elem (get_or-take n sums i (f.sym f.model.zero) count) ∙ value g (goal.at.loop-b-preserved g c).After-interpolate i h))
        | inr d ↦
            let before : b * B + i < a = omega (arith, row_ends b c.loop-b.b B a (omega arith) (omega arith)) in
            rw (before_part 0 xs ys a k inside (b * B + i) before) (c.loop-b.invariant.1 b i (omega arith) h within)
      ],
    )

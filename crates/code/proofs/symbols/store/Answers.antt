use Rattle.std.proofs.Common.{◌≡◌, ℕ, ◌-◌, ◌*◌, ◌++◌, length, get_or, take, drop, ap, ◌∙◌, arith, rules, length-take, length-drop}
use borrow.Author.Rules.{get_or_read}
use Rattle.code.specs.Lagrange.{entry}
use Rattle.code.proofs.Rows.{row_ends, succeeds}
use Rattle.code.proofs.Blocks.{serial_more, serial_start}
use Rattle.code.proofs.symbols.store.Goals as goal

pub loop-i-init : goal.loop-i-init
loop-i-init g c =
    let f = g.F.Field in
    serial_start f.model g.met.F.Field.lawful (entry f c.args.symbols.now) c.args.out.now

pub unwrap-requires : goal.unwrap-requires
unwrap-requires g c =
    let o = g.F.Field.model in
    let wide : c.WIDTH.result ≡ o.width = c.WIDTH.ensures ∙ g.met.F.Field.wide in
    let end = row_ends c.loop-i.i (length c.args.symbols.now) o.width (length c.args.out.now) c.loop-i-test.true c.requires.room in
    let start : c.loop-i.i * c.WIDTH.result ≡ c.loop-i.i * o.width = ap (λ (w : ℕ). c.loop-i.i * w) wide in
    succeeds _ _ c.write.result c.write.ensures
    (λ short. let s = simp (length-take, length-drop) at short.0 in absurd (omega (arith, s)))

pub loop-i-preserved : goal.loop-i-preserved
loop-i-preserved g c =
    let f = g.F.Field in
    let o = f.model in
    let z = f.sym o.zero in
    let symbols = c.args.symbols.now in
    let i = c.loop-i.i in
    let wide : c.WIDTH.result ≡ o.width = c.WIDTH.ensures ∙ g.met.F.Field.wide in
    let read : c.index-symbols-i.result ≡ get_or symbols i z = search (rules, get_or_read) in
    let written = rw c.unwrap.ensures at c.write.ensures in
    let a = i * c.WIDTH.result in
    let part = take (length c.loop-i.out - a) (drop a c.loop-i.out) in
    serial_more o g.met.F.Field.lawful (entry f symbols) i a c.loop-i.out c.args.out.now c.write.new.out
    c.loop-i.invariant (ap (λ (n : ℕ). i * n) wide) (written.1 ∙ ap (λ s. o.stored (f.elem s) ++ drop o.width part) read)

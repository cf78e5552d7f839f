use Rattle.std.proofs.Common.{◌≡◌, ℕ, ◌*◌, ◌/◌, ◌%◌, ◌^◌, ◌<◌, sym, ap, ◌∙◌, ap₂, arith, rules}
use Rattle.std.proofs.Math.Nat.{div-le_self}
use lib.Bits.{bit_xor, xor_zero_r}
use Rattle.field.specs.Binary.{times}
use Rattle.field.specs.BinaryLaws.{times_zero}
use Rattle.field.proofs.Steps.{turn_sum, next_bits, mul_plain}
use Rattle.field.proofs.binary.multiply.Goals as goal

pub loop-i-preserved : goal.loop-i-preserved
loop-i-preserved c =
    let l = c.loop-i in
    let rest = c.args.b / 2 ^ l.i in
    let small : rest < 256 = omega (arith, div-le_self c.args.b (2 ^ l.i)) in (
      ap₂ (λ (s r : ℕ). bit_xor (bit_xor l.sum (rest % 2 * l.shifted)) (times s r)) c.double-shifted.ensures (sym (next_bits c.args.b l.i))
          ∙ sym (turn_sum l.shifted rest l.sum l.invariant.1 small) ∙ l.invariant.0,
      c.double-shifted.type_inv,
    )

pub returns : goal.returns
returns c =
    let l = c.loop-i in
    let last : l.i ≡ 8 = omega arith in
    let none : c.args.b / 2 ^ l.i ≡ 0 = omega (arith, ap (λ (i : ℕ). c.args.b / 2 ^ i) last) in
    let plain = sym (ap (bit_xor l.sum) (ap (times l.shifted) none ∙ times_zero l.shifted) ∙ xor_zero_r l.sum) ∙ l.invariant.0 in
    record { plain = plain; symbols = plain ∙ mul_plain c.args.a c.args.b (search rules) (search rules) }

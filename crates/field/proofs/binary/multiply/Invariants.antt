use Rattle.std.proofs.Common.{◌≡◌, ◌/◌, ◌^◌, ◌<◌}
use lib.Bits.{bit_xor}
use Rattle.field.specs.Binary.{times}
use Rattle.field.proofs.binary.multiply.Given as goal

abbrev pub invariant-loop-i : goal.invariant-loop-i
invariant-loop-i l = (bit_xor l.sum (times l.shifted (l.b / 2 ^ l.i)) ≡ times l.a l.b) × (l.shifted < 256)

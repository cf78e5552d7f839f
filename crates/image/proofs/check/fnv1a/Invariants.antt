use Rattle.std.proofs.Common.{◌≡◌, drop}
use Rattle.std.specs.List.{fold}
use Rattle.image.specs.Fnv.{step}
use Rattle.image.proofs.check.fnv1a.Given as goal

-- the bytes that are left, from the value so far, give what all bytes give
abbrev pub invariant-loop-byte : goal.invariant-loop-byte
invariant-loop-byte l = fold step l.hash (drop l.byte-index l.bytes) ≡ fold step 0xCBF29CE484222325 l.bytes

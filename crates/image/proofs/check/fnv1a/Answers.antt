use Rattle.std.proofs.Common.{◌≡◌, ◌+◌, get_or, drop, arith}
use Rattle.std.specs.List.{fold}
use Rattle.image.specs.Fnv.{fnv, step}
use Rattle.std.proofs.lemmas.List.{at_drop_more, at_drop_all}
use Rattle.image.proofs.check.fnv1a.Goals as goal

pub loop-byte-preserved : goal.loop-byte-preserved
loop-byte-preserved c =
    let e : fold step c.loop-byte.hash (drop c.loop-byte.byte-index c.args.bytes.now)
    ≡ fold step (step c.loop-byte.hash (get_or c.args.bytes.now c.loop-byte.byte-index 0)) (drop (c.loop-byte.byte-index + 1) c.args.bytes.now)
    = at_drop_more (fold step c.loop-byte.hash) c.args.bytes.now c.loop-byte.byte-index 0 (omega arith) in
    cc

pub returns : goal.returns
unfolding fnv
returns c =
    let e : fold step c.loop-byte.hash (drop c.loop-byte.byte-index c.args.bytes.now) ≡ c.loop-byte.hash
    = at_drop_all (fold step c.loop-byte.hash) c.args.bytes.now c.loop-byte.byte-index (omega arith) in
    cc

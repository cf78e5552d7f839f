use Rattle.std.proofs.Common.{refl, not-suc-le-zero}
use Rattle.code.proofs.Coded.{filled}
use Rattle.code.proofs.symbols.load_file.Goals as goal

pub loop-t-init : goal.loop-t-init
loop-t-init g c = (
  refl,
  λ s h. absurd (not-suc-le-zero h),
  λ s _ h. filled g.F.Field g.met.F.Field.recovers 16384 s c.from_byte-symbols.result (g.F.Field.model.byte 0) c.from_byte-symbols.ensures h,
)

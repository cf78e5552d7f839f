use Rattle.std.proofs.Common.{◌≡◌, ℕ, ◌<◌, length, get_or}
use Rattle.dumps.specs.declared.shares.Share.{Share}
use Rattle.dumps.specs.Shares.{payload_of}
use Rattle.dumps.specs.Kept.{HoldsPayload}
use Rattle.dumps.proofs.banks.keep.Given as goal

-- there are as many sleds as ever, and the shares so far are held
abbrev pub invariant-loop-share : goal.invariant-loop-share
invariant-loop-share g l =
    (l.sleds ≡ length (g.B.Bank.meaning l.bank))
    × ((j : ℕ) (none : Share) → j < l.share-index → HoldsPayload (g.B.Bank.meaning l.bank) l.id (get_or l.shares j none).number (payload_of (get_or l.shares j none)))

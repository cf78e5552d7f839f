use Rattle.std.proofs.Common.{◌≡◌, ℕ, ◌<◌, vec_items, vec_len, slice_index_or}
use Rattle.dumps.specs.declared.shares.Share.{Share}
use Rattle.dumps.specs.Shares.{MadeShare}
use Rattle.dumps.proofs.shares.cut.Given as goal

-- so far the shares below this number are made
abbrev pub invariant-loop-number : goal.invariant-loop-number
invariant-loop-number l =
    (vec_len l.shares ≡ l.number) × ((j : ℕ) (none : Share) → j < l.number → MadeShare l.code l.file j (slice_index_or (vec_items l.shares) j none))

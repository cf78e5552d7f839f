use Rattle.std.proofs.Common.{◌≡◌, ℕ, ◌<◌, get_or}
use Rattle.code.proofs.decoding.are_different.Given as goal

abbrev pub invariant-loop-i : goal.invariant-loop-i
invariant-loop-i l = ((k : ℕ) → k < l.i → get_or l.shares k 0 < l.n) × ((k m : ℕ) → k < l.i → m < k → get_or l.shares k 0 ≡ get_or l.shares m 0 → ⊥)

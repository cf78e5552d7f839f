-- Rows of one length, one after another. Assumes nothing.
use Rattle.std.proofs.Common.{◌≡◌, ℕ, suc, ◌+◌, ◌-◌, ◌*◌, ◌<◌, ◌≤◌, List, length, get_or, take, drop, MatchResult, IsOk, IsErr, Ok, Err, Result, refl, ◌∙◌, le_refl, arith}
use Rattle.std.proofs.lemmas.Nat.{mul-le}
use Rattle.std.proofs.lemmas.List.{get_or-take, get_or-drop, length-take-le, length-drop}

-- row m of k rows of length w ends within them
pub row_ends : (m k w n : ℕ) → m < k → k * w ≤ n → m * w + w ≤ n
row_ends m k w n h fit = omega (arith, mul-le (suc m) w k w h (le_refl w))

-- the row that starts at a: its length, and its place i
pub row_length : {S : Type 0} (xs : List S) (a w : ℕ) → a + w ≤ length xs → length (take (a + w - a) (drop a xs)) ≡ w
row_length xs a w h = length-take-le (a + w - a) (drop a xs) (rw length-drop (omega arith)) ∙ omega arith

pub row_item : {S : Type 0} (z : S) (xs : List S) (a w i : ℕ) → i < w → get_or (take (a + w - a) (drop a xs)) i z ≡ get_or xs (a + i) z
row_item z xs a w i h = get_or-take (a + w - a) (drop a xs) i z (omega arith) ∙ get_or-drop a xs i z

-- a call that cannot fail
pub succeeds : {X E : Type 0} (P Q : Type 0) (r : Result X E) → MatchResult r (λ _. P) (λ _. Q) → (Q → ⊥) → IsOk r
succeeds P Q (Ok x) w never = refl
succeeds P Q (Err e) w never = absurd (never w)

-- and one that has failed
pub fails : {X E : Type 0} (P : X → Type 0) (Q : Type 0) (r : Result X E) → IsErr r → Q → MatchResult r P (λ _. Q)
fails P Q (Ok x) h w = absurd (cc)
fails P Q (Err e) h w = w

-- What follows from the grounds for refusal. Assumes nothing.
use Rattle.std.proofs.Common.{◌≡◌, false, List, [], ◌∷◌, is_ok, Ok, Err, Result, ◌∙◌, inl, inr, ⊎_elim}
use Rattle.refusal.specs.Refusals.{Refusal}
use Rattle.refusal.specs.Grounds.{Ground, Clear, Told, Answers}

-- where no ground applies, none is told
pub clear_not_told : (gs : List Ground) (t : Refusal) → Clear gs → Told gs t → ⊥
clear_not_told [] t c told = told
clear_not_told (g ∷ gs) t c (inl w) = c.0 w.0
clear_not_told (g ∷ gs) t c (inr told) = clear_not_told gs t c.1 told.1

-- an answer by the same grounds, from which less follows
pub answers_weaker : {X E : Type 0} (gs : List Ground) (of : E → Refusal) (r : Result X E) {P P' : X → Type 0} {Q Q' : E → Type 0}
    → Answers gs of r P Q → ((x : X) → P x → P' x) → ((e : E) → Q e → Q' e) → Answers gs of r P' Q'
answers_weaker gs of (Ok x) h f g = (h.0, f x h.1)
answers_weaker gs of (Err e) h f g = (h.0, g e h.1)

-- an answer by grounds none of which applies is an answer by any other such grounds
pub answers_clear : {X E : Type 0} (gs gs' : List Ground) (of : E → Refusal) (r : Result X E) (P : X → Type 0) (Q : E → Type 0)
    → Clear gs → Clear gs' → Answers gs of r P Q → Answers gs' of r P Q
answers_clear gs gs' of (Ok x) P Q c c' h = (c', h.1)
answers_clear gs gs' of (Err e) P Q c c' h = absurd (clear_not_told gs (of e) c h.0)

-- an answer by grounds the first of which is replaced by one that applies where it did, and then tells the same
pub answers_first : {X E : Type 0} (g g' : Ground) (gs : List Ground) (of : E → Refusal) (r : Result X E) (P : X → Type 0) (Q : E → Type 0)
    → ((w : g.applies) → (w' : g'.applies) × (g.tells w ≡ g'.tells w')) → ((g.applies → ⊥) → g'.applies → ⊥)
    → Answers (g ∷ gs) of r P Q → Answers (g' ∷ gs) of r P Q
answers_first g g' gs of (Ok x) P Q same not h = ((not h.0.0, h.0.1), h.1)
answers_first g g' gs of (Err e) P Q same not h =
    (⊎_elim (λ w. inl ((same w.0).0, w.1 ∙ (same w.0).1)) (λ t. inr (not t.0, t.1)) h.0, h.1)

-- an answer that is no Ok, of which nothing has to follow
pub answers_refused : {X E : Type 0} (gs : List Ground) (of : E → Refusal) (r : Result X E) (P P' : X → Type 0) {Q Q' : E → Type 0}
    → is_ok r ≡ false → Answers gs of r P Q → ((e : E) → Q e → Q' e) → Answers gs of r P' Q'
answers_refused gs of (Ok x) P P' no_Ok h g = absurd (cc)
answers_refused gs of (Err e) P P' no_Ok h g = (h.0, g e h.1)

-- The first ground that applies, in a stated order, is told. Assumes nothing.
use Rattle.std.specs.Prelude.{◌≡◌, ◌⊎◌, List, [], ◌∷◌, Ok, Err, Result}
use Rattle.refusal.specs.Refusals.{Refusal}

-- a ground for refusal: when it applies, and what it then tells, which may depend on why it applies
pub record Ground : Type 1 where
  pub applies : Type 0
  pub tells : applies → Refusal

-- a ground that always tells the same
abbrev pub ground : Type 0 → Refusal → Ground
ground P t = record { applies = P; tells = λ _. t }

-- none of the grounds applies
abbrev pub Clear : List Ground → Type 0
Clear [] = Unit {0}
Clear (g ∷ gs) = (g.applies → ⊥) × Clear gs

-- t is what the first of the grounds that applies tells
abbrev pub Told : List Ground → Refusal → Type 0
Told [] t = ⊥
Told (g ∷ gs) t = ((w : g.applies) × (t ≡ g.tells w)) ⊎ ((g.applies → ⊥) × Told gs t)

-- what a call with these grounds answers: Ok exactly where none applies, and then P holds of the answer;
-- else the error tells the first that applies, and Q holds of it
abbrev pub Answers : {X E : Type 0} → List Ground → (E → Refusal) → Result X E → (X → Type 0) → (E → Type 0) → Type 0
Answers gs of (Ok x) P Q = Clear gs × P x
Answers gs of (Err e) P Q = Told gs (of e) × Q e

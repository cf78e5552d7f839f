-- The numbers from 0 on, as a list. Assumes nothing.
use Rattle.std.proofs.Common.{◌≡◌, ℕ, ◌<◌, ◌≤◌, List, [], ◌∷◌, length, get_or, take, ◌∙◌, arith, refl}
use Rattle.std.proofs.lemmas.Bool.Decides.{Decides-eqb}
use Rattle.std.proofs.lemmas.List.{get_or-take, length-take-le}
use Rattle.field.specs.Computed.{every, Decides-every}

abbrev pub first : List ℕ
first = 0 ∷ 1 ∷ 2 ∷ 3 ∷ 4 ∷ 5 ∷ 6 ∷ 7 ∷ 8 ∷ 9 ∷ 10 ∷ 11 ∷ 12 ∷ 13 ∷ 14 ∷ 15 ∷ []

itself : (i : ℕ) → i < 16 → get_or first i 0 ≡ i
unfolding every
itself = (Decides-every 16 (λ i. Decides-eqb (get_or first i 0) i)).0 refl

pub first_is : (k i : ℕ) → k ≤ 16 → i < k → get_or (take k first) i 0 ≡ i
first_is k i hk hi =
    get_or-take k first i 0 (omega arith) ∙ itself i (omega arith)

pub first_length : (k : ℕ) → k ≤ 16 → length (take k first) ≡ k
first_length k h = length-take-le k first (omega arith) ∙ omega arith

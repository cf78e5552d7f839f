-- Where a test first passes in a list of places, and how often. Only proofs, for a law: no contract cites it. Assumes nothing.
use Rattle.std.specs.Prelude.{◌≡◌, ℕ, zero, suc, ◌+◌, ◌<◌, ◌≤◌, min, Bool, true, false, cond, not, List, [], ◌∷◌, map, length, take, slice_index_or, count_by, refl}
use Rattle.std.proofs.Common.{sym, ap, ◌∙◌, arith, ⊎_elim}
use Rattle.std.specs.List.{range_with_len, position_or_len}
use Rattle.std.proofs.lemmas.Bool.{cases_lt, both_ways}
use Rattle.std.proofs.lemmas.List.Sums.{sum_by-cons, position_or_len_is, fails_before_first}
use Rattle.std.proofs.lemmas.List.FromFn.{length-map-range_with_len, get_or-map-range_with_len}
use Rattle.image.specs.Places.{Place}

pub position-take : (p : Place → Bool) (e : ℕ) (ss : List Place) → e ≤ length ss → position_or_len p (take e ss) ≡ min e (position_or_len p ss)
position-take p zero ss le = omega arith
position-take p (suc e) (s ∷ ss) le =
    let h = position-take p e ss (omega arith) in
    elim (p s) as (λ b. cond (not b) (1 + position_or_len p (take e ss)) 0 ≡ min (suc e) (cond (not b) (1 + position_or_len p ss) 0)) [ true ↦ omega arith | false ↦ omega arith ]
position-take p (suc e) [] le = omega arith

-- no place before the position passes, so one that passes is at it or after it
pub position_upto : (p : Place → Bool) (ss : List Place) (e : ℕ) (d : Place) → p (slice_index_or ss e d) ≡ true → position_or_len p ss ≤ e
position_upto p ss e d y =
    ⊎_elim (λ (lt : e < position_or_len p ss). absurd (both_ways _ (fails_before_first p ss e d lt) y)) (λ (le : position_or_len p ss ≤ e). le) (cases_lt e (position_or_len p ss))

-- where some place passes, the search finds one
pub count_some : (p : Place → Bool) (ss : List Place) → 0 < count_by p ss → position_or_len p ss < length ss
count_some p [] lt = absurd (omega arith)
count_some p (s ∷ ss) lt = by_cases (p s) (let c = sum_by-cons (λ x. cond (p x) 1 0) s ss in omega arith) (count_some p ss)
  where
    by_cases : (b : Bool) → 0 < cond b 1 0 + count_by p ss → (0 < count_by p ss → position_or_len p ss < length ss) → cond (not b) (1 + position_or_len p ss) 0 < suc (length ss)
    by_cases true l h = omega arith
    by_cases false l h = let k = h (omega arith) in omega arith

-- the position is where the test first passes
pub position_is : (f : ℕ → Place) (C : ℕ) (p : Place → Bool) (m : ℕ) → m ≤ C → ((k : ℕ) → k < m → p (f k) ≡ false) → (m < C → p (f m) ≡ true)
    → m ≡ position_or_len p (map f (range_with_len 0 C))
position_is f C p m le h y =
    let l = length-map-range_with_len f 0 C in
    sym (position_or_len_is p (map f (range_with_len 0 C)) m (f m) (omega arith)
    (λ k lt. ap p (get_or-map-range_with_len f 0 C k k (f m) (omega arith) (omega arith)) ∙ h k lt)
    (λ lt. ap p (get_or-map-range_with_len f 0 C m m (f m) (omega arith) (omega arith)) ∙ y (omega arith)))

-- a test of what a function gives
pub position-map : {X : Type 0} (p : X → Bool) (f : ℕ → X) (ks : List ℕ) → position_or_len (λ k. p (f k)) ks ≡ position_or_len p (map f ks)
position-map p f [] = refl
position-map p f (k ∷ ks) = ap (λ n. cond (not (p (f k))) (1 + n) 0) (position-map p f ks)

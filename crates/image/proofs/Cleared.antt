-- States of a sled set to 0: the sled is emptied. Assumes nothing.
use Rattle.std.proofs.Common.{◌≡◌, ℕ, zero, suc, ◌+◌, ◌-◌, ◌*◌, ◌<◌, ◌≤◌, true, cond, List, [], ◌∷◌, reverse, length, take, sym, refl, ap, ◌∙◌, ap₂, ⊎_elim, arith}
use Rattle.std.specs.List.{AllByRecursion, count_by, position_or_len}
use Rattle.std.proofs.ByRecursion.{All-from_get_or}
use Rattle.std.proofs.lemmas.List.FromFn.{length-map-range_with_len, get_or-map-range_with_len}
use Rattle.std.proofs.lemmas.Bool.{cases_eq}
use Rattle.std.proofs.lemmas.List.Sums.{sum_by-cons}
use Rattle.bank.specs.Calls.{emptied}
use Rattle.image.specs.declared.layout.Layout.{Layout}
use Rattle.image.specs.declared.layout.Layout.TheVariants.{Tray, Zone}
use Rattle.image.specs.Places.{Place, is_free, with_place, with_places, shares_of}
use Rattle.image.specs.Layouts.{place_at, places, log, sled_of, freed_below, blanked_places, sled_after_blank}
use Rattle.image.specs.Positions.{position_is}
use Rattle.image.specs.Gathered.{unsound}
use Rattle.image.specs.Laid.{length-freed, freed_here, freed_other}

module _ (l : Layout) (C : ℕ) (bytes : List ℕ) (whole : length bytes ≡ C * 1040) where
  pub length-freed_below : (n : ℕ) → n ≤ C → length (freed_below l C n bytes) ≡ length bytes
  length-freed_below zero le = refl
  length-freed_below (suc n) le =
      let h = length-freed_below n (omega arith) in
      length-freed l C (freed_below l C n bytes) (h ∙ whole) n (omega arith) ∙ h

  -- the places below n are free then
  free-below : (n k : ℕ) → n ≤ C → k < n → is_free (place_at l C (freed_below l C n bytes) k) ≡ true
  free-below zero k le lt = absurd (omega arith)
  free-below (suc n) k le lt =
      let w = length-freed_below n (omega arith) ∙ whole in
      ⊎_elim
      (λ (q : k ≡ n). ap (λ j. is_free (place_at l C (freed_below l C (suc n) bytes) j)) q ∙ freed_here l C (freed_below l C n bytes) w n (omega arith))
      (λ (ne : k ≡ n → ⊥). ap is_free (freed_other l C (freed_below l C n bytes) w n (omega arith) k (omega arith) ne) ∙ free-below n k (omega arith) (omega arith))
      (cases_eq k n)

-- free places hold nothing, and all of them are room
all_free : (ps : List Place) → AllByRecursion (λ p. is_free p ≡ true) ps → (shares_of ps ≡ []) × (count_by is_free ps ≡ length ps)
all_free [] h = (refl, refl)
all_free (p ∷ ps) h =
    let rest = all_free ps h.1 in
    let none : with_place [] p ≡ [] = rw (unsound p h.0) in
    (ap (λ xs. with_places xs ps) none ∙ rest.0, sum_by-cons (λ q. cond (is_free q) 1 0) p ps ∙ ap (λ b. cond b 1 0 + count_by is_free ps) h.0 ∙ omega arith)

-- how many states are set to 0 is within the number of places
pub blanked_within : (l : Layout) (C : ℕ) → 1 ≤ C → blanked_places l C ≤ C
blanked_within Tray C some = omega arith
blanked_within Zone C some = some

-- a blank empties the sled
pub blank_empties : (l : Layout) (C : ℕ) (bytes : List ℕ) → length bytes ≡ C * 1040 → 1 ≤ C → sled_of l C (sled_after_blank l C bytes) ≡ emptied (sled_of l C bytes)
blank_empties Tray C bytes whole some =
    let after = sled_after_blank Tray C bytes in
    let all = length-map-range_with_len (place_at Tray C after) 0 C in
    let free = all_free (places Tray C after)
    (All-from_get_or (λ p. is_free p ≡ true) (places Tray C after) (place_at Tray C after 0)
    (λ k lt.
    ap is_free (get_or-map-range_with_len (place_at Tray C after) 0 C k k (place_at Tray C after 0) (omega arith) (omega arith))
    ∙ free-below Tray C bytes whole C k (omega arith) (omega arith))) in
    ap₂ (λ xs r. record { shares = xs; room = r; size = C }) free.0 (free.1 ∙ all)
blank_empties Zone C bytes whole some =
    let after = sled_after_blank Zone C bytes in
    let all = length-map-range_with_len (place_at Zone C after) 0 C in
    let first : 0 ≡ position_or_len is_free (places Zone C after) =
    position_is (place_at Zone C after) C is_free 0 (omega arith) (λ k lt. absurd (omega arith)) (λ lt. free-below Zone C bytes whole 1 0 (omega arith) (omega arith)) in
    let none : log (places Zone C after) ≡ [] = ap (λ n. take n (places Zone C after)) (sym first) in
    ap₂ (λ xs r. record { shares = xs; room = r; size = C }) (ap (λ ps. shares_of (reverse ps)) none)
    (ap (λ ps. length (places Zone C after) - length ps) none ∙ omega arith)

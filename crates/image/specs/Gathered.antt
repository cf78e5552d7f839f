-- The shares that a list of places holds. Only proofs, for a law: no contract cites it. Assumes nothing.
use Rattle.std.specs.Prelude.{◌≡◌, ℕ, suc, ◌+◌, ◌^◌, ◌<◌, ◌≤◌, min, Bool, true, false, cond, not, ◌&&◌, ltb, List, [], ◌∷◌, ◌++◌, map, length, take, is_some, Some, None, Option, ◌==◌, nat_lt, slice_index_or, refl}
use Rattle.std.proofs.Common.{sym, ap, subst, ◌∙◌, ⊎_elim, arith}
use Rattle.std.specs.List.{range_with_len, AllByRecursion, count_by, position_or_len}
use Rattle.std.proofs.lemmas.List.FromFn.{length-map-range_with_len, get_or-map-range_with_len}
use Rattle.std.proofs.lemmas.Bool.{eqb-true, and_parts, both_ways, lt-ltb, le-ltb, cases_lt}
use Rattle.std.proofs.lemmas.Bool.Decides.{nat_tests}
use Rattle.std.proofs.lemmas.List.Sums.{sum_by-cons}
use Rattle.std.proofs.lemmas.List.{length_push, length-take, take_more}
use Rattle.image.specs.Positions.{position-take, position_upto}
use Rattle.std.proofs.ByRecursion.{All-take, All-push}
use Rattle.bank.specs.Meaning.{Share, lookup, keyed, Distinct, SoundShare}
use Rattle.image.specs.Scans.{counts}
use Rattle.image.specs.Places.{Place, with_places, with_place, is_sound, answers, is_free, share_of, payload_of}

-- the first of two that is there
abbrev pub or_else : {X : Type 0} → Option X → Option X → Option X
or_else None y = y
or_else (Some x) y = Some x

-- the payload of the first sound place under an id and a number
abbrev pub pick : ℕ → ℕ → List Place → Option (List ℕ)
pick i n [] = None
pick i n (s ∷ ss) = cond (answers i n s) (Some (payload_of s)) (pick i n ss)

pub with_places-append : (xs : List Share) (ss ts : List Place) → with_places xs (ss ++ ts) ≡ with_places (with_places xs ss) ts
with_places-append xs [] ts = refl
with_places-append xs (s ∷ ss) ts = with_places-append (with_place xs s) ss ts

lookup-append : (xs ys : List Share) (i n : ℕ) → lookup (xs ++ ys) i n ≡ or_else (lookup xs i n) (lookup ys i n)
lookup-append [] ys i n = refl
lookup-append (x ∷ xs) ys i n =
    let h = lookup-append xs ys i n in
    elim (keyed x i n) as (λ b. cond b (Some x.payload) (lookup (xs ++ ys) i n) ≡ or_else (cond b (Some x.payload) (lookup xs i n)) (lookup ys i n)) [ true ↦ refl | false ↦ h ]

or_else-assoc : {X : Type 0} (a b c : Option X) → or_else (or_else a b) c ≡ or_else a (or_else b c)
or_else-assoc None b c = refl
or_else-assoc (Some x) b c = refl

or_else-none : {X : Type 0} (a : Option X) → or_else a None ≡ a
or_else-none None = refl
or_else-none (Some x) = refl

-- what one more place adds to the lookups
lookup-add : (xs : List Share) (s : Place) (i n : ℕ) → lookup (with_place xs s) i n ≡ or_else (lookup xs i n) (cond (answers i n s) (Some (payload_of s)) None)
lookup-add xs s i n = by_cases (is_sound s) refl (lookup xs s.id s.number) refl
  where
    -- the share at hand has the id and number that are looked up, or another
    key_is : (b : Bool) → (s.id == i) && (s.number == n) ≡ b → cond b (lookup xs s.id s.number ≡ lookup xs i n) (Unit {0})
    key_is true e = let h = and_parts (s.id == i) (s.number == n) e in
        let p = eqb-true s.id i h.0 in let q = eqb-true s.number n h.1 in cc
    key_is false e = tt

    kept : (p : List ℕ) → lookup xs s.id s.number ≡ Some p → (b : Bool) → (s.id == i) && (s.number == n) ≡ b → lookup xs i n ≡ or_else (lookup xs i n) (cond b (Some (payload_of s)) None)
    kept p eo true e = rw (sym (key_is true e) ∙ eo)
    kept p eo false e = sym (or_else-none (lookup xs i n))

    by_cases : (b : Bool) → is_sound s ≡ b → (o : Option (List ℕ)) → lookup xs s.id s.number ≡ o
        → lookup (with_place xs s) i n ≡ or_else (lookup xs i n) (cond (answers i n s) (Some (payload_of s)) None)
    by_cases true eb None eo = rw (eb, eo) (lookup-append xs (share_of s ∷ []) i n ∙ ap (or_else (lookup xs i n)) (grind (arith, nat_tests)))
    by_cases true eb (Some p) eo = rw (eb, eo) (kept p eo _ (grind (arith, nat_tests)))
    by_cases false eb o eo = rw eb (sym (or_else-none (lookup xs i n)) ∙ ap (or_else (lookup xs i n)) (grind (arith, nat_tests)))

pub lookup-with_places : (xs : List Share) (ss : List Place) (i n : ℕ) → lookup (with_places xs ss) i n ≡ or_else (lookup xs i n) (pick i n ss)
lookup-with_places xs [] i n = sym (or_else-none (lookup xs i n))
lookup-with_places xs (s ∷ ss) i n =
    lookup-with_places (with_place xs s) ss i n ∙ ap (λ o. or_else o (pick i n ss)) (lookup-add xs s i n)
    ∙ or_else-assoc (lookup xs i n) (cond (answers i n s) (Some (payload_of s)) None) (pick i n ss)
    ∙ ap (or_else (lookup xs i n)) (elim (answers i n s) as (λ b. or_else (cond b (Some (payload_of s)) None) (pick i n ss) ≡ cond b (Some (payload_of s)) (pick i n ss)) [ true ↦ refl | false ↦ refl ])

distinct_push : (xs : List Share) (x : Share) → Distinct xs → lookup xs x.id x.number ≡ None → Distinct (xs ++ x ∷ [])
distinct_push [] x d e = (refl, tt)
distinct_push (y ∷ ys) x d e = by_cases (keyed y x.id x.number) refl (distinct_push ys x d.1)
  where
    by_cases : (b : Bool) → keyed y x.id x.number ≡ b → (lookup ys x.id x.number ≡ None → Distinct (ys ++ x ∷ [])) → Distinct (y ∷ (ys ++ x ∷ []))
    by_cases true eb h = absurd (let z : ◌≡◌ {A = ℕ} 0 1 = grind arith in omega arith)
    by_cases false eb h = (lookup-append ys (x ∷ []) y.id y.number ∙ grind (arith, nat_tests), h (grind arith))

distinct_add : (xs : List Share) (s : Place) → Distinct xs → Distinct (with_place xs s)
distinct_add xs s d = by_cases (is_sound s) refl (lookup xs s.id s.number) refl
  where
    by_cases : (b : Bool) → is_sound s ≡ b → (o : Option (List ℕ)) → lookup xs s.id s.number ≡ o → Distinct (with_place xs s)
    by_cases true eb None eo = rw (eb, eo) (distinct_push xs (share_of s) d eo)
    by_cases true eb (Some p) eo = rw (eb, eo) d
    by_cases false eb o eo = rw eb d

pub distinct_with_places : (xs : List Share) (ss : List Place) → Distinct xs → Distinct (with_places xs ss)
distinct_with_places xs [] d = d
distinct_with_places xs (s ∷ ss) d = distinct_with_places (with_place xs s) ss (distinct_add xs s d)

-- a sound place is not free
pub used : (s : Place) → is_sound s ≡ true → is_free s ≡ false
used s e = grind (arith, nat_tests)

pub few_with_places : (xs : List Share) (ss : List Place) → count_by is_free ss + length (with_places xs ss) ≤ length ss + length xs
few_with_places xs [] = omega arith
few_with_places xs (s ∷ ss) = by_cases (is_sound s) refl (is_some (lookup xs s.id s.number)) refl (few_with_places (with_place xs s) ss)
  where
    free_first : count_by is_free (s ∷ ss) ≡ cond (is_free s) 1 0 + count_by is_free ss
    free_first = sum_by-cons (λ p. cond (is_free p) 1 0) s ss

    by_cases : (b : Bool) → is_sound s ≡ b → (o : Bool) → is_some (lookup xs s.id s.number) ≡ o → count_by is_free ss + length (with_places (with_place xs s) ss) ≤ length ss + length (with_place xs s)
        → count_by is_free (s ∷ ss) + length (with_places xs (s ∷ ss)) ≤ length (s ∷ ss) + length xs
    by_cases true eb true eo h = let e : length (with_place xs s) ≡ length xs = rw (eb, eo) in rw free_first (grind (arith, nat_tests))
    by_cases true eb false eo h = let e : length (with_place xs s) ≡ length xs + 1 = rw (eb, eo) (length_push xs (share_of s)) in let f = used s eb in rw free_first (grind (arith, nat_tests))
    by_cases false eb o eo h = let e : length (with_place xs s) ≡ length xs = rw eb in rw free_first (grind (arith, nat_tests))

-- the payload that is picked lies where the search ends
pub pick_found : (i n : ℕ) (ss : List Place) (d : Place) → position_or_len (answers i n) ss < length ss → pick i n ss ≡ Some (payload_of (slice_index_or ss (position_or_len (answers i n) ss) d))
pick_found i n [] d lt = absurd (omega arith)
pick_found i n (s ∷ ss) d lt = by_cases (answers i n s) lt (pick_found i n ss d)
  where
    by_cases : (b : Bool) → cond (not b) (1 + position_or_len (answers i n) ss) 0 < suc (length ss)
        → (position_or_len (answers i n) ss < length ss → pick i n ss ≡ Some (payload_of (slice_index_or ss (position_or_len (answers i n) ss) d)))
        → cond b (Some (payload_of s)) (pick i n ss) ≡ Some (payload_of (slice_index_or (s ∷ ss) (cond (not b) (1 + position_or_len (answers i n) ss) 0) d))
    by_cases true l h = refl
    by_cases false l h =
        subst (λ k. pick i n ss ≡ Some (payload_of (slice_index_or (s ∷ ss) k d))) (let z : suc (position_or_len (answers i n) ss) ≡ 1 + position_or_len (answers i n) ss = omega arith in z)
        (h (omega arith))

pub pick_none : (i n : ℕ) (ss : List Place) → length ss ≤ position_or_len (answers i n) ss → pick i n ss ≡ None
pick_none i n [] le = refl
pick_none i n (s ∷ ss) le = by_cases (answers i n s) le (pick_none i n ss)
  where
    by_cases : (b : Bool) → suc (length ss) ≤ cond (not b) (1 + position_or_len (answers i n) ss) 0 → (length ss ≤ position_or_len (answers i n) ss → pick i n ss ≡ None)
        → cond b (Some (payload_of s)) (pick i n ss) ≡ None
    by_cases true l h = absurd (omega arith)
    by_cases false l h = h (omega arith)

pub pick-append : (i n : ℕ) (ss ts : List Place) → pick i n (ss ++ ts) ≡ or_else (pick i n ss) (pick i n ts)
pick-append i n [] ts = refl
pick-append i n (s ∷ ss) ts =
    let h = pick-append i n ss ts in
    elim (answers i n s) as (λ b. cond b (Some (payload_of s)) (pick i n (ss ++ ts)) ≡ or_else (cond b (Some (payload_of s)) (pick i n ss)) (pick i n ts)) [ true ↦ refl | false ↦ h ]

-- the shares of these places, by what is picked
pub lookup-places : (ss : List Place) (i n : ℕ) → lookup (with_places [] ss) i n ≡ pick i n ss
lookup-places ss i n = lookup-with_places [] ss i n

-- two lists of shares have the same ids and numbers, but for one
abbrev Alike : ℕ → ℕ → List Share → List Share → Type 0
Alike i n xs ys = (j m : ℕ) → ((j ≡ i) × (m ≡ n) → ⊥) → is_some (lookup xs j m) ≡ is_some (lookup ys j m)

alike_add : (i n : ℕ) (xs ys : List Share) (s : Place) → answers i n s ≡ false → Alike i n xs ys → Alike i n (with_place xs s) (with_place ys s)
alike_add i n xs ys s no' h j m ne =
    ap is_some (lookup-add xs s j m) ∙ some-else (lookup xs j m) (lookup ys j m) (cond (answers j m s) (Some (payload_of s)) None) (h j m ne) ∙ sym (ap is_some (lookup-add ys s j m))
  where
    some-else : (a b c : Option (List ℕ)) → is_some a ≡ is_some b → is_some (or_else a c) ≡ is_some (or_else b c)
    some-else None None c e = refl
    some-else None (Some y) c e = cc
    some-else (Some x) None c e = cc
    some-else (Some x) (Some y) c e = refl

length-add : (xs : List Share) (s : Place) → length (with_place xs s) ≡ length xs + cond (is_sound s && not (is_some (lookup xs s.id s.number))) 1 0
length-add xs s =
    elim (is_sound s && not (is_some (lookup xs s.id s.number))) as (λ b. length (cond b (xs ++ share_of s ∷ []) xs) ≡ length xs + cond b 1 0)
    [ true ↦ length_push xs (share_of s) | false ↦ omega arith ]

-- a place with another id or number, or not sound, is added to both or to none
grows_alike : (i n : ℕ) (xs ys : List Share) (s : Place) → answers i n s ≡ false → Alike i n xs ys
    → (is_sound s && not (is_some (lookup xs s.id s.number))) ≡ (is_sound s && not (is_some (lookup ys s.id s.number)))
grows_alike i n xs ys s no' h = by_cases (is_sound s) refl
  where
    by_cases : (b : Bool) → is_sound s ≡ b → (is_sound s && not (is_some (lookup xs s.id s.number))) ≡ (is_sound s && not (is_some (lookup ys s.id s.number)))
    by_cases true eb = ap (λ b. is_sound s && not b) (h s.id s.number (λ e. let p = e.0 in let q = e.1 in let z : answers i n s ≡ true = grind (arith, nat_tests) in both_ways (answers i n s) no' z))
    by_cases false eb = rw eb

first_fails : (b : Bool) (x : List ℕ) (o : Option (List ℕ)) → cond b (Some x) o ≡ None → (b ≡ false) × (o ≡ None)
first_fails true x o e = absurd (let z : ◌≡◌ {A = ℕ} 0 1 = cc in omega arith)
first_fails false x o e = (refl, e)

-- so they grow in step
pub in_step : (i n : ℕ) (xs ys : List Share) (ss : List Place) → pick i n ss ≡ None → Alike i n xs ys → length (with_places xs ss) + length ys ≡ length (with_places ys ss) + length xs
in_step i n xs ys [] none' h = omega arith
in_step i n xs ys (s ∷ ss) none' h =
    let f = first_fails (answers i n s) (payload_of s) (pick i n ss) none' in
    let g = in_step i n (with_place xs s) (with_place ys s) ss f.1 (alike_add i n xs ys s f.0 h) in
    let b : ◌≡◌ {A = ℕ} (cond (is_sound s && not (is_some (lookup xs s.id s.number))) 1 0) (cond (is_sound s && not (is_some (lookup ys s.id s.number))) 1 0)
    = ap (λ b. cond b 1 0) (grows_alike i n xs ys s f.0 h) in
    omega (arith, length-add xs s, length-add ys s)

-- a free place is not sound
pub unsound : (s : Place) → is_free s ≡ true → is_sound s ≡ false
unsound s e = grind (arith, nat_tests)

else_none : {X : Type 0} (a b : Option X) → or_else a b ≡ None → (a ≡ None) × (b ≡ None)
else_none None b e = (refl, e)
else_none (Some x) b e = absurd (let z : ◌≡◌ {A = ℕ} 0 1 = cc in omega arith)

not_keyed : (x : Share) (j m : ℕ) → ((j ≡ x.id) × (m ≡ x.number) → ⊥) → keyed x j m ≡ false
not_keyed x j m ne = by_cases (keyed x j m) refl
  where
    by_cases : (b : Bool) → keyed x j m ≡ b → keyed x j m ≡ false
    by_cases true e = let p = and_parts (x.id == j) (x.number == m) e in absurd (ne (sym (eqb-true x.id j p.0), sym (eqb-true x.number m p.1)))
    by_cases false e = e

-- a free place holds nothing
pub skip_free : (pre post : List Place) (old : Place) → is_free old ≡ true → with_places [] (pre ++ old ∷ post) ≡ with_places [] (pre ++ post)
skip_free pre post old was_free =
    let none' : with_place (with_places [] pre) old ≡ with_places [] pre = rw (unsound old was_free) in
    with_places-append [] pre (old ∷ post) ∙ ap (λ xs. with_places xs post) none' ∙ sym (with_places-append [] pre post)

-- a sound place comes in between others, none of which has its id and number
module _ (pre post : List Place) (new : Place) (sound-new : is_sound new ≡ true) (absent : pick new.id new.number (pre ++ post) ≡ None) where
  absent-parts : (pick new.id new.number pre ≡ None) × (pick new.id new.number post ≡ None)
  absent-parts =
      else_none (pick new.id new.number pre) (pick new.id new.number post) (sym (pick-append new.id new.number pre post) ∙ absent)

  new-answers : answers new.id new.number new ≡ true
  new-answers = rw sound-new (grind (arith, nat_tests))

  pub new_here : lookup (with_places [] (pre ++ new ∷ post)) new.id new.number ≡ Some (payload_of new)
  new_here =
      lookup-places (pre ++ new ∷ post) new.id new.number ∙ pick-append new.id new.number pre (new ∷ post)
      ∙ ap (λ o. or_else o (pick new.id new.number (new ∷ post))) absent-parts.0
      ∙ ap (λ b. cond b (Some (payload_of new)) (pick new.id new.number post)) new-answers

  pub new_others : (j m : ℕ) → ((j ≡ new.id) × (m ≡ new.number) → ⊥) → lookup (with_places [] (pre ++ new ∷ post)) j m ≡ lookup (with_places [] (pre ++ post)) j m
  new_others j m ne =
      lookup-places (pre ++ new ∷ post) j m ∙ pick-append j m pre (new ∷ post)
      ∙ ap (or_else (pick j m pre)) (ap (λ b. cond b (Some (payload_of new)) (pick j m post)) (other (answers j m new) refl))
      ∙ sym (lookup-places (pre ++ post) j m ∙ pick-append j m pre post)
    where
      other : (b : Bool) → answers j m new ≡ b → answers j m new ≡ false
      other true e =
          let p = and_parts (new.id == j) (new.number == m && is_sound new) e in
          let q = and_parts (new.number == m) (is_sound new) p.1 in
          absurd (ne (sym (eqb-true new.id j p.0), sym (eqb-true new.number m q.0)))
      other false e = e

  pub new_count : length (with_places [] (pre ++ new ∷ post)) ≡ length (with_places [] (pre ++ post)) + 1
  new_count =
      let with_new : with_place (with_places [] pre) new ≡ with_places [] pre ++ share_of new ∷ [] = rw (sound-new, lookup-places pre new.id new.number ∙ absent-parts.0) in
      let a : with_places [] (pre ++ new ∷ post) ≡ with_places (with_places [] pre ++ share_of new ∷ []) post = with_places-append [] pre (new ∷ post) ∙ ap (λ xs. with_places xs post) with_new in
      let b : with_places [] (pre ++ post) ≡ with_places (with_places [] pre) post = with_places-append [] pre post in
      let s = in_step new.id new.number (with_places [] pre ++ share_of new ∷ []) (with_places [] pre) post absent-parts.1 alike in
      omega (arith, length_push (with_places [] pre) (share_of new), ap length a, ap length b)
    where
      alike : Alike new.id new.number (with_places [] pre ++ share_of new ∷ []) (with_places [] pre)
      alike j m ne = ap is_some (lookup-append (with_places [] pre) (share_of new ∷ []) j m ∙ ap (λ b. or_else (lookup (with_places [] pre) j m) (cond b (Some (payload_of new)) None)) (not_keyed (share_of new) j m ne) ∙ or_else-none (lookup (with_places [] pre) j m))

-- what is asked of the bytes of a place for its share to be a sound one
pub record Typed (s : Place) : Type 0 where
  pub id_fits : s.id < 2 ^ 32
  pub long : length s.cell ≡ 1024
  pub bytes : AllByRecursion (λ b. b < 256) s.cell

sound_share : (s : Place) → Typed s → is_sound s ≡ true → SoundShare (share_of s)
sound_share s t e =
    let n : s.number < 32 = grind (arith, nat_tests) in
    let l : 1 ≤ s.len = grind (arith, nat_tests) in
    let u : s.len ≤ 1024 = grind (arith, nat_tests) in
    let k = length-take s.len s.cell in
    record { id_fits = t.id_fits; number_fits = n; sized = record { some = omega (arith, t.long); fits = omega arith }; bytes = All-take (λ b. b < 256) s.len s.cell t.bytes }

all_add : (xs : List Share) (s : Place) → Typed s → AllByRecursion SoundShare xs → AllByRecursion SoundShare (with_place xs s)
all_add xs s t h = by_cases (is_sound s) refl (is_some (lookup xs s.id s.number)) refl
  where
    by_cases : (b : Bool) → is_sound s ≡ b → (o : Bool) → is_some (lookup xs s.id s.number) ≡ o → AllByRecursion SoundShare (with_place xs s)
    by_cases true eb true eo = rw (eb, eo) h
    by_cases true eb false eo = rw (eb, eo) (All-push SoundShare xs (share_of s) h (sound_share s t eb))
    by_cases false eb o eo = rw eb h

pub all_with_places : (xs : List Share) (ss : List Place) → AllByRecursion Typed ss → AllByRecursion SoundShare xs → AllByRecursion SoundShare (with_places xs ss)
all_with_places xs [] t h = h
all_with_places xs (s ∷ ss) t h = all_with_places (with_place xs s) ss t.1 (all_add xs s t.0 h)

some_pick : (i n : ℕ) (ss : List Place) (d : Place) → is_some (pick i n ss) ≡ nat_lt (position_or_len (answers i n) ss) (length ss)
some_pick i n ss d = ⊎_elim
    (λ (lt : position_or_len (answers i n) ss < length ss). ap is_some (pick_found i n ss d lt) ∙ sym (lt-ltb _ _ lt))
    (λ (le : length ss ≤ position_or_len (answers i n) ss). ap is_some (pick_none i n ss le) ∙ sym (le-ltb _ _ le))
    (cases_lt (position_or_len (answers i n) ss) (length ss))

-- a place is added where it is the first under its id and number
counts_is : (ss : List Place) (e : ℕ) (s : Place) → e < length ss → slice_index_or ss e s ≡ s
    → (is_sound s && not (is_some (lookup (with_places [] (take e ss)) s.id s.number))) ≡ counts ss e s
counts_is ss e s lt at = by_cases (is_sound s) refl
  where
    a : is_some (lookup (with_places [] (take e ss)) s.id s.number) ≡ nat_lt (min e (position_or_len (answers s.id s.number) ss)) e
    a = ap is_some (lookup-places (take e ss) s.id s.number) ∙ some_pick s.id s.number (take e ss) s
        ∙ ap (λ n. ltb n (length (take e ss))) (position-take (answers s.id s.number) e ss (omega arith))
        ∙ ap (ltb (min e (position_or_len (answers s.id s.number) ss))) (length-take e ss ∙ (let z : min e (length ss) ≡ e = omega arith in z))

    by_cases : (b : Bool) → is_sound s ≡ b → (is_sound s && not (is_some (lookup (with_places [] (take e ss)) s.id s.number))) ≡ counts ss e s
    by_cases true eb =
        let y : answers s.id s.number s ≡ true = rw eb (grind (arith, nat_tests)) in
        let u = position_upto (answers s.id s.number) ss e s (ap (answers s.id s.number) at ∙ y) in
        rw eb (ap not a ∙ upto (position_or_len (answers s.id s.number) ss) u)
      where
        upto : (p : ℕ) → p ≤ e → not (nat_lt (min e p) e) ≡ (p == e)
        upto p le = grind (arith, nat_tests)
    by_cases false eb = rw eb

with_places_more : (ss : List Place) (e : ℕ) (s : Place) → e < length ss → slice_index_or ss e s ≡ s → length (with_places [] (take (e + 1) ss)) ≡ length (with_places [] (take e ss)) + cond (counts ss e s) 1 0
with_places_more ss e s lt at =
    ap (λ ts. length (with_places [] ts)) (take_more ss e s lt ∙ ap (λ t. take e ss ++ t ∷ []) at)
    ∙ ap length (with_places-append [] (take e ss) (s ∷ [])) ∙ length-add (with_places [] (take e ss)) s
    ∙ ap (λ b. length (with_places [] (take e ss)) + cond b 1 0) (counts_is ss e s lt at)

-- one turn more of a list that is given by a function of the turn
pub scan_step : (f : ℕ → Place) (n j : ℕ) → j < n → length (with_places [] (take (j + 1) (map f (range_with_len 0 n))))
    ≡ length (with_places [] (take j (map f (range_with_len 0 n)))) + cond (counts (map f (range_with_len 0 n)) j (f j)) 1 0
scan_step f n j lt =
    let l = length-map-range_with_len f 0 n in
    with_places_more (map f (range_with_len 0 n)) j (f j) (omega arith) (get_or-map-range_with_len f 0 n j j (f j) lt (omega arith))

-- The places of a sled, how they are looked through, and what those that are seen hold. Assumes nothing.
use Rattle.std.proofs.Common.{◌≡◌, ℕ, zero, suc, ◌+◌, ◌-◌, ◌<◌, ◌≤◌, cond, Bool, not, eqb, ltb, List, [], ◌∷◌, ◌++◌, map, reverse, length, get_or, take, drop, Some, None, Option, unwrap_or, zero-add, sym, refl, ap, ap₂, ◌∙◌, subst, ⊎_elim, arith}
use Rattle.std.specs.Prelude.{count_by, position}
use Rattle.std.specs.List.{between, range_with_len, position_or_len}
use Rattle.std.specs.Option.{option_eq}
use Rattle.std.specs.Array.{IsFirstChunk}
use Rattle.std.proofs.lemmas.List.{same_lists, length-map, length-reverse, get_or-reverse, length-take, get_or-take, take_all}
use Rattle.std.proofs.Common.{map-id}
use Rattle.std.proofs.lemmas.List.Folds.{fold-map}
use Rattle.std.proofs.lemmas.List.Sums.{sum_by-append, prefix_len-le-length}
use Rattle.std.proofs.lemmas.List.FromFn.{length-map-range_with_len, get_or-map-range_with_len, map-range_with_len_more}
use Rattle.std.proofs.lemmas.Bool.{cases_lt, lt-ltb, le-ltb}
use Rattle.std.proofs.lemmas.Bool.Decides.{nat_tests}
use Rattle.bank.specs.Meaning.{held, count, lookup}
use Rattle.image.specs.declared.sled.Sled.{Sled as SledBytes}
use Rattle.image.specs.declared.layout.Layout.{Layout}
use Rattle.image.specs.declared.layout.Layout.TheVariants.{Tray, Zone}
use Rattle.image.specs.Places.{Place, answers, is_free, payload_of, shares_of}
use Rattle.image.specs.Layouts.{places, place_at, seen, room_of, sled_of}
use Rattle.image.specs.Scans.{seen_count, turn, scan, counts}
use Rattle.image.specs.Sleds.{place_in, places_in, seen_in, turns_in, free_in, answers_in, counts_in, meaning_of}
use Rattle.image.specs.Positions.{position-map}
use Rattle.image.specs.Gathered.{pick, lookup-places, pick_found, pick_none, scan_step}

-- the first n bytes of those from a place on up to n further on are these
pub chunk_at : (bytes part : List ℕ) (at here n : ℕ) → at ≡ here → IsFirstChunk (between at (at + n) bytes) part n → part ≡ between here (here + n) bytes
chunk_at bytes part at here n e h =
    h.same
    ∙ take_all n (between at (at + n) bytes) (let l = length-take (at + n - at) (drop at bytes) in omega arith)
    ∙ ap (λ i. between i (i + n) bytes) e

module _ {X : Type 0} (p : X → Bool) where
  module _ (xs : List X) where
    -- a search that finds, and one that does not
    pub position_some : position_or_len p xs < length xs → position p xs ≡ Some (position_or_len p xs)
    position_some lt = ap (λ b. cond b (Some (position_or_len p xs)) None) (lt-ltb _ _ lt)

    position_none : length xs ≤ position_or_len p xs → position p xs ≡ None
    position_none le = ap (λ b. cond b (Some (position_or_len p xs)) None) (le-ltb _ _ le)

    pub position_found : (j : ℕ) → position p xs ≡ Some j → (j ≡ position_or_len p xs) × (j < length xs)
    position_found j e =
        ⊎_elim
        (λ (lt : position_or_len p xs < length xs). let s = position_some lt in let q : j ≡ position_or_len p xs = cc in (q, omega arith))
        (λ (le : length xs ≤ position_or_len p xs). let s = position_none le in let z : ⊥ = cc in absurd z)
        (cases_lt (position_or_len p xs) (length xs))

    pub position_missed : position p xs ≡ None → length xs ≤ position_or_len p xs
    position_missed e =
        ⊎_elim
        (λ (lt : position_or_len p xs < length xs). let s = position_some lt in let z : ⊥ = cc in absurd z)
        (λ (le : length xs ≤ position_or_len p xs). le)
        (cases_lt (position_or_len p xs) (length xs))

    pub position_or : unwrap_or (position p xs) (length xs) ≡ position_or_len p xs
    position_or =
        ⊎_elim
        (λ (lt : position_or_len p xs < length xs). ap (λ o. unwrap_or o (length xs)) (position_some lt))
        (λ (le : length xs ≤ position_or_len p xs). ap (λ o. unwrap_or o (length xs)) (position_none le) ∙ (let w = prefix_len-le-length (λ x. not (p x)) xs in omega arith))
        (cases_lt (position_or_len p xs) (length xs))

    -- whether a search ends at j, which is an index
    pub position_at : (j : ℕ) → j < length xs → option_eq eqb (position p xs) (Some j) ≡ eqb (position_or_len p xs) j
    position_at j lt =
        ⊎_elim
        (λ (some : position_or_len p xs < length xs). ap (λ o. option_eq eqb o (Some j)) (position_some some))
        (λ (le : length xs ≤ position_or_len p xs). ap (λ o. option_eq eqb o (Some j)) (position_none le) ∙ grind (arith, nat_tests))
        (cases_lt (position_or_len p xs) (length xs))

  -- a search and a count over what a function gives
  module _ (f : ℕ → X) (ks : List ℕ) where
    pub position_of_map : position (λ k. p (f k)) ks ≡ position p (map f ks)
    position_of_map = ap₂ (λ n l. cond (ltb n l) (Some n) None) (position-map p f ks) (sym (length-map ks f))

    pub count_of_map : count_by (λ k. p (f k)) ks ≡ count_by p (map f ks)
    count_of_map = sym (fold-map (λ n x. n + cond (p x) 1 0) f 0 ks)

-- the first n of C things that are given by a function, the last one first
backwards : (f : ℕ → Place) (C n : ℕ) → n ≤ C → map (λ j. f (n - 1 - j)) (range_with_len 0 n) ≡ reverse (take n (map f (range_with_len 0 C)))
backwards f C n le =
    let all = length-map-range_with_len f 0 C in
    let some = length-take n (map f (range_with_len 0 C)) in
    let back = length-reverse (take n (map f (range_with_len 0 C))) in
    let turns = length-map-range_with_len (λ j. f (n - 1 - j)) 0 n in
    same_lists (map (λ j. f (n - 1 - j)) (range_with_len 0 n)) (reverse (take n (map f (range_with_len 0 C)))) (omega arith)
    (λ k d lt.
    let m : length (take n (map f (range_with_len 0 C))) - 1 - k ≡ n - 1 - k = omega arith in
    get_or-map-range_with_len (λ j. f (n - 1 - j)) 0 n k k d (omega arith) (omega arith)
    ∙ sym (get_or-map-range_with_len f 0 C (n - 1 - k) (n - 1 - k) d (omega arith) (omega arith))
    ∙ sym (get_or-take n (map f (range_with_len 0 C)) (n - 1 - k) d (omega arith))
    ∙ ap (λ i. get_or (take n (map f (range_with_len 0 C))) i d) (sym m)
    ∙ sym (get_or-reverse (take n (map f (range_with_len 0 C))) k d (omega arith)))

module _ (l : Layout) (C : ℕ) (bytes : List ℕ) where
  pub length-places : length (places l C bytes) ≡ C
  length-places = length-map-range_with_len (place_at l C bytes) 0 C

  -- the first free place is none past the last
  pub free_within : position_or_len is_free (places l C bytes) ≤ C
  free_within = let h = prefix_len-le-length (λ p. not (is_free p)) (places l C bytes) in let all = length-places in omega arith

-- the places in the order of their turns are those that are seen
scan_is : (l : Layout) (C : ℕ) (bytes : List ℕ) → scan l C bytes (seen_count l C bytes) ≡ seen l (places l C bytes)
scan_is Tray C bytes = refl
scan_is Zone C bytes = backwards (place_at Zone C bytes) C (position_or_len is_free (places Zone C bytes)) (free_within Zone C bytes)

-- the numbers up to m, and m
one_more : (m : ℕ) → range_with_len 0 (m + 1) ≡ range_with_len 0 m ++ m ∷ []
one_more m =
    sym (map-id (range_with_len 0 (m + 1))) ∙ map-range_with_len_more (λ k. k) 0 m m (omega arith) ∙ ap (λ ks. ks ++ m ∷ []) (map-id (range_with_len 0 m))

-- how many of the first m places in turn count is how many shares these hold
counted : (f : ℕ → Place) (n m : ℕ) → m ≤ n
    → count_by (λ j. counts (map f (range_with_len 0 n)) j (f j)) (range_with_len 0 m) ≡ length (shares_of (take m (map f (range_with_len 0 n))))
counted f n zero le = refl
counted f n (suc m) le =
    let ps = map f (range_with_len 0 n) in
    let more : suc m ≡ m + 1 = omega arith in
    ap (λ k. count_by (λ j. counts ps j (f j)) (range_with_len 0 k)) more
    ∙ ap (count_by (λ j. counts ps j (f j))) (one_more m)
    ∙ sum_by-append (λ j. cond (counts ps j (f j)) 1 0) (range_with_len 0 m) (m ∷ [])
    ∙ ap₂ (λ a b. a + b) (counted f n m (omega arith)) (zero-add (cond (counts ps m (f m)) 1 0))
    ∙ sym (scan_step f n m (omega arith))
    ∙ ap (λ k. length (shares_of (take k ps))) (sym more)

module _ (l : Layout) (C : ℕ) (bytes : List ℕ) (n : ℕ) where
  abbrev at_turn : ℕ → Place
  at_turn j = place_at l C bytes (turn l n j)

  abbrev turns : List Place
  turns = scan l C bytes n

  pub length-turns : length (scan l C bytes n) ≡ n
  length-turns = length-map-range_with_len at_turn 0 n

  module _ (is : n ≡ seen_count l C bytes) where
    -- these places hold what the sled holds
    seen_is : scan l C bytes n ≡ seen l (places l C bytes)
    seen_is = ap (scan l C bytes) is ∙ scan_is l C bytes

    -- how many of them count is how many shares the sled holds
    count_is : count_by (λ j. counts (scan l C bytes n) j (place_at l C bytes (turn l n j))) (range_with_len 0 n) ≡ length (sled_of l C bytes).shares
    count_is = counted at_turn n n (omega arith) ∙ ap (λ ps. length (shares_of ps)) (take_all n turns (let w = length-turns in omega arith) ∙ seen_is)

    held_is : (id k : ℕ) → pick id k turns ≡ held (sled_of l C bytes) id k
    held_is id k = sym (lookup-places turns id k) ∙ ap (λ ps. lookup (shares_of ps) id k) seen_is

    -- a search that ends at a place, whose payload is held
    pub found_payload : (j id k : ℕ) → position (answers id k) (scan l C bytes n) ≡ Some j → Some (payload_of (place_at l C bytes (turn l n j))) ≡ held (sled_of l C bytes) id k
    found_payload j id k at =
        let f = position_found (answers id k) turns j at in
        let w = length-turns in
        ap (λ p. Some (payload_of p)) (sym (get_or-map-range_with_len at_turn 0 n j j (at_turn j) (omega arith) (omega arith)))
        ∙ ap (λ i. Some (payload_of (get_or turns i (at_turn j)))) f.0
        ∙ sym (pick_found id k turns (at_turn j) (omega arith))
        ∙ held_is id k

    -- a search that ends past the last place: nothing is held
    pub found_nothing : (id k : ℕ) → position (answers id k) (scan l C bytes n) ≡ None → None ≡ held (sled_of l C bytes) id k
    found_nothing id k at = sym (pick_none id k turns (position_missed (answers id k) turns at)) ∙ held_is id k

-- the room of a tray
tray_room : (l : Layout) (C : ℕ) (bytes : List ℕ) → l ≡ Tray → count_by is_free (places l C bytes) ≡ room_of l (places l C bytes)
tray_room l C bytes e = subst (λ k. count_by is_free (places k C bytes) ≡ room_of k (places k C bytes)) (sym e) refl

-- the room of a zone
pub zone_room : (l : Layout) (C n : ℕ) (bytes : List ℕ) → l ≡ Zone → n ≡ position_or_len is_free (places l C bytes) → C - n ≡ room_of l (places l C bytes)
zone_room l C n bytes e at =
    ap (λ m. C - m) at ∙ subst (λ k. C - position_or_len is_free (places k C bytes) ≡ room_of k (places k C bytes)) (sym e)
    (let all = length-places Zone C bytes in
    let within = free_within Zone C bytes in
    let some = length-take (position_or_len is_free (places Zone C bytes)) (places Zone C bytes) in
    omega arith)

-- what the searches and counts over a sled's places give
module _ (s : SledBytes) where
  first_free_is : position (free_in s) (range_with_len 0 s.plan.cells) ≡ position is_free (places_in s)
  unfolding free_in
  first_free_is = position_of_map is_free (place_in s) (range_with_len 0 s.plan.cells)

  pub first_free_there : (o : Option ℕ) → o ≡ position (free_in s) (range_with_len 0 s.plan.cells) → position_or_len is_free (places_in s) < s.plan.cells → o ≡ Some (position_or_len is_free (places_in s))
  first_free_there o e lt = e ∙ first_free_is ∙ position_some is_free (places_in s) (let all = length-places s.plan.layout s.plan.cells s.bytes.now in omega arith)

  pub log_len_is : unwrap_or (position (free_in s) (range_with_len 0 s.plan.cells)) s.plan.cells ≡ position_or_len is_free (places_in s)
  log_len_is =
      ap₂ unwrap_or first_free_is (sym (length-places s.plan.layout s.plan.cells s.bytes.now)) ∙ position_or is_free (places_in s)

  pub tray_room_is : s.plan.layout ≡ Tray → count_by (free_in s) (range_with_len 0 s.plan.cells) ≡ (meaning_of s).room
  unfolding free_in
  tray_room_is tray =
      count_of_map is_free (place_in s) (range_with_len 0 s.plan.cells) ∙ tray_room s.plan.layout s.plan.cells s.bytes.now tray

  pub find_turn_is : (n id k : ℕ) → position (answers_in s n id k) (range_with_len 0 n) ≡ position (answers id k) (turns_in s n)
  unfolding answers_in
  find_turn_is n id k = position_of_map (answers id k) (λ j. place_in s (turn s.plan.layout n j)) (range_with_len 0 n)

  pub counts_are : (n : ℕ) → n ≡ seen_in s → count_by (counts_in s n) (range_with_len 0 n) ≡ count (meaning_of s)
  unfolding counts_in
  counts_are n is = count_is s.plan.layout s.plan.cells s.bytes.now n is

-- A share put to the first free place of a sled: the sled has one share more. Assumes nothing.
use Rattle.std.proofs.Common.{◌≡◌, ℕ, suc, ◌+◌, ◌-◌, ◌*◌, ◌^◌, ◌<◌, ◌≤◌, Bool, true, false, cond, ◌&&◌, ltb, List, [], ◌∷◌, ◌++◌, map, reverse, length, get_or, take, drop, set, Some, None, sym, refl, ap, ◌∙◌, subst, ⊎_elim, arith}
use lib.Seq.{split_at}
use Rattle.std.specs.List.{between, range_with_len, count_by, position_or_len, fold}
use Rattle.std.proofs.lemmas.List.{same_lists, take_at, reverse-append, length-set, set_split, get_or-set_same, get_or-set_other}
use Rattle.std.proofs.lemmas.List.Sums.{sum_by-cons, sum_by-append, passes_at_first, fails_before_first}
use Rattle.std.proofs.lemmas.Nat.{mod_below, from_le_bytes-to_le_bytes_2, from_le_bytes-to_le_bytes_4, from_le_bytes-to_le_bytes_8}
use Rattle.std.proofs.lemmas.List.FromFn.{length-map-range_with_len, get_or-map-range_with_len, take-map-range_with_len, map-range_with_len_more}
use Rattle.std.proofs.lemmas.Bool.{cases_eq, cond-true, cond-false, lt-ltb}
use Rattle.std.proofs.lemmas.Bool.Decides.{nat_tests}
use Rattle.bank.specs.Meaning.{Sled, held, lookup}
use Rattle.bank.specs.Calls.{Added}
use Rattle.image.specs.declared.layout.Layout.{Layout}
use Rattle.image.specs.declared.layout.Layout.TheVariants.{Tray, Zone}
use Rattle.image.specs.Fnv.{fnv, step}
use Rattle.image.specs.Places.{Place, place_of, entry_of, is_free, is_sound, payload_of, shares_of}
use Rattle.image.specs.Layouts.{cell_at, place_at, places, log, seen, sled_of, freed, written, frees_next, put_at}
use Rattle.image.specs.Positions.{position_is}
use Rattle.image.specs.Gathered.{pick, lookup-places, skip_free, new_here, new_others, new_count, used}
use Rattle.image.specs.Laid.{length-freed, freed_here, freed_other, length-written, written_here, written_other}

steps-below : (hash : ℕ) (bytes : List ℕ) → hash < 2 ^ 64 → fold step hash bytes < 2 ^ 64
steps-below hash [] h = h
steps-below hash (b ∷ bs) h = steps-below (step hash b) bs (mod_below _ (2 ^ 64) (omega arith))

fnv-below : (bytes : List ℕ) → fnv bytes < 2 ^ 64
unfolding fnv
fnv-below bytes = steps-below 0xCBF29CE484222325 bytes (omega arith)

-- the place of a share: what its entry says, and a cell that begins with its payload
abbrev new_place : ℕ → ℕ → List ℕ → List ℕ → Place
new_place id n payload cell =
    record { state = 1; number = n; len = length payload; id = id; check = fnv payload; cell = payload ++ drop (length payload) cell }

place_new : (id n : ℕ) (payload cell : List ℕ) → length payload ≤ 1024 → id < 2 ^ 32
    → place_of (entry_of id n payload) (payload ++ drop (length payload) cell) ≡ new_place id n payload cell
place_new id n payload cell short fits =
    let a = from_le_bytes-to_le_bytes_2 (length payload) (omega arith) in
    let b = from_le_bytes-to_le_bytes_4 id fits in
    let d = from_le_bytes-to_le_bytes_8 (fnv payload) (fnv-below payload) in
    cc

new_sound : (id n : ℕ) (payload cell : List ℕ) → 1 ≤ length payload → length payload ≤ 1024 → n < 32
    → (payload_of (new_place id n payload cell) ≡ payload) × (is_sound (new_place id n payload cell) ≡ true)
new_sound id n payload cell some short low =
    let e = take_at payload (drop (length payload) cell) (length payload) refl in (e, rw e (grind (arith, nat_tests)))

-- a new place comes in among the places that are seen
record ComesIn (before after : List Place) (new : Place) : Type 0 where
  pre : List Place
  post : List Place
  was : shares_of before ≡ shares_of (pre ++ post)
  is : after ≡ pre ++ new ∷ post

-- a sled whose seen places gain a sound one has one share more
gains : (before after : List Place) (new : Place) (s t : Sled) (payload : List ℕ) → s.shares ≡ shares_of before → t.shares ≡ shares_of after
    → ComesIn before after new → payload_of new ≡ payload → is_sound new ≡ true → held s new.id new.number ≡ None
    → t.room + 1 ≡ s.room → t.size ≡ s.size → Added s t new.id new.number payload
gains before after new s t payload hs ht c bytes sound absent rooms sizes =
    let s-is : s.shares ≡ shares_of (c.pre ++ c.post) = hs ∙ c.was in
    let t-is : t.shares ≡ shares_of (c.pre ++ new ∷ c.post) = ht ∙ ap shares_of c.is in
    let none : pick new.id new.number (c.pre ++ c.post) ≡ None =
    sym (lookup-places (c.pre ++ c.post) new.id new.number) ∙ ap (λ xs. lookup xs new.id new.number) (sym s-is) ∙ absent in
    record {
      here = ap (λ xs. lookup xs new.id new.number) t-is ∙ new_here c.pre c.post new sound none ∙ ap Some bytes;
      others = λ i m ne. ap (λ xs. lookup xs i m) t-is ∙ new_others c.pre c.post new sound none i m ne ∙ ap (λ xs. lookup xs i m) (sym s-is);
      one_more = ap length t-is ∙ new_count c.pre c.post new sound none ∙ ap (λ xs. length xs + 1) (sym s-is);
      room_falls = rooms;
      same_size = sizes;
    }

-- a free place of a list becomes a sound one
module _ (ps : List Place) (e : ℕ) (new : Place) (within : e < length ps) (was_free : is_free (get_or ps e new) ≡ true) (sound : is_sound new ≡ true) where
  abbrev front : List Place
  front = take e ps

  abbrev back : List Place
  back = drop (suc e) ps

  set-comes-in : ComesIn ps (set ps e new) new
  set-comes-in =
      record {
        pre = front;
        post = back;
        was = ap shares_of (split_at ps e new within) ∙ skip_free front back (get_or ps e new) was_free;
        is = set_split ps e new within;
      }

  set_room : count_by is_free (set ps e new) + 1 ≡ count_by is_free ps
  set_room =
      let a = ap (count_by is_free) (set_split ps e new within) ∙ sum_by-append (λ p. cond (is_free p) 1 0) front (new ∷ back) in
      let b = ap (count_by is_free) (split_at ps e new within) ∙ sum_by-append (λ p. cond (is_free p) 1 0) front (get_or ps e new ∷ back) in
      let c : count_by is_free (new ∷ back) ≡ 0 + count_by is_free back = sum_by-cons (λ p. cond (is_free p) 1 0) new back ∙ ap (λ b. cond b 1 0 + count_by is_free back) (used new sound) in
      let d : count_by is_free (get_or ps e new ∷ back) ≡ 1 + count_by is_free back = sum_by-cons (λ p. cond (is_free p) 1 0) (get_or ps e new) back ∙ ap (λ b. cond b 1 0 + count_by is_free back) was_free in
      omega arith

-- lists that are given by functions which agree
same_map : (f g : ℕ → Place) (n : ℕ) → ((k : ℕ) → k < n → f k ≡ g k) → map f (range_with_len 0 n) ≡ map g (range_with_len 0 n)
same_map f g n h =
    let a = length-map-range_with_len f 0 n in
    let b = length-map-range_with_len g 0 n in
    same_lists (map f (range_with_len 0 n)) (map g (range_with_len 0 n)) (omega arith)
    (λ k d lt. get_or-map-range_with_len f 0 n k k d (omega arith) (omega arith) ∙ h k (omega arith) ∙ sym (get_or-map-range_with_len g 0 n k k d (omega arith) (omega arith)))

-- one value of a function changed
map-set : (f g : ℕ → Place) (C e : ℕ) → e < C → ((k : ℕ) → k < C → (k ≡ e → ⊥) → g k ≡ f k) → map g (range_with_len 0 C) ≡ set (map f (range_with_len 0 C)) e (g e)
map-set f g C e within h =
    let a = length-map-range_with_len f 0 C in
    let b = length-map-range_with_len g 0 C in
    same_lists (map g (range_with_len 0 C)) (set (map f (range_with_len 0 C)) e (g e)) (b ∙ sym a ∙ sym (length-set (map f (range_with_len 0 C)) e (g e)))
    (λ k d lt.
    get_or-map-range_with_len g 0 C k k d (omega arith) (omega arith)
    ∙ ⊎_elim
    (λ (q : k ≡ e). ap g q ∙ sym (ap (λ j. get_or (set (map f (range_with_len 0 C)) e (g e)) j d) q ∙ get_or-set_same (map f (range_with_len 0 C)) e (g e) d (omega arith)))
    (λ (ne : k ≡ e → ⊥). h k (omega arith) ne ∙ sym (get_or-set_other (map f (range_with_len 0 C)) e k (g e) d ne ∙ get_or-map-range_with_len f 0 C k k d (omega arith) (omega arith)))
    (cases_eq k e))

-- the first n of C places that are given by a function, where the first free one is n
log_is : (f : ℕ → Place) (C n : ℕ) → n ≤ C → n ≡ position_or_len is_free (map f (range_with_len 0 C)) → log (map f (range_with_len 0 C)) ≡ map f (range_with_len 0 n)
log_is f C n le at = ap (λ m. take m (map f (range_with_len 0 C))) (sym at) ∙ take-map-range_with_len f 0 C n le

-- a log that grows by one place
module _ (f g : ℕ → Place) (C e : ℕ) (within : e < C) (at : e ≡ position_or_len is_free (map f (range_with_len 0 C))) (below : (k : ℕ) → k < e → g k ≡ f k) (sound : is_sound (g e) ≡ true) (next : e + 1 < C → is_free (g (e + 1)) ≡ true) where
  log-end : e + 1 ≡ position_or_len is_free (map g (range_with_len 0 C))
  log-end =
      position_is g C is_free (e + 1) (omega arith)
      (λ k lt.
      ⊎_elim (λ (q : k ≡ e). ap (λ j. is_free (g j)) q ∙ used (g e) sound)
      (λ (ne : k ≡ e → ⊥).
      ap is_free (below k (omega arith) ∙ sym (get_or-map-range_with_len f 0 C k k (f 0) (omega arith) (omega arith)))
      ∙ fails_before_first is_free (map f (range_with_len 0 C)) k (f 0) (omega arith))
      (cases_eq k e))
      next

  log-grows : log (map g (range_with_len 0 C)) ≡ log (map f (range_with_len 0 C)) ++ g e ∷ []
  log-grows =
      log_is g C (e + 1) (omega arith) log-end
      ∙ map-range_with_len_more g 0 e e (omega arith)
      ∙ ap (λ ps. ps ++ g e ∷ []) (same_map g f e below ∙ sym (log_is f C e (omega arith) at))

  log-comes-in : ComesIn (reverse (log (map f (range_with_len 0 C)))) (reverse (log (map g (range_with_len 0 C)))) (g e)
  log-comes-in =
      record {
        pre = [];
        post = reverse (log (map f (range_with_len 0 C)));
        was = refl;
        is = ap reverse log-grows ∙ reverse-append (log (map f (range_with_len 0 C))) (g e ∷ []);
      }

  log-room : length (map g (range_with_len 0 C)) - length (log (map g (range_with_len 0 C))) + 1 ≡ length (map f (range_with_len 0 C)) - length (log (map f (range_with_len 0 C)))
  log-room =
      let a = length-map-range_with_len f 0 C in
      let b = length-map-range_with_len g 0 C in
      let u = ap length (log_is f C e (omega arith) at) ∙ length-map-range_with_len f 0 e in
      let v = ap length (log_is g C (e + 1) (omega arith) log-end) ∙ length-map-range_with_len g 0 (e + 1) in
      omega arith

-- the places of a sled after a put to place e
module _ (l : Layout) (C e id n : ℕ) (payload bytes : List ℕ) (whole : length bytes ≡ C * 1040) (within : e < C) (short : length payload ≤ 1024) (fits : id < 2 ^ 32) where
  abbrev base : List ℕ
  base = written l C e id n payload bytes

  abbrev after : List ℕ
  after = put_at l C e id n payload bytes

  abbrev old-cell : List ℕ
  old-cell = between (cell_at l C e) (cell_at l C e + 1024) bytes

  base-length : length base ≡ length bytes
  base-length = length-written l C bytes whole e id n payload within short

  base-whole : length base ≡ C * 1040
  base-whole = base-length ∙ whole

  base-here : place_at l C base e ≡ new_place id n payload old-cell
  base-here = written_here l C bytes whole e id n payload within short ∙ place_new id n payload old-cell short fits

  -- whether the next place is freed
  freed-next : (b : Bool) → frees_next l && ltb (e + 1) C ≡ b → cond b (after ≡ freed l C (e + 1) base) (after ≡ base)
  freed-next true h = cond-true (frees_next l && ltb (e + 1) C) (freed l C (e + 1) base) base h
  freed-next false h = cond-false (frees_next l && ltb (e + 1) C) (freed l C (e + 1) base) base h

  -- the next place is one of the sled where it is freed
  there : (x y : Bool) → x && y ≡ true → y ≡ true
  there true y h = h
  there false y h = let z : ◌≡◌ {A = ℕ} 0 1 = cc in absurd (omega arith)

  -- a put keeps the length
  pub length-put : length after ≡ length bytes
  length-put = by_cases (frees_next l && ltb (e + 1) C) refl
    where
      by_cases : (b : Bool) → frees_next l && ltb (e + 1) C ≡ b → length after ≡ length bytes
      by_cases true h =
          ap length (freed-next true h)
          ∙ length-freed l C base base-whole (e + 1) (let t = there (frees_next l) (ltb (e + 1) C) h in grind (arith, nat_tests))
          ∙ base-length
      by_cases false h = ap length (freed-next false h) ∙ base-length

  -- all places but the next are those that the write left
  after-other : (k : ℕ) → k < C → (k ≡ e + 1 → ⊥) → place_at l C after k ≡ place_at l C base k
  after-other k lt ne = by_cases (frees_next l && ltb (e + 1) C) refl
    where
      by_cases : (b : Bool) → frees_next l && ltb (e + 1) C ≡ b → place_at l C after k ≡ place_at l C base k
      by_cases true h =
          ap (λ bs. place_at l C bs k) (freed-next true h)
          ∙ freed_other l C base base-whole (e + 1) (let t = there (frees_next l) (ltb (e + 1) C) h in grind (arith, nat_tests)) k lt ne
      by_cases false h = ap (λ bs. place_at l C bs k) (freed-next false h)

  after-here : place_at l C after e ≡ new_place id n payload old-cell
  after-here = after-other e within (λ q. let z : ⊥ = omega arith in z) ∙ base-here

  after-before : (k : ℕ) → k < e → place_at l C after k ≡ place_at l C bytes k
  after-before k lt =
      after-other k (omega arith) (λ q. let z : ⊥ = omega arith in z)
      ∙ written_other l C bytes whole e id n payload within short k (omega arith) (λ q. let z : ⊥ = omega arith in z)

  after_next : frees_next l ≡ true → e + 1 < C → is_free (place_at l C after (e + 1)) ≡ true
  after_next f lt =
      let h : frees_next l && ltb (e + 1) C ≡ true = ap (λ b. b && ltb (e + 1) C) f ∙ lt-ltb (e + 1) C lt in
      ap (λ bs. is_free (place_at l C bs (e + 1))) (freed-next true h) ∙ freed_here l C base base-whole (e + 1) lt

-- a put to the first free place adds the share
pub put_added : (l : Layout) (C e id n : ℕ) (payload bytes : List ℕ) → length bytes ≡ C * 1040 → e ≡ position_or_len is_free (places l C bytes) → e < C
    → 1 ≤ length payload → length payload ≤ 1024 → n < 32 → id < 2 ^ 32 → held (sled_of l C bytes) id n ≡ None
    → Added (sled_of l C bytes) (sled_of l C (put_at l C e id n payload bytes)) id n payload
put_added Tray C e id n payload bytes whole at within some short low fits absent =
    let cell = between (cell_at Tray C e) (cell_at Tray C e + 1024) bytes in
    let new = new_place id n payload cell in
    let ok = new_sound id n payload cell some short low in
    let ps = places Tray C bytes in
    let all = length-map-range_with_len (place_at Tray C bytes) 0 C in
    let bytes' = written Tray C e id n payload bytes in
    let is : places Tray C bytes' ≡ set ps e new =
    map-set (place_at Tray C bytes) (place_at Tray C bytes') C e within (λ k lt ne. written_other Tray C bytes whole e id n payload within short k lt ne)
    ∙ ap (set ps e) (base-here Tray C e id n payload bytes whole within short fits) in
    let free : is_free (get_or ps e new) ≡ true = ap (λ k. is_free (get_or ps k new)) at ∙ passes_at_first is_free ps new (omega arith) in
    gains ps (places Tray C bytes') new (sled_of Tray C bytes) (sled_of Tray C bytes') payload refl refl
    (subst (λ qs. ComesIn ps qs new) (sym is) (set-comes-in ps e new (omega arith) free ok.1))
    ok.0 ok.1 absent (ap (λ qs. count_by is_free qs + 1) is ∙ set_room ps e new (omega arith) free ok.1) refl
put_added Zone C e id n payload bytes whole at within some short low fits absent =
    let cell = between (cell_at Zone C e) (cell_at Zone C e + 1024) bytes in
    let new = new_place id n payload cell in
    let ok = new_sound id n payload cell some short low in
    let bytes' = put_at Zone C e id n payload bytes in
    let here : place_at Zone C bytes' e ≡ new = after-here Zone C e id n payload bytes whole within short fits in
    let sound : is_sound (place_at Zone C bytes' e) ≡ true = ap is_sound here ∙ ok.1 in
    let below : (k : ℕ) → k < e → place_at Zone C bytes' k ≡ place_at Zone C bytes k = after-before Zone C e id n payload bytes whole within short fits in
    let next : e + 1 < C → is_free (place_at Zone C bytes' (e + 1)) ≡ true = after_next Zone C e id n payload bytes whole within short fits refl in
    gains (seen Zone (places Zone C bytes)) (seen Zone (places Zone C bytes')) new (sled_of Zone C bytes) (sled_of Zone C bytes') payload refl refl
    (subst (ComesIn (seen Zone (places Zone C bytes)) (seen Zone (places Zone C bytes'))) here
    (log-comes-in (place_at Zone C bytes) (place_at Zone C bytes') C e within at below sound next))
    ok.0 ok.1 absent (log-room (place_at Zone C bytes) (place_at Zone C bytes') C e within at below sound next) refl

-- The sleds of two racks in one row. Only proofs, for a law: no contract cites it. Assumes nothing.
use Rattle.std.specs.Prelude.{◌≡◌, ℕ, ◌+◌, ◌-◌, ◌<◌, ◌≤◌, min, Bool, true, false, cond, List, ◌++◌, length, Some, None, Option, Result, ◌≢◌, nat_lt, refl}
use Rattle.std.proofs.Common.{sym, ap, subst, ◌∙◌, arith, ltb-true, ltb-false}
use Rattle.std.proofs.ByRecursion.{All-take, All-append}
use Rattle.std.proofs.lemmas.List.{length-take, length-append, get_or-take, get_or_append_left, get_or-append_right, get_or_past}
use Rattle.refusal.specs.declared.Fault.{Fault}
use Rattle.bank.specs.declared.join.Side.{Side}
use Rattle.bank.specs.declared.join.Side.TheVariants.{First, Second}
use Rattle.bank.specs.Meaning.{Rack, no_sled, sled_at, Sound, SoundSled}
use Rattle.bank.specs.Calls.{Fetches, Puts, Blanks, OnlyAt}
use Rattle.bank.specs.Layers.{joined}
use Rattle.bank.specs.Below.{side_among, side_of, sled_on, BySide, no_such_sled, FetchesBySide, ChangesBySide, PutsBySide, BlanksBySide}
use Rattle.bank.specs.Alike.{Same, fetch_same, put_same, blank_same, fetch_nowhere, put_nowhere, blank_nowhere}

pub length-joined : (a b : Rack) → length (joined a b) ≡ min (length a + length b) 32
length-joined a b = let e = length-take 32 (a ++ b) in let f = length-append a b in omega arith

pub sound_joined : (a b : Rack) → Sound a → Sound b → Sound (joined a b)
sound_joined a b h k =
    let e = length-joined a b in
    record {
      some = omega (arith, h.some);
      at_most = omega arith;
      sound_sleds = All-take SoundSled 32 (a ++ b) (All-append SoundSled a b h.sound_sleds k.sound_sleds);
    }

-- what stands at each number
at_first : (a b : Rack) (k : ℕ) → length a ≤ 32 → k < length a → sled_at (joined a b) k ≡ sled_at a k
at_first a b k le lt = get_or-take 32 (a ++ b) k no_sled (omega arith) ∙ get_or_append_left a b no_sled k lt

at_second : (a b : Rack) (k : ℕ) → length a ≤ k → k < 32 → sled_at (joined a b) k ≡ sled_at b (k - length a)
at_second a b k le lt = get_or-take 32 (a ++ b) k no_sled lt ∙ get_or-append_right a b (length a) k no_sled refl le

-- the three ways in which a sled lies
module _ (a b : Rack) (sled : ℕ) (C : Option Side → Type 0) (first : sled < length a → C (Some (First sled)))
    (second : length a ≤ sled → sled < length (joined a b) → C (Some (Second (sled - length a)))) (nowhere : length (joined a b) ≤ sled → C None) where
  past_first : length a ≤ sled → (t : Bool) → nat_lt sled (min (length a + length b) 32) ≡ t → C (cond t (Some (Second (sled - length a))) None)
  past_first ge true e = let l = length-joined a b in second ge (omega (arith, ltb-true, e))
  past_first ge false e = let l = length-joined a b in nowhere (omega (arith, ltb-false, e))

  pub ways : C (side_of a b sled)
  ways = by_first (nat_lt sled (length a)) refl where
    by_first : (t : Bool) → nat_lt sled (length a) ≡ t → C (cond t (Some (First sled)) (cond (nat_lt sled (min (length a + length b) 32)) (Some (Second (sled - length a))) None))
    by_first true e = first (omega (arith, ltb-true, e))
    by_first false e = past_first (omega (arith, ltb-false, e)) (nat_lt sled (min (length a + length b) 32)) refl

same_sled : (a b : Rack) → length a ≤ 32 → (sled : ℕ) → sled_at (joined a b) sled ≡ sled_on (side_of a b sled) a b
same_sled a b few sled =
    let l = length-joined a b in
    ways a b sled (λ s. sled_at (joined a b) sled ≡ sled_on s a b)
    (at_first a b sled few) (λ ge lt. at_second a b sled ge (omega arith)) (get_or_past (joined a b) sled no_sled)

pub sled_by_side : (a b : Rack) → length a ≤ 32 → (sled : ℕ) {side : Option Side} → side ≡ side_of a b sled → sled_at (joined a b) sled ≡ sled_on side a b
sled_by_side a b few sled e = same_sled a b few sled ∙ ap (λ s. sled_on s a b) (sym e)

-- only one sled of the joined rack changes where no other of the two racks does
only_joined : (a a' b b' : Rack) (sled : ℕ) → length a ≤ 32 → length a' ≡ length a → length b' ≡ length b
    → ((k : ℕ) → (k ≢ sled) → sled_on (side_of a b k) a' b' ≡ sled_on (side_of a b k) a b) → OnlyAt (joined a b) (joined a' b') sled
only_joined a a' b b' sled few la lb others =
    record {
      same_length = length-joined a' b' ∙ ap (λ m. min (m + length b') 32) la ∙ ap (λ m. min (length a + m) 32) lb ∙ sym (length-joined a b);
      elsewhere = λ k ne. same_sled a' b' (omega arith) k ∙ ap (λ m. sled_on (side_among m (min (m + length b') 32) k) a' b') la
          ∙ ap (λ m. sled_on (side_among (length a) (min (length a + m) 32) k) a' b') lb ∙ others k ne ∙ sym (same_sled a b few k);
    }

-- one sled of the joined rack and of one of the two
module _ (a a' b b' : Rack) (sled : ℕ) (few : length a ≤ 32) where
  first-same : sled < length a → b' ≡ b → Same a a' sled (joined a b) (joined a' b') sled
  first-same lt e =
      let l = length-joined a b in
      record {
        alike = record { missing = λ w. absurd (omega arith); no_more = λ w. omega arith };
        before = at_first a b sled few lt;
        only = λ o. only_joined a a' b b' sled few o.same_length (ap length e)
            (λ k ne. ways a b k (λ s. sled_on s a' b' ≡ sled_on s a b) (λ _. o.elsewhere k ne) (λ _ _. ap (λ x. sled_at x (k - length a)) e) (λ _. refl));
        then = λ o. let la = o.same_length in at_first a' b' sled (omega arith) (omega arith);
        untouched = λ u. cc;
      }

  second-same : length a ≤ sled → sled < length (joined a b) → a' ≡ a → Same b b' (sled - length a) (joined a b) (joined a' b') sled
  second-same ge lt e =
      let l = length-joined a b in
      record {
        alike = record { missing = λ w. absurd (omega arith); no_more = λ w. omega arith };
        before = at_second a b sled ge (omega arith);
        only = λ o. only_joined a a' b b' sled few (ap length e) o.same_length
            (λ k ne. ways a b k (λ s. sled_on s a' b' ≡ sled_on s a b) (λ _. ap (λ x. sled_at x k) e)
            (λ ge' _. o.elsewhere (k - length a) (λ q. ne (omega arith))) (λ _. refl));
        then = λ o. subst (λ x. sled_at (joined x b') sled ≡ sled_at b' (sled - length a)) (sym e) (at_second a b' sled ge (omega arith));
        untouched = λ u. cc;
      }

pub fetch_joined : (a b : Rack) → length a ≤ 32 → {sled id n : ℕ} {was now : List ℕ} {r : Result ℕ Fault}
    → FetchesBySide a b sled id n was now r → Fetches (joined a b) sled id n was now r
fetch_joined a b few {sled} {id} {n} {was} {now} {r} =
    ways a b sled
    (λ s. BySide s (λ k. Fetches a k id n was now r) (λ k. Fetches b k id n was now r) ((r ≡ no_such_sled sled) × (now ≡ was))
    → Fetches (joined a b) sled id n was now r)
    (λ lt h. fetch_same (first-same a a b b sled few lt refl) h)
    (λ ge lt h. fetch_same (second-same a a b b sled few ge lt refl) h)
    (λ past h. fetch_nowhere past h.0 h.1)

-- a call that changes a rack, from what it answers on one
changes_joined : (Call : Rack → Rack → ℕ → Type 0) (Bad : Type 0) (a a' b b' : Rack) (sled : ℕ) → length a ≤ 32
    → ((rack after : Rack) (k : ℕ) → Same rack after k (joined a b) (joined a' b') sled → Call rack after k → Call (joined a b) (joined a' b') sled)
    → (length (joined a b) ≤ sled → Bad → joined a' b' ≡ joined a b → Call (joined a b) (joined a' b') sled)
    → ChangesBySide Call Bad a a' b b' sled → Call (joined a b) (joined a' b') sled
changes_joined Call Bad a a' b b' sled few on-side nowhere =
    ways a b sled
    (λ s. BySide s (λ k. Call a a' k × (b' ≡ b)) (λ k. Call b b' k × (a' ≡ a)) (Bad × (a' ≡ a) × (b' ≡ b)) → Call (joined a b) (joined a' b') sled)
    (λ lt h. on-side a a' sled (first-same a a' b b' sled few lt h.1) h.0)
    (λ ge lt h. on-side b b' (sled - length a) (second-same a a' b b' sled few ge lt h.1) h.0)
    (λ past h. nowhere past h.0 (let x = h.1 in let y = h.2 in cc))

module _ (a a' b b' : Rack) (few : length a ≤ 32) where
  pub put_joined : {sled id n : ℕ} {payload : List ℕ} {r : Result (Unit {0}) Fault}
      → PutsBySide a a' b b' sled id n payload r → Puts (joined a b) (joined a' b') sled id n payload r
  put_joined {sled} {id} {n} {payload} {r} =
      changes_joined (λ before after k. Puts before after k id n payload r) (r ≡ no_such_sled sled) a a' b b' sled few
      (λ _ _ _ same h. put_same same h) (λ past e u. put_nowhere past e u)

  pub blank_joined : {sled : ℕ} {r : Result (Unit {0}) Fault} → BlanksBySide a a' b b' sled r → Blanks (joined a b) (joined a' b') sled r
  blank_joined {sled} {r} =
      changes_joined (λ before after k. Blanks before after k r) (r ≡ no_such_sled sled) a a' b b' sled few
      (λ _ _ _ same h. blank_same same h) (λ past e u. blank_nowhere past e u)

-- A rack whose sleds are under quotas. Only proofs, for a law: no contract cites it. Assumes nothing.
use Rattle.std.specs.Prelude.{◌≡◌, ℕ, zero, suc, ◌-◌, ◌<◌, ◌≤◌, min, Bool, List, [], ◌∷◌, length, is_some, Result, ◌≢◌, refl}
use Rattle.std.proofs.Common.{sym, ap, subst, ◌∙◌, inl, inr, arith}
use Rattle.std.specs.List.{AllByRecursion}
use Rattle.refusal.specs.declared.Fault.{Fault}
use Rattle.refusal.specs.Refusals.{refusal_of}
use Rattle.refusal.specs.Grounds.{Clear}
use Rattle.refusal.proofs.Grounds.{answers_weaker, answers_clear, answers_refused}
use Rattle.bank.specs.Meaning.{Rack, Sled, no_sled, sled_at, held, Sound, SoundSled}
use Rattle.bank.specs.Calls.{Fetches, Puts, Put, Blanks, Blanked, Added, OnlyAt, emptied, put_checks, put_grounds}
use Rattle.bank.specs.Layers.{under, limited}
use Rattle.bank.specs.Below.{PutsUnder}
use Rattle.bank.specs.Alike.{Alike, fetch_alike, blank_alike}

pub length-limited : (q : ℕ → ℕ) (rack : Rack) → length (limited q rack) ≡ length rack
length-limited q [] = refl
length-limited q (s ∷ rest) = ap suc (length-limited (λ k. q (suc k)) rest)

under_none : (q : ℕ) → no_sled ≡ under q no_sled
under_none q =
    let r : 0 ≡ min 0 (q - 0) = omega arith in
    let z : 0 ≡ min q 0 = omega arith in
    cc

pub sled_at-limited : (q : ℕ → ℕ) (rack : Rack) (k : ℕ) → sled_at (limited q rack) k ≡ under (q k) (sled_at rack k)
sled_at-limited q [] k = under_none (q k)
sled_at-limited q (s ∷ rest) zero = refl
sled_at-limited q (s ∷ rest) (suc k) = sled_at-limited (λ j. q (suc j)) rest k

-- the rack keeps its bounds
sound_under : (q : ℕ) (s : Sled) → SoundSled s → SoundSled (under q s)
sound_under q s h = record { distinct = h.distinct; sound_shares = h.sound_shares; few = omega arith; small = omega arith }

all_limited : (q : ℕ → ℕ) (rack : Rack) → AllByRecursion SoundSled rack → AllByRecursion SoundSled (limited q rack)
all_limited q [] h = h
all_limited q (s ∷ rest) h = (sound_under (q 0) s h.0, all_limited (λ k. q (suc k)) rest h.1)

pub sound_limited : (q : ℕ → ℕ) (rack : Rack) → Sound rack → Sound (limited q rack)
sound_limited q rack h =
    let e = length-limited q rack in
    record { some = omega arith; at_most = omega arith; sound_sleds = all_limited q rack h.sound_sleds }

-- a sled below stands for the sled of the same number
alike_limited : (q : ℕ → ℕ) (rack : Rack) (sled : ℕ) → Alike rack sled (limited q rack) sled
alike_limited q rack sled =
    let e = length-limited q rack in
    record { missing = λ w. (omega arith, refl); no_more = λ w. omega arith }

pub fetch_limited : (q : ℕ → ℕ) {rack : Rack} {sled id n : ℕ} {was now : List ℕ} {r : Result ℕ Fault}
    → Fetches rack sled id n was now r → Fetches (limited q rack) sled id n was now r
fetch_limited q {rack} {sled} {id} {n} = fetch_alike (alike_limited q rack sled) (ap (λ s. held s id n) (sled_at-limited q rack sled))

only_limited : (q : ℕ → ℕ) (before after : Rack) (sled : ℕ) → OnlyAt before after sled → OnlyAt (limited q before) (limited q after) sled
only_limited q before after sled h =
    record {
      same_length = length-limited q after ∙ h.same_length ∙ sym (length-limited q before);
      elsewhere = λ k ne. sled_at-limited q after k ∙ ap (under (q k)) (h.elsewhere k ne) ∙ sym (sled_at-limited q before k);
    }

-- a sled that is emptied below is emptied under its quota
emptied-under : (q : ℕ) (s : Sled) → under q (emptied s) ≡ emptied (under q s)
emptied-under q s =
    let e : min s.size (q - 0) ≡ min q s.size = omega arith in
    cc

blanked_limited : (q : ℕ → ℕ) (before after : Rack) (sled : ℕ) → Blanked before after sled → Blanked (limited q before) (limited q after) sled
blanked_limited q before after sled h =
    record {
      only = only_limited q before after sled h.only;
      empty = sled_at-limited q after sled ∙ ap (under (q sled)) h.empty ∙ emptied-under (q sled) (sled_at before sled)
          ∙ ap emptied (sym (sled_at-limited q before sled));
    }

pub blank_limited : (q : ℕ → ℕ) {before after : Rack} {sled : ℕ} {r : Result (Unit {0}) Fault}
    → Blanks before after sled r → Blanks (limited q before) (limited q after) sled r
blank_limited q {before} {after} {sled} =
    blank_alike (alike_limited q before sled) (blanked_limited q before after sled) (ap (limited q))

-- a share that is added below is added under the quota, where that leaves room
added_under : (q : ℕ) (s t : Sled) (id n : ℕ) (payload : List ℕ) → ((under q s).room ≢ 0) → Added s t id n payload → Added (under q s) (under q t) id n payload
added_under q s t id n payload some h =
    let p : 0 < (under q s).room = omega arith in
    record {
      here = h.here;
      others = h.others;
      one_more = h.one_more;
      room_falls = omega (arith, h.one_more, h.room_falls);
      same_size = ap (min q) h.same_size;
    }

put_limited : (q : ℕ → ℕ) (before after : Rack) (sled id n : ℕ) (payload : List ℕ) → ((under (q sled) (sled_at before sled)).room ≢ 0)
    → Put before after sled id n payload → Put (limited q before) (limited q after) sled id n payload
put_limited q before after sled id n payload some h =
    record {
      only = only_limited q before after sled h.only;
      added = rw (sled_at-limited q before sled, sled_at-limited q after sled)
          (added_under (q sled) (sled_at before sled) (sled_at after sled) id n payload some h.added);
    }

-- what passes at some room passes at more
clear_more : (sleds sled n len : ℕ) (present : Bool) (room room' : ℕ) → room ≤ room'
    → Clear (put_checks sleds sled n len present room) → Clear (put_checks sleds sled n len present room')
clear_more sleds sled n len present room room' le c =
    (c.0, (c.1.0, (c.1.1.0, (c.1.1.1.0, ((λ e. c.1.1.1.1.0 (omega arith)), tt)))))

-- the check under the quotas is by the grounds of a put on the rack below, at the room that the quota leaves
checks_limited : (q : ℕ → ℕ) (rack : Rack) (sled id n len : ℕ)
    → put_grounds (limited q rack) sled id n len
    ≡ put_checks (length rack) sled n len (is_some (held (sled_at rack sled) id n)) (under (q sled) (sled_at rack sled)).room
checks_limited q rack sled id n len = simp (length-limited, sled_at-limited)

-- a put that the check refuses, or that is made below
pub puts_limited : (q : ℕ → ℕ) {before after : Rack} {sled id n : ℕ} {payload : List ℕ} {r : Result (Unit {0}) Fault}
    → PutsUnder q before after sled id n payload r → Puts (limited q before) (limited q after) sled id n payload r
puts_limited q {before} {after} {sled} {id} {n} {payload} {r} (inl h) =
    record {
      answer = answers_refused (put_grounds (limited q before) sled id n (length payload)) refusal_of r
          (λ _. Unit {0}) (λ _. Put (limited q before) (limited q after) sled id n payload) h.1 h.0 (λ _ _. ap (limited q) h.2);
    }
puts_limited q {before} {after} {sled} {id} {n} {payload} {r} (inr h) =
    let room = (under (q sled) (sled_at before sled)).room in
    let clear : Clear (put_checks (length before) sled n (length payload) (is_some (held (sled_at before sled) id n)) room) =
    subst Clear (checks_limited q before sled id n (length payload)) h.0 in
    record {
      answer = answers_clear (put_grounds before sled id n (length payload)) (put_grounds (limited q before) sled id n (length payload)) refusal_of r
          (λ _. Put (limited q before) (limited q after) sled id n payload) (λ _. limited q after ≡ limited q before)
          (clear_more (length before) sled n (length payload) (is_some (held (sled_at before sled) id n)) room (sled_at before sled).room (omega arith) clear)
          h.0
          (answers_weaker (put_grounds before sled id n (length payload)) refusal_of r h.1.answer
          (λ _. put_limited q before after sled id n payload clear.1.1.1.1.0) (λ _. ap (limited q)));
    }

-- A sled of one rack that stands for a sled of another: what a call on the one answers, the call on the other answers. Only proofs, for a law: no contract cites it. Assumes nothing.
use Rattle.std.specs.Prelude.{◌≡◌, ℕ, ◌≤◌, List, [], ◌∷◌, length, is_some, Result, refl}
use Rattle.std.proofs.Common.{sym, ap, subst, ◌∙◌, inl}
use Rattle.refusal.specs.declared.Fault.{Fault}
use Rattle.refusal.specs.Refusals.{refusal_of}
use Rattle.refusal.specs.Grounds.{Ground, ground, Answers}
use Rattle.refusal.proofs.Grounds.{answers_first, answers_weaker}
use Rattle.bank.specs.Meaning.{Rack, sled_at, held}
use Rattle.bank.specs.Below.{no_such_sled}
use Rattle.bank.specs.Calls.{Fetches, Fetched, Puts, Put, Blanks, Blanked, OnlyAt, emptied, by_bank, fetch_checks, fetch_grounds, put_checks, put_grounds, length_of}

-- the one sled is missing where the other is, and then they have the same number
pub record Alike (rack : Rack) (sled : ℕ) (rack' : Rack) (sled' : ℕ) : Type 0 where
  pub missing : length rack ≤ sled → (length rack' ≤ sled') × (sled ≡ sled')
  pub no_more : length rack' ≤ sled' → length rack ≤ sled

-- the ground that there is no such sled
abbrev bad_sled : Rack → ℕ → Ground
bad_sled rack sled = ground (length rack ≤ sled) (by_bank 2 sled)

-- the grounds after the first
abbrev further : List Ground → List Ground
further [] = []
further (g ∷ gs) = gs

-- an answer about the one sled, from which less follows, is an answer about the other, where the further grounds are the same
pub answers_alike : {X : Type 0} {rack rack' : Rack} {sled sled' : ℕ} → Alike rack sled rack' sled'
    → (rest : List Ground) (r : Result X Fault) (P P' : X → Type 0) (Q Q' : Fault → Type 0)
    → ((x : X) → P x → P' x) → ((e : Fault) → Q e → Q' e)
    → Answers (bad_sled rack sled ∷ rest) refusal_of r P Q → Answers (bad_sled rack' sled' ∷ rest) refusal_of r P' Q'
answers_alike {rack = rack} {rack'} {sled} {sled'} alike rest r P P' Q Q' f g h =
    answers_first (bad_sled rack sled) (bad_sled rack' sled') rest refusal_of r P' Q'
    (λ w. ((alike.missing w).0, ap (by_bank 2) (alike.missing w).1)) (λ n w. n (alike.no_more w))
    (answers_weaker (bad_sled rack sled ∷ rest) refusal_of r h f g)

module _ {rack rack' : Rack} {sled sled' : ℕ} (alike : Alike rack sled rack' sled') where
  pub fetch_alike : {id n : ℕ} {was now : List ℕ} {r : Result ℕ Fault}
      → held (sled_at rack' sled') id n ≡ held (sled_at rack sled) id n
      → Fetches rack sled id n was now r → Fetches rack' sled' id n was now r
  fetch_alike {id} {n} {was} {now} {r} same h =
      record {
        answer = answers_alike alike (further (fetch_grounds rack' sled' id n (length was))) r
            (Fetched rack sled id n was now) (Fetched rack' sled' id n was now) (λ _. now ≡ was) (λ _. now ≡ was)
            (λ _ f. record { payload = f.payload; is_held = same ∙ f.is_held; size_is = f.size_is; written = f.written }) (λ _ e. e)
            (subst (λ o. Answers (fetch_checks (length rack) sled n (length_of o) (length was)) refusal_of r (Fetched rack sled id n was now) (λ _. now ≡ was))
            (sym same) h.answer);
      }

  pub blank_alike : {after after' : Rack} {r : Result (Unit {0}) Fault}
      → (Blanked rack after sled → Blanked rack' after' sled') → (after ≡ rack → after' ≡ rack')
      → Blanks rack after sled r → Blanks rack' after' sled' r
  blank_alike {after} {after'} {r} done none h =
      record {
        answer = answers_alike alike [] r (λ _. Blanked rack after sled) (λ _. Blanked rack' after' sled') (λ _. after ≡ rack) (λ _. after' ≡ rack')
            (λ _. done) (λ _. none) h.answer;
      }

-- one sled of two racks, before and after a call
pub record Same (rack after : Rack) (sled : ℕ) (rack' after' : Rack) (sled' : ℕ) : Type 0 where
  pub alike : Alike rack sled rack' sled'
  pub before : sled_at rack' sled' ≡ sled_at rack sled
  pub only : OnlyAt rack after sled → OnlyAt rack' after' sled'
  pub then : OnlyAt rack after sled → sled_at after' sled' ≡ sled_at after sled
  pub untouched : after ≡ rack → after' ≡ rack'

module _ {rack after rack' after' : Rack} {sled sled' : ℕ} (same : Same rack after sled rack' after' sled') where
  pub fetch_same : {id n : ℕ} {was now : List ℕ} {r : Result ℕ Fault} → Fetches rack sled id n was now r → Fetches rack' sled' id n was now r
  fetch_same {id} {n} = fetch_alike same.alike (ap (λ s. held s id n) same.before)

  pub put_same : {id n : ℕ} {payload : List ℕ} {r : Result (Unit {0}) Fault} → Puts rack after sled id n payload r → Puts rack' after' sled' id n payload r
  put_same {id} {n} {payload} {r} h =
      record {
        answer = answers_alike same.alike (further (put_grounds rack' sled' id n (length payload))) r
            (λ _. Put rack after sled id n payload) (λ _. Put rack' after' sled' id n payload) (λ _. after ≡ rack) (λ _. after' ≡ rack')
            (λ _ p. record { only = same.only p.only; added = rw (same.before, same.then p.only) p.added }) (λ _. same.untouched)
            (subst (λ s. Answers (put_checks (length rack) sled n (length payload) (is_some (held s id n)) s.room) refusal_of r
            (λ _. Put rack after sled id n payload) (λ _. after ≡ rack))
            (sym same.before) h.answer);
      }

  pub blank_same : {r : Result (Unit {0}) Fault} → Blanks rack after sled r → Blanks rack' after' sled' r
  blank_same =
      blank_alike same.alike (λ p. record { only = same.only p.only; empty = same.then p.only ∙ p.empty ∙ ap emptied (sym same.before) }) same.untouched

-- a call on a sled that there is not
answers_nowhere : {X : Type 0} (rack : Rack) {sled : ℕ} (rest : List Ground) (r : Result X Fault) (P : X → Type 0) {Q : Type 0}
    → length rack ≤ sled → r ≡ no_such_sled sled → Q → Answers (bad_sled rack sled ∷ rest) refusal_of r P (λ _. Q)
answers_nowhere rack {sled} rest r P {Q} past e q =
    subst (λ t. Answers (bad_sled rack sled ∷ rest) refusal_of t P (λ _. Q)) (sym e) (inl (past, refl), q)

module _ {rack : Rack} {sled : ℕ} (past : length rack ≤ sled) where
  pub fetch_nowhere : {id n : ℕ} {was now : List ℕ} {r : Result ℕ Fault} → r ≡ no_such_sled sled → now ≡ was → Fetches rack sled id n was now r
  fetch_nowhere {id} {n} {was} {now} {r} e same =
      record { answer = answers_nowhere rack (further (fetch_grounds rack sled id n (length was))) r (Fetched rack sled id n was now) past e same }

  pub put_nowhere : {after : Rack} {id n : ℕ} {payload : List ℕ} {r : Result (Unit {0}) Fault}
      → r ≡ no_such_sled sled → after ≡ rack → Puts rack after sled id n payload r
  put_nowhere {after} {id} {n} {payload} {r} e same =
      record { answer = answers_nowhere rack (further (put_grounds rack sled id n (length payload))) r (λ _. Put rack after sled id n payload) past e same }

  pub blank_nowhere : {after : Rack} {r : Result (Unit {0}) Fault} → r ≡ no_such_sled sled → after ≡ rack → Blanks rack after sled r
  blank_nowhere {after} {r} e same = record { answer = answers_nowhere rack [] r (λ _. Blanked rack after sled) past e same }

-- What the calls of a bank answer, and what they leave. Assumes nothing.
use Rattle.std.specs.Prelude.{◌≡◌, ℕ, ◌+◌, ◌<◌, ◌≤◌, Bool, true, List, [], ◌∷◌, ◌++◌, length, drop, is_some, Some, None, Option, Result, ◌≢◌}
use Rattle.refusal.specs.declared.Fault.{Fault}
use Rattle.refusal.specs.declared.Layer.TheVariants.{Bank}
use Rattle.refusal.specs.Refusals.{Refusal, refusal, refusal_of, layer_number}
use Rattle.refusal.specs.Grounds.{Ground, ground, Answers}
use Rattle.bank.specs.Meaning.{Rack, Sled, sled_at, count, held, PayloadLength}

-- a refusal of the layer bank, with this number and detail
abbrev pub by_bank : (number detail : ℕ) → Refusal
by_bank number detail = refusal number (layer_number Bank) detail

-- why a call on a sled is refused in a rack of this many sleds: there is no such sled
abbrev pub sled_checks : (sleds sled : ℕ) → List Ground
sled_checks sleds sled = ground (sleds ≤ sled) (by_bank 2 sled) ∷ []

-- why share n is not put on a sled, where sleds is the number of sleds, len the payload's length, present whether the share is held, and room the sled's
abbrev pub put_checks : (sleds sled n len : ℕ) (present : Bool) (room : ℕ) → List Ground
put_checks sleds sled n len present room =
    ground (sleds ≤ sled) (by_bank 2 sled)
    ∷ ground (32 ≤ n) (by_bank 19 0)
    ∷ ground (PayloadLength len → ⊥) (by_bank 5 0)
    ∷ ground (present ≡ true) (by_bank 16 0)
    ∷ ground (room ≡ 0) (by_bank 17 0)
    ∷ []

-- why share n is not fetched from a sled, where len is the length of the payload that is held, if one is, and buffer that of the buffer
abbrev pub fetch_checks : (sleds sled n : ℕ) (len : Option ℕ) (buffer : ℕ) → List Ground
fetch_checks sleds sled n len buffer =
    ground (sleds ≤ sled) (by_bank 2 sled)
    ∷ ground (32 ≤ n) (by_bank 19 0)
    ∷ ground (len ≡ None) (by_bank 15 0)
    ∷ ground ((due : ℕ) × (len ≡ Some due) × (buffer < due)) (by_bank 13 0)
    ∷ []

-- the length of what may be there
abbrev pub length_of : Option (List ℕ) → Option ℕ
length_of None = None
length_of (Some xs) = Some (length xs)

-- why a blank of a sled is refused
abbrev pub blank_grounds : (rack : Rack) (sled : ℕ) → List Ground
blank_grounds rack sled = sled_checks (length rack) sled

-- why a put is refused, by what the rack holds: the first of these that applies is told
abbrev pub put_grounds : (rack : Rack) (sled id n len : ℕ) → List Ground
put_grounds rack sled id n len =
    put_checks (length rack) sled n len (is_some (held (sled_at rack sled) id n)) (sled_at rack sled).room

-- why a fetch into a buffer of this length is refused: the first of these that applies is told
abbrev pub fetch_grounds : (rack : Rack) (sled id n buffer : ℕ) → List Ground
fetch_grounds rack sled id n buffer =
    fetch_checks (length rack) sled n (length_of (held (sled_at rack sled) id n)) buffer

-- what a check by these grounds answers
abbrev pub Checks : List Ground → Result (Unit {0}) Fault → Type 0
Checks gs r = Answers gs refusal_of r (λ _. Unit {0}) (λ _. Unit {0})

-- a fetch: the payload that is held stands at the start of the buffer, which is else as it was, and size is its length
pub record Fetched (rack : Rack) (sled id n : ℕ) (was now : List ℕ) (size : ℕ) : Type 0 where
  pub payload : List ℕ
  pub is_held : held (sled_at rack sled) id n ≡ Some payload
  pub size_is : size ≡ length payload
  pub written : now ≡ payload ++ drop size was

-- only this sled may have changed, and there are as many sleds as before
pub record OnlyAt (before after : Rack) (sled : ℕ) : Type 0 where
  pub same_length : length after ≡ length before
  pub elsewhere : (k : ℕ) → (k ≢ sled) → sled_at after k ≡ sled_at before k

-- a sled has one share more: its room falls by one, and nothing else changes
pub record Added (before after : Sled) (id n : ℕ) (payload : List ℕ) : Type 0 where
  pub here : held after id n ≡ Some payload
  pub others : (i m : ℕ) → ((i ≡ id) × (m ≡ n) → ⊥) → held after i m ≡ held before i m
  pub one_more : count after ≡ count before + 1
  pub room_falls : after.room + 1 ≡ before.room
  pub same_size : after.size ≡ before.size

-- a put
pub record Put (before after : Rack) (sled id n : ℕ) (payload : List ℕ) : Type 0 where
  pub only : OnlyAt before after sled
  pub added : Added (sled_at before sled) (sled_at after sled) id n payload

-- a sled that is emptied: its room is its size, which stays
abbrev pub emptied : Sled → Sled
emptied s = record { shares = []; room = s.size; size = s.size }

-- a blank
pub record Blanked (before after : Rack) (sled : ℕ) : Type 0 where
  pub only : OnlyAt before after sled
  pub empty : sled_at after sled ≡ emptied (sled_at before sled)

-- what fetch answers, and the buffer after it
pub record Fetches (rack : Rack) (sled id n : ℕ) (was now : List ℕ) (r : Result ℕ Fault) : Type 0 where
  pub answer : Answers (fetch_grounds rack sled id n (length was)) refusal_of r
      (Fetched rack sled id n was now) (λ _. now ≡ was)

-- what put answers, and the rack after it
pub record Puts (before after : Rack) (sled id n : ℕ) (payload : List ℕ) (r : Result (Unit {0}) Fault) : Type 0 where
  pub answer : Answers (put_grounds before sled id n (length payload)) refusal_of r
      (λ _. Put before after sled id n payload) (λ _. after ≡ before)

-- what blank answers, and the rack after it
pub record Blanks (before after : Rack) (sled : ℕ) (r : Result (Unit {0}) Fault) : Type 0 where
  pub answer : Answers (blank_grounds before sled) refusal_of r
      (λ _. Blanked before after sled) (λ _. after ≡ before)

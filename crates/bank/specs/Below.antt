-- How the methods of quota and join speak of the banks below them, on the way to the contracts of the interface. Assumes nothing.
use Rattle.std.specs.Prelude.{◌≡◌, ℕ, ◌+◌, ◌-◌, min, false, cond, ◌⊎◌, List, length, is_ok, Some, None, Option, Err, Result, nat_lt}
use Rattle.refusal.specs.declared.Fault.{Fault}
use Rattle.refusal.specs.Grounds.{Clear}
use Rattle.refusal.specs.declared.Reason.TheVariants.{BadSled}
use Rattle.refusal.specs.declared.Layer.TheVariants.{Bank}
use Rattle.bank.specs.declared.join.Side.{Side}
use Rattle.bank.specs.declared.join.Side.TheVariants.{First, Second}
use Rattle.bank.specs.Meaning.{Rack, Sled, no_sled, sled_at}
use Rattle.bank.specs.Calls.{put_grounds, Checks, Fetches, Puts, Blanks}
use Rattle.bank.specs.Layers.{limited}

-- what put answers under the quotas q, by the rack below: the check of the rack under them refuses it and nothing changes, or it is put below
abbrev pub PutsUnder : (ℕ → ℕ) → Rack → Rack → ℕ → ℕ → ℕ → List ℕ → Result (Unit {0}) Fault → Type 0
PutsUnder q before after sled id n payload r =
    (Checks (put_grounds (limited q before) sled id n (length payload)) r × (is_ok r ≡ false) × (after ≡ before))
    ⊎ (Clear (put_grounds (limited q before) sled id n (length payload)) × Puts before after sled id n payload r)

-- the side of a sled, if there is one, where first is the number of the first rack's sleds and sleds that of all
abbrev pub side_among : (first sleds sled : ℕ) → Option Side
side_among first sleds sled = cond (nat_lt sled first) (Some (First sled)) (cond (nat_lt sled sleds) (Some (Second (sled - first))) None)

-- the side of a sled of two racks, if there is one: of the racks the first 32 sleds are seen
abbrev pub side_of : Rack → Rack → ℕ → Option Side
side_of a b sled = side_among (length a) (min (length a + length b) 32) sled

-- the sled on this side of two racks
abbrev pub sled_on : Option Side → Rack → Rack → Sled
sled_on (Some (First k)) a b = sled_at a k
sled_on (Some (Second k)) a b = sled_at b k
sled_on None a b = no_sled

-- what holds on the first side, on the second, or where there is no such sled
abbrev pub BySide : Option Side → (ℕ → Type 0) → (ℕ → Type 0) → Type 0 → Type 0
BySide (Some (First k)) P Q N = P k
BySide (Some (Second k)) P Q N = Q k
BySide None P Q N = N

-- the refusal of a call on a sled that there is not
abbrev pub no_such_sled : {X : Type 0} → ℕ → Result X Fault
no_such_sled sled = Err (record { reason = BadSled; layer = Bank; detail = sled })

-- what fetch answers on two racks: what it answers on the side where the sled lies
abbrev pub FetchesBySide : (a b : Rack) (sled id n : ℕ) (was now : List ℕ) (r : Result ℕ Fault) → Type 0
FetchesBySide a b sled id n was now r =
    BySide (side_of a b sled) (λ k. Fetches a k id n was now r) (λ k. Fetches b k id n was now r) ((r ≡ no_such_sled sled) × (now ≡ was))

-- what a call that changes a rack answers on two racks, where Call is what it answers on one, and Bad that there is no such sled
abbrev pub ChangesBySide : (Call : Rack → Rack → ℕ → Type 0) (Bad : Type 0) (a a' b b' : Rack) (sled : ℕ) → Type 0
ChangesBySide Call Bad a a' b b' sled =
    BySide (side_of a b sled) (λ k. Call a a' k × (b' ≡ b)) (λ k. Call b b' k × (a' ≡ a)) (Bad × (a' ≡ a) × (b' ≡ b))

-- what put answers on two racks, and the racks after it
abbrev pub PutsBySide : (a a' b b' : Rack) (sled id n : ℕ) (payload : List ℕ) (r : Result (Unit {0}) Fault) → Type 0
PutsBySide a a' b b' sled id n payload r =
    ChangesBySide (λ before after k. Puts before after k id n payload r) (r ≡ no_such_sled sled) a a' b b' sled

-- what blank answers on two racks, and the racks after it
abbrev pub BlanksBySide : (a a' b b' : Rack) (sled : ℕ) (r : Result (Unit {0}) Fault) → Type 0
BlanksBySide a a' b b' sled r = ChangesBySide (λ before after k. Blanks before after k r) (r ≡ no_such_sled sled) a a' b b' sled

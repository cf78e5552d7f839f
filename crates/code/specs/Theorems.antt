-- The theorems of the code. Assumes nothing.
use Rattle.std.specs.Prelude.{◌≡◌, ℕ, ◌<◌, ◌≤◌, true, List, ◌++◌, length, drop, is_ok, Result}
use Rattle.refusal.specs.declared.Fault.{Fault}
use Rattle.field.specs.Model.{Ops}
use Rattle.code.specs.Polynomials.{Through}
use Rattle.code.specs.Shares.{Bytes, Payload}
use Rattle.code.specs.Decoding.{SharesOf}
use Rattle.code.specs.Codes.{Numbers}

-- k different points and k values: one polynomial of degree below k has these values at these points, and only one
abbrev pub OnePolynomial : {E : Type 0} → Ops E → Type 0
OnePolynomial {E} F =
    (k : ℕ) (x v : ℕ → E) → ((i j : ℕ) → i < k → j < k → x i ≡ x j → i ≡ j)
    → (p : List E) × Through F k x v p × ((q : List E) → Through F k x v q → q ≡ p)

-- each share of each file has one payload, and only one
abbrev pub OnePayload : {E : Type 0} → Ops E → Type 0
OnePayload F =
    (k j : ℕ) (file : List ℕ) → k ≤ 32
    → (bytes : List ℕ) × Payload F k file j bytes × ((other : List ℕ) → Payload F k file j other → other ≡ bytes)

-- any k different shares of a file decode to exactly that file: decode then refuses nothing but a short buffer
pub record GivesBack {E : Type 0} (F : Ops E) (c : Numbers) (L : ℕ) (shares payloads was now : List ℕ) (r : Result (Unit {0}) Fault) : Type 0 where
  pub back : (file : List ℕ) → Bytes file → length file ≡ L → SharesOf F c.k c.n file shares payloads → L ≤ length was
      → (is_ok r ≡ true) × (now ≡ file ++ drop L was)

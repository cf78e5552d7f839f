-- Polynomials over a field. Assumes nothing.
use Rattle.std.specs.Prelude.{◌≡◌, ℕ, ◌<◌, List, [], ◌∷◌, length}
use Rattle.field.specs.Model.{Ops}

-- the value at x of the polynomial with these coefficients, the constant one first
unfoldable pub eval : {E : Type 0} → Ops E → List E → E → E
eval F [] x = F.zero
eval F (c ∷ p) x = F.add c (F.mul x (eval F p x))

-- the polynomial p has degree below k, which is to say k coefficients, and the value v b at the point x b for each b below k
pub record Through {E : Type 0} (F : Ops E) (k : ℕ) (x v : ℕ → E) (p : List E) : Type 0 where
  pub degree : length p ≡ k
  pub values : (b : ℕ) → b < k → eval F p (x b) ≡ v b

-- The polynomial of degree below k through k points, and its values by weights. Assumes nothing.
use Rattle.std.proofs.Common.{◌≡◌, ℕ, suc, ◌<◌, ◌≤◌, eqb, List, [], ◌∷◌, length, sym, refl, ap, ◌∙◌, ap₂, inl, inr, not-suc-le-zero, arith}
use Rattle.std.proofs.lemmas.Bool.{eq-eqb, ne_eqb, cases_eq, cond_both}
use Rattle.field.specs.Model.{Ops, Laws}
use Rattle.code.specs.Polynomials.{eval, Through}
use Rattle.code.specs.Lagrange.{others, weight, total, interpolated}
use Rattle.code.specs.Theorems.{OnePolynomial}
use Rattle.code.proofs.Algebra.{zero-add, add_left_comm, mul_left_comm, mul-zero, zero-mul, sub_self, mul_not_zero}
use Rattle.code.proofs.Roots.{Apart, apart_sub, raise_ring, only_one}

-- f is a polynomial with k coefficients
Poly : {E : Type 0} → Ops E → ℕ → (E → E) → Type 0
Poly {E} F ℕ.zero f = (y : E) → f y ≡ F.zero
Poly {E} F (suc k) f = (c : E) × (g : E → E) × Poly F k g × ((y : E) → f y ≡ F.add c (F.mul y (g y)))

module _ {E : Type 0} (F : Ops E) (L : Laws F) where
  open F use {zero, one, add, sub, mul, inverse}
  open L use {add_assoc, mul_comm, mul-add, add-zero, mul-one, zero_not_one, mul-inverse}

  poly-zero : (k : ℕ) → Poly F k (λ y. zero)
  unfolding Poly
  poly-zero ℕ.zero = λ y. refl
  poly-zero (suc k) = (zero, λ y. zero, poly-zero k, λ y. simp (mul-zero, add-zero))

  -- f + v g w
  poly-add : (k : ℕ) (f g : E → E) (v w : E) → Poly F k f → Poly F k g → Poly F k (λ y. add (f y) (mul v (mul (g y) w)))
  unfolding Poly
  poly-add ℕ.zero f g v w hf hg = λ y. simp (hf y, hg y, zero-mul, mul-zero, add-zero)
  poly-add (suc k) f g v w hf hg = (
    add hf.0 (mul v (mul hg.0 w)),
    λ y. add (hf.1 y) (mul v (mul (hg.1 y) w)),
    poly-add k hf.1 hg.1 v w hf.2 hg.2,
    λ y. rw (hf.3 y, hg.3 y) (ring hf.0 hg.0 (hf.1 y) (hg.1 y) y),
  )
    where
      ring : (a b p q y : E) → add (add a (mul y p)) (mul v (mul (add b (mul y q)) w)) ≡ add (add a (mul v (mul b w))) (mul y (add p (mul v (mul q w))))
      ring a b p q y = simp (add_assoc, add_left_comm, mul_comm, mul_left_comm, mul-add)

  -- c + (X - a) f
  poly-raise : (k : ℕ) (f : E → E) (a c : E) → Poly F k f → Poly F (suc k) (λ y. add c (mul (f y) (sub y a)))
  unfolding Poly
  poly-raise ℕ.zero f a c h = (c, λ y. zero, λ y. refl, λ y. simp (h y, zero-mul, mul-zero))
  poly-raise (suc k) f a c h = (
    sub c (mul a h.0),
    λ y. add h.0 (mul (h.1 y) (sub y a)),
    poly-raise k h.1 a h.0 h.2,
    λ y. rw (h.3 y) (sym (raise_ring F L c a h.0 y (h.1 y))),
  )

  coefficients : (k : ℕ) (f : E → E) → Poly F k f → (p : List E) × (length p ≡ k) × ((y : E) → eval F p y ≡ f y)
  unfolding Poly eval
  coefficients ℕ.zero f h = ([], refl, λ y. sym (h y))
  coefficients (suc k) f h =
      let r = coefficients k h.1 h.2 in
      (h.0 ∷ r.0, ap suc r.1, λ y. rw (eval, r.2 y) (sym (h.3 y)))

  -- one more factor is one more coefficient
  others_more : (x : ℕ → E) (b n k : ℕ) → (n ≡ b → ⊥) → Poly F k (λ y. others F x b n y) → Poly F (suc k) (λ y. others F x b (suc n) y)
  unfolding others
  others_more x b n k d h = simp (ne_eqb n b d) (simp zero-add at (poly-raise k (λ y. others F x b n y) (x n) zero h))

  -- before b is passed there are n factors
  others-before : (x : ℕ → E) (b n : ℕ) → n ≤ b → Poly F (suc n) (λ y. others F x b n y)
  unfolding Poly others
  others-before x b ℕ.zero h = (one, λ y. zero, λ y. refl, λ y. simp (mul-zero, add-zero))
  others-before x b (suc n) h = others_more x b n (suc n) (λ e. omega arith) (others-before x b n (omega arith))

  -- and then one less, since b has none
  others-past : (x : ℕ → E) (b n : ℕ) → b < n → Poly F n (λ y. others F x b n y)
  unfolding others
  others-past x b ℕ.zero h = absurd (not-suc-le-zero h)
  others-past x b (suc n) h =
      elim (cases_eq n b) [
        | inl e ↦ simp (eq-eqb n b e) (others-before x b n (omega arith))
        | inr d ↦ others_more x b n n d (others-past x b n (omega arith))
      ]

  -- the first n terms of `interpolated`
  total-poly : (x v : ℕ → E) (k n : ℕ) → n ≤ k → Poly F k (λ y. total F (λ b. mul (v b) (weight F x k y b)) n)
  unfolding total weight
  total-poly x v k ℕ.zero h = poly-zero k
  total-poly x v k (suc n) h =
      poly-add k (λ y. total F (λ b. mul (v b) (weight F x k y b)) n) (λ y. others F x n k y) (v n) (inverse (others F x n k (x n)))
      (total-poly x v k n (omega arith))
      (others-past x n k h)

  -- at a point other than that of b
  others-zero : (x : ℕ → E) (b n m : ℕ) → m < n → (m ≡ b → ⊥) → others F x b n (x m) ≡ zero
  unfolding others
  others-zero x b ℕ.zero m h d = absurd (not-suc-le-zero h)
  others-zero x b (suc n) m h d =
      elim (cases_eq m n) [
        | inl e ↦ rw (← e) (simp (ne_eqb m b d, sub_self, mul-zero))
        | inr f ↦
            let r = others-zero x b n m (omega arith) d in
            cond_both (eqb n b) _ _ (λ z. z ≡ zero) (λ q. r) (λ q. simp (r, zero-mul))
      ]

  -- at the point of b
  others-not-zero : (x : ℕ → E) (b k n : ℕ) → Apart x k → b < k → n ≤ k → others F x b n (x b) ≡ zero → ⊥
  unfolding others
  others-not-zero x b k ℕ.zero apart hb h e = zero_not_one (sym e)
  others-not-zero x b k (suc n) apart hb h e =
      let r = others-not-zero x b k n apart hb (omega arith) in
      elim (cases_eq n b) [
        | inl f ↦ r (simp (eq-eqb n b f) at e)
        | inr d ↦
            apart_sub F L x k b n apart hb h (λ q. d (sym q))
            (mul_not_zero F L (others F x b n (x b)) (sub (x b) (x n)) r (simp (ne_eqb n b d) at e))
      ]

  total-none : (f : ℕ → E) (n : ℕ) → ((b : ℕ) → b < n → f b ≡ zero) → total F f n ≡ zero
  unfolding total
  total-none f ℕ.zero h = refl
  total-none f (suc n) h = ap₂ add (total-none f n (λ b l. h b (omega arith))) (h n (omega arith)) ∙ add-zero zero

  -- the sum where all but f m are zero
  total-one : (f : ℕ → E) (n m : ℕ) → m < n → ((b : ℕ) → b < n → (b ≡ m → ⊥) → f b ≡ zero) → total F f n ≡ f m
  unfolding total
  total-one f ℕ.zero m l h = absurd (not-suc-le-zero l)
  total-one f (suc n) m l h =
      elim (cases_eq m n) [
        | inl e ↦ ap₂ add (total-none f n (λ b k. h b (omega arith) (λ q. omega arith))) (ap f (sym e)) ∙ zero-add F L (f m)
        | inr d ↦ ap₂ add (total-one f n m (omega arith) (λ b k. h b (omega arith))) (h n (omega arith) (λ q. d (sym q))) ∙ add-zero (f m)
      ]

  -- at the points the sum has the given values
  pub at_points : (x v : ℕ → E) (k : ℕ) → Apart x k → (m : ℕ) → m < k → interpolated F x v k (x m) ≡ v m
  unfolding interpolated weight
  at_points x v k apart m l =
      total-one (λ b. mul (v b) (weight F x k (x m) b)) k m l
      (λ b h d. simp (weight, others-zero x b k m l (λ q. d (sym q)), zero-mul, mul-zero))
      ∙ simp (weight, mul-inverse (others F x m k (x m)) (others-not-zero x m k k apart l (omega arith)), mul-one)

  -- there is a polynomial through the points, and its value at y is the sum
  pub exists : (x v : ℕ → E) (k : ℕ) → Apart x k → (p : List E) × Through F k x v p × ((y : E) → eval F p y ≡ interpolated F x v k y)
  unfolding interpolated
  exists x v k apart =
      let r = coefficients k (λ y. interpolated F x v k y) (total-poly x v k k (omega arith)) in
      (r.0, record { degree = r.1; values = λ m h. r.2 (x m) ∙ at_points x v k apart m h }, r.2)

  -- and each such polynomial has that value at y
  pub value_is : (x v : ℕ → E) (k : ℕ) (p : List E) → Apart x k → Through F k x v p → (y : E) → eval F p y ≡ interpolated F x v k y
  value_is x v k p apart through y =
      let some = exists x v k apart in
      rw (only_one F L k x v p some.0 apart through some.1) (some.2 y)

  pub one_polynomial : OnePolynomial F
  unfolding Apart
  one_polynomial k x v apart =
      let some = exists x v k apart in
      (some.0, some.1, λ q through. only_one F L k x v q some.0 apart through some.1)

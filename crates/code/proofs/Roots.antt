-- At most one polynomial of degree below k has given values at k different points. Assumes nothing.
use Rattle.std.proofs.Common.{◌≡◌, ℕ, suc, ◌<◌, List, [], ◌∷◌, length, sym, refl, ap, ◌∙◌, ap₂, arith}
use Rattle.field.specs.Model.{Ops, Laws}
use Rattle.code.specs.Polynomials.{eval, Through}
use Rattle.code.proofs.Algebra.{mul_left_comm, mul-zero, zero-mul, sub_zero_equal}

-- the first k points are different
unfoldable pub Apart : {E : Type 0} → (ℕ → E) → ℕ → Type 0
Apart x k = (i j : ℕ) → i < k → j < k → x i ≡ x j → i ≡ j

-- c + (X - a) p
raise : {E : Type 0} → Ops E → E → E → List E → List E
raise F a c [] = c ∷ []
raise F a c (d ∷ p) = F.sub c (F.mul a d) ∷ raise F a d p

none_left : {E : Type 0} (p : List E) → length p ≡ 0 → p ≡ []
none_left [] h = refl
none_left (c ∷ p) h = absurd (omega arith)

module _ {E : Type 0} (F : Ops E) (L : Laws F) where
  open F use {zero, add, sub, mul, inverse}
  open L use {add_assoc, add_comm, mul_assoc, mul_comm, mul-add, add-zero, mul-one, add-sub, sub-add, mul-inverse}

  pub apart_sub : (x : ℕ → E) (k i j : ℕ) → Apart x k → i < k → j < k → (i ≡ j → ⊥) → sub (x i) (x j) ≡ zero → ⊥
  unfolding Apart
  apart_sub x k i j apart hi hj d z = d (apart i j hi hj (sub_zero_equal F L (x i) (x j) z))

  -- c + (X - a) (d + X t) is c - a d + X (d + (X - a) t)
  pub raise_ring : (c a d y t : E) → add (sub c (mul a d)) (mul y (add d (mul t (sub y a)))) ≡ add c (mul (add d (mul y t)) (sub y a))
  raise_ring c a d y t = simp sub-add at (ring (sub c (mul a d)) (sub y a))
    where
      ring : (s e : E) → add s (mul (add e a) (add d (mul t e))) ≡ add (add s (mul a d)) (mul (add d (mul (add e a) t)) e)
      ring s e = simp (add_assoc, add_comm, mul_comm, mul_left_comm, mul-add)

  raise-value : (a c : E) (p : List E) (y : E) → eval F (raise F a c p) y ≡ add c (mul (eval F p y) (sub y a))
  unfolding eval raise
  raise-value a c [] y = simp (mul-zero, zero-mul)
  raise-value a c (d ∷ p) y = rw (raise-value a d p y) (raise_ring c a d y (eval F p y))

  -- p divided by X - a, where the value at a is left over
  divided : (a : E) (k : ℕ) (p : List E) → length p ≡ suc k → (q : List E) × (length q ≡ k) × (p ≡ raise F a (eval F p a) q)
  unfolding eval raise
  divided a k [] h = absurd (omega arith)
  divided a k (c ∷ []) h = ([], omega arith, simp (raise, eval, mul-zero, add-zero))
  divided a k (c ∷ (d ∷ t)) h =
      let r = divided a (length t) (d ∷ t) refl in
      (eval F (d ∷ t) a ∷ r.0, omega arith, ap₂ ◌∷◌ (sym (add-sub c (mul a (eval F (d ∷ t) a)))) r.2)

  -- q from c + q d
  quotient_is : (c q d : E) → (d ≡ zero → ⊥) → q ≡ mul (sub (add c (mul q d)) c) (inverse d)
  quotient_is c q d h = simp (add_comm c (mul q d), add-sub, mul_assoc, mul-inverse d h, mul-one)

  -- p is v k + (X - x k) q, and the values of q at the other points follow
  lower : (k : ℕ) (x v : ℕ → E) (p : List E) → Apart x (suc k) → Through F (suc k) x v p
      → (q : List E) × Through F k x (λ i. mul (sub (v i) (v k)) (inverse (sub (x i) (x k)))) q × (p ≡ raise F (x k) (v k) q)
  lower k x v p apart h =
      let r = divided (x k) k p h.degree in
      let same : p ≡ raise F (x k) (v k) r.0 = rw (h.values k (omega arith)) at r.2 in
      let value : (i : ℕ) → i < k → add (v k) (mul (eval F r.0 (x i)) (sub (x i) (x k))) ≡ v i =
      λ i l. sym (raise-value (x k) (v k) r.0 (x i)) ∙ rw (← same) (h.values i (omega arith)) in (
        r.0,
        record {
          degree = r.1;
          values = λ i l. rw (value i l) at (quotient_is (v k) (eval F r.0 (x i)) (sub (x i) (x k))
              (apart_sub x (suc k) i k apart (omega arith) (omega arith) (λ e. omega arith)));
        },
        same,
      )

  pub only_one : (k : ℕ) (x v : ℕ → E) (p q : List E) → Apart x k → Through F k x v p → Through F k x v q → p ≡ q
  unfolding Apart
  only_one ℕ.zero x v p q apart hp hq = none_left p hp.degree ∙ sym (none_left q hq.degree)
  only_one (suc k) x v p q apart hp hq =
      let r = lower k x v p apart hp in
      let s = lower k x v q apart hq in
      r.2 ∙ ap (raise F (x k) (v k)) (only_one k x _ r.0 s.0 (λ i j hi hj. apart i j (omega arith) (omega arith)) r.1 s.1) ∙ sym s.2

-- A total, and the value by weights, depend only on what stands below the bound. Assumes nothing.
use Rattle.std.proofs.Common.{◌≡◌, ℕ, suc, ◌<◌, refl, ap₂, arith}
use Rattle.field.specs.Model.{Ops}
use Rattle.code.specs.Lagrange.{others, weight, total, interpolated}

module _ {E : Type 0} (F : Ops E) where
  pub total_same : (f g : ℕ → E) (n : ℕ) → ((b : ℕ) → b < n → f b ≡ g b) → total F f n ≡ total F g n
  unfolding total
  total_same f g ℕ.zero h = refl
  total_same f g (suc n) h = ap₂ F.add (total_same f g n (λ b l. h b (omega arith))) (h n (omega arith))

  others_same : (x y : ℕ → E) (b n : ℕ) (z : E) → ((m : ℕ) → m < n → x m ≡ y m) → others F x b n z ≡ others F y b n z
  unfolding others
  others_same x y b ℕ.zero z h = refl
  others_same x y b (suc n) z h = rw (others_same x y b n z (λ m l. h m (omega arith)), h n (omega arith))

  pub interpolated_same : (x y v w : ℕ → E) (k : ℕ) (z : E) → ((b : ℕ) → b < k → x b ≡ y b) → ((b : ℕ) → b < k → v b ≡ w b)
      → interpolated F x v k z ≡ interpolated F y w k z
  unfolding interpolated weight
  interpolated_same x y v w k z points values =
      total_same _ _ k (λ b l. rw (weight, values b l, points b l, others_same x y b k z points, others_same x y b k (y b) points))

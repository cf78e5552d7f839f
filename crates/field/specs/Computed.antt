-- A rule at all numbers below n, by one test that antt computes. Only proofs, for a law: no contract cites it. Assumes nothing.
use Rattle.std.specs.Prelude.{ℕ, zero, suc, ◌<◌, Bool, true, ◌&&◌, refl}
use Rattle.std.specs.Bool.{Decides}
use Rattle.std.proofs.lemmas.Bool.Decides.{Decides-below_and}

-- the test passes at each number below n
unfoldable pub every : ℕ → (ℕ → Bool) → Bool
every zero test = true
every (suc n) test = test n && every n test

-- that test decides what the test of one number decides of each
pub Decides-every : {test : ℕ → Bool} {P : ℕ → Type 0} (n : ℕ) → ((k : ℕ) → Decides (test k) (P k)) → Decides (every n test) ((k : ℕ) → k < n → P k)
unfolding every
Decides-every {test} {P} n each = Decides-below_and test P (λ m. every m test) each refl (λ _. refl) n

-- Past the bounds of a rack there is nothing. Assumes nothing.
use Rattle.std.proofs.Common.{◌≡◌, ℕ, ◌<◌, ◌≤◌, Bool, true, false, List, [], ◌∷◌, length, None, refl, ap, ⊎_elim, arith}
use Rattle.std.specs.List.{AllByRecursion}
use Rattle.std.proofs.lemmas.List.{get_or_past}
use Rattle.std.proofs.ByRecursion.{All-get_or}
use Rattle.std.proofs.lemmas.Bool.{cases_lt}
use Rattle.std.proofs.lemmas.Bool.Decides.{nat_tests}
use Rattle.bank.specs.Meaning.{Rack, Share, Sound, SoundShare, SoundSled, sled_at, no_sled, held, lookup, keyed}
use Rattle.bank.specs.Theorems.{EmptyBeyond}

-- no share has a number from 32 on
none_high : (xs : List Share) (id n : ℕ) → AllByRecursion SoundShare xs → 32 ≤ n → lookup xs id n ≡ None
none_high [] id n h le = refl
none_high (x ∷ xs) id n h le = by_cases (keyed x id n) refl (none_high xs id n h.1 le)
  where
    by_cases : (b : Bool) → keyed x id n ≡ b → lookup xs id n ≡ None → lookup (x ∷ xs) id n ≡ None
    by_cases true e rest = absurd (let low = h.0.number_fits in grind (arith, nat_tests))
    by_cases false e rest = rw e rest

pub nothing_beyond_lem : (rack : Rack) → Sound rack → EmptyBeyond rack
nothing_beyond_lem rack h =
    record {
      sleds = λ k le. get_or_past rack k no_sled le;
      shares = λ k id n le.
          ⊎_elim
          (λ (lt : k < length rack). none_high (sled_at rack k).shares id n (All-get_or SoundSled rack k no_sled lt h.sound_sleds).sound_shares le)
          (λ (ge : length rack ≤ k). ap (λ s. held s id n) (get_or_past rack k no_sled ge))
          (cases_lt k (length rack));
    }

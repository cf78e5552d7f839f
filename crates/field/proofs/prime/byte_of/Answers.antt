use Rattle.std.proofs.Common.{◌≡◌, ℕ, ◌%◌, ◌<◌, Result, Ok, Err, OkIff, MatchOption, ◌≢◌, ap, ◌∙◌, arith}
use Rattle.std.specs.Result.{result_ok}
use native.Mathlib.Nat.{mod-mod}
use Rattle.field.specs.Residues.{Below}
use Rattle.field.specs.Below.{same}
use Rattle.field.specs.Prime.{prime, symbol}
use Rattle.field.proofs.prime.byte_of.Goals as goal

-- the remainder where it is a byte
byte_is : {E : Type 0} (a : ℕ) (r : Result ℕ E) → OkIff r (a % 257 < 256) (a % 257)
    → MatchOption (result_ok r) ((b : ℕ) → b < 256 → prime.byte b ≢ symbol a) (λ b. (b < 256) × (prime.byte b ≡ symbol a))
byte_is a (Ok b) h = (omega arith, same 257 (symbol b) (symbol a) (ap (λ (m : ℕ). m % 257) h.1 ∙ mod-mod a 257))
byte_is a (Err e) h = λ b l same_symbol. let f : b % 257 ≡ a % 257 = ap (λ (x : Below 257). x.0) same_symbol in h (omega arith)

pub returns : goal.returns
returns c = rw c.ok.ensures.value (byte_is c.args.a c.try_from.result c.try_from.ensures)

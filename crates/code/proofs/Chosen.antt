-- What is answered over the code's field. Assumes nothing.
use Rattle.std.proofs.Common.{◌≡◌, ℕ, List, Result, subst, sym}
use Rattle.refusal.specs.declared.Fault.{Fault}
use Rattle.field.specs.Binary.{binary}
use Rattle.field.specs.Prime.{prime}
use Rattle.code.specs.declared.shape.Code.{Code}
use Rattle.code.specs.declared.shape.FieldChoice.{FieldChoice}
use Rattle.code.specs.declared.shape.FieldChoice.TheVariants.{Binary, Prime}
use Rattle.code.specs.Codes.{field_number, field_of, numbers}
use Rattle.code.specs.Calls.{Recovers}

module _ (c : Code) (len : ℕ) (shares payloads was now : List ℕ) (r : Result (Unit {0}) Fault) where
  pub over_binary : c.field ≡ Binary → Recovers binary (numbers c) len shares payloads was now r → Recovers (field_of (field_number c.field)).model (numbers c) len shares payloads was now r
  over_binary e h = subst (λ (f : FieldChoice). Recovers (field_of (field_number f)).model (numbers c) len shares payloads was now r) (sym e) h

  pub over_prime : c.field ≡ Prime → Recovers prime (numbers c) len shares payloads was now r → Recovers (field_of (field_number c.field)).model (numbers c) len shares payloads was now r
  over_prime e h = subst (λ (f : FieldChoice). Recovers (field_of (field_number f)).model (numbers c) len shares payloads was now r) (sym e) h

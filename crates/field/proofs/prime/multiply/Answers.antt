use Rattle.std.proofs.Common.{◌≡◌, ℕ, ◌*◌, ◌%◌, ap, ◌∙◌}
use Rattle.std.proofs.lemmas.Nat.{mul-mod, mul-mod_first}
use Rattle.field.specs.PrimeLaws.{halves_add}
use Rattle.field.proofs.prime.multiply.Goals as goal

pub returns : goal.returns
returns c =
    let product : c.from.result * c.from-2.result ≡ c.args.a % 257 * c.args.b = cc in
    let plain = halves_add (c.from.result * c.from-2.result) ∙ ap (λ (m : ℕ). m % 257) product ∙ mul-mod_first c.args.a c.args.b 257 in
    record { plain = plain; symbols = plain ∙ mul-mod c.args.a c.args.b 257 }

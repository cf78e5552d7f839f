-- What symbols of the machine stand for. Assumes nothing.
use Rattle.std.proofs.Common.{◌≡◌, ℕ, ◌<◌, replicate, ap, ◌∙◌}
use Rattle.std.proofs.lemmas.List.{get_or-replicate}
use Rattle.field.specs.declared.Field.{Ghosts}
use Rattle.code.specs.Lagrange.{entry}

module _ {A S : Type 0} (f : Ghosts A S) (back : (e : f.elements) → f.elem (f.sym e) ≡ e) where
  pub known : {x : S} {a : f.elements} → x ≡ f.sym a → f.elem x ≡ a
  known {x} {a} h = ap f.elem h ∙ back a

  -- every place of an array that is filled with one symbol
  pub filled : (n i : ℕ) (x : S) (a : f.elements) → x ≡ f.sym a → i < n → entry f (replicate n x) i ≡ a
  filled n i x a e h = ap f.elem (get_or-replicate n i x (f.sym f.model.zero) h) ∙ known e

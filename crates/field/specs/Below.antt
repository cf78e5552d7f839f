-- The numbers below n. Only proofs, for a law: no contract cites it. Assumes nothing.
use Rattle.std.specs.Prelude.{◌≡◌, ℕ, ◌<◌, nat_lt, refl}
use mathlib.Core.HLevel.{Σ_prop_path}
use Rattle.std.proofs.Common.{sym, ap, ◌∙◌, mod-eq_of_lt, lt→ltb, ltb→lt}
use Rattle.std.proofs.Math.Dec.{T_prop}
use Rattle.field.specs.Model.{Numbered}
use Rattle.field.specs.Residues.{Below, modulo}

pub bound : (n : ℕ) (x : Below n) → x.0 < n
bound n x = ltb→lt x.0 n x.1

pub same : (n : ℕ) (x y : Below n) → x.0 ≡ y.0 → x ≡ y
same n x y e = Σ_prop_path (λ k. T_prop (nat_lt k n)) e

pub modulo-below : (n : ℕ) (pos : 0 < n) (x : Below n) → modulo n pos x.0 ≡ x
modulo-below n pos x = same n (modulo n pos x.0) x (mod-eq_of_lt (bound n x))

pub modulo_differ : (n : ℕ) (pos : 0 < n) (a b : ℕ) → a < n → b < n → modulo n pos a ≡ modulo n pos b → a ≡ b
modulo_differ n pos a b ha hb e = sym (mod-eq_of_lt ha) ∙ ap (λ (x : Below n). x.0) e ∙ mod-eq_of_lt hb

pub counted : (n : ℕ) → Numbered (Below n) n
counted n = record {
  number = λ x. x.0;
  below = bound n;
  differ = same n;
  every = λ i h. ((i, lt→ltb i n h), refl);
}

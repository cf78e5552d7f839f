-- What the laws of a field give. Assumes nothing.
use Rattle.std.proofs.Common.{◌≡◌, sym, ap, ◌∙◌}
use Rattle.field.specs.Model.{Ops, Laws}

module _ {E : Type 0} (F : Ops E) (L : Laws F) where
  open F use {zero, add, sub, mul, inverse}
  open L use {add_assoc, add_comm, mul_assoc, mul_comm, mul-add, add-zero, mul-one, add-sub, sub-add, mul-inverse}

  pub zero-add : (a : E) → add zero a ≡ a
  zero-add a = add_comm zero a ∙ add-zero a

  pub add_left_comm : (a b c : E) → add a (add b c) ≡ add b (add a c)
  add_left_comm a b c = sym (add_assoc a b c) ∙ ap (λ x. add x c) (add_comm a b) ∙ add_assoc b a c

  pub mul_left_comm : (a b c : E) → mul a (mul b c) ≡ mul b (mul a c)
  mul_left_comm a b c = sym (mul_assoc a b c) ∙ ap (λ x. mul x c) (mul_comm a b) ∙ mul_assoc b a c

  -- what is added on both sides
  pub cancel : (a b c : E) → add a c ≡ add b c → a ≡ b
  cancel a b c e = sym (add-sub a c) ∙ ap (λ x. sub x c) e ∙ add-sub b c

  pub mul-zero : (a : E) → mul a zero ≡ zero
  mul-zero a =
      cancel (mul a zero) zero (mul a zero)
      (sym (mul-add a zero zero) ∙ ap (mul a) (add-zero zero) ∙ sym (zero-add (mul a zero)))

  pub zero-mul : (a : E) → mul zero a ≡ zero
  zero-mul a = mul_comm zero a ∙ mul-zero a

  pub sub_self : (a : E) → sub a a ≡ zero
  sub_self a = ap (λ x. sub x a) (sym (zero-add a)) ∙ add-sub zero a

  pub sub_zero_equal : (a b : E) → sub a b ≡ zero → a ≡ b
  sub_zero_equal a b e = sym (sub-add a b) ∙ ap (λ x. add x b) e ∙ zero-add b

  -- if a product is zero then one of its factors is
  pub mul_not_zero : (a b : E) → (a ≡ zero → ⊥) → mul a b ≡ zero → b ≡ zero
  mul_not_zero a b d e = sym (mul-one b) ∙ rw (← mul-inverse a d, ← mul_assoc, mul_comm b a, e) (zero-mul (inverse a))

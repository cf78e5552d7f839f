-- What stands in a list after a part of it is written. Assumes nothing.
use Rattle.std.proofs.Common.{◌≡◌, ℕ, ◌+◌, ◌<◌, ◌≤◌, ◌++◌, List, length, get_or, take, ap, ◌∙◌, arith}
use Rattle.std.proofs.lemmas.List.{get_or-take, get_or_append_left, get_or-append-add, length-take-le}
use borrow.Rule.Slice.PartMut.{put_mid, post_of}

module _ {S : Type 0} (z : S) (xs ys : List S) (a k : ℕ) (fits : a ≤ length xs) where
  -- before the part
  pub before_part : (t : ℕ) → t < a → get_or (put_mid a k xs ys) t z ≡ get_or xs t z
  before_part t h = get_or_append_left (take a xs) (ys ++ post_of a k xs) z t (omega (arith, length-take-le a xs fits)) ∙ get_or-take a xs t z h

  -- in the part
  pub in_part : (i : ℕ) → i < length ys → get_or (put_mid a k xs ys) (a + i) z ≡ get_or ys i z
  in_part i h =
      let e : a + i ≡ length (take a xs) + i = omega (arith, length-take-le a xs fits) in
      ap (λ (t : ℕ). get_or (put_mid a k xs ys) t z) e
      ∙ get_or-append-add (take a xs) (ys ++ post_of a k xs) i z ∙ get_or_append_left ys (post_of a k xs) z i h

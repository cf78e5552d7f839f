-- Bytes written over others. Only proofs, for a law: no contract cites it. Assumes nothing.
use Rattle.std.specs.Prelude.{◌≡◌, ℕ, suc, ◌+◌, ◌-◌, ◌<◌, ◌≤◌, List, [], ◌∷◌, ◌++◌, length, get_or, take, drop, slice_index_or, slice_set, refl}
use Rattle.std.proofs.Common.{sym, ap, ◌∙◌, ⊎_elim, arith}
use borrow.Rule.Slice.PartMut.{put_mid}
use Rattle.std.specs.List.{between}
use Rattle.std.proofs.lemmas.List.{length-take, length-drop, length-append, length-take-le, drop-drop, get_or-take, get_or-drop, get_or_append_left, get_or-append_right, same_lists, set_split}
use Rattle.std.proofs.lemmas.List.Edits.{length-between, get_or-between}
use Rattle.std.proofs.lemmas.Bool.{cases_lt}
use Rattle.image.specs.Layouts.{over}

pub put_mid-over : (a n : ℕ) (xs ys zs : List ℕ) → ys ≡ zs → n ≡ length zs → put_mid a (a + n - a) xs ys ≡ over a zs xs
put_mid-over a n xs ys zs e l =
    ap (λ t. take a xs ++ (t ++ drop (a + n - a) (drop a xs))) e
    ∙ ap (λ t. take a xs ++ (zs ++ t)) (drop-drop (a + n - a) a xs ∙ ap (λ m. drop m xs) (let z : a + (a + n - a) ≡ a + length zs = omega arith in z))

module _ (a : ℕ) (ys xs : List ℕ) (fits : a + length ys ≤ length xs) where
  pub length_over : length (over a ys xs) ≡ length xs
  length_over = simp (length-append, length-take, length-drop) (omega arith)

  pub get_or-over_below : (k d : ℕ) → k < a → slice_index_or (over a ys xs) k d ≡ slice_index_or xs k d
  get_or-over_below k d lt = get_or_append_left (take a xs) _ d k (let l = length-take a xs in omega arith) ∙ get_or-take a xs k d lt

  -- from a on
  get_or-past_a : (k d : ℕ) → a ≤ k → slice_index_or (over a ys xs) k d ≡ slice_index_or (ys ++ drop (a + length ys) xs) (k - a) d
  get_or-past_a k d le = get_or-append_right (take a xs) (ys ++ drop (a + length ys) xs) a k d (length-take-le a xs (omega arith)) le

  pub get_or-over_at : (k d : ℕ) → a ≤ k → k < a + length ys → slice_index_or (over a ys xs) k d ≡ slice_index_or ys (k - a) d
  get_or-over_at k d le lt = get_or-past_a k d le ∙ get_or_append_left ys _ d (k - a) (omega arith)

  pub get_or-over_above : (k d : ℕ) → a + length ys ≤ k → slice_index_or (over a ys xs) k d ≡ slice_index_or xs k d
  get_or-over_above k d le =
      get_or-past_a k d (omega arith) ∙ get_or-append_right ys (drop (a + length ys) xs) (length ys) (k - a) d refl (omega arith)
      ∙ get_or-drop (a + length ys) xs (k - a - length ys) d ∙ ap (λ m. get_or xs m d) (let z : a + length ys + (k - a - length ys) ≡ k = omega arith in z)

  -- a part that the bytes do not touch
  pub between_over_other : (i j : ℕ) → j ≤ length xs → ((k : ℕ) → i ≤ k → k < j → (d : ℕ) → slice_index_or (over a ys xs) k d ≡ slice_index_or xs k d) → between i j (over a ys xs) ≡ between i j xs
  between_over_other i j le same =
      let l = length_over in
      same_lists (between i j (over a ys xs)) (between i j xs)
      (length-between (over a ys xs) i j (omega arith) ∙ sym (length-between xs i j le))
      (λ k d h. let m : i + k < j = (let n = length-between (over a ys xs) i j (omega arith) in omega arith) in
      get_or-between (over a ys xs) i j k d m ∙ same (i + k) (omega arith) m d ∙ sym (get_or-between xs i j k d m))

  pub between_over_below : (i j : ℕ) → j ≤ a → between i j (over a ys xs) ≡ between i j xs
  between_over_below i j le = between_over_other i j (omega arith) (λ k _ lt d. get_or-over_below k d (omega arith))

  pub between_over_above : (i j : ℕ) → a + length ys ≤ i → j ≤ length xs → between i j (over a ys xs) ≡ between i j xs
  between_over_above i j le lj = between_over_other i j lj (λ k ge _ d. get_or-over_above k d (omega arith))

  -- the part that begins with them
  pub between_over_at : (j : ℕ) → a + length ys ≤ j → j ≤ length xs → between a j (over a ys xs) ≡ ys ++ drop (length ys) (between a j xs)
  between_over_at j le lj =
      let l = length_over in
      let n = length-between (over a ys xs) a j (omega arith) in
      let m = length-between xs a j lj in
      same_lists (between a j (over a ys xs)) (ys ++ drop (length ys) (between a j xs))
      (simp (length-append, length-drop) (omega arith))
      (λ k d h. get_or-between (over a ys xs) a j k d (omega arith) ∙ ⊎_elim
      (λ (lt : k < length ys). get_or-over_at (a + k) d (omega arith) (omega arith) ∙ ap (λ i. get_or ys i d) (let z : a + k - a ≡ k = omega arith in z) ∙ sym (get_or_append_left ys _ d k lt))
      (λ (ge : length ys ≤ k). get_or-over_above (a + k) d (omega arith) ∙ sym (get_or-between xs a j k d (omega arith))
      ∙ sym (get_or-append_right ys (drop (length ys) (between a j xs)) (length ys) k d refl ge ∙ get_or-drop (length ys) (between a j xs) (k - length ys) d ∙ ap (λ i. get_or (between a j xs) i d) (let z : length ys + (k - length ys) ≡ k = omega arith in z)))
      (cases_lt k (length ys)))

  pub between_over_all : (j : ℕ) → j ≡ a + length ys → between a j (over a ys xs) ≡ ys
  between_over_all j e =
      let l = length_over in
      let n = length-between (over a ys xs) a j (omega arith) in
      same_lists (between a j (over a ys xs)) ys (omega arith)
      (λ k d h. get_or-between (over a ys xs) a j k d (omega arith) ∙ get_or-over_at (a + k) d (omega arith) (omega arith) ∙ ap (λ m. get_or ys m d) (let z : a + k - a ≡ k = omega arith in z))

pub set-over : (xs : List ℕ) (i v : ℕ) → i < length xs → slice_set xs i v ≡ over i (v ∷ []) xs
set-over xs i v lt = set_split xs i v lt ∙ ap (λ m. take i xs ++ v ∷ drop m xs) (let z : suc i ≡ i + 1 = omega arith in z)

-- An image as a row of sleds. Only proofs, for a law: no contract cites it. Assumes nothing.
use Rattle.std.specs.Prelude.{◌≡◌, ℕ, ◌+◌, ◌-◌, ◌*◌, ◌<◌, ◌≤◌, Bool, true, false, List, length, take, drop, ◌≢◌, slice_index, slice_index_or, slice_set, refl}
use Rattle.std.proofs.Common.{sym, ap, subst, ◌∙◌, ⊎_elim, arith, mul-le-mul_right, add-mul}
use Rattle.std.specs.List.{AllByRecursion}
use Rattle.std.proofs.lemmas.List.{same_lists, length-take, get_or-take, length-set, get_or-set_same, get_or-set_other, get_or_past}
use Rattle.std.proofs.lemmas.List.Edits.{length-between}
use Rattle.std.proofs.ByRecursion.{All-from_get_or, All-take, All-drop}
use Rattle.std.proofs.lemmas.List.FromFn.{length-map-range_with_len, get_or-map-range_with_len}
use Rattle.std.specs.Str.{bytes_eq}
use Rattle.std.proofs.lemmas.Slice.Eq.{bytes_eq-Decides}
use Rattle.std.proofs.lemmas.Bool.{cases_eq, cases_lt, both_ways}
use Rattle.refusal.specs.Grounds.{Clear}
use Rattle.bank.specs.Meaning.{Sled, sled_at, no_sled, SoundSled, Sound}
use Rattle.bank.specs.Calls.{OnlyAt}
use Rattle.image.specs.declared.layout.Layout.{Layout}
use Rattle.image.specs.Layouts.{sled_of, mark}
use Rattle.image.specs.Racks.{sleds_of, cells_of, sled_start, sled_bytes, rack_of, with_sled}
use Rattle.image.specs.Opening.{Shape, open_grounds}
use Rattle.image.specs.Overwrites.{length_over, get_or-over_below, between_over_below, between_over_above, between_over_all}
use Rattle.image.specs.Bounds.{sled_bounds}

-- a number that is not out of its bounds is within them
within : (a b n : ℕ) → (((a ≤ n) × (n ≤ b) → ⊥) → ⊥) → (a ≤ n) × (n ≤ b)
within a b n h =
    ⊎_elim (λ (low : n < a). absurd (h (λ p. let z : ⊥ = omega (arith, p.0) in z)))
    (λ (a≤n : a ≤ n). ⊎_elim (λ (high : b < n). absurd (h (λ p. let z : ⊥ = omega (arith, p.1) in z))) (λ (n≤b : n ≤ b). (a≤n, n≤b)) (cases_lt b n))
    (cases_lt n a)

not_other : (m n : ℕ) → ((m ≢ n) → ⊥) → m ≡ n
not_other m n h = ⊎_elim (λ (e : m ≡ n). e) (λ (ne : m ≡ n → ⊥). absurd (h ne)) (cases_eq m n)

not_other_list : (xs ys : List ℕ) → ((xs ≢ ys) → ⊥) → xs ≡ ys
not_other_list xs ys h = by_cases (bytes_eq xs ys) refl
  where
    by_cases : (b : Bool) → bytes_eq xs ys ≡ b → xs ≡ ys
    by_cases true e = (bytes_eq-Decides xs ys).0 e
    by_cases false e = absurd (h (λ q. both_ways (bytes_eq xs ys) e ((bytes_eq-Decides xs ys).1 q)))

-- an image is opened exactly where it has its mark and this shape
pub marked : (l : Layout) (img : List ℕ) → Clear (open_grounds l img) → take 4 img ≡ mark l
marked l img (_, (m, _)) = not_other_list (take 4 img) (mark l) m

pub shape : (l : Layout) (img : List ℕ) → Clear (open_grounds l img) → Shape img
shape l img (_, (_, (sleds, (cells, (zeros, (whole, _)))))) =
    let s = within 1 32 (sleds_of img) sleds in
    let c = within 1 64 (cells_of img) cells in
    record {
      some_sleds = s.0;
      few_sleds = s.1;
      some_cells = c.0;
      few_cells = c.1;
      zeros = (not_other (slice_index img 6) 0 (λ ne. zeros (λ p. ne p.0)), not_other (slice_index img 7) 0 (λ ne. zeros (λ p. ne p.1)));
      whole = not_other (length img) (8 + sleds_of img * (cells_of img * 1040)) whole;
    }

pub opens : (l : Layout) (img : List ℕ) → take 4 img ≡ mark l → Shape img → Clear (open_grounds l img)
opens l img m ok = (
  λ lt. let w = ok.whole in let z : ⊥ = omega arith in z,
  (λ ne. ne m, (λ ne. ne (ok.some_sleds, ok.few_sleds), (λ ne. ne (ok.some_cells, ok.few_cells), (λ ne. ne ok.zeros, (λ ne. ne ok.whole, tt))))),
)

-- rows of z bytes, one after another
row_end : (j k z : ℕ) → j < k → j * z + z ≤ k * z
row_end j k z lt = let h : (j + 1) * z ≤ k * z = mul-le-mul_right z (omega arith) in omega (arith, add-mul j 1 z)

module _ (l : Layout) (img : List ℕ) (ok : Shape img) where
  pub sled_fits : (k : ℕ) → k < sleds_of img → sled_start (cells_of img) k + cells_of img * 1040 ≤ length img
  sled_fits k lt = omega (arith, ok.whole, row_end k (sleds_of img) (cells_of img * 1040) lt)

  pub sled_within : (C k : ℕ) (bytes : List ℕ) → C ≡ cells_of img → bytes ≡ img → k < sleds_of img → sled_start C k + C * 1040 ≤ length bytes
  sled_within C k bytes e same lt =
      subst (λ n. sled_start C k + C * 1040 ≤ n) (ap length (sym same)) (subst (λ c. sled_start c k + c * 1040 ≤ length img) (sym e) (sled_fits k lt))

  pub sled_whole : (k : ℕ) → k < sleds_of img → length (sled_bytes (cells_of img) img k) ≡ cells_of img * 1040
  sled_whole k lt =
      let f = sled_fits k lt in
      length-between img (sled_start (cells_of img) k) (sled_start (cells_of img) k + cells_of img * 1040) f
      ∙ (let e : sled_start (cells_of img) k + cells_of img * 1040 - sled_start (cells_of img) k ≡ cells_of img * 1040 = omega arith in e)

  module _ where
    abbrev sled-number : ℕ → Sled
    sled-number k = sled_of l (cells_of img) (sled_bytes (cells_of img) img k)

    pub length-rack : length (rack_of l img) ≡ sleds_of img
    length-rack = length-map-range_with_len sled-number 0 (sleds_of img)

    pub rack_at : (k : ℕ) → k < sleds_of img → sled_at (rack_of l img) k ≡ sled_of l (cells_of img) (sled_bytes (cells_of img) img k)
    rack_at k lt = get_or-map-range_with_len sled-number 0 (sleds_of img) k k no_sled lt (omega arith)

    pub rack_past : (k : ℕ) → sleds_of img ≤ k → sled_at (rack_of l img) k ≡ no_sled
    rack_past k le = get_or_past (rack_of l img) k no_sled (let n = length-rack in omega arith)

    -- a rack of sleds that each keep the bounds
    pub rack_bounds : ((i : ℕ) → slice_index img i < 256) → Sound (rack_of l img)
    rack_bounds h =
        let n = length-rack in
        let bytes : AllByRecursion (λ b. b < 256) img = All-from_get_or (λ b. b < 256) img 0 (λ i lt. h i) in
        record {
          some = omega (arith, ok.some_sleds);
          at_most = omega (arith, ok.few_sleds);
          sound_sleds = All-from_get_or SoundSled (rack_of l img) no_sled
              (λ k lt.
              subst SoundSled (sym (rack_at k (omega arith)))
              (sled_bounds l (cells_of img) (sled_bytes (cells_of img) img k) (sled_whole k (omega arith)) ok.few_cells
              (All-take (λ b. b < 256) _ (drop (sled_start (cells_of img) k) img) (All-drop (λ b. b < 256) (sled_start (cells_of img) k) img bytes))));
        }

    -- other bytes for one sled
    module _ (k : ℕ) (bytes : List ℕ) (there : k < sleds_of img) (long : length bytes ≡ cells_of img * 1040) where
      abbrev C : ℕ
      C = cells_of img

      abbrev img' : List ℕ
      img' = with_sled k bytes img

      fits : sled_start C k + length bytes ≤ length img
      fits = let f = sled_fits k there in omega arith

      head-same : (i : ℕ) → i < 8 → slice_index img' i ≡ slice_index img i
      head-same i lt = get_or-over_below (sled_start C k) bytes img fits i 0 (omega arith)

      length-same : length img' ≡ length img
      length-same = length_over (sled_start C k) bytes img fits

      cells_same : cells_of img' ≡ C
      cells_same = head-same 5 (omega arith)

      sleds-same : sleds_of img' ≡ sleds_of img
      sleds-same = head-same 4 (omega arith)

      pub mark_same : take 4 img' ≡ take 4 img
      mark_same =
          let n = length-same in
          let t = length-take 4 img in
          let t' = length-take 4 img' in
          same_lists (take 4 img') (take 4 img) (omega arith)
          (λ i d lt. get_or-take 4 img' i d (omega arith) ∙ get_or-over_below (sled_start C k) bytes img fits i d (omega arith) ∙ sym (get_or-take 4 img i d (omega arith)))

      -- the image has its shape as before
      pub shape_same : Shape img'
      shape_same =
          let s = sleds-same in
          let c = cells_same in
          let n = length-same in
          let size : sleds_of img' * (cells_of img' * 1040) ≡ sleds_of img * (cells_of img * 1040) = cc in
          record {
            some_sleds = omega (arith, ok.some_sleds);
            few_sleds = omega (arith, ok.few_sleds);
            some_cells = omega (arith, ok.some_cells);
            few_cells = omega (arith, ok.few_cells);
            zeros = (head-same 6 (omega arith) ∙ ok.zeros.0, head-same 7 (omega arith) ∙ ok.zeros.1);
            whole = omega (arith, ok.whole);
          }

      part-here : sled_bytes C img' k ≡ bytes
      part-here = between_over_all (sled_start C k) bytes img fits (sled_start C k + C * 1040) (omega arith)

      part-other : (j : ℕ) → j < sleds_of img → (j ≢ k) → sled_bytes C img' j ≡ sled_bytes C img j
      part-other j lt ne =
          ⊎_elim
          (λ (below : j < k). between_over_below (sled_start C k) bytes img fits (sled_start C j) (sled_start C j + C * 1040) (omega (arith, row_end j k (C * 1040) below)))
          (λ (above : k ≤ j).
          let more : k < j = omega arith in
          between_over_above (sled_start C k) bytes img fits (sled_start C j) (sled_start C j + C * 1040) (omega (arith, row_end k j (C * 1040) more)) (sled_fits j lt))
          (cases_lt j k)

      abbrev sled-number' : ℕ → Sled
      sled-number' j = sled_of l (cells_of img') (sled_bytes (cells_of img') img' j)

      -- only this sled has changed
      rack-with : rack_of l img' ≡ slice_set (rack_of l img) k (sled_of l C bytes)
      rack-with =
          let new = sled_of l C bytes in
          let rack = rack_of l img in
          let n = length-rack in
          let n' = length-map-range_with_len sled-number' 0 (sleds_of img') ∙ sleds-same in
          same_lists (rack_of l img') (slice_set rack k new) (n' ∙ sym n ∙ sym (length-set rack k new))
          (λ j d lt.
          get_or-map-range_with_len sled-number' 0 (sleds_of img') j j d (let s = sleds-same in omega arith) (omega arith)
          ∙ ap (λ c. sled_of l c (sled_bytes c img' j)) cells_same
          ∙ ⊎_elim
          (λ (q : j ≡ k).
          ap (λ i. sled_of l C (sled_bytes C img' i)) q ∙ ap (sled_of l C) part-here
          ∙ sym (ap (λ i. slice_index_or (slice_set rack k new) i d) q ∙ get_or-set_same rack k new d (omega arith)))
          (λ (ne : j ≡ k → ⊥).
          ap (sled_of l C) (part-other j (omega arith) ne)
          ∙ sym (get_or-set_other rack k j new d ne ∙ get_or-map-range_with_len sled-number 0 (sleds_of img) j j d (omega arith) (omega arith)))
          (cases_eq j k))

      pub only_this : OnlyAt (rack_of l img) (rack_of l img') k
      only_this =
          record {
            same_length = ap length rack-with ∙ length-set (rack_of l img) k (sled_of l C bytes);
            elsewhere = λ j ne. ap (λ r. sled_at r j) rack-with ∙ get_or-set_other (rack_of l img) k j (sled_of l C bytes) no_sled ne;
          }

      pub this_now : sled_at (rack_of l img') k ≡ sled_of l C bytes
      this_now = ap (λ r. sled_at r k) rack-with ∙ get_or-set_same (rack_of l img) k (sled_of l C bytes) no_sled (let n = length-rack in omega arith)

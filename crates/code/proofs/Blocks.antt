-- The length of a block, and of what is stored. Assumes nothing.
use Rattle.std.proofs.Common.{take_all, append-nil, length-drop, ◌≡◌, ℕ, suc, ◌+◌, ◌-◌, ◌*◌, ◌<◌, ◌≤◌, List, [], ◌++◌, length, take, drop, sym, refl, ap, ◌∙◌, ap₂, inl, inr, append_assoc, le_refl, mod-lt, mul-zero, zero-mul, add-one, arith, length-append}
use native.Mathlib.Nat.{div-add-mod, div-eq_of_lt-le}
use Rattle.std.proofs.lemmas.Grind.{div_ceil_times}
use Rattle.std.proofs.lemmas.Nat.{mul-le}
use Rattle.std.specs.Int.{div_ceil}
use Rattle.std.proofs.lemmas.List.{drop_all, drop-drop, take_at, drop_at, nil_from_length}
use Rattle.std.proofs.lemmas.Bool.{cases_lt}
use borrow.Rule.Slice.PartMut.{put_mid}
use Rattle.field.specs.Model.{Ops, Laws}
use Rattle.code.specs.Shares.{block_length, Sized, serial}

-- L divided by k, rounded up, as the library reckons it
pub rounded : (L k : ℕ) → 1 ≤ k → div_ceil L k ≡ block_length L k
unfolding block_length
rounded L k h =
    let t = div_ceil_times L k h in
    sym (div-eq_of_lt-le {k = div_ceil L k} k {m = L + (k - 1)} (omega (arith, t.0, t.1)) (omega (arith, t.0, t.1)))

-- the blocks cover the file
pub covered : (L k : ℕ) → 1 ≤ k → L ≤ k * block_length L k
unfolding block_length
covered L k h = omega (arith, div-add-mod (L + (k - 1)) k, mod-lt (L + (k - 1)) h)

-- a product is no less than its factors
pub sides : (b w : ℕ) → 1 ≤ b → 1 ≤ w → (b ≤ b * w) × (w ≤ b * w)
sides b w hb hw = (omega (arith, mul-le b 1 b w (le_refl b) hw), omega (arith, mul-le 1 w b w hb (le_refl w)))

-- a block of a file that has a byte has a place
pub block_some : (n k B : ℕ) → n ≤ k * B → 1 ≤ n → 1 ≤ B
block_some n k ℕ.zero cut h = absurd (omega (arith, mul-zero k))
block_some n k (suc B) cut h = omega arith

-- a place of the file lies in one of the k blocks
pub block_below : (b i k B n : ℕ) → b * B + i < n → n ≤ k * B → b < k
block_below b i k B n h cut =
    elim (cases_lt b k) [
      | inl l ↦ l
      | inr g ↦ absurd (omega (arith, mul-le k B b B g (le_refl B)))
    ]

module _ {E : Type 0} (F : Ops E) (L : Laws F) where
  -- a field has two symbols, so a symbol is stored in one byte at least
  pub width_positive : 1 ≤ F.width
  width_positive = go F.width refl
    where
      go : (w : ℕ) → F.width ≡ w → 1 ≤ w
      go ℕ.zero e =
          let none : (a : E) → F.stored a ≡ [] = λ a. nil_from_length (F.stored a) (L.stored-length a ∙ e) in
          absurd (L.zero_not_one (sym (L.reads_back F.zero) ∙ ap F.loaded (none F.zero ∙ sym (none F.one)) ∙ L.reads_back F.one))
      go (suc w) e = omega arith

  -- the numbers of a file that has shares: a block, k blocks, and what they are stored in
  pub sizes : (n k block : ℕ) → 1 ≤ k → k ≤ 16 → block ≡ block_length n k → Sized n k F.width
      → (block ≤ 1024) × (k * block ≤ 16384) × (n ≤ k * block) × (k * block * F.width ≤ 16384) × (block * F.width ≤ 1024)
  sizes n k block h few eB s =
      let cut : n ≤ k * block = rw eB (covered n k h) in
      let fits : block * F.width ≤ 1024 = rw eB s.fits in
      let side = sides block F.width (block_some n k block cut s.some) width_positive in
      let short : block ≤ 1024 = omega (arith, fits) in
      let e : k * block * F.width ≡ k * (block * F.width) = omega arith in
      (short, mul-le k block 16 1024 few short, cut, omega (arith, mul-le k (block * F.width) 16 1024 few fits), fits)

  pub serial-length : (f : ℕ → E) (n : ℕ) → length (serial F f n) ≡ n * F.width
  unfolding serial
  serial-length f ℕ.zero = sym (zero-mul F.width)
  serial-length f (suc n) =
      length-append (serial F f n) (F.stored (f n)) ∙ ap₂ (λ (x y : ℕ). x + y) (serial-length f n) (L.stored-length (f n)) ∙ omega arith

  pub serial_start : (f : ℕ → E) (out : List ℕ) → out ≡ serial F f 0 ++ drop (0 * F.width) out
  unfolding serial
  serial_start f out = ap (λ (n : ℕ). drop n out) (sym (zero-mul F.width))

  serial-step : (f : ℕ → E) (i : ℕ) → serial F f (i + 1) ≡ serial F f i ++ F.stored (f i)
  unfolding serial
  serial-step f i = ap (serial F f) (add-one i)

  -- one symbol more, written to the start of what is left
  pub serial_more : (f : ℕ → E) (i a : ℕ) (out was ys : List ℕ) → out ≡ serial F f i ++ drop (i * F.width) was → a ≡ i * F.width
      → ys ≡ F.stored (f i) ++ drop F.width (take (length out - a) (drop a out))
      → put_mid a (length out - a) out ys ≡ serial F f (i + 1) ++ drop ((i + 1) * F.width) was
  serial_more f i a out was ys e ea ey =
      let k : ℕ = length out - a in
      let before = serial F f i in
      let rest = drop (i * F.width) was in
      let la : length before ≡ a = serial-length f i ∙ sym ea in
      let front : take a out ≡ before = ap (take a) e ∙ take_at before rest a la in
      let back : drop a out ≡ rest = ap (drop a) e ∙ drop_at before rest a la in
      let whole : take k (drop a out) ≡ drop a out = take_all k (drop a out) (omega (arith, length-drop a out)) in
      let none : drop k (drop a out) ≡ [] = drop_all k (drop a out) (omega (arith, length-drop a out)) in
      let past : drop F.width (take k (drop a out)) ≡ drop ((i + 1) * F.width) was =
      ap (drop F.width) (whole ∙ back) ∙ drop-drop F.width (i * F.width) was ∙ ap (λ (n : ℕ). drop n was) (omega arith) in
      ap₂ ◌++◌ front (ap₂ ◌++◌ (ey ∙ ap (λ (l : List ℕ). F.stored (f i) ++ l) past) none ∙ append-nil (F.stored (f i) ++ drop ((i + 1) * F.width) was))
      ∙ sym (append_assoc before (F.stored (f i)) (drop ((i + 1) * F.width) was)) ∙ ap (λ (l : List ℕ). l ++ drop ((i + 1) * F.width) was) (sym (serial-step f i))

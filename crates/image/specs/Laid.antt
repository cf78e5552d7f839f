-- Where the places of a sled lie: apart from one another, in each layout. Only proofs, for a law: no contract cites it. Assumes nothing.
use Rattle.std.specs.Prelude.{◌≡◌, ℕ, ◌+◌, ◌-◌, ◌*◌, ◌<◌, ◌≤◌, true, ◌⊎◌, List, [], ◌∷◌, ◌++◌, length, drop, ◌≢◌, slice_index, refl}
use Rattle.std.proofs.Common.{ap, ap₂, ◌∙◌, inl, inr, ⊎_elim, arith}
use Rattle.std.specs.List.{between}
use Rattle.std.proofs.lemmas.List.Edits.{get_or-between}
use Rattle.std.proofs.lemmas.Bool.{cases_lt, eq-eqb}
use Rattle.image.specs.declared.layout.Layout.{Layout}
use Rattle.image.specs.declared.layout.Layout.TheVariants.{Tray, Zone}
use Rattle.image.specs.Places.{place_of, entry_of, is_free}
use Rattle.image.specs.Layouts.{entry_at, cell_at, place_at, over, freed, written}
use Rattle.image.specs.Overwrites.{length_over, get_or-over_at, between_over_below, between_over_above, between_over_at, between_over_all}

-- two parts of this length, the one that begins at i and the one that begins at j, do not meet
abbrev Apart : ℕ → ℕ → ℕ → ℕ → Type 0
Apart i m j n = (i + m ≤ j) ⊎ (j + n ≤ i)

pub entry_fits : (l : Layout) (C e : ℕ) → e < C → entry_at l C e + 16 ≤ C * 1040
entry_fits Tray C e lt = omega arith
entry_fits Zone C e lt = omega arith

pub cell_fits : (l : Layout) (C e : ℕ) → e < C → cell_at l C e + 1024 ≤ C * 1040
cell_fits Tray C e lt = omega arith
cell_fits Zone C e lt = omega arith

-- of two places, one is the lower
lower : (k e : ℕ) → (k ≢ e) → (k < e) ⊎ (e < k)
lower k e ne = ⊎_elim (λ (lt : k < e). inl lt) (λ (ge : e ≤ k). inr (omega arith)) (cases_lt k e)

entries_apart : (l : Layout) (C k e : ℕ) → (k ≢ e) → Apart (entry_at l C k) 16 (entry_at l C e) 16
entries_apart Tray C k e ne = ⊎_elim (λ (lt : k < e). inl (omega arith)) (λ (gt : e < k). inr (omega arith)) (lower k e ne)
entries_apart Zone C k e ne = ⊎_elim (λ (lt : k < e). inl (omega arith)) (λ (gt : e < k). inr (omega arith)) (lower k e ne)

cells_apart : (l : Layout) (C k e : ℕ) → (k ≢ e) → Apart (cell_at l C k) 1024 (cell_at l C e) 1024
cells_apart Tray C k e ne = ⊎_elim (λ (lt : k < e). inl (omega arith)) (λ (gt : e < k). inr (omega arith)) (lower k e ne)
cells_apart Zone C k e ne = ⊎_elim (λ (lt : k < e). inl (omega arith)) (λ (gt : e < k). inr (omega arith)) (lower k e ne)

entry_cell_apart : (l : Layout) (C k e : ℕ) → k < C → Apart (entry_at l C k) 16 (cell_at l C e) 1024
entry_cell_apart Tray C k e lt = inl (omega arith)
entry_cell_apart Zone C k e lt = ⊎_elim (λ (le : k < e + 1). inl (omega arith)) (λ (gt : e + 1 ≤ k). inr (omega arith)) (cases_lt k (e + 1))

-- a part that lies apart from what is written over stays
stays : (i m a n : ℕ) (ys xs : List ℕ) → length ys ≤ n → a + n ≤ length xs → i + m ≤ length xs → Apart i m a n → between i (i + m) (over a ys xs) ≡ between i (i + m) xs
stays i m a n ys xs short fits-a fits-i (inl le) = between_over_below a ys xs (omega arith) i (i + m) le
stays i m a n ys xs short fits-a fits-i (inr le) = between_over_above a ys xs (omega arith) i (i + m) (omega arith) fits-i

flip : {P Q : Type 0} → P ⊎ Q → Q ⊎ P
flip (inl p) = inr p
flip (inr q) = inl q

module _ (l : Layout) (C : ℕ) (bytes : List ℕ) (whole : length bytes ≡ C * 1040) where
  -- one state set to 0
  module _ (e : ℕ) (within : e < C) where
    freed-fits : entry_at l C e + 1 ≤ length bytes
    freed-fits = let f = entry_fits l C e within in omega arith

    pub length-freed : length (freed l C e bytes) ≡ length bytes
    length-freed = length_over (entry_at l C e) (0 ∷ []) bytes freed-fits

    pub freed_here : is_free (place_at l C (freed l C e bytes) e) ≡ true
    freed_here =
        eq-eqb _ 0
        (get_or-between (freed l C e bytes) (entry_at l C e) (entry_at l C e + 16) 0 0 (omega arith)
        ∙ get_or-over_at (entry_at l C e) (0 ∷ []) bytes freed-fits (entry_at l C e + 0) 0 (omega arith) (omega arith)
        ∙ ap (λ i. slice_index (0 ∷ []) i) (let z : entry_at l C e + 0 - entry_at l C e ≡ 0 = omega arith in z))

    pub freed_other : (k : ℕ) → k < C → (k ≢ e) → place_at l C (freed l C e bytes) k ≡ place_at l C bytes k
    freed_other k lt ne =
        let fe = entry_fits l C e within in
        let fk = entry_fits l C k lt in
        let ck = cell_fits l C k lt in
        ap₂ place_of
        (stays (entry_at l C k) 16 (entry_at l C e) 16 (0 ∷ []) bytes (omega arith) (omega arith) (omega arith) (entries_apart l C k e ne))
        (stays (cell_at l C k) 1024 (entry_at l C e) 16 (0 ∷ []) bytes (omega arith) (omega arith) (omega arith) (flip (entry_cell_apart l C e k within)))

  -- a share written to a place
  module _ (e id n : ℕ) (payload : List ℕ) (within : e < C) (short : length payload ≤ 1024) where
    abbrev mid : List ℕ
    mid = over (entry_at l C e) (entry_of id n payload) bytes

    mid-length : length mid ≡ length bytes
    mid-length = let f = entry_fits l C e within in length_over (entry_at l C e) (entry_of id n payload) bytes (omega arith)

    end_fits : cell_at l C e + length payload ≤ length mid
    end_fits = let f = cell_fits l C e within in let m = mid-length in omega arith

    pub length-written : length (written l C e id n payload bytes) ≡ length bytes
    length-written = length_over (cell_at l C e) payload mid end_fits ∙ mid-length

    -- the place that is written
    pub written_here : place_at l C (written l C e id n payload bytes) e
        ≡ place_of (entry_of id n payload) (payload ++ drop (length payload) (between (cell_at l C e) (cell_at l C e + 1024) bytes))
    written_here =
        let fe = entry_fits l C e within in
        let ce = cell_fits l C e within in
        let m = mid-length in
        ap₂ place_of
        (stays (entry_at l C e) 16 (cell_at l C e) 1024 payload mid short (omega arith) (omega arith) (entry_cell_apart l C e e within)
        ∙ between_over_all (entry_at l C e) (entry_of id n payload) bytes (omega arith) (entry_at l C e + 16) refl)
        (between_over_at (cell_at l C e) payload mid end_fits (cell_at l C e + 1024) (omega arith) (omega arith)
        ∙ ap (λ cell. payload ++ drop (length payload) cell)
        (stays (cell_at l C e) 1024 (entry_at l C e) 16 (entry_of id n payload) bytes (omega arith) (omega arith) (omega arith) (flip (entry_cell_apart l C e e within))))

    pub written_other : (k : ℕ) → k < C → (k ≢ e) → place_at l C (written l C e id n payload bytes) k ≡ place_at l C bytes k
    written_other k lt ne =
        let fe = entry_fits l C e within in
        let ce = cell_fits l C e within in
        let fk = entry_fits l C k lt in
        let ck = cell_fits l C k lt in
        let m = mid-length in
        ap₂ place_of
        (stays (entry_at l C k) 16 (cell_at l C e) 1024 payload mid short (omega arith) (omega arith) (entry_cell_apart l C k e lt)
        ∙ stays (entry_at l C k) 16 (entry_at l C e) 16 (entry_of id n payload) bytes (omega arith) (omega arith) (omega arith) (entries_apart l C k e ne))
        (stays (cell_at l C k) 1024 (cell_at l C e) 1024 payload mid short (omega arith) (omega arith) (cells_apart l C k e ne)
        ∙ stays (cell_at l C k) 1024 (entry_at l C e) 16 (entry_of id n payload) bytes (omega arith) (omega arith) (omega arith) (flip (entry_cell_apart l C e k within)))

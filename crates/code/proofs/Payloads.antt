-- A share has exactly one payload, and encode's sums are its symbols. Assumes nothing.
use Rattle.std.proofs.Common.{◌≡◌, ℕ, suc, ◌+◌, ◌*◌, ◌<◌, ◌≤◌, List, ◌++◌, length, get_or, sym, refl, ap, ◌∙◌, ap₂, arith}
use Rattle.field.specs.Model.{Ops, Laws}
use Rattle.code.specs.Lagrange.{interpolated}
use Rattle.code.specs.Shares.{block_length, block_byte, serial, Payload}
use Rattle.code.specs.Theorems.{OnePayload}
use Rattle.code.proofs.Roots.{Apart}
use Rattle.code.proofs.Basis.{exists, value_is}
use Rattle.code.proofs.Totals.{interpolated_same}
use Rattle.code.proofs.Rows.{row_ends}

serial_same : {E : Type 0} (F : Ops E) (f g : ℕ → E) (n : ℕ) → ((i : ℕ) → i < n → f i ≡ g i) → serial F f n ≡ serial F g n
unfolding serial
serial_same F f g ℕ.zero h = refl
serial_same F f g (suc n) h = ap₂ ◌++◌ (serial_same F f g n (λ i l. h i (omega arith))) (ap F.stored (h n (omega arith)))

-- the value at place i of share j
unfoldable pub share_value : {E : Type 0} → Ops E → (k : ℕ) (file : List ℕ) (j i : ℕ) → E
share_value F k file j i = interpolated F F.point (λ b. F.byte (block_byte file k b i)) k (F.point j)

module _ {E : Type 0} (F : Ops E) (L : Laws F) where
  pub points_apart : (k : ℕ) → k ≤ 32 → Apart F.point k
  unfolding Apart
  points_apart k h i j hi hj e = L.points_differ i j (omega arith) (omega arith) e

  -- the value that a payload has at a place
  pub value_of : (k j : ℕ) (file bytes : List ℕ) → k ≤ 32 → (q : Payload F k file j bytes) → (i : ℕ) → i < block_length (length file) k → q.value i ≡ share_value F k file j i
  unfolding share_value
  value_of k j file bytes few q i h =
      let r = q.right i h in
      r.2 ∙ value_is F L F.point (λ b. F.byte (block_byte file k b i)) k r.0 (points_apart k few) r.1 (F.point j)

  pub same_payload : (k j : ℕ) (file a b : List ℕ) → k ≤ 32 → Payload F k file j a → Payload F k file j b → a ≡ b
  same_payload k j file a b few p q =
      p.holds
      ∙ serial_same F p.value q.value (block_length (length file) k) (λ i h. value_of k j file a few p i h ∙ sym (value_of k j file b few q i h))
      ∙ sym q.holds

  -- the symbols with these values are the payload
  pub payload_from : (k j : ℕ) (file : List ℕ) (value : ℕ → E) → k ≤ 32
      → ((i : ℕ) → i < block_length (length file) k → value i ≡ share_value F k file j i)
      → Payload F k file j (serial F value (block_length (length file) k))
  unfolding share_value
  payload_from k j file value few values = record {
    value = value;
    right = λ i h.
        let p = exists F L F.point (λ b. F.byte (block_byte file k b i)) k (points_apart k few) in
        (p.0, p.1, values i h ∙ sym (p.2 (F.point j)));
    holds = refl;
  }

  -- a share has one payload, and only one
  pub one_payload : OnePayload F
  one_payload k j file few =
      let p = payload_from k j file (share_value F k file j) few (λ i h. refl) in
      (serial F (share_value F k file j) (block_length (length file) k), p, λ other q. same_payload k j file other (serial F (share_value F k file j) (block_length (length file) k)) few q p)

  -- the sums over the points 0 to k - 1 and the symbols of the file are the values at point j
  pub sums_payload : (k p block j : ℕ) (file : List ℕ) (x row sum : ℕ → E) → k ≤ 32 → block ≡ block_length (length file) k → p ≡ k
      → ((i : ℕ) → i < k → x i ≡ F.point i)
      → ((t : ℕ) → t < k * block → row t ≡ F.byte (get_or file t 0))
      → ((i : ℕ) → i < block → sum i ≡ interpolated F x (λ m. row (m * block + i)) p (F.point j))
      → Payload F k file j (serial F sum block)
  unfolding share_value
  sums_payload k p block j file x row sum few eB size at loaded summed =
      rw eB (payload_from k j file sum few values)
    where
      values : (i : ℕ) → i < block_length (length file) k → sum i ≡ share_value F k file j i
      values i h =
          let hB : i < block = rw eB h in
          let v = λ (m : ℕ). row (m * block + i) in
          summed i hB
          ∙ ap (λ (q : ℕ). interpolated F x v q (F.point j)) size
          ∙ interpolated_same F x F.point v (λ b. F.byte (block_byte file k b i)) k (F.point j) at
          (λ b hb. loaded (b * block + i) (omega (arith, row_ends b k block (k * block) hb (omega arith))) ∙ ap (λ (n : ℕ). F.byte (get_or file (b * n + i) 0)) eB)

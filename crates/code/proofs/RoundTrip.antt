-- Any k different shares of a file give it back. Assumes nothing.
use Rattle.std.proofs.Common.{◌≡◌, ℕ, suc, ◌+◌, ◌*◌, ◌<◌, ◌≤◌, true, List, [], ◌∷◌, ◌++◌, length, get_or, take, drop, Ok, Err, Result, sym, refl, ap, ◌∙◌, subst, inl, inr, le_refl, not-suc-le-zero, arith, length-drop, take_all}
use Rattle.std.proofs.lemmas.Nat.{mul-le}
use Rattle.std.proofs.lemmas.Bool.{cases_eq}
use Rattle.std.proofs.lemmas.List.{drop-drop, drop_at, take-append-le, drop-append-le}
use Rattle.refusal.specs.declared.Fault.{Fault}
use Rattle.field.specs.Model.{Ops, Laws}
use Rattle.code.specs.Polynomials.{eval}
use Rattle.code.specs.Shares.{Bytes, block_length, block_byte, serial, Payload}
use Rattle.code.specs.Decoding.{symbol_bytes, Fits, Decodes, Outside, SharesOf, payload_at}
use Rattle.code.specs.Codes.{Numbers}
use Rattle.code.specs.Calls.{Recovers}
use Rattle.code.specs.Theorems.{GivesBack}
use Rattle.code.proofs.Basis.{exists}
use Rattle.code.proofs.Blocks.{serial-length, covered, block_below}
use Rattle.code.proofs.Payloads.{share_value, points_apart, value_of}
use Rattle.code.proofs.Decodings.{decodes_good}

-- a part of a front
front_part : (xs : List ℕ) (a b n : ℕ) → a + n ≤ b → take n (drop a (take b xs)) ≡ take n (drop a xs)
front_part xs ℕ.zero b ℕ.zero h = refl
front_part xs ℕ.zero ℕ.zero (suc n) h = absurd (omega arith)
front_part [] ℕ.zero (suc b) (suc n) h = refl
front_part (x ∷ xs) ℕ.zero (suc b) (suc n) h = ap (λ (l : List ℕ). x ∷ l) (front_part xs ℕ.zero b n (omega arith))
front_part xs (suc a) ℕ.zero n h = absurd (omega arith)
front_part [] (suc a) (suc b) n h = refl
front_part (x ∷ xs) (suc a) (suc b) n h = front_part xs a b n (omega arith)

module _ {E : Type 0} (F : Ops E) (L : Laws F) where
  -- symbol i of what is stored
  serial-part : (f : ℕ → E) (n i : ℕ) → i < n → take F.width (drop (i * F.width) (serial F f n)) ≡ F.stored (f i)
  unfolding serial
  serial-part f ℕ.zero i h = absurd (not-suc-le-zero h)
  serial-part f (suc n) i h =
      elim (cases_eq i n) [
        | inl e ↦
            ap (take F.width) (drop_at (serial F f n) (F.stored (f n)) (i * F.width) (serial-length F L f n ∙ ap (λ m. m * F.width) (sym e)))
            ∙ ap (λ m. take F.width (F.stored (f m))) (sym e)
            ∙ take_all F.width (F.stored (f i)) (omega (arith, L.stored-length (f i)))
        | inr d ↦
            let row : suc i * F.width ≤ n * F.width = mul-le (suc i) F.width n F.width (omega arith) (le_refl F.width) in
            let long : i * F.width + F.width ≤ length (serial F f n) = omega (arith, serial-length F L f n) in
            ap (take F.width) (drop-append-le (i * F.width) (serial F f n) (F.stored (f n)) (omega arith))
            ∙ take-append-le F.width (drop (i * F.width) (serial F f n)) (F.stored (f n)) (rw length-drop (omega arith))
            ∙ serial-part f n i (omega arith)
      ]

  -- the symbol at place i of the payload of a share
  symbol-of : (k j m i : ℕ) (file payloads : List ℕ) → k ≤ 32 → i < block_length (length file) k → Payload F k file j (payload_at F (length file) k payloads m)
      → F.stored (share_value F k file j i) ≡ symbol_bytes F.width payloads (block_length (length file) k) m i
  unfolding symbol_bytes
  symbol-of k j m i file payloads few h q =
      let B = block_length (length file) k in
      let w = F.width in
      let bytes = payload_at F (length file) k payloads m in
      let row : suc i * w ≤ B * w = mul-le (suc i) w B w h (le_refl w) in
      let e : m * (B * w) + i * w ≡ (m * B + i) * w = omega arith in
      ap F.stored (sym (value_of F L k j file bytes few q i h)) ∙ sym (serial-part q.value B i h) ∙ ap (λ l. take w (drop (i * w) l)) (sym q.holds)
      ∙ front_part (drop (m * (B * w)) payloads) (i * w) (B * w) w (omega arith)
      ∙ ap (take w) (drop-drop (i * w) (m * (B * w)) payloads ∙ ap (λ n. drop n payloads) e)

  module _ (k n : ℕ) (file shares payloads : List ℕ) (some : 1 ≤ k) (few : k ≤ 32) (small : n ≤ 32) (bytes : Bytes file) (of : SharesOf F k n file shares payloads) where
    B : ℕ
    B = block_length (length file) k

    -- the polynomial through the blocks fits the shares
    curve : (i : ℕ) → i < B → (q : List E) × Fits F k B shares payloads i q × ((b : ℕ) → b < k → eval F q (F.point b) ≡ F.byte (block_byte file k b i))
    unfolding share_value B
    curve i h =
        let q = exists F L F.point (λ b. F.byte (block_byte file k b i)) k (points_apart F L k few) in (
          q.0,
          record {
            degree = q.1.degree;
            values = λ m hm. ap F.stored (q.2 (F.point (get_or shares m 0))) ∙ symbol-of k (get_or shares m 0) m i file payloads few h (of.payload m hm);
          },
          q.1.values,
        )

    -- so the shares decode to the file
    file-decodes : Decodes F k (length file) shares payloads file
    unfolding B
    file-decodes = record {
      size = refl;
      bytes = bytes;
      right = λ b i h within.
          let q = curve i h in
          record { p = q.0; fits = q.1; value = sym (q.2 b (block_below b i k B (length file) within (covered (length file) k some))) };
    }

    no-outside : Outside F k B payloads → ⊥
    unfolding B
    no-outside o = o.none (share_value F k file (get_or shares o.m 0) o.i) (symbol-of k (get_or shares o.m 0) o.m o.i file payloads few o.place (of.payload o.m o.share))

    -- what decode answers is the file
    restored : (was now : List ℕ) (r : Result (Unit {0}) Fault) (field h : ℕ)
        → Recovers F (record { field = field; k = k; h = h; n = n }) (length file) shares payloads was now r → length file ≤ length was
        → (Rattle.std.specs.Result.is_ok r ≡ true) × (now ≡ file ++ drop (length file) was)
    unfolding B
    restored was now (Ok x) field h a room = (refl, a.answer.1.written ∙ ap (λ (f : List ℕ). f ++ drop (length file) was) (sym (a.answer.1.only file file-decodes)))
    restored was now (Err e) field h a room = absurd (
        elim a.answer.0 [
          | inl w ↦ w.0 of.lengths
          | inr t ↦ elim t.1 [
            | inl w ↦ w.0 of.different
            | inr u ↦ elim u.1 [
              | inl w ↦ let short = w.0 in omega arith
              | inr v ↦ elim v.1 [
                | inl w ↦ elim w.0 [ inl o ↦ no-outside o | inr o ↦ decodes_good F L n k (length file) shares payloads some small of.lengths.count of.different file file-decodes o ]
                | inr x ↦ x.1
              ]
            ]
          ]
        ])

  -- any k different shares of a file decode to exactly that file
  pub gives_back : (c : Numbers) (len : ℕ) (shares payloads was now : List ℕ) (r : Result (Unit {0}) Fault) → 1 ≤ c.k → c.k ≤ 32 → c.n ≤ 32
      → Recovers F c len shares payloads was now r → GivesBack F c len shares payloads was now r
  gives_back c len shares payloads was now r some few small a = record {
    back = λ file bytes e of room.
        subst
        (λ (m : ℕ). Recovers F c m shares payloads was now r → m ≤ length was → (Rattle.std.specs.Result.is_ok r ≡ true) × (now ≡ file ++ drop m was)) e
        (λ a' room'. restored c.k c.n file shares payloads some few small bytes of was now r c.field c.h a' room') a room;
  }

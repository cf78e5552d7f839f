-- What decode reads and reckons, in the words of the definitions. Assumes nothing.
use Rattle.std.proofs.Common.{◌≡◌, ℕ, ◌+◌, ◌*◌, ◌/◌, ◌%◌, ◌<◌, ◌≤◌, ◌⊎◌, List, length, get_or, take, drop, Ok, Err, Result, sym, refl, ap, ◌∙◌, subst, inl, inr, mod-lt, div-add-mod', arith, lit<}
use Rattle.std.proofs.lemmas.List.{get_or-take, get_or_past, get_or_default, length-take-le, same_lists}
use Rattle.std.proofs.lemmas.Bool.{cases_lt}
use Rattle.field.specs.Model.{Ops, Laws}
use Rattle.code.specs.Polynomials.{eval, Through}
use Rattle.code.specs.Lagrange.{interpolated}
use Rattle.code.specs.Shares.{block_length}
use Rattle.refusal.specs.Grounds.{Told}
use Rattle.code.specs.Decoding.{symbol_bytes, Fits, Right, Decodes, Outside, NoByte, Lengths, Different}
use Rattle.code.specs.Codes.{Numbers}
use Rattle.code.specs.Calls.{BadSymbolIsTold, decode_grounds, Decoded, Recovers}
use Rattle.refusal.specs.declared.Fault.{Fault}
use Rattle.std.specs.Result.{IsErrAnd}
use Rattle.code.proofs.Roots.{Apart, only_one}
use Rattle.code.proofs.Basis.{exists}
use Rattle.code.proofs.Totals.{interpolated_same}
use Rattle.code.proofs.Rows.{row_ends}
use Rattle.code.proofs.Blocks.{block_below, block_some, covered}

module _ {E : Type 0} (F : Ops E) (L : Laws F) where
  -- different share numbers have different points
  pub shares_apart : (n k : ℕ) (shares : List ℕ) → n ≤ 32 → length shares ≡ k → Different n shares → Apart (λ m. F.point (get_or shares m 0)) k
  unfolding Apart
  shares_apart n k shares small count d i j hi hj e =
      d.apart i j (omega arith) (omega arith)
      (L.points_differ (get_or shares i 0) (get_or shares j 0) (let l = d.below i (omega arith) in omega arith) (let l = d.below j (omega arith) in omega arith) e)

  -- one polynomial fits the shares at a place
  pub fits_one : (n k B : ℕ) (shares payloads : List ℕ) (i : ℕ) (p q : List E) → n ≤ 32 → length shares ≡ k → Different n shares
      → Fits F k B shares payloads i p → Fits F k B shares payloads i q → p ≡ q
  fits_one n k B shares payloads i p q small count d fp fq =
      only_one F L k (λ m. F.point (get_or shares m 0)) (λ m. F.loaded (symbol_bytes F.width payloads B m i)) p q (shares_apart n k shares small count d) (through p fp) (through q fq)
    where
      through : (r : List E) → Fits F k B shares payloads i r → Through F k (λ m. F.point (get_or shares m 0)) (λ m. F.loaded (symbol_bytes F.width payloads B m i)) r
      through r f = record { degree = f.degree; values = λ m h. sym (L.reads_back (eval F r (F.point (get_or shares m 0)))) ∙ ap F.loaded (f.values m h) }

  module _ (n k len : ℕ) (shares payloads : List ℕ) (some : 1 ≤ k) (small : n ≤ 32) (count : length shares ≡ k) (different : Different n shares) where
    B : ℕ
    B = block_length len k

    -- the place of a byte of the file
    place : (t : ℕ) → t < len → (t % B < B) × (t / B * B + t % B ≡ t)
    unfolding B
    place t h = (mod-lt t (block_some len k B (covered len k some) (omega arith)), div-add-mod' t B)

    same-value : (b i : ℕ) (p q : List E) → Fits F k B shares payloads i p → Fits F k B shares payloads i q → eval F p (F.point b) ≡ eval F q (F.point b)
    same-value b i p q fp fq = ap (λ r. eval F r (F.point b)) (fits_one n k B shares payloads i p q small count different fp fq)

    -- shares decode to one file
    pub decodes_one : (file other : List ℕ) → Decodes F k len shares payloads file → Decodes F k len shares payloads other → other ≡ file
    unfolding B
    decodes_one file other d e =
        let byte : (t : ℕ) → t < len → get_or other t 0 ≡ get_or file t 0 = λ t h.
        let p = place t h in
        let u = t / B * B + t % B in
        let within : u < len = omega (arith, p.1) in
        let r = d.right (t / B) (t % B) p.0 within in
        let s = e.right (t / B) (t % B) p.0 within in
        subst (λ (v : ℕ). get_or other v 0 ≡ get_or file v 0) p.1
        (L.bytes_differ (get_or other u 0) (get_or file u 0) (e.bytes u) (d.bytes u) (s.value ∙ same-value (t / B) (t % B) s.p r.p s.fits r.fits ∙ sym r.value)) in
        same_lists other file (e.size ∙ sym d.size)
        (λ t z h. get_or_default other t z 0 h ∙ byte t (omega (arith, e.size)) ∙ get_or_default file t 0 z (omega (arith, e.size, d.size)))

    -- and where they decode to a file each of its values is a byte
    pub decodes_good : (file : List ℕ) → Decodes F k len shares payloads file → NoByte F k (block_length len k) len shares payloads → ⊥
    unfolding B
    decodes_good file d o =
        let r = d.right o.b o.i o.place o.within in
        o.none (get_or file (o.b * B + o.i) 0) (d.bytes (o.b * B + o.i)) (r.value ∙ same-value o.b o.i r.p o.p r.fits o.fits)

  -- the points and the symbols that decode has, by what they stand for
  module _ (n k p B : ℕ) (shares payloads : List ℕ) (x row : ℕ → E)
      (small : n ≤ 32) (count : length shares ≡ k) (different : Different n shares) (size : p ≡ k)
      (at : (i : ℕ) → i < k → x i ≡ F.point (get_or shares i 0))
      (read : (t : ℕ) → t < k * B → F.stored (row t) ≡ take F.width (drop (t * F.width) payloads)) where
    -- the value that decode reckons for place i of block b
    unfoldable pub reckoned : ℕ → ℕ → E
    reckoned b i = interpolated F x (λ m. row (m * B + i)) p (F.point b)

    -- it is the value of the polynomial that fits the shares
    fit : (i : ℕ) → i < B → (q : List E) × Fits F k B shares payloads i q × ((b : ℕ) → eval F q (F.point b) ≡ reckoned b i)
    unfolding reckoned symbol_bytes
    fit i h =
        let y = λ (m : ℕ). F.point (get_or shares m 0) in
        let v = λ (m : ℕ). row (m * B + i) in
        let q = exists F L y v k (shares_apart n k shares small count different) in (
          q.0,
          record {
            degree = q.1.degree;
            values = λ m hm. ap F.stored (q.1.values m hm) ∙ read (m * B + i) (omega (arith, row_ends m k B (k * B) hm (omega arith)));
          },
          λ b. q.2 (F.point b)
              ∙ sym (ap (λ (j : ℕ). interpolated F x v j (F.point b)) size ∙ interpolated_same F x y v v k (F.point b) at (λ m hm. refl)),
        )

    right : (b i y : ℕ) → i < B → F.byte y ≡ reckoned b i → Right F k B shares payloads b i y
    right b i y h e = let p = fit i h in record { p = p.0; fits = p.1; value = e ∙ sym (p.2 b) }

    pub no_byte : (len b i : ℕ) → i < B → b * B + i < len → ((y : ℕ) → y < 256 → F.byte y ≡ reckoned b i → ⊥) → NoByte F k B len shares payloads
    no_byte len b i h within none =
        let p = fit i h in
        record { b = b; i = i; place = h; within = within; p = p.0; fits = p.1; none = λ y hy e. none y hy (e ∙ p.2 b) }

    -- nothing is outside the field
    pub inside : Outside F k B payloads → ⊥
    unfolding symbol_bytes
    inside o =
        o.none (row (o.m * B + o.i))
        (read (o.m * B + o.i) (let s = o.share in let l = o.place in omega (arith, row_ends o.m k B (k * B) s (omega arith))))

    -- the bytes that were found are the file
    pub decodes : (len : ℕ) (found : List ℕ) → B ≡ block_length len k → len ≤ k * B → len ≤ length found
        → ((b i : ℕ) → i < B → b * B + i < len → (get_or found (b * B + i) 0 < 256) × (F.byte (get_or found (b * B + i) 0) ≡ reckoned b i))
        → Decodes F k len shares payloads (take len found)
    decodes len found eB cut long done = record {
      size = length-take-le len found long;
      bytes = λ t. elim (cases_lt t len) [
        | inl l ↦
            let e : t / B * B + t % B ≡ t = div-add-mod' t B in
            let within = mod-lt t (block_some len k B cut (omega arith)) in
            rw (get_or-take len found t 0 l) (subst (λ (u : ℕ). get_or found u 0 < 256) e (done (t / B) (t % B) within (omega arith)).0)
        | inr g ↦ rw (get_or_past (take len found) t 0 (omega (arith, length-take-le len found long))) (lit< tt)
      ];
      right = subst (λ (B' : ℕ). (b i : ℕ) → i < B' → b * B' + i < len → Right F k B' shares payloads b i (get_or (take len found) (b * B' + i) 0)) eB
          (λ b i h within. rw (get_or-take len found (b * B + i) 0 within) (right b i (get_or found (b * B + i) 0) h (done b i h within).1));
    }

-- a symbol that stands at place t of the payloads stands in one of them
pub outside_at : {E : Type 0} (F : Ops E) (k B t : ℕ) (payloads : List ℕ) → t < k * B → 1 ≤ B
    → ((e : E) → F.stored e ≡ take F.width (drop (t * F.width) payloads) → ⊥) → Outside F k B payloads
unfolding symbol_bytes
outside_at F k B t payloads h some none =
    let e : t / B * B + t % B ≡ t = div-add-mod' t B in
    record {
      m = t / B;
      i = t % B;
      share = block_below (t / B) (t % B) k B (k * B) (omega arith) (omega arith);
      place = mod-lt t some;
      none = λ s stored. none s (stored ∙ ap (λ (u : ℕ). take F.width (drop (u * F.width) payloads)) e);
    }

module _ {E : Type 0} (F : Ops E) (c : Numbers) (L B : ℕ) (shares payloads was : List ℕ) (eB : B ≡ block_length L c.k)
    (lengths : Lengths L c.k F.width shares payloads) (different : Different c.n shares) (fits : L ≤ length was) where
  -- with nothing else amiss a bad symbol is what is told
  pub told_bad : (r : Result (Unit {0}) Fault) → IsErrAnd r BadSymbolIsTold → Outside F c.k B payloads ⊎ NoByte F c.k B L shares payloads → Recovers F c L shares payloads was was r
  told_bad (Ok x) h bad = absurd h
  told_bad (Err f) h bad =
      let bad' = subst (λ (B' : ℕ). Outside F c.k B' payloads ⊎ NoByte F c.k B' L shares payloads) eB bad in
      record {
        answer = (
          subst (Told (decode_grounds F c.k c.n L shares payloads (length was))) (sym h)
              (inr ((λ not. not lengths), inr ((λ not. not different), inr ((λ short. absurd (omega arith)), inl (bad', refl))))),
          refl,
        );
      }

  -- and with no bad symbol there is nothing to tell
  pub all_clear : (now : List ℕ) (r : Unit {0}) → (Outside F c.k B payloads ⊎ NoByte F c.k B L shares payloads → ⊥) → Decoded F c.k L shares payloads was now → Recovers F c L shares payloads was now (Ok r)
  all_clear now r good decoded = record {
    answer = (
      ((λ not. not lengths), ((λ not. not different), ((λ short. absurd (omega arith)), (subst (λ (B' : ℕ). Outside F c.k B' payloads ⊎ NoByte F c.k B' L shares payloads → ⊥) eB good, tt)))),
      decoded,
    );
  }

-- What a put and a blank make of an image. Assumes nothing.
use Rattle.std.proofs.Common.{◌≡◌, ℕ, ◌*◌, ◌^◌, ◌<◌, ◌≤◌, true, List, length, take, is_some, Some, None, Option, sym, refl, ap, ◌∙◌, subst, ⊎_elim, arith}
use Rattle.std.proofs.lemmas.List.{length-take}
use Rattle.std.proofs.lemmas.List.FromFn.{length-map-range_with_len}
use Rattle.std.proofs.lemmas.Bool.{cases_lt}
use Rattle.std.specs.List.{position_or_len}
use Rattle.refusal.specs.Grounds.{Clear}
use Rattle.bank.specs.Meaning.{Sled, sled_at, held, PayloadLength}
use Rattle.bank.specs.Calls.{put_grounds, blank_grounds, Added, Put, emptied, Blanked}
use Rattle.image.specs.declared.layout.Layout.{Layout}
use Rattle.image.specs.declared.layout.Layout.TheVariants.{Tray, Zone}
use Rattle.image.specs.Places.{is_free}
use Rattle.image.specs.Layouts.{place_at, places, sled_of, sled_after_put, sled_after_blank}
use Rattle.image.specs.Racks.{sleds_of, cells_of, sled_bytes, rack_of, after_put, after_blank}
use Rattle.image.specs.Positions.{count_some}
use Rattle.image.proofs.Filled.{length-put, put_added}
use Rattle.image.proofs.Cleared.{length-freed_below, blanked_within, blank_empties}
use Rattle.image.specs.Opening.{Shape}
use Rattle.image.specs.Rows.{sled_whole, length-rack, rack_at, only_this, this_now, shape_same, mark_same}

-- a sled with room has a free place
place_left : (l : Layout) (C : ℕ) (bytes : List ℕ) → ((sled_of l C bytes).room ≡ 0 → ⊥) → position_or_len is_free (places l C bytes) < C
place_left Tray C bytes room =
    let all = length-map-range_with_len (place_at Tray C bytes) 0 C in
    let found = count_some is_free (places Tray C bytes) (omega (arith, room)) in
    omega arith
place_left Zone C bytes room =
    let all = length-map-range_with_len (place_at Zone C bytes) 0 C in
    let some = length-take (position_or_len is_free (places Zone C bytes)) (places Zone C bytes) in
    ⊎_elim (λ (lt : position_or_len is_free (places Zone C bytes) < C). lt) (λ (ge : C ≤ position_or_len is_free (places Zone C bytes)). absurd (room (omega arith)))
    (cases_lt (position_or_len is_free (places Zone C bytes)) C)

none_of : {X : Type 0} (o : Option X) → (is_some o ≡ true → ⊥) → o ≡ None
none_of None h = refl
none_of (Some x) h = absurd (h refl)

sized : (len : ℕ) → ((PayloadLength len → ⊥) → ⊥) → PayloadLength len
sized len h =
    ⊎_elim (λ (low : len < 1). absurd (h (λ p. let z : ⊥ = omega (arith, p.some) in z)))
    (λ (some : 1 ≤ len).
    ⊎_elim (λ (high : 1024 < len). absurd (h (λ p. let z : ⊥ = omega (arith, p.fits) in z))) (λ (fits : len ≤ 1024). record { some = some; fits = fits })
    (cases_lt 1024 len))
    (cases_lt len 1)

module _ (l : Layout) (img : List ℕ) (ok : Shape img) (k : ℕ) where
  abbrev C : ℕ
  C = cells_of img

  abbrev bytes : List ℕ
  bytes = sled_bytes (cells_of img) img k

  -- what is known where no ground applies against a put
  pub record Allowed (id n len : ℕ) : Type 0 where
    pub there : k < sleds_of img
    pub low : n < 32
    pub size : PayloadLength len
    pub absent : held (sled_of l (cells_of img) (sled_bytes (cells_of img) img k)) id n ≡ None
    pub place : position_or_len is_free (places l (cells_of img) (sled_bytes (cells_of img) img k)) < cells_of img

  pub allowed : (id n len : ℕ) → Clear (put_grounds (rack_of l img) k id n len) → Allowed id n len
  allowed id n len (sleds, (number, (size, (present, (room, _))))) =
      let there : k < sleds_of img = let h = length-rack l img ok in ⊎_elim (λ (lt : k < sleds_of img). lt) (λ (ge : sleds_of img ≤ k). absurd (sleds (omega arith))) (cases_lt k (sleds_of img)) in
      let at = rack_at l img ok k there in
      record {
        there = there;
        low = ⊎_elim (λ (lt : n < 32). lt) (λ (ge : 32 ≤ n). absurd (number ge)) (cases_lt n 32);
        size = sized len size;
        absent = none_of (held (sled_of l C bytes) id n) (subst (λ s. is_some (held s id n) ≡ true → ⊥) at present);
        place = place_left l C bytes (subst (λ (s : Sled). s.room ≡ 0 → ⊥) at room);
      }

  module _ (id n : ℕ) (payload : List ℕ) (fits : id < 2 ^ 32) (may : Allowed id n (length payload)) where
    abbrev new : List ℕ
    new = sled_after_put l C id n payload bytes

    whole : length bytes ≡ C * 1040
    whole = sled_whole l img ok k may.there

    long : length new ≡ C * 1040
    long = length-put l C (position_or_len is_free (places l C bytes)) id n payload bytes whole may.place may.size.fits fits ∙ whole

    pub put_shape : Shape (after_put l k id n payload img)
    put_shape = shape_same l img ok k new may.there long

    pub put_mark : take 4 (after_put l k id n payload img) ≡ take 4 img
    put_mark = mark_same l img ok k new may.there long

    pub image_put : Put (rack_of l img) (rack_of l (after_put l k id n payload img)) k id n payload
    image_put =
        record {
          only = only_this l img ok k new may.there long;
          added = subst (λ s. Added s (sled_at (rack_of l (after_put l k id n payload img)) k) id n payload) (sym (rack_at l img ok k may.there))
              (subst (λ s. Added (sled_of l C bytes) s id n payload) (sym (this_now l img ok k new may.there long))
              (put_added l C (position_or_len is_free (places l C bytes)) id n payload bytes whole refl may.place may.size.some may.size.fits may.low fits may.absent));
        }

  -- a sled that there is
  pub sled_there : Clear (blank_grounds (rack_of l img) k) → k < sleds_of img
  sled_there (sleds, _) =
      let h = length-rack l img ok in ⊎_elim (λ (lt : k < sleds_of img). lt) (λ (ge : sleds_of img ≤ k). absurd (sleds (omega arith))) (cases_lt k (sleds_of img))

  module _ (there : k < sleds_of img) where
    abbrev cleared : List ℕ
    cleared = sled_after_blank l C bytes

    cleared-long : length cleared ≡ C * 1040
    cleared-long =
        let w = sled_whole l img ok k there in
        length-freed_below l C bytes w _ (blanked_within l C ok.some_cells) ∙ w

    pub blank_shape : Shape (after_blank l k img)
    blank_shape = shape_same l img ok k cleared there cleared-long

    pub blank_mark : take 4 (after_blank l k img) ≡ take 4 img
    blank_mark = mark_same l img ok k cleared there cleared-long

    pub image_blank : Blanked (rack_of l img) (rack_of l (after_blank l k img)) k
    image_blank =
        record {
          only = only_this l img ok k cleared there cleared-long;
          empty = this_now l img ok k cleared there cleared-long
              ∙ blank_empties l C bytes (sled_whole l img ok k there) ok.some_cells
              ∙ ap emptied (sym (rack_at l img ok k there));
        }

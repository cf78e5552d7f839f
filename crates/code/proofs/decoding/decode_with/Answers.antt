use Rattle.std.proofs.Common.{◌≡◌, ℕ, ◌*◌, ◌<◌, ◌≤◌, ◌⊎◌, ◌++◌, length, get_or, take, drop, ap, ◌∙◌, subst, inl, inr, arith}
use Rattle.std.proofs.lemmas.List.{get_or_default, get_or-take, length-take-le}
use Rattle.code.specs.Decoding.{Lengths, Outside, NoByte}
use Rattle.code.specs.Codes.{numbers}
use Rattle.code.specs.Lagrange.{entry}
use Rattle.code.specs.Calls.{Decoded}
use Rattle.code.proofs.Blocks.{sizes, block_some}
use Rattle.code.proofs.Decodings.{reckoned, no_byte, inside, decodes, decodes_one, decodes_good, outside_at, told_bad, all_clear}
use Rattle.code.proofs.decoding.decode_with.Given as given
use Rattle.code.proofs.decoding.decode_with.Goals as goal
use Rattle.code.proofs.decoding.decode_with.Goals.{Else-out-len, After-points_of-points}

-- the numbers of the code and of the file
known : (g : given.Over) (c : Else-out-len g)
    → (c.in-Some.block ≤ 1024) × (c.args.code.k * c.in-Some.block ≤ 16384) × (c.args.len ≤ c.args.code.k * c.in-Some.block)
    × (c.args.code.k * c.in-Some.block * g.F.Field.model.width ≤ 16384) × (c.in-Some.block * g.F.Field.model.width ≤ 1024)
known g c =
    let made = c.in-Some.ensures in
    sizes g.F.Field.model g.met.F.Field.lawful c.args.len c.args.code.k c.in-Some.block (omega (arith, c.args.code.numbers)) (omega (arith, c.args.code.numbers)) made.1 made.0

whole : (g : given.Over) (c : Else-out-len g) → length c.args.payloads.now ≡ c.args.code.k * (c.in-Some.block * g.F.Field.model.width)
whole g c = c.if-payloads-k.false ∙ ap (λ (w : ℕ). c.args.code.k * (c.in-Some.block * w)) (c.WIDTH.ensures ∙ g.met.F.Field.wide)

lengths : (g : given.Over) (c : Else-out-len g) → Lengths c.args.len c.args.code.k g.F.Field.model.width c.args.shares.now c.args.payloads.now
lengths g c = record {
  sized = c.in-Some.ensures.0;
  count = c.if-shares-k.false;
  whole = whole g c ∙ ap (λ (b : ℕ). c.args.code.k * (b * g.F.Field.model.width)) c.in-Some.ensures.1;
}

pub overflow_mul-k-2 : goal.overflow_mul-k-2
overflow_mul-k-2 g c = omega (arith, known g (goal.at.overflow_mul-k-2 g c).Else-out-len)

pub read_symbols-requires : goal.read_symbols-requires
read_symbols-requires g c =
    let at = (goal.at.read_symbols-requires g c).Else-out-len in
    let h = known g at in
    (omega (arith, g.met.F.Field.small), (h.1, (whole g at ∙ omega arith, h.3)))

pub returns-in_err-read_symbols : goal.returns-in_err-read_symbols
returns-in_err-read_symbols g c =
    let at = (goal.at.returns-in_err-read_symbols g c).Else-out-len in
    let o = g.F.Field.model in
    let bad = c.in_err-read_symbols.ensures in
    let B = c.in-Some.block in
    let some = block_some c.args.len c.args.code.k B (known g at).2 c.in-Some.ensures.0.some in
    told_bad o (numbers c.args.code) c.args.len B c.args.shares.now c.args.payloads.now c.args.out.now c.in-Some.ensures.1 (lengths g at) c.if-not-are_different.ensures c.if-out-len.false
    c.from_residual.result c.from_residual.ensures.1 (inl (outside_at o c.args.code.k B bad.0 c.args.payloads.now bad.1 some bad.2))

pub points_of-points-requires : goal.points_of-points-requires
points_of-points-requires g c = (
  omega (arith, g.met.F.Field.small),
  (
    omega (arith, c.args.code.numbers),
    λ k d h. let e = get_or_default c.args.shares.now k d 0 h in let l = c.if-not-are_different.ensures.below k h in omega (arith, e, l, c.args.code.numbers),
  ),
)

-- the points of the shares
size : (g : given.Over) (c : After-points_of-points g) → length (take c.args.code.k c.points_of-points.result) ≡ c.args.code.k
size g c = length-take-le c.args.code.k c.points_of-points.result (omega (arith, c.args.code.numbers, c.points_of-points.ensures.size))

points : (g : given.Over) (c : After-points_of-points g) (i : ℕ) → i < c.args.code.k
    → entry g.F.Field (take c.args.code.k c.points_of-points.result) i ≡ g.F.Field.model.point (get_or c.args.shares.now i 0)
points g c i h =
    let f = g.F.Field in
    ap f.elem (get_or-take c.args.code.k c.points_of-points.result i (f.sym f.model.zero) h) ∙ c.points_of-points.ensures.points i (omega arith)

pub decode_blocks-requires : goal.decode_blocks-requires
decode_blocks-requires g c =
    let h = known g (goal.at.decode_blocks-requires g c).Else-out-len in
    let e = size g (goal.at.decode_blocks-requires g c).After-points_of-points in
    (omega (arith, g.met.F.Field.small), (omega (arith, e, c.args.code.numbers), (h.0, rw e h.2)))

pub returns-in_err-decode_blocks : goal.returns-in_err-decode_blocks
unfolding reckoned
returns-in_err-decode_blocks g c =
    let f = g.F.Field in
    let o = f.model in
    let at = (goal.at.returns-in_err-decode_blocks g c).Else-out-len in
    let far = (goal.at.returns-in_err-decode_blocks g c).After-points_of-points in
    let k = c.args.code.k in
    let B = c.in-Some.block in
    let pts = take k c.points_of-points.result in
    let bad = c.in_err-decode_blocks.ensures in
    told_bad o (numbers c.args.code) c.args.len B c.args.shares.now c.args.payloads.now c.args.out.now c.in-Some.ensures.1 (lengths g at) c.if-not-are_different.ensures c.if-out-len.false
    c.from_residual-in_err-decode_blocks.result c.from_residual-in_err-decode_blocks.ensures.1
    (inr (no_byte o g.met.F.Field.lawful c.args.code.n k (length pts) B c.args.shares.now c.args.payloads.now (entry f pts) (entry f c.read_symbols.new.symbols)
    c.args.code.numbers.4 c.if-shares-k.false c.if-not-are_different.ensures (size g far) (points g far) c.in_ok-read_symbols.ensures.1
    c.args.len bad.0 bad.1 bad.2 bad.3 bad.4))

pub slice_bounds-found-end : goal.slice_bounds-found-end
slice_bounds-found-end g c = let h = known g (goal.at.slice_bounds-found-end g c).Else-out-len in omega (arith, c.in_ok-decode_blocks.ensures)

pub slice_bounds-copy_from_slice-end-3 : goal.slice_bounds-copy_from_slice-end-3
slice_bounds-copy_from_slice-end-3 g c =
    let h = known g (goal.at.slice_bounds-copy_from_slice-end-3 g c).Else-out-len in
    let e = length-take-le c.args.len c.decode_blocks.new.found (omega (arith, c.in_ok-decode_blocks.ensures)) in
    omega arith

pub copy_from_slice-requires : goal.copy_from_slice-requires
copy_from_slice-requires g c =
    let h = known g (goal.at.copy_from_slice-requires g c).Else-out-len in
    length-take-le c.args.len c.args.out.now c.if-out-len.false
    ∙ (let e = length-take-le c.args.len c.decode_blocks.new.found (omega (arith, c.in_ok-decode_blocks.ensures)) in omega arith)

pub returns : goal.returns
unfolding reckoned
returns g c =
    let f = g.F.Field in
    let o = f.model in
    let law = g.met.F.Field.lawful in
    let at = (goal.at.returns g c).Else-out-len in
    let far = (goal.at.returns g c).After-points_of-points in
    let len = c.args.len in
    let k = c.args.code.k in
    let n = c.args.code.n in
    let shares = c.args.shares.now in
    let payloads = c.args.payloads.now in
    let out = c.args.out.now in
    let B = c.in-Some.block in
    let eB = c.in-Some.ensures.1 in
    let pts = take k c.points_of-points.result in
    let small = c.args.code.numbers.4 in
    let count = c.if-shares-k.false in
    let apart = c.if-not-are_different.ensures in
    let found = c.decode_blocks.new.found in
    let done = c.in_ok-decode_blocks.ensures in
    let h = known g at in
    let long : len ≤ length found = omega (arith, h, done) in
    let right = decodes o law n k (length pts) B shares payloads (entry f pts) (entry f c.read_symbols.new.symbols)
    small count apart (size g far) (points g far) c.in_ok-read_symbols.ensures.1 len found eB h.2 long done.1 in
    let good : Outside o k B payloads ⊎ NoByte o k B len shares payloads → ⊥ = λ bad. elim bad [
      | inl outside ↦ inside o law n k (length pts) B shares payloads (entry f pts) (entry f c.read_symbols.new.symbols)
          small count apart (size g far) (points g far) c.in_ok-read_symbols.ensures.1 outside
      | inr none ↦ decodes_good o law n k len shares payloads c.args.code.numbers.0 small count apart
          (take len found) right (subst (λ (b : ℕ). NoByte o k b len shares payloads) eB none)
    ] in
    let now = c.copy_from_slice.new.self ++ drop len out in
    let decoded : Decoded o k len shares payloads out now = record {
      file = take len found;
      decodes = right;
      only = λ other d. decodes_one o law n k len shares payloads c.args.code.numbers.0 small count apart (take len found) other right d;
      written = ap (λ l. l ++ drop len out) c.copy_from_slice.ensures.after;
    } in
    all_clear o (numbers c.args.code) len B shares payloads out eB (lengths g at) apart c.if-out-len.false now _ good decoded

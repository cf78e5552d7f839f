use Rattle.std.proofs.Common.{◌≡◌, ℕ, ◌+◌, ◌*◌, ◌<◌, ◌≤◌, ◌++◌, length, take, drop, sym, ap, ◌∙◌, arith}
use Rattle.std.proofs.lemmas.List.{get_or-take, length-take-le}
use Rattle.code.specs.Lagrange.{entry, interpolated}
use Rattle.code.specs.Shares.{serial}
use Rattle.code.proofs.Blocks.{sizes, serial-length}
use Rattle.code.proofs.Coded as coded
use Rattle.code.proofs.First.{first_is, first_length}
use Rattle.code.proofs.Payloads.{same_payload, sums_payload}
use Rattle.code.proofs.encoding.write_payload.Given as given
use Rattle.code.proofs.encoding.write_payload.Goals as goal
use Rattle.code.proofs.encoding.write_payload.Goals.{After-points_of-points}

pub load_file-symbols-requires : goal.load_file-symbols-requires
load_file-symbols-requires g c =
    let h = sizes g.F.Field.model g.met.F.Field.lawful (length c.args.file.now) c.args.k c.args.block c.requires.some c.requires.few c.requires.blocks c.requires.sized in
    (omega (arith, g.met.F.Field.small), omega arith)

-- the points of the first k shares
size : (g : given.Over) (c : After-points_of-points g) → length (take c.args.k c.points_of-points.result) ≡ c.args.k
size g c = length-take-le c.args.k c.points_of-points.result (omega (arith, c.requires.few, c.points_of-points.ensures.size))

pub interpolate-requires : goal.interpolate-requires
interpolate-requires g c =
    let h = sizes g.F.Field.model g.met.F.Field.lawful (length c.args.file.now) c.args.k c.args.block c.requires.some c.requires.few c.requires.blocks c.requires.sized in
    let e = size g (goal.at.interpolate-requires g c).After-points_of-points in
    let f = g.F.Field in
    let zeros = λ (i : ℕ) (l : i < c.args.block). coded.filled f g.met.F.Field.recovers 1024 i c.zero-sums.result f.model.zero c.zero-sums.ensures (omega (arith, h.0)) in
    (omega (arith, g.met.F.Field.small), (omega (arith, g.met.F.Field.small), (h.0, (rw e h.1, zeros))))

pub shared_whole_as_front-store : goal.shared_whole_as_front-store
shared_whole_as_front-store g c =
    let h = sizes g.F.Field.model g.met.F.Field.lawful (length c.args.file.now) c.args.k c.args.block c.requires.some c.requires.few c.requires.blocks c.requires.sized in
    (h.0, omega (arith, g.met.F.Field.small))

pub returns : goal.returns
returns g c =
    let f = g.F.Field in
    let o = f.model in
    let law = g.met.F.Field.lawful in
    let z = f.sym o.zero in
    let k = c.args.k in
    let few : k ≤ 16 = c.requires.few in
    let file = c.args.file.now in
    let share = c.args.share in
    let block = c.args.block in
    let h = sizes o law (length file) k block c.requires.some few c.requires.blocks c.requires.sized in
    let pts = take k c.points_of-points.result in
    let rows = c.load_file-symbols.result in
    let sums = c.interpolate.new.sums in
    let at = rw c.unwrap-point.ensures at c.point.ensures in
    let value = entry f (take block sums) in
    let count : length (take block sums) ≡ block = length-take-le block sums (omega (arith, h, c.interpolate.ensures.size)) in
    let payload = sums_payload o law k (length pts) block share file (entry f pts) (entry f rows) value (omega arith) c.requires.blocks (size g (goal.at.returns g c).After-points_of-points)
    (λ i l. ap f.elem (get_or-take k c.points_of-points.result i z l) ∙ c.points_of-points.ensures.points i (omega (arith, first_length k few)) ∙ ap o.point (first_is k i few l))
    (λ t l. c.load_file-symbols.ensures.symbols t (omega (arith, h)))
    (λ i l. ap f.elem (get_or-take block sums i z l) ∙ c.interpolate.ensures.values i l
    ∙ ap (interpolated o (entry f pts) (λ m. entry f rows (m * block + i)) (length pts)) (coded.known f g.met.F.Field.recovers at.1)) in
    let bytes = serial o value block in
    record {
      bytes = bytes;
      payload = payload;
      only = λ other q. same_payload o law k share file other bytes (omega arith) q payload;
      length_is = sym (serial-length o law value block);
      written = c.store.ensures ∙ ap (λ (n : ℕ). serial o value n ++ drop (n * o.width) c.args.out.now) count;
    }

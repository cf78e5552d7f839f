use Rattle.std.proofs.Common.{◌+◌, sym, ap, ap₂, ◌∙◌, arith, rules}
use Rattle.std.specs.List.{between}
use Rattle.image.specs.Layouts.{sled_of}
use Rattle.image.specs.Racks.{cells_of, sled_bytes}
use Rattle.image.specs.Images.{bytes_of}
use Rattle.image.specs.Rows.{sled_within, length-rack, rack_at, rack_past}
use Rattle.image.proofs.image.Image.sled.Goals as goal

pub sled_start-start-requires : goal.sled_start-start-requires
sled_start-start-requires g c =
    let i = c.args.self.now in
    let all = length-rack g.F.Format.LAYOUT (bytes_of i) i.shape in
    let fits = sled_within g.F.Format.LAYOUT (bytes_of i) i.shape c.plan-plan.result.cells c.args.sled c.as_slice-image.result.now c.plan-plan.ensures.cells c.as_slice-image.ensures.value (omega arith) in
    omega arith

pub overflow_add-result : goal.overflow_add-result
overflow_add-result g c =
    let i = c.args.self.now in
    let all = length-rack g.F.Format.LAYOUT (bytes_of i) i.shape in
    let fits = sled_within g.F.Format.LAYOUT (bytes_of i) i.shape c.plan-plan.result.cells c.args.sled c.as_slice-image.result.now c.plan-plan.ensures.cells c.as_slice-image.ensures.value (omega arith) in
    search rules

pub slice_bounds-result-end : goal.slice_bounds-result-end
slice_bounds-result-end g c =
    let i = c.args.self.now in
    let all = length-rack g.F.Format.LAYOUT (bytes_of i) i.shape in
    let fits = sled_within g.F.Format.LAYOUT (bytes_of i) i.shape c.plan-plan.result.cells c.args.sled c.as_slice-image.result.now c.plan-plan.ensures.cells c.as_slice-image.ensures.value (omega arith) in
    search rules

pub returns-then-sled-sleds : goal.returns-then-sled-sleds
returns-then-sled-sleds g c =
    let i = c.args.self.now in
    let all = length-rack g.F.Format.LAYOUT (bytes_of i) i.shape in
    rack_past g.F.Format.LAYOUT (bytes_of i) i.shape c.args.sled (omega arith)

pub returns : goal.returns
returns g c =
    let i = c.args.self.now in
    let img = bytes_of i in
    let l = g.F.Format.LAYOUT in
    let k = c.args.sled in
    let plan = c.plan-plan.result in
    let bytes = c.as_slice-image.result.now in
    let all = length-rack l img i.shape in
    rack_at l img i.shape k (omega arith)
    ∙ ap (λ x. sled_of x (cells_of img) (sled_bytes (cells_of img) img k)) (sym c.plan-plan.ensures.layout)
    ∙ ap (λ C. sled_of plan.layout C (sled_bytes C img k)) (sym c.plan-plan.ensures.cells)
    ∙ ap (λ xs. sled_of plan.layout plan.cells (sled_bytes plan.cells xs k)) (sym c.as_slice-image.ensures.value)
    ∙ ap₂ (λ at size. sled_of plan.layout plan.cells (between at (at + size) bytes)) (sym c.sled_start-start.ensures) (sym c.size.ensures)

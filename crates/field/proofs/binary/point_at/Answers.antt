use Rattle.std.proofs.Common.{◌≡◌, ℕ, ◌-◌, ap, ◌∙◌, arith, rules, length}
use Rattle.std.proofs.iter.runs.Sources.{ranges}
use Rattle.field.specs.Binary.{times, point_of}
use Rattle.field.proofs.Steps.{doubled_point, point-zero}
use Rattle.field.proofs.binary.point_at.Goals as goal

pub returns-in-0 : goal.returns-in-0
returns-in-0 c = let e : 0 ≡ c.args.j = omega arith in point-zero ∙ ap point_of e

pub returns-in_default : goal.returns-in_default
returns-in_default c =
    let run = c.fold.ensures.runs in
    let n : length run.0.items ≡ c.args.j - 1 = search (rules, ranges) in
    run.3 (λ (p k : ℕ). times p 2) (λ p k r f' call. search rules) ∙ doubled_point run.0.items c.args.j (omega arith) n

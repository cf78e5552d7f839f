use Rattle.std.proofs.Common.{◌≡◌, ◌+◌, length, ap, ap₂, ◌∙◌, arith}
use Rattle.std.specs.List.{between}
use Rattle.image.specs.Layouts.{over, sled_after_put}
use Rattle.image.specs.Overwrites.{put_mid-over}
use Rattle.image.proofs.plan.Plan.put_on.Goals as goal

pub returns : goal.returns
returns c =
    let self = c.args.self in
    let C = self.cells in
    let image = c.args.image.now in
    let start = c.sled_start-start.result in
    let new = sled_after_put self.layout C c.args.share.now.key.id c.args.share.now.key.number c.args.share.now.payload.now (between start (start + c.size.result) image) in
    let long : c.size.result ≡ length new = omega (arith, ap length c.put.ensures, c.put.auto.bytes) in
    record {
      after = put_mid-over start c.size.result _ _ new c.put.ensures long
          ∙ ap₂ (λ at size. over at (sled_after_put self.layout C c.args.share.now.key.id c.args.share.now.key.number c.args.share.now.payload.now (between at (at + size) image)) image) c.sled_start-start.ensures c.size.ensures;
      bytes = λ k. omega (arith, c.type_inv.image k);
    }

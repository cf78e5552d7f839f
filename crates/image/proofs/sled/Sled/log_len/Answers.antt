use Rattle.std.proofs.Common.{◌≡◌, unwrap_or, ap, ◌∙◌, arith}
use Rattle.std.specs.List.{position_or_len}
use Rattle.image.specs.Places.{is_free}
use Rattle.image.specs.Sleds.{places_in}
use Rattle.image.proofs.Scanned.{free_within, log_len_is, zone_room}
use Rattle.image.proofs.sled.Sled.log_len.Goals as goal

pub returns : goal.returns
returns c =
    let s = c.args.self.now in
    let value : c.unwrap_or.result ≡ position_or_len is_free (places_in s) = c.unwrap_or.ensures ∙ ap (λ o. unwrap_or o s.plan.cells) c.first_free.ensures ∙ log_len_is s in
    let most = free_within s.plan.layout s.plan.cells s.bytes.now in
    record { value = value; within = omega arith; room = λ zone. zone_room s.plan.layout s.plan.cells c.unwrap_or.result s.bytes.now zone value }

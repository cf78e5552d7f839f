use Rattle.std.proofs.Common.{Some, sym, ap, ◌∙◌, arith}
use Rattle.std.specs.Prelude.{position}
use Rattle.std.specs.List.{range_with_len}
use Rattle.std.specs.Option.{option_map}
use Rattle.image.specs.Places.{answers, payload_of}
use Rattle.image.specs.Scans.{turn}
use Rattle.image.specs.Sleds.{turns_in, place_in, answers_in}
use Rattle.image.proofs.Scanned.{length-turns, position_found, find_turn_is, found_payload, found_nothing}
use Rattle.image.proofs.sled.Sled.payload.Goals as goal

pub returns-in_err-j : goal.returns-in_err-j
returns-in_err-j c =
    let s = c.args.self.now in
    let key = c.args.key in
    let n = c.seen-seen.result.count in
    let found = c.find.ensures ∙ ap (λ t. position (answers_in t n key.id key.number) (range_with_len 0 n)) c.seen-seen.ensures.sled in
    ap (option_map (λ x. x.now)) c.from_residual.ensures
    ∙ found_nothing s.plan.layout s.plan.cells s.bytes.now n c.seen-seen.ensures.count key.id key.number
    (sym (find_turn_is s n key.id key.number) ∙ sym found ∙ c.in_err-j.was)

pub place-requires : goal.place-requires
place-requires c =
    let s = c.args.self.now in
    let key = c.args.key in
    let n = c.seen-seen.result.count in
    let all = length-turns s.plan.layout s.plan.cells s.bytes.now n in
    let found = c.find.ensures ∙ ap (λ t. position (answers_in t n key.id key.number) (range_with_len 0 n)) c.seen-seen.ensures.sled in
    let there = position_found (answers key.id key.number) (turns_in s n) c.in_ok-j.j (sym (find_turn_is s n key.id key.number) ∙ sym found ∙ c.in_ok-j.was) in
    omega arith

pub returns : goal.returns
returns c =
    let s = c.args.self.now in
    let key = c.args.key in
    let n = c.seen-seen.result.count in
    let found = c.find.ensures ∙ ap (λ t. position (answers_in t n key.id key.number) (range_with_len 0 n)) c.seen-seen.ensures.sled in
    ap Some (c.payload.ensures ∙ ap payload_of (c.place.ensures ∙ ap (λ t. place_in t (turn t.plan.layout n c.in_ok-j.j)) c.seen-seen.ensures.sled))
    ∙ found_payload s.plan.layout s.plan.cells s.bytes.now n c.seen-seen.ensures.count c.in_ok-j.j key.id key.number
    (sym (find_turn_is s n key.id key.number) ∙ sym found ∙ c.in_ok-j.was)

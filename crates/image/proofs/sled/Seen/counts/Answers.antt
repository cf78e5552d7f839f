use Rattle.std.proofs.Common.{◌≡◌, true, ◌&&◌, eqb, Some, sym, ap, ap₂, ◌∙◌, arith}
use Rattle.std.specs.Prelude.{position}
use Rattle.std.specs.List.{position_or_len}
use Rattle.std.specs.Option.{option_eq}
use Rattle.image.specs.Places.{answers, is_sound}
use Rattle.image.specs.Scans.{turn}
use Rattle.image.specs.Sleds.{place_in, turns_in, counts_in}
use Rattle.image.proofs.Scanned.{length-turns, position_at, find_turn_is}
use Rattle.image.proofs.sled.Seen.counts.Goals as goal

pub returns-then-is_sound : goal.returns-then-is_sound
unfolding counts_in
returns-then-is_sound c =
    let s = c.args.self.now.sled in
    let n = c.args.self.now.count in
    let p = place_in s (turn s.plan.layout n c.args.j) in
    let here = c.place-place.ensures in
    let sound : is_sound p ≡ true = ap is_sound (sym here) ∙ sym c.if-is_sound.ensures in
    let all = length-turns s.plan.layout s.plan.cells s.bytes.now n in
    c.eq.ensures
    ∙ ap (λ o. option_eq eqb o (Some c.args.j))
    (c.find.ensures ∙ find_turn_is s n c.key.result.id c.key.result.number
    ∙ ap₂ (λ i k. position (answers i k) (turns_in s n)) (c.key.ensures.id ∙ ap (λ q. q.id) here) (c.key.ensures.number ∙ ap (λ q. q.number) here))
    ∙ position_at (answers p.id p.number) (turns_in s n) c.args.j (omega arith)
    ∙ sym (ap (λ b. b && eqb (position_or_len (answers p.id p.number) (turns_in s n)) c.args.j) sound)

pub returns-else-is_sound : goal.returns-else-is_sound
unfolding counts_in
returns-else-is_sound c =
    let s = c.args.self.now.sled in
    let n = c.args.self.now.count in
    let p = place_in s (turn s.plan.layout n c.args.j) in
    let unsound = ap is_sound (sym c.place-place.ensures) ∙ sym c.if-is_sound.ensures in
    c.if-is_sound.false ∙ sym (ap (λ b. b && eqb (position_or_len (answers p.id p.number) (turns_in s n)) c.args.j) unsound)

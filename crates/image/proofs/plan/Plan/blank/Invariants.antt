use Rattle.std.proofs.Common.{◌≡◌}
use Rattle.image.specs.Layouts.{freed_below}
use Rattle.image.proofs.plan.Plan.blank.Given as goal

-- the states of the places so far are set to 0
abbrev pub invariant-loop-place : goal.invariant-loop-place
invariant-loop-place l = l.bytes ≡ freed_below l.self.layout l.self.cells l.place l.initial.bytes

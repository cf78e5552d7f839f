use Rattle.std.proofs.Common.{◌≡◌, ◌-◌}
use Rattle.field.specs.Residues.{square_chain}
use Rattle.field.proofs.product_of_squares.Given as goal

abbrev pub invariant-loop : goal.invariant-loop
invariant-loop g l =
    goal.M-IsAlwaysCallable g l.mul
    × ((times : _) → ((x y r : _) → goal.M-post g l.mul x y r → r ≡ times x y)
    → square_chain times (l.n - l.counter) l.product l.square ≡ square_chain times l.fn.n l.fn.one l.fn.a)

-- How requests are answered. Assumes nothing.
use Rattle.std.specs.Prelude.{Ok, Err, Result}
use Rattle.dumps.specs.declared.failure.Failure.{Failure}
use Rattle.dumps.specs.declared.failure.Failure.TheVariants.{TurnedDown}
use Rattle.dumps.specs.declared.words.Answer.{Answer}

-- the answer that a result tells: a refusal is an answer, and another failure is none
abbrev pub answer_in : {T : Type 0} → Result T Failure → Result Answer Failure
answer_in (Ok _) = Ok (record { outcome = Ok tt })
answer_in (Err (TurnedDown fault)) = Ok (record { outcome = Err fault })
answer_in (Err other) = Err other

-- Which failures tell of a call that was made: all that the library tells, but where `gather` comes upon a share that was not made. Assumes nothing.
use Rattle.dumps.specs.declared.failure.Failure.{Failure}
use Rattle.dumps.specs.declared.failure.Failure.TheVariants.{TurnedDown, NoShare, Memory, System, UnknownRequest}

-- a call was turned down, or memory or the system failed: the failure is of no request of a user, and of no share that was not made
abbrev pub OfCall : Failure → Type 0
OfCall (TurnedDown _) = Unit {0}
OfCall (NoShare _) = ⊥
OfCall Memory = Unit {0}
OfCall (System _) = Unit {0}
OfCall UnknownRequest = ⊥

-- The numbers of the reasons and of the layers, and what a fault tells. Assumes nothing.
use Rattle.std.specs.Prelude.{ℕ}
use Rattle.refusal.specs.declared.Reason.{Reason}
use Rattle.refusal.specs.declared.Reason.TheVariants.{BadSled, UnknownFile, BadCode, BadLength, KnownFile, ForeignShare, Unhappy, SledOut, StrangeSlip, CatalogueFull, TooFew, ShortBuffer, BadSymbol, Absent, Held, NoRoom, BadImage, BadShare}
use Rattle.refusal.specs.declared.Layer.{Layer}
use Rattle.refusal.specs.declared.Layer.TheVariants.{Image, Bank, Code, Grid}
use Rattle.refusal.specs.declared.Fault.{Fault}

-- the number of each reason
abbrev pub reason_number : Reason → ℕ
reason_number BadSled = 2
reason_number UnknownFile = 3
reason_number BadCode = 4
reason_number BadLength = 5
reason_number KnownFile = 6
reason_number ForeignShare = 7
reason_number Unhappy = 8
reason_number SledOut = 9
reason_number StrangeSlip = 10
reason_number CatalogueFull = 11
reason_number TooFew = 12
reason_number ShortBuffer = 13
reason_number BadSymbol = 14
reason_number Absent = 15
reason_number Held = 16
reason_number NoRoom = 17
reason_number BadImage = 18
reason_number BadShare = 19

-- the number of each layer, lowest layer first
abbrev pub layer_number : Layer → ℕ
layer_number Image = 0
layer_number Bank = 1
layer_number Code = 2
layer_number Grid = 3

-- a refusal by its numbers, which is what promises speak of
pub record Refusal : Type 0 where
  pub number : ℕ
  pub layer : ℕ
  pub detail : ℕ

-- the refusal with these numbers
abbrev pub refusal : ℕ → ℕ → ℕ → Refusal
refusal number layer detail = record { number = number; layer = layer; detail = detail }

-- the refusal that a fault tells
abbrev pub refusal_of : Fault → Refusal
refusal_of f = refusal (reason_number f.reason) (layer_number f.layer) f.detail

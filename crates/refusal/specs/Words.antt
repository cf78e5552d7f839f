-- What a reason, a layer and a fault say when they are printed. Assumes nothing.
use Rattle.std.specs.Prelude.{List, ℕ, [], ◌∷◌, codes}
use Rattle.std.specs.List.{concat}
use Rattle.std.specs.Fmt.{decimal}
use Rattle.refusal.specs.declared.Reason.{Reason}
use Rattle.refusal.specs.declared.Reason.TheVariants.{BadSled, UnknownFile, BadCode, BadLength, KnownFile, ForeignShare, Unhappy, SledOut, StrangeSlip, CatalogueFull, TooFew, ShortBuffer, BadSymbol, Absent, Held, NoRoom, BadImage, BadShare}
use Rattle.refusal.specs.declared.Layer.{Layer}
use Rattle.refusal.specs.declared.Layer.TheVariants.{Image, Bank, Code, Grid}
use Rattle.refusal.specs.declared.Fault.{Fault}
use Rattle.refusal.specs.Refusals.{reason_number}

-- what a reason says
abbrev pub reason_words : Reason → List ℕ
reason_words BadSled = codes "the bank has no sled of this number"
reason_words UnknownFile = codes "the catalogue has no file of this id"
reason_words BadCode = codes "no code has these numbers"
reason_words BadLength = codes "a file, a payload or a list of shares has a length out of its limits"
reason_words KnownFile = codes "the catalogue has a file of this id already"
reason_words ForeignShare = codes "a share is held under an id that the code does not give"
reason_words Unhappy = codes "no placement reaches the happiness that is asked for"
reason_words SledOut = codes "a sled is out"
reason_words StrangeSlip = codes "the slip is of another grid, or its sled is not out"
reason_words CatalogueFull = codes "the catalogue has no place left"
reason_words TooFew = codes "too few different shares are on present sleds"
reason_words ShortBuffer = codes "the output buffer is shorter than what is due"
reason_words BadSymbol = codes "a stored symbol is outside the field, or a block's value is no byte"
reason_words Absent = codes "the share is not held"
reason_words Held = codes "the share is held already"
reason_words NoRoom = codes "the sled has no room"
reason_words BadImage = codes "the image breaks its layout"
reason_words BadShare = codes "a share number is out of its range, or stands twice"

-- the name of a layer
abbrev pub layer_name : Layer → List ℕ
layer_name Image = codes "image"
layer_name Bank = codes "bank"
layer_name Code = codes "code"
layer_name Grid = codes "grid"

-- a refusal in one line: the reason in words and by its number, the layer and the detail
abbrev pub fault_text : Fault → List ℕ
fault_text f =
    concat (reason_words f.reason ∷ codes " (reason " ∷ decimal (reason_number f.reason) ∷ codes ", layer " ∷ layer_name f.layer
    ∷ codes ", detail " ∷ decimal f.detail ∷ codes ")" ∷ [])

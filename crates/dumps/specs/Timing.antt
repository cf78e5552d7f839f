-- What a measurement tells. Assumes nothing.
use Rattle.std.specs.Prelude.{◌≡◌, ℕ, ◌/◌, ◌≤◌, List, replicate}
use Rattle.image.specs.Fnv.{fnv}
use Rattle.code.specs.declared.shape.FieldChoice.{FieldChoice}
use Rattle.code.specs.Codes.{field_number, field_of}
use Rattle.code.specs.Shares.{Payload}
use Rattle.dumps.specs.declared.timing.Measurement.{Measurement}

-- what is measured of a file of so many equal bytes over a field: share 31 is the last that is made
pub record IsMeasured (field : FieldChoice) (len : ℕ) (m : Measurement) : Type 0 where
  pub same_field : m.field ≡ field
  pub block : m.block ≡ len / 16
  pub ordered : m.smallest ≤ m.median
  pub payload : List ℕ
  pub last : Payload (field_of (field_number field)).model 16 (replicate len 0xA5) 31 payload
  pub check : m.check ≡ fnv payload

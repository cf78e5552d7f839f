-- What is timed. Assumes nothing.
use Rattle.std.specs.Prelude.{◌≡◌, ℕ, take}
use Rattle.code.specs.Codes.{numbers, field_of}
use Rattle.code.specs.Shares.{Payload}
use Rattle.dumps.specs.declared.timing.Bench.{Bench}

-- the bench has made share j of its file last: the payload stands at the start of the buffer
abbrev pub HasMade : Bench → ℕ → Type 0
HasMade b j = Payload (field_of (numbers b.code).field).model (numbers b.code).k b.file.items j (take b.size b.buffer.items)

-- the code and the file stay
abbrev pub SameWork : Bench → Bench → Type 0
SameWork was now = (now.code ≡ was.code) × (now.file.items ≡ was.file.items)

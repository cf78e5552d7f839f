-- The numbers of a code, and the field that it is over. Assumes nothing.
use Rattle.std.specs.Prelude.{ℕ, zero, suc, ◌≤◌}
use Rattle.field.specs.Model.{Ops}
use Rattle.field.specs.Residues.{Below}
use Rattle.field.specs.Binary.{binary}
use Rattle.field.specs.Prime.{prime}
use Rattle.code.specs.declared.shape.Code.{Code}
use Rattle.code.specs.declared.shape.FieldChoice.{FieldChoice}
use Rattle.code.specs.declared.shape.FieldChoice.TheVariants.{Binary, Prime}

-- the numbers of a code: its field, the number k of shares that give the file back, the happiness h that is asked for, and the number n of shares
pub record Numbers : Type 0 where
  pub field : ℕ
  pub k : ℕ
  pub h : ℕ
  pub n : ℕ

-- the numbers of a code, by name
abbrev pub numbered : ℕ → ℕ → ℕ → ℕ → Numbers
numbered field k h n = record { field = field; k = k; h = h; n = n }

-- numbers that a code has
abbrev pub Proper : Numbers → Type 0
Proper c = (c.field ≤ 1) × (1 ≤ c.k) × (c.k ≤ 16) × (c.k ≤ c.h) × (c.h ≤ c.n) × (c.n ≤ 32)

-- the number of each field
abbrev pub field_number : FieldChoice → ℕ
field_number Binary = 0
field_number Prime = 1

-- the numbers of a code
abbrev pub numbers : Code → Numbers
numbers c = numbered (field_number c.field) c.k c.h c.n

-- a field: its symbols, and what can be done with them
pub record Arithmetic : Type 1 where
  pub symbols : Type 0
  pub model : Ops symbols

-- field 0 is that of 256 symbols, field 1 that of 257
abbrev pub field_of : ℕ → Arithmetic
field_of zero = record { symbols = Below 256; model = binary }
field_of (suc _) = record { symbols = Below 257; model = prime }

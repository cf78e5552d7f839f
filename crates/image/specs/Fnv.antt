-- FNV-1a of 64 bits. Assumes nothing.
use Rattle.std.specs.Prelude.{ℕ, ◌*◌, ◌%◌, ◌^◌, List, bit_xor, fold}

-- one byte: exclusive or with it, then the product with the prime, of which the low 64 bits stay
abbrev pub step : ℕ → ℕ → ℕ
step hash byte = (bit_xor hash byte * 0x100000001B3) % 2 ^ 64

-- FNV-1a of the bytes: they are taken one after another from the offset basis on
unfoldable pub fnv : List ℕ → ℕ
fnv bytes = fold step 0xCBF29CE484222325 bytes

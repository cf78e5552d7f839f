-- A file cut into blocks, and its shares. Assumes nothing.
use Rattle.std.specs.Prelude.{◌≡◌, ℕ, suc, ◌+◌, ◌-◌, ◌*◌, ◌/◌, ◌<◌, ◌≤◌, List, [], ◌++◌, length, slice_index}
use Rattle.field.specs.Model.{Ops}
use Rattle.code.specs.Polynomials.{eval, Through}

-- every number of the list is a byte
abbrev pub Bytes : List ℕ → Type 0
Bytes xs = (t : ℕ) → slice_index xs t < 256

-- the length of a block: L divided by k, rounded up
unfoldable pub block_length : ℕ → ℕ → ℕ
block_length L k = (L + (k - 1)) / k

-- a file of L bytes has shares: it has a byte, and a payload has at most 1,024
pub record Sized (L k width : ℕ) : Type 0 where
  pub some : 1 ≤ L
  pub fits : block_length L k * width ≤ 1024

-- the byte at place i of block b, the file being filled with zero bytes
abbrev pub block_byte : List ℕ → ℕ → ℕ → ℕ → ℕ
block_byte file k b i = slice_index file (b * block_length (length file) k + i)

-- the first n symbols of a row, stored one after another
unfoldable pub serial : {E : Type 0} → Ops E → (ℕ → E) → ℕ → List ℕ
serial F f ℕ.zero = []
serial F f (suc n) = serial F f n ++ F.stored (f n)

-- bytes is the payload of share j of the file: for each place in a block, the value at point j of the polynomial of degree
-- below k that has the value of block b at point b, for every b below k
pub record Payload {E : Type 0} (F : Ops E) (k : ℕ) (file : List ℕ) (j : ℕ) (bytes : List ℕ) : Type 0 where
  pub value : ℕ → E
  pub right : (i : ℕ) → i < block_length (length file) k
      → (p : List E) × Through F k F.point (λ b. F.byte (block_byte file k b i)) p × (value i ≡ eval F p (F.point j))
  pub holds : bytes ≡ serial F value (block_length (length file) k)

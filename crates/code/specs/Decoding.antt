-- The file that k shares decode to. Assumes nothing.
use Rattle.std.specs.Prelude.{◌≡◌, ℕ, ◌+◌, ◌*◌, ◌<◌, List, length, take, drop, ◌≢◌, slice_index}
use Rattle.field.specs.Model.{Ops}
use Rattle.code.specs.Polynomials.{eval}
use Rattle.code.specs.Shares.{Bytes, block_length, Sized, Payload}

-- the lengths are those of k payloads, one after another, of a file of L bytes
pub record Lengths (L k width : ℕ) (shares payloads : List ℕ) : Type 0 where
  pub sized : Sized L k width
  pub count : length shares ≡ k
  pub whole : length payloads ≡ k * (block_length L k * width)

-- the share numbers are below n, and no two are equal
pub record Different (n : ℕ) (shares : List ℕ) : Type 0 where
  pub below : (i : ℕ) → i < length shares → slice_index shares i < n
  pub apart : (i j : ℕ) → i < length shares → j < length shares → slice_index shares i ≡ slice_index shares j → i ≡ j

-- the bytes at place i of the m-th payload, of which each has B symbols
unfoldable pub symbol_bytes : (width : ℕ) → List ℕ → (B m i : ℕ) → List ℕ
symbol_bytes width payloads B m i = take width (drop ((m * B + i) * width) payloads)

-- the polynomial p has degree below k, and at place i each share holds its value at the share's point
pub record Fits {E : Type 0} (F : Ops E) (k B : ℕ) (shares payloads : List ℕ) (i : ℕ) (p : List E) : Type 0 where
  pub degree : length p ≡ k
  pub values : (m : ℕ) → m < k → F.stored (eval F p (F.point (slice_index shares m))) ≡ symbol_bytes F.width payloads B m i

-- y is the byte at place i of block b: at point b the polynomial that fits the shares has the value that y stands for
pub record Right {E : Type 0} (F : Ops E) (k B : ℕ) (shares payloads : List ℕ) (b i y : ℕ) : Type 0 where
  pub p : List E
  pub fits : Fits F k B shares payloads i p
  pub value : F.byte y ≡ eval F p (F.point b)

-- the shares decode to the file, of which every byte is right; what stands past its end in the last blocks does not count
pub record Decodes {E : Type 0} (F : Ops E) (k L : ℕ) (shares payloads file : List ℕ) : Type 0 where
  pub size : length file ≡ L
  pub bytes : Bytes file
  pub right : (b i : ℕ) → i < block_length L k → b * block_length L k + i < L
      → Right F k (block_length L k) shares payloads b i (slice_index file (b * block_length L k + i))

-- a stored symbol is outside the field
pub record Outside {E : Type 0} (F : Ops E) (k B : ℕ) (payloads : List ℕ) : Type 0 where
  pub m : ℕ
  pub i : ℕ
  pub share : m < k
  pub place : i < B
  pub none : (e : E) → F.stored e ≢ symbol_bytes F.width payloads B m i

-- the value of a block is no byte, at a place within the file
pub record NoByte {E : Type 0} (F : Ops E) (k B L : ℕ) (shares payloads : List ℕ) : Type 0 where
  pub b : ℕ
  pub i : ℕ
  pub place : i < B
  pub within : b * B + i < L
  pub p : List E
  pub fits : Fits F k B shares payloads i p
  pub none : (y : ℕ) → y < 256 → F.byte y ≢ eval F p (F.point b)

-- the payload at place m of k payloads that stand one after another
abbrev pub payload_at : {E : Type 0} → Ops E → (L k : ℕ) → List ℕ → ℕ → List ℕ
payload_at F L k payloads m = take (block_length L k * F.width) (drop (m * (block_length L k * F.width)) payloads)

-- these are k different shares of the file, each with its payload
pub record SharesOf {E : Type 0} (F : Ops E) (k n : ℕ) (file shares payloads : List ℕ) : Type 0 where
  pub lengths : Lengths (length file) k F.width shares payloads
  pub different : Different n shares
  pub payload : (m : ℕ) → m < k → Payload F k file (slice_index shares m) (payload_at F (length file) k payloads m)

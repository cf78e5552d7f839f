-- What the calls of a code answer. Assumes nothing.
use Rattle.std.specs.Prelude.{◌≡◌, ℕ, ◌*◌, ◌<◌, ◌≤◌, ◌⊎◌, List, [], ◌∷◌, ◌++◌, length, drop, Result}
use Rattle.refusal.specs.declared.Fault.{Fault}
use Rattle.refusal.specs.declared.Layer.TheVariants.{Code}
use Rattle.refusal.specs.Refusals.{Refusal, refusal, refusal_of, layer_number}
use Rattle.refusal.specs.Grounds.{Ground, ground, Answers}
use Rattle.field.specs.Model.{Ops}
use Rattle.code.specs.Shares.{block_length, Sized, Payload}
use Rattle.code.specs.Decoding.{Lengths, Different, Decodes, Outside, NoByte}
use Rattle.code.specs.Codes.{Numbers, Proper}

-- a refusal of the layer code, with this number and no detail
abbrev pub by_code : ℕ → Refusal
by_code number = refusal number (layer_number Code) 0

-- an inner call that comes upon a bad symbol is refused so
abbrev pub BadSymbolIsTold : Fault → Type 0
BadSymbolIsTold f = refusal_of f ≡ by_code 14

-- a number that no field has is refused
abbrev pub field_grounds : ℕ → List Ground
field_grounds number = ground (1 < number) (by_code 4) ∷ []

-- a code is refused with numbers that no code has
abbrev pub code_grounds : Numbers → List Ground
code_grounds c = ground (Proper c → ⊥) (by_code 4) ∷ []

-- why encode refuses share j of a file of L bytes, with a buffer of this room
abbrev pub encode_grounds : (width k n L j room : ℕ) → List Ground
encode_grounds width k n L j room =
    ground (Sized L k width → ⊥) (by_code 5)
    ∷ ground (n ≤ j) (by_code 19)
    ∷ ground (room < block_length L k * width) (by_code 13)
    ∷ []

-- the payload of share j stands at the start of the buffer, which is else as it was; size is its length, and no other bytes are a payload of this share
pub record Encoded {E : Type 0} (F : Ops E) (k : ℕ) (file : List ℕ) (j : ℕ) (was now : List ℕ) (size : ℕ) : Type 0 where
  pub bytes : List ℕ
  pub payload : Payload F k file j bytes
  pub only : (other : List ℕ) → Payload F k file j other → other ≡ bytes
  pub length_is : size ≡ length bytes
  pub written : now ≡ bytes ++ drop size was

-- what encode answers, and the buffer after it
pub record Encodes {E : Type 0} (F : Ops E) (c : Numbers) (file : List ℕ) (j : ℕ) (was now : List ℕ) (r : Result ℕ Fault) : Type 0 where
  pub answer : Answers (encode_grounds F.width c.k c.n (length file) j (length was)) refusal_of r
      (Encoded F c.k file j was now) (λ _. now ≡ was)

-- why decode refuses these shares of a file of L bytes, with a buffer of this room
abbrev pub decode_grounds : {E : Type 0} → Ops E → (k n L : ℕ) (shares payloads : List ℕ) (room : ℕ) → List Ground
decode_grounds F k n L shares payloads room =
    ground (Lengths L k F.width shares payloads → ⊥) (by_code 5)
    ∷ ground (Different n shares → ⊥) (by_code 19)
    ∷ ground (room < L) (by_code 13)
    ∷ ground (Outside F k (block_length L k) payloads ⊎ NoByte F k (block_length L k) L shares payloads) (by_code 14)
    ∷ []

-- the file that the shares decode to, which is the only one, stands at the start of the buffer, which is else as it was
pub record Decoded {E : Type 0} (F : Ops E) (k L : ℕ) (shares payloads was now : List ℕ) : Type 0 where
  pub file : List ℕ
  pub decodes : Decodes F k L shares payloads file
  pub only : (other : List ℕ) → Decodes F k L shares payloads other → other ≡ file
  pub written : now ≡ file ++ drop L was

-- what decode answers, and the buffer after it
pub record Recovers {E : Type 0} (F : Ops E) (c : Numbers) (L : ℕ) (shares payloads was now : List ℕ) (r : Result (Unit {0}) Fault) : Type 0 where
  pub answer : Answers (decode_grounds F c.k c.n L shares payloads (length was)) refusal_of r
      (λ _. Decoded F c.k L shares payloads was now) (λ _. now ≡ was)

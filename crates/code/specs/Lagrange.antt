-- The value of a polynomial by the weights of its values at k points. Only inner functions and proofs cite it: no promise rests on it. Assumes nothing.
use Rattle.std.specs.Prelude.{ℕ, suc, ◌+◌, ◌*◌, ◌<◌, ◌≡◌, ◌≢◌, cond, List, length, ◌==◌, slice_index_or}
use Rattle.field.specs.declared.Field.{Ghosts}
use Rattle.field.specs.Model.{Ops}

-- what the symbol at place m of a list of the machine's symbols stands for
abbrev pub entry : {A S : Type 0} (f : Ghosts A S) → List S → ℕ → f.elements
entry f xs m = f.elem (slice_index_or xs m (f.sym f.model.zero))

-- the product of y - x m over the m below n but b
unfoldable pub others : {E : Type 0} → Ops E → (ℕ → E) → ℕ → ℕ → E → E
others F x b ℕ.zero y = F.one
others F x b (suc n) y = cond (n == b) (others F x b n y) (F.mul (others F x b n y) (F.sub y (x n)))

-- the weight in the value at y of the value at the point x b, there being k points
unfoldable pub weight : {E : Type 0} → Ops E → (ℕ → E) → ℕ → E → ℕ → E
weight F x k y b = F.mul (others F x b k y) (F.inverse (others F x b k (x b)))

-- the sum of f b over the b below n
unfoldable pub total : {E : Type 0} → Ops E → (ℕ → E) → ℕ → E
total F f ℕ.zero = F.zero
total F f (suc n) = F.add (total F f n) (f n)

-- the value at y of the polynomial with the value v b at the point x b for each b below k
unfoldable pub interpolated : {E : Type 0} → Ops E → (ℕ → E) → (ℕ → E) → ℕ → E → E
interpolated F x v k y = total F (λ b. F.mul (v b) (weight F x k y b)) k

-- the value at y, for place i, of the polynomial through the rows of one length, of which row m has the values at point m
abbrev pub value_at : {A S : Type 0} (f : Ghosts A S) (points rows : List S) (block : ℕ) → f.elements → ℕ → f.elements
value_at f points rows block y i = interpolated f.model (entry f points) (λ m. entry f rows (m * block + i)) (length points) y

-- the byte b stands for the symbol e
abbrev pub IsByteOf : {E : Type 0} → Ops E → E → ℕ → Type 0
IsByteOf F e b = (b < 256) × (F.byte b ≡ e)

-- no byte stands for the symbol e
abbrev pub HasNoByte : {E : Type 0} → Ops E → E → Type 0
HasNoByte F e = (b : ℕ) → b < 256 → F.byte b ≢ e

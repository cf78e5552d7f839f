-- The numbers below n, which are the symbols of both fields. Assumes nothing.
use Rattle.std.specs.Prelude.{ℕ, zero, suc, ◌%◌, ◌<◌, T, nat_lt}
use Rattle.std.proofs.Common.{mod-lt, lt→ltb}

-- a number below n
abbrev pub Below : ℕ → Type 0
Below n = (x : ℕ) × T (nat_lt x n)

-- x modulo n
abbrev pub modulo : (n : ℕ) → 0 < n → ℕ → Below n
modulo n pos x = (x % n, lt→ltb (x % n) n (mod-lt x pos))

-- start s s^2 s^4 .., with n factors after start
unfoldable pub square_chain : {A : Type 0} → (A → A → A) → ℕ → A → A → A
square_chain mul zero start s = start
square_chain mul (suc n) start s = square_chain mul n (mul start s) (mul s s)

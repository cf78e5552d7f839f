-- Examples worked by hand. Assumes nothing.
use Rattle.std.specs.Prelude.{◌≡◌, [], ◌∷◌}
use Rattle.field.specs.Binary as two
use Rattle.field.specs.Prime as prime
use Rattle.code.specs.Shares.{Payload}
use Rattle.code.specs.Decoding.{Decodes}

-- the examples, all of them
pub record Worked : Type 0 where
  -- the field of 256: 2 times 128 is 29, the inverse of 2 is 142, and 5, 7 with k 2 has the shares 5, 7, 1, 13
  pub twice : two.times 2 128 ≡ 29
  pub inverse_two : ((two.binary).inverse (two.symbol 2)).0 ≡ 142
  pub binary_0 : Payload two.binary 2 (5 ∷ 7 ∷ []) 0 (5 ∷ [])
  pub binary_1 : Payload two.binary 2 (5 ∷ 7 ∷ []) 1 (7 ∷ [])
  pub binary_2 : Payload two.binary 2 (5 ∷ 7 ∷ []) 2 (1 ∷ [])
  pub binary_3 : Payload two.binary 2 (5 ∷ 7 ∷ []) 3 (13 ∷ [])
  -- the field of 257: the inverse of 2 is 129, and 5, 3 with k 2 has the shares 5, 3, 1, 256
  pub inverse-prime : ((prime.prime).inverse (prime.symbol 2)).0 ≡ 129
  pub prime_0 : Payload prime.prime 2 (5 ∷ 3 ∷ []) 0 (5 ∷ 0 ∷ [])
  pub prime_1 : Payload prime.prime 2 (5 ∷ 3 ∷ []) 1 (3 ∷ 0 ∷ [])
  pub prime_2 : Payload prime.prime 2 (5 ∷ 3 ∷ []) 2 (1 ∷ 0 ∷ [])
  pub prime_3 : Payload prime.prime 2 (5 ∷ 3 ∷ []) 3 (0 ∷ 1 ∷ [])
  -- and shares 2 and 3 with 9 and 11 give back 5, 7
  pub back : Decodes prime.prime 2 2 (2 ∷ 3 ∷ []) (9 ∷ 0 ∷ 11 ∷ 0 ∷ []) (5 ∷ 7 ∷ [])

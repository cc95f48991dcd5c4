-- The decimal digits of a number, one by one, and how many there are.
-- Assumes nothing.
use Prim.Native.Nat.{ℕ, suc, ◌+◌, ◌/◌, ◌%◌, ◌^◌, ◌≤◌, ◌<◌}
use native.Mathlib.Omega.{arith}
use mathlib.Core.Path.{◌≡◌}
use mathlib.Core.List.{List, [], ◌∷◌, reverse_aux, reverse_aux-append}
use lib.ListN.{length}
use Rattle.text.specs.Decimal.{decimal}
use Rattle.text.proofs.DecimalLaws.{decimal_small, decimal_large, digits_few}

pub number_small : (n : ℕ) (o : List ℕ) → n < 10 → (48 + n) ∷ o ≡ reverse_aux (decimal n) o
number_small n o h = rw (decimal_small n h)

pub number_large : (n : ℕ) (o : List ℕ) → 10 ≤ n → (48 + n % 10) ∷ reverse_aux (decimal (n / 10)) o ≡ reverse_aux (decimal n) o
number_large n o h = rw (decimal_large n h, reverse_aux-append (decimal (n / 10)) ((48 + n % 10) ∷ []) o)

pub decimal_few : (n : ℕ) → n < 2 ^ 64 → length (decimal n) ≤ 20
decimal_few n h = digits_few (suc n) 19 n (omega arith)

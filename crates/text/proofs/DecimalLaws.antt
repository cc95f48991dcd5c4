-- The decimal digits of a number, one by one, and how many there are.
-- Assumes nothing.
use Prim.Native.Nat.{ℕ, zero, suc, ◌+◌, ◌/◌, ◌%◌, ◌^◌, ◌≤◌, ◌<◌}
use native.Mathlib.Nat.{div-lt_iff_lt-mul, pow-suc}
use native.Mathlib.Omega.{arith}
use mathlib.Core.Path.{◌≡◌, refl, ap}
use mathlib.Core.Bool.{Bool, true, false}
use mathlib.Core.List.{List, [], ◌∷◌, ◌++◌}
use lib.Dec.{ltb}
use lib.ListN.{length, length-append}
use borrow.Author.Tests.{lt-ltb, le-ltb, ltb-false}
use Rattle.std.specs.Prelude.{if◌then◌else◌}
use Rattle.text.specs.Decimal.{digits, decimal}

if_cong : (t : Bool) (x y z : List ℕ) → (t ≡ false → y ≡ z) → (if t then x else y) ≡ (if t then x else z)
if_cong true x y z h = refl
if_cong false x y z h = h refl

digits_more : (k m n : ℕ) → n < k → n < m → digits k n ≡ digits m n
unfolding digits
digits_more zero m n hk hm = absurd (omega arith)
digits_more (suc k) zero n hk hm = absurd (omega arith)
digits_more (suc k) (suc m) n hk hm =
    if_cong (ltb n 10) ((48 + n) ∷ []) _ _
    (λ h. let l = ltb-false n 10 h in ap (λ (x : List ℕ). x ++ ((48 + n % 10) ∷ [])) (digits_more k m (n / 10) (omega arith) (omega arith)))

pub decimal_small : (n : ℕ) → n < 10 → decimal n ≡ (48 + n) ∷ []
unfolding digits
decimal_small n h = rw (lt-ltb _ _ h)

pub decimal_large : (n : ℕ) → 10 ≤ n → decimal n ≡ decimal (n / 10) ++ ((48 + n % 10) ∷ [])
unfolding digits
decimal_large n h =
    rw (le-ltb _ _ h) (ap (λ (x : List ℕ). x ++ ((48 + n % 10) ∷ [])) (digits_more n (suc (n / 10)) (n / 10) (omega arith) (omega arith)))

-- a number below 10 to the power of k + 1 has at most k + 1 digits
few : (k n x y : ℕ) (l : List ℕ) → n < 10 ^ suc k → ((j : ℕ) → n / 10 < 10 ^ suc j → length l ≤ suc j) → (t : Bool) → ltb n 10 ≡ t
    → length (if t then x ∷ [] else l ++ (y ∷ [])) ≤ suc k
few zero n x y l h ih true e = omega arith
few (suc k) n x y l h ih true e = omega arith
few zero n x y l h ih false e = absurd (omega (arith, ltb-false n 10 e))
few (suc k) n x y l h ih false e = omega (arith, ih k ((div-lt_iff_lt-mul (omega arith)).1 (rw pow-suc at h)), length-append l (y ∷ []))

pub digits_few : (m k n : ℕ) → n < 10 ^ suc k → length (digits m n) ≤ suc k
unfolding digits
digits_few zero k n h = omega arith
digits_few (suc m) k n h = few k n _ _ (digits m (n / 10)) h (λ j. digits_few m j (n / 10)) (ltb n 10) refl

-- The laws of numbers read digit by digit.
-- Assumes nothing.
use Prim.Native.Nat.{ℕ, suc, ◌+◌, ◌*◌, ◌-◌, ◌^◌, ◌≤◌, ◌<◌}
use mathlib.Core.Bool.{true, false}
use mathlib.Core.List.{List, [], ◌∷◌}
use mathlib.Core.Logic.{⊎_elim}
use mathlib.Core.Option.{none, some}
use mathlib.Core.Path.{◌≡◌, refl}
use borrow.Author.Tests.{lt-ltb, le-ltb, ltb-true, ltb-false, eqb-true}
use lib.Dec.{ltb}
use Rattle.std.specs.Bool.{◌==◌}
use native.Mathlib.Numerals.{add-one}
use native.Mathlib.Nat.{mul-le-mul, lt_of_lt_of_le}
use native.Mathlib.Omega.{arith}
use lib.ListN.{length, get_or, drop, drop_of_length-le}
use lib.Pow.{pow_mono, pow-add}
use lib.Seq.{drop-cons, drop-drop}
use Rattle.text.specs.Words.{starts}
use Rattle.text.specs.Chars.{within}
use Rattle.text.proofs.Tests.{decide, within_true}
use Rattle.std.specs.Char.{digit_value}
use Rattle.std.proofs.lemmas.Bool.Decides.{nat_tests}
use Rattle.reference.specs.Unescape.{digit, digits, from_str_radix, some_digits}

-- ---- one digit
module _ (c : ℕ) where
  pub digit_0 : within 48 57 c ≡ true → digit c ≡ c - 48
  unfolding digit
  digit_0 e = rw e

  module _ (n : within 48 57 c ≡ false) where
    pub digit_a : within 97 102 c ≡ true → digit c ≡ c - 87
    unfolding digit
    digit_a e = rw (n, e)

    pub digit_A : within 97 102 c ≡ false → within 65 70 c ≡ true → digit c ≡ c - 55
    unfolding digit
    digit_A m e = rw (n, m, e)

    pub digit_none : within 97 102 c ≡ false → within 65 70 c ≡ false → digit c ≡ 16
    unfolding digit
    digit_none m k = rw (n, m, k)

    pub digit_high : 10 ≤ digit c
    digit_high =
        ⊎_elim
        (λ e. rw (digit_a e) (omega (arith, within_true 97 102 c e)))
        (λ m. ⊎_elim (λ e. rw (digit_A m e) (omega (arith, within_true 65 70 c e))) (λ k. rw (digit_none m k) (omega arith)) (decide (within 65 70 c)))
        (decide (within 97 102 c))

-- ---- one digit by the library, whose digits go up to 35
pub value_is : (c : ℕ) → digit_value c < 16 → digit c ≡ digit_value c
unfolding digit
value_is c h = grind (arith, nat_tests)

no_value : (c : ℕ) → 16 ≤ digit_value c → 16 ≤ digit c
unfolding digit
no_value c h = grind (arith, nat_tests)

pub past_radix : (c radix : ℕ) → radix ≤ 16 → (digit_value c < radix → ⊥) → radix ≤ digit c
past_radix c radix l h =
    ⊎_elim
    (λ e. let q = value_is c (ltb-true (digit_value c) 16 e) in omega arith)
    (λ e. let q = no_value c (ltb-false (digit_value c) 16 e) in omega arith)
    (decide (ltb (digit_value c) 16))

-- ---- one digit more
pub room : (k v radix d : ℕ) → v < 2 ^ (4 * k) → d < radix → radix ≤ 16 → v * radix + d < 2 ^ (4 * (k + 1))
room k v radix d h l m =
    let e : 4 * (k + 1) ≡ 4 * k + 4 = omega arith in
    let p : suc v * radix ≤ 2 ^ (4 * k) * 16 = mul-le-mul h m in
    let q : suc v * radix ≡ v * radix + radix = omega arith in
    rw (e, pow-add 2 (4 * k) 4) (omega arith)

-- 8 digits make a number of 32 bits
pub fits : (k v : ℕ) → v < 2 ^ (4 * k) → k ≤ 8 → v < 2 ^ 32
fits k v h l = lt_of_lt_of_le h (pow_mono {i = 4 * k} {j = 32} (omega arith))

-- the digit d at j, or none there
module _ (radix v : ℕ) (s : List ℕ) (j d : ℕ) (l : j < length s) (e : d ≡ digit (get_or s j 0)) where
  pub digits_next : d < radix → digits radix v (drop j s) ≡ digits radix (v * radix + d) (drop (j + 1) s)
  unfolding digits
  digits_next h = rw (drop-cons s j 0 l, ← e, lt-ltb d radix h, add-one j)

  pub digits_stop : radix ≤ d → digits radix v (drop j s) ≡ none
  unfolding digits
  digits_stop h = rw (drop-cons s j 0 l, ← e, le-ltb d radix h)

pub digits_end : (radix v : ℕ) (s : List ℕ) (j : ℕ) → length s ≤ j → digits radix v (drop j s) ≡ some v
unfolding digits
digits_end radix v s j l = rw (drop_of_length-le s l)

-- ---- at least one
pub no_digits : (radix : ℕ) (s : List ℕ) → (length s == 0) ≡ true → some_digits radix s ≡ none
unfolding some_digits
no_digits radix [] e = refl
no_digits radix (c ∷ s) e = let z = eqb-true (suc (length s)) 0 e in absurd (omega arith)

pub more_digits : (radix : ℕ) (s : List ℕ) → (length s == 0) ≡ false → some_digits radix s ≡ digits radix 0 s
unfolding some_digits
more_digits radix [] e = cc
more_digits radix (c ∷ s) e = refl

-- ---- with a `+`, and without
pub from_plus : (radix : ℕ) (s : List ℕ) (i : ℕ) → starts "+" (drop i s) ≡ true → from_str_radix radix (drop i s) ≡ some_digits radix (drop (i + 1) s)
unfolding from_str_radix some_digits
from_plus radix s i e = simp (e, drop-drop)

pub from_other : (radix : ℕ) (s : List ℕ) (i : ℕ) → starts "+" (drop i s) ≡ false → from_str_radix radix (drop i s) ≡ some_digits radix (drop i s)
unfolding from_str_radix some_digits
from_other radix s i e = simp e

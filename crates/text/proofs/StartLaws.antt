-- The first two bytes of a character of three or four bytes: the rows of the table, where the second byte is a tail, by the bits of both together.
-- Assumes nothing.
use Prim.Native.Nat.{ℕ, ◌+◌, ◌*◌, ◌≤◌, ◌<◌}
use native.Mathlib.Omega.{arith}
use mathlib.Core.Path.{◌≡◌, refl}
use mathlib.Core.Bool.{Bool, true, false, not, ◌&&◌}
use mathlib.Core.Logic.{⊎_elim}
use lib.Dec.{ltb, leb}
use borrow.Author.Tests.{ltb-true, ltb-false, leb-true, leb-false, le-leb, lt-leb}
use Rattle.std.specs.Prelude.{if◌then◌else◌}
use Rattle.text.specs.Chars.{within}
use Rattle.text.specs.Utf8.{tail, starts3, starts4}
use Rattle.text.proofs.Tests.{decide, within_true, within_is, within_below, within_above}

-- a test that is right where the byte is a tail serves behind the test for a tail
pub after_tail : (t u r x : Bool) (n : ℕ) → (t ≡ true → r ≡ x) → (if t && u && r then n else 0) ≡ (if t && u && x then n else 0)
after_tail true u r x n f = rw (f refl)
after_tail false u r x n f = refl

pub after_tail_2 : (t u v r x : Bool) (n : ℕ) → (t ≡ true → r ≡ x) → (if t && u && v && r then n else 0) ≡ (if t && u && v && x then n else 0)
after_tail_2 true u v r x n f = rw (f refl)
after_tail_2 false u v r x n f = refl

module _ (a b : ℕ) (t : tail b ≡ true) where
  abbrev AB : ℕ
  AB = a * 64 + b

  pub start3_is : 0xE0 ≤ a → a < 0xF0 → leb 0x38A0 AB && not (within 0x3BE0 0x3BFF AB) ≡ starts3 a b
  unfolding starts3
  start3_is l h =
      let p = within_true 0x80 0xBF b t in
      let lo = p.0 in
      let hi = p.1 in
      ⊎_elim
      (λ e.
      let k = ltb-true a 0xE1 e in
      ⊎_elim
      (λ f. let m = leb-true 0xA0 b f in simp (le-leb 0x38A0 AB (omega arith), within_below 0x3BE0 0x3BFF AB (omega arith), within_is 0xE0 0xE0 a l (omega arith), f, le-leb b 0xBF hi))
      (λ f. let m = leb-false 0xA0 b f in simp (
        lt-leb 0x38A0 AB (omega arith),
        within_is 0xE0 0xE0 a l (omega arith),
        within_below 0xE1 0xEC a k,
        within_below 0xED 0xED a (omega arith),
        within_below 0xEE 0xEF a (omega arith),
        f,
      ))
      (decide (leb 0xA0 b)))
      (λ e.
      let k = ltb-false a 0xE1 e in
      let j = le-leb 0x38A0 AB (omega arith) in
      ⊎_elim
      (λ f. let m = ltb-true a 0xED f in simp (j, within_below 0x3BE0 0x3BFF AB (omega arith), within_above 0xE0 0xE0 a l (omega arith), within_is 0xE1 0xEC a k (omega arith), t))
      (λ f.
      let m = ltb-false a 0xED f in
      ⊎_elim
      (λ g.
      let n = ltb-true a 0xEE g in
      ⊎_elim
      (λ q. let r = ltb-true b 0xA0 q in simp (
        j,
        within_below 0x3BE0 0x3BFF AB (omega arith),
        within_above 0xE0 0xE0 a l (omega arith),
        within_above 0xE1 0xEC a k (omega arith),
        within_is 0xED 0xED a m (omega arith),
        within_is 0x80 0x9F b lo (omega arith),
      ))
      (λ q. let r = ltb-false b 0xA0 q in simp (
        j,
        within_is 0x3BE0 0x3BFF AB (omega arith) (omega arith),
        within_above 0xE0 0xE0 a l (omega arith),
        within_above 0xE1 0xEC a k (omega arith),
        within_is 0xED 0xED a m (omega arith),
        within_below 0xEE 0xEF a n,
        within_above 0x80 0x9F b lo (omega arith),
      ))
      (decide (ltb b 0xA0)))
      (λ g.
      let n = ltb-false a 0xEE g in
      simp (
        j,
        within_above 0x3BE0 0x3BFF AB (omega arith) (omega arith),
        within_above 0xE0 0xE0 a l (omega arith),
        within_above 0xE1 0xEC a k (omega arith),
        within_above 0xED 0xED a m (omega arith),
        within_is 0xEE 0xEF a n (omega arith),
        t,
      ))
      (decide (ltb a 0xEE)))
      (decide (ltb a 0xED)))
      (decide (ltb a 0xE1))

  pub start4_is : 0xF0 ≤ a → within 0x3C90 0x3D8F AB ≡ starts4 a b
  unfolding starts4
  start4_is l =
      let p = within_true 0x80 0xBF b t in
      let lo = p.0 in
      let hi = p.1 in
      ⊎_elim
      (λ e.
      let k = ltb-true a 0xF1 e in
      ⊎_elim
      (λ f. let m = leb-true 0x90 b f in simp (within_is 0x3C90 0x3D8F AB (omega arith) (omega arith), within_is 0xF0 0xF0 a l (omega arith), f, le-leb b 0xBF hi))
      (λ f. let m = leb-false 0x90 b f in simp (
        within_below 0x3C90 0x3D8F AB (omega arith),
        within_is 0xF0 0xF0 a l (omega arith),
        within_below 0xF1 0xF3 a k,
        within_below 0xF4 0xF4 a (omega arith),
        f,
      ))
      (decide (leb 0x90 b)))
      (λ e.
      let k = ltb-false a 0xF1 e in
      ⊎_elim
      (λ f. let m = ltb-true a 0xF4 f in simp (within_is 0x3C90 0x3D8F AB (omega arith) (omega arith), within_above 0xF0 0xF0 a l (omega arith), within_is 0xF1 0xF3 a k (omega arith), t))
      (λ f.
      let m = ltb-false a 0xF4 f in
      ⊎_elim
      (λ g.
      let n = ltb-true a 0xF5 g in
      ⊎_elim
      (λ q. let r = ltb-true b 0x90 q in simp (
        within_is 0x3C90 0x3D8F AB (omega arith) (omega arith),
        within_above 0xF0 0xF0 a l (omega arith),
        within_above 0xF1 0xF3 a k (omega arith),
        within_is 0xF4 0xF4 a m (omega arith),
        within_is 0x80 0x8F b lo (omega arith),
      ))
      (λ q. let r = ltb-false b 0x90 q in simp (
        within_above 0x3C90 0x3D8F AB (omega arith) (omega arith),
        within_above 0xF0 0xF0 a l (omega arith),
        within_above 0xF1 0xF3 a k (omega arith),
        within_is 0xF4 0xF4 a m (omega arith),
        within_above 0x80 0x8F b lo (omega arith),
      ))
      (decide (ltb b 0x90)))
      (λ g.
      let n = ltb-false a 0xF5 g in
      simp (within_above 0x3C90 0x3D8F AB (omega arith) (omega arith), within_above 0xF0 0xF0 a l (omega arith), within_above 0xF1 0xF3 a k (omega arith), within_above 0xF4 0xF4 a m (omega arith)))
      (decide (ltb a 0xF5)))
      (decide (ltb a 0xF4)))
      (decide (ltb a 0xF1))

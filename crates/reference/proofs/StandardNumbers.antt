-- The numbers that a name writes, here and by the HTML standard: which of them are characters, what digits add up to, and the `+`.
-- Assumes nothing.
use Prim.Native.Nat.{ℕ, ◌+◌, ◌-◌, ◌*◌, ◌≤◌, ◌<◌}
use mathlib.Core.Bool.{Bool, true, false, ◌&&◌, ◌||◌, not, or-false}
use mathlib.Core.List.{List, [], ◌∷◌}
use mathlib.Core.Logic.{inl, inr, ⊎_elim}
use mathlib.Core.Option.{Option, none, some}
use mathlib.Core.Path.{◌≡◌, refl, sym, ap, ◌∙◌}
use borrow.Author.Tests.{leb-true, leb-false, le-leb, lt-leb, ltb-true, ltb-false, lt-ltb, le-ltb, eqb-true}
use native.Mathlib.Omega.{arith}
use lib.Dec.{leb, ltb, eqb}
use lib.ListN.{drop}
use Rattle.std.specs.Prelude.{if◌then◌else◌}
use Rattle.text.specs.Words.{◌>>=◌, ensure, str, starts_with, starts}
use Rattle.text.specs.Chars.{within, is_scalar, is_control}
use Rattle.text.proofs.Tests.{decide, on, and_true, and_false, or_elim, within_true, within_is, within_below, or_neither, starts_split}
use Rattle.text.proofs.Laws.{scalar_is}
use Rattle.reference.specs.Unescape.{digit, digits, from_str_radix, some_digits, written}
use Rattle.reference.specs.Standard.{table, row, end_state, decimal_digit, hexadecimal_digit, add_digits, decimal, hexadecimal, numeric, no_number, signed, unsigned}
use Rattle.reference.proofs.NameLaws.{plain}
use Rattle.reference.proofs.DigitLaws.{digit_0, digit_a, digit_A, digit_none, digit_high, from_plus, from_other}

-- ---- numbers
-- every number of the table is a control's
controls : List (ℕ × ℕ) → Bool
controls [] = true
controls (r ∷ rows) = within 127 159 r.0 && controls rows

table_controls : controls table ≡ true
unfolding controls table
table_controls = refl

row_other : (rows : List (ℕ × ℕ)) (v : ℕ) → controls rows ≡ true → within 127 159 v ≡ false → row rows v ≡ v
unfolding controls row
row_other [] v t n = refl
row_other (r ∷ rows) v t n =
    let p = and_true (within 127 159 r.0) (controls rows) t in
    on (λ (x : ℕ). x ≡ v) (eqb v r.0)
    (λ e. let q = ap (within 127 159) (eqb-true v r.0 e) in let h = p.0 in cc)
    (λ _. row_other rows v p.1 n)

-- a number that is none of those: a character that is no control, which the standard leaves as it is
pub record Number (v : ℕ) : Type 0 where
  pub is : is_scalar v && not (is_control v) ≡ true
  pub stays : end_state v ≡ v

outside : (low high v : ℕ) → within low high v ≡ false → low ≤ v → high < v
outside low high v n l = ⊎_elim (λ e. let q = within_is low high v l (leb-true v high e) in let z : ◌≡◌ {A = ℕ} 0 1 = cc in absurd (omega arith)) (λ e. leb-false v high e) (decide (leb v high))

scalar : (v : ℕ) → within 0xD800 0xDFFF v ≡ false → ltb 0x10FFFF v ≡ false → is_scalar v ≡ true
scalar v s h =
    scalar_is v
    (⊎_elim (λ e. inl (leb-true v 0xD7FF e)) (λ e. inr (outside 0xD800 0xDFFF v s (leb-false v 0xD7FF e), ltb-false 0x10FFFF v h)) (decide (leb v 0xD7FF)))

same_number : (v : ℕ) → eqb v 0 ≡ false → ltb 0x10FFFF v ≡ false → within 0xD800 0xDFFF v ≡ false → is_control v ≡ false → end_state v ≡ v
unfolding end_state is_control
same_number v z h s c = simp (z, h, s) (row_other table v table_controls (or_neither (leb v 31) (within 127 159 v) c).1)

pub number_yes : (v : ℕ) → no_number v ≡ false → Number v
unfolding no_number
number_yes v e =
    let a = or_neither (is_control v || eqb v 0 || within 0xD800 0xDFFF v) (ltb 0x10FFFF v) e in
    let b = or_neither (is_control v || eqb v 0) (within 0xD800 0xDFFF v) a.0 in
    let c = or_neither (is_control v) (eqb v 0) b.0 in
    record { is = rw (scalar v b.1 a.1, c.0); stays = same_number v c.1 a.1 b.1 c.0 }

pub zero_control : is_control 0 ≡ true
unfolding is_control
zero_control = refl

surrogate : (v : ℕ) → (0xD800 ≤ v) × (v ≤ 0xDFFF) → is_scalar v ≡ false
unfolding is_scalar
surrogate v h = simp (lt-leb v 0xD7FF (omega arith), lt-leb 0xE000 v (omega arith))

above : (v : ℕ) → 0x10FFFF < v → is_scalar v ≡ false
unfolding is_scalar
above v h = simp (lt-leb v 0xD7FF (omega arith), le-leb 0xE000 v (omega arith), lt-leb v 0x10FFFF h)

pub number_no : (v : ℕ) → no_number v ≡ true → is_scalar v && not (is_control v) ≡ false
unfolding no_number
number_no v =
    or_elim (is_control v || eqb v 0 || within 0xD800 0xDFFF v) (ltb 0x10FFFF v)
    (or_elim (is_control v || eqb v 0) (within 0xD800 0xDFFF v)
    (or_elim (is_control v) (eqb v 0) control (λ e. control (ap is_control (eqb-true v 0 e) ∙ zero_control)))
    (λ e. no_scalar (surrogate v (within_true 0xD800 0xDFFF v e))))
    (λ e. no_scalar (above v (ltb-true 0x10FFFF v e)))
  where
    control : is_control v ≡ true → is_scalar v && not (is_control v) ≡ false
    control e = and_false (is_scalar v) (not (is_control v)) (ap not e)

    no_scalar : is_scalar v ≡ false → is_scalar v && not (is_control v) ≡ false
    no_scalar e = rw e

-- what the standard changes is none that we put
pub changed : (v : ℕ) → (end_state v ≡ v → ⊥) → no_number v ≡ true
changed v n = ⊎_elim (λ e. e) (λ e. absurd (n (number_yes v e).stays)) (decide (no_number v))

pub plain_is : (v : ℕ) → plain v ≡ (if no_number v then none else some v)
plain_is v =
    ⊎_elim (λ e. rw (number_no v e) (sym (ap (λ (t : Bool). if t then none else some v) e)))
    (λ e. rw (number_yes v e).is (sym (ap (λ (t : Bool). if t then none else some v) e))) (decide (no_number v))

-- ---- digits
module _ (value : ℕ → Option ℕ) (radix : ℕ) (h : (c : ℕ) → value c ≡ (ensure (ltb (digit c) radix) >>= λ _. some (digit c))) where
  digits_same : (v : ℕ) (s : List ℕ) → digits radix v s ≡ add_digits value radix v s
  unfolding digits add_digits
  digits_same v [] = refl
  digits_same v (c ∷ s) = rw (h c) (by (ltb (digit c) radix) (digits_same (v * radix + digit c) s))
    where
      by : (t : Bool) → digits radix (v * radix + digit c) s ≡ add_digits value radix (v * radix + digit c) s
          → (ensure t >>= λ _. digits radix (v * radix + digit c) s) ≡ ((ensure t >>= λ _. some (digit c)) >>= λ d. add_digits value radix (v * radix + d) s)
      by true ih = ih
      by false ih = refl

-- a digit's value in each range
takes : (c radix d : ℕ) → digit c ≡ d → d < radix → some d ≡ (ensure (ltb (digit c) radix) >>= λ _. some (digit c))
takes c radix d e l = rw (e, lt-ltb d radix l)

leaves : (c radix : ℕ) → radix ≤ digit c → none ≡ (ensure (ltb (digit c) radix) >>= λ _. some (digit c))
leaves c radix l = rw (le-ltb (digit c) radix l)

decimal_is : (c : ℕ) → decimal_digit c ≡ (ensure (ltb (digit c) 10) >>= λ _. some (digit c))
decimal_is c =
    let Q : Option ℕ → Type 0 = λ (o : Option ℕ). o ≡ (ensure (ltb (digit c) 10) >>= λ _. some (digit c)) in
    on Q (within 48 57 c)
    (λ e. takes c 10 (c - 48) (digit_0 c e) (omega (arith, within_true 48 57 c e)))
    (λ n. leaves c 10 (digit_high c n))

hexadecimal_is : (c : ℕ) → hexadecimal_digit c ≡ (ensure (ltb (digit c) 16) >>= λ _. some (digit c))
hexadecimal_is c =
    let Q : Option ℕ → Type 0 = λ (o : Option ℕ). o ≡ (ensure (ltb (digit c) 16) >>= λ _. some (digit c)) in
    on Q (within 48 57 c)
    (λ e. takes c 16 (c - 48) (digit_0 c e) (omega (arith, within_true 48 57 c e)))
    (λ n. on Q (within 65 70 c)
    (λ e. let h = within_true 65 70 c e in takes c 16 (c - 55) (digit_A c n (within_below 97 102 c (omega arith)) e) (omega arith))
    (λ m. on Q (within 97 102 c)
    (λ e. takes c 16 (c - 87) (digit_a c n e) (omega (arith, within_true 97 102 c e)))
    (λ k. leaves c 16 (rw (digit_none c n k m) (omega arith)))))

pub decimal_same : (s : List ℕ) → some_digits 10 s ≡ decimal s
unfolding some_digits decimal
decimal_same s = rw (digits_same decimal_digit 10 decimal_is 0 s)

pub hexadecimal_same : (s : List ℕ) → some_digits 16 s ≡ hexadecimal s
unfolding some_digits hexadecimal
hexadecimal_same s = rw (digits_same hexadecimal_digit 16 hexadecimal_is 0 s)

-- ---- with a `+` before the digits, which the standard has not
plus_decimal : (t : List ℕ) → starts "+" t ≡ true → decimal t ≡ none
unfolding decimal add_digits
plus_decimal t e = ap decimal (starts_split (str "+") t e)

plus_hexadecimal : (t : List ℕ) → starts "+" t ≡ true → hexadecimal t ≡ none
unfolding hexadecimal add_digits
plus_hexadecimal t e = ap hexadecimal (starts_split (str "+") t e)

pub record Signs (u : List ℕ) : Type 0 where
  pub with : signed u ≡ true → written u ≡ unsigned u
  pub never : signed u ≡ true → numeric u ≡ none
  pub without : signed u ≡ false → written u ≡ numeric u

-- the digits t of a name u
module _ (radix : ℕ) (f : List ℕ → Option ℕ) (same_digits : (s : List ℕ) → some_digits radix s ≡ f s) (plus_none : (t : List ℕ) → starts "+" t ≡ true → f t ≡ none)
    (u t : List ℕ)
    (sign : signed u ≡ starts "+" t)
    (ours : written u ≡ from_str_radix radix t)
    (theirs : numeric u ≡ f t)
    (passed : starts "+" t ≡ true → unsigned u ≡ f (drop 1 t))
  where
    signs_by : Signs u
    signs_by =
        record {
          with = λ e. let p = sym sign ∙ e in ours ∙ from_plus radix t 0 p ∙ same_digits (drop 1 t) ∙ sym (passed p);
          never = λ e. theirs ∙ plus_none t (sym sign ∙ e);
          without = λ e. ours ∙ from_other radix t 0 (sym sign ∙ e) ∙ same_digits t ∙ sym theirs;
        }

starts_more : (d : ℕ) (p t : List ℕ) → starts_with (d ∷ []) t ≡ false → starts_with (d ∷ p) t ≡ false
starts_more d p [] e = refl
starts_more d p (c ∷ t) e = by (eqb c d) e
  where
    by : (b : Bool) → b && true ≡ false → b && starts_with p t ≡ false
    by true e = cc
    by false e = refl

signs_none : (u : List ℕ) → starts "#" u ≡ false → Signs u
unfolding signed written numeric
signs_none u e =
    let a = starts_more 35 (str "+") u e in
    let b = starts_more 35 (str "x+") u e in
    let c = starts_more 35 (str "X+") u e in
    let n : starts "#+" u || starts "#x+" u || starts "#X+" u ≡ false = rw (a, b, c) in
    record {
      with = λ f. let z : ◌≡◌ {A = ℕ} 0 1 = cc in absurd (omega arith);
      never = λ f. rw e;
      without = λ f. rw e;
    }

signs_decimal : (t : List ℕ) → starts "x" t ≡ false → starts "X" t ≡ false → Signs (35 ∷ t)
unfolding signed written numeric unsigned
signs_decimal t x y =
    signs_by 10 decimal decimal_same plus_decimal (35 ∷ t) t
    (rw (starts_more 120 (str "+") t x, starts_more 88 (str "+") t y) (or-false (starts "+" t || false) ∙ or-false (starts "+" t)))
    (rw (x, y))
    (rw (x, y))
    (λ e. rw e)

signs_x : (t : List ℕ) → Signs (35 ∷ 120 ∷ t)
unfolding signed written numeric unsigned
signs_x t = signs_by 16 hexadecimal hexadecimal_same plus_hexadecimal (35 ∷ 120 ∷ t) t (or-false (starts "+" t)) refl refl (λ _. refl)

signs_X : (t : List ℕ) → Signs (35 ∷ 88 ∷ t)
unfolding signed written numeric unsigned
signs_X t = signs_by 16 hexadecimal hexadecimal_same plus_hexadecimal (35 ∷ 88 ∷ t) t refl refl refl (λ _. refl)

pub signs : (u : List ℕ) → Signs u
signs [] = signs_none [] refl
signs (c ∷ []) =
    ⊎_elim
    (λ e. rw (eqb-true c 35 e) (signs_decimal [] refl refl))
    (λ e. signs_none (c ∷ []) (rw e))
    (decide (eqb c 35))
signs (c ∷ d ∷ t) =
    ⊎_elim
    (λ e. rw (eqb-true c 35 e)
    (⊎_elim
    (λ f. rw (eqb-true d 120 f) (signs_x t))
    (λ x. ⊎_elim
    (λ f. rw (eqb-true d 88 f) (signs_X t))
    (λ y. signs_decimal (d ∷ t) (rw x) (rw y))
    (decide (eqb d 88)))
    (decide (eqb d 120))))
    (λ e. signs_none (c ∷ d ∷ t) (rw e))
    (decide (eqb c 35))

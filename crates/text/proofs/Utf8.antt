-- The laws of `specs/Utf8.antt`.
-- Assumes nothing.
use Prim.Native.Nat.{ℕ, suc, ◌+◌, ◌*◌, ◌-◌, ◌/◌, ◌%◌, ◌≤◌, ◌<◌}
use mathlib.Core.Bool.{Bool, true, false, ◌&&◌, ◌||◌}
use mathlib.Core.List.{List, [], ◌∷◌, ◌++◌}
use mathlib.Core.Logic.{◌⊎◌, inl, inr, ⊎_elim, ◌≢◌}
use mathlib.Core.Path.{◌≡◌, refl, sym, ap, ◌∙◌}
use borrow.Author.Tests.{leb-true, leb-false, ltb-true, ltb-false, lt-ltb, le-ltb, le-leb, lt-leb}
use native.Mathlib.Omega.{arith}
use lib.Dec.{leb, ltb}
use lib.ListN.{length, get_or, drop, drop_of_length-le}
use lib.Seq.{drop-append_seam, drop-cons, get_or-drop}
use Rattle.std.specs.Prelude.{if◌then◌else◌}
use Rattle.text.specs.Chars.{within}
use Rattle.text.specs.Utf8.{IsScalar, utf8, tail, row, starts3, starts4, given, join, char_of, char, char_size, stray, FourAt}
use Rattle.text.specs.Char.{Char, At, Bad, End}
use Rattle.text.specs.declared.decoding.Four.{Four}
use Rattle.text.proofs.Tests.{decide, on, or_elim, or_right, row_true, row_is, within_true, within_is, within_below, within_above}

-- ---- the bytes of a character, by its range
pub utf8_1 : (c : ℕ) → c < 0x80 → utf8 c ≡ c ∷ []
unfolding utf8
utf8_1 c h = simp (lt-ltb c 0x80 h)

pub utf8_2 : (c : ℕ) → 0x80 ≤ c → c < 0x800 → utf8 c ≡ (0xC0 + c / 64) ∷ (0x80 + c % 64) ∷ []
unfolding utf8
utf8_2 c l h = simp (le-ltb c 0x80 l, lt-ltb c 0x800 h)

pub utf8_3 : (c : ℕ) → 0x800 ≤ c → c < 0x10000 → utf8 c ≡ (0xE0 + c / 4096) ∷ (0x80 + c / 64 % 64) ∷ (0x80 + c % 64) ∷ []
unfolding utf8
utf8_3 c l h = simp (le-ltb c 0x80 (omega arith), le-ltb c 0x800 l, lt-ltb c 0x10000 h)

pub utf8_4 : (c : ℕ) → 0x10000 ≤ c → c < 0x110000
    → utf8 c ≡ (0xF0 + c / 262144) ∷ (0x80 + c / 4096 % 64) ∷ (0x80 + c / 64 % 64) ∷ (0x80 + c % 64) ∷ []
unfolding utf8
utf8_4 c l h = simp (le-ltb c 0x80 (omega arith), le-ltb c 0x800 (omega arith), le-ltb c 0x10000 l, lt-ltb c 0x110000 h)

pub utf8_stray : (b : ℕ) → utf8 (stray b) ≡ b ∷ []
unfolding utf8
utf8_stray b =
    simp (
      le-ltb (stray b) 0x80 (omega arith),
      le-ltb (stray b) 0x800 (omega arith),
      le-ltb (stray b) 0x10000 (omega arith),
      le-ltb (stray b) 0x110000 (omega arith),
    )
    (ap (λ (x : ℕ). x ∷ []) (omega arith))

pub size_past : (c : ℕ) → 0x110000 ≤ c → length (utf8 c) ≡ 1
unfolding utf8
size_past c h =
    simp (le-ltb c 0x80 (omega arith), le-ltb c 0x800 (omega arith), le-ltb c 0x10000 (omega arith), le-ltb c 0x110000 h)

-- ---- what `char_of` found: each row of the table
pub record Two (a b : ℕ) : Type 0 where
  pub a_low : 0xC2 ≤ a
  pub a_high : a ≤ 0xDF
  pub b_low : 0x80 ≤ b
  pub b_high : b ≤ 0xBF

abbrev pub value2 : ℕ → ℕ → ℕ
value2 a b = join (a - 0xC0) b

abbrev pub value3 : ℕ → ℕ → ℕ → ℕ
value3 a b c = join (join (a - 0xE0) b) c

-- 0xD800 to 0xDFFF are the numbers whose quotient by 2048 is 27
pub record Three (a b c : ℕ) : Type 0 where
  pub a_low : 0xE0 ≤ a
  pub a_high : a ≤ 0xEF
  pub b_low : 0x80 ≤ b
  pub b_high : b ≤ 0xBF
  pub c_low : 0x80 ≤ c
  pub c_high : c ≤ 0xBF
  pub long : 0x800 ≤ value3 a b c
  pub no_surrogate : value3 a b c / 2048 ≢ 27

abbrev pub value4 : ℕ → ℕ → ℕ → ℕ → ℕ
value4 a b c d = join (join (join (a - 0xF0) b) c) d

pub record IsFour (a b c d : ℕ) : Type 0 where
  pub a_low : 0xF0 ≤ a
  pub a_high : a ≤ 0xF4
  pub b_low : 0x80 ≤ b
  pub b_high : b ≤ 0xBF
  pub c_low : 0x80 ≤ c
  pub c_high : c ≤ 0xBF
  pub d_low : 0x80 ≤ d
  pub d_high : d ≤ 0xBF
  pub long : 0x10000 ≤ value4 a b c d
  pub top : value4 a b c d ≤ 0x10FFFF

-- ---- how many bytes there are, by the range of the first
no_start3 : (a b : ℕ) → (a < 0xE0) ⊎ (0xF0 ≤ a) → starts3 a b ≡ false
unfolding starts3
no_start3 a b (inl h) =
    simp (within_below 0xE0 0xE0 a (omega arith), within_below 0xE1 0xEC a (omega arith), within_below 0xED 0xED a (omega arith), within_below 0xEE 0xEF a (omega arith))
no_start3 a b (inr h) =
    simp (
      within_above 0xE0 0xE0 a (omega arith) (omega arith),
      within_above 0xE1 0xEC a (omega arith) (omega arith),
      within_above 0xED 0xED a (omega arith) (omega arith),
      within_above 0xEE 0xEF a (omega arith) (omega arith),
    )

no_start4 : (a b : ℕ) → a < 0xF0 → starts4 a b ≡ false
unfolding starts4
no_start4 a b h = simp (within_below 0xF0 0xF0 a (omega arith), within_below 0xF1 0xF3 a (omega arith), within_below 0xF4 0xF4 a (omega arith))

module _ (a b c d : ℕ) (l : 0x7F < a) where
  -- the tests of `char_of` by the first byte's range, the others known
  two_by : (w tb tc td : Bool) (x : ℕ) → (if w && tb then 2 else 0) ≡ char_size (given tb (if w then At x 2 else given tc (given td Bad)))
  two_by true true tc td x = refl
  two_by true false tc td x = refl
  two_by false true true true x = refl
  two_by false true true false x = refl
  two_by false true false td x = refl
  two_by false false tc td x = refl

  three_by : (tb tc s td : Bool) (y : ℕ) → (if tb && tc && s then 3 else 0) ≡ char_size (given tb (given tc (if s then At y 3 else given td Bad)))
  three_by true true true td y = refl
  three_by true true false true y = refl
  three_by true true false false y = refl
  three_by true false s td y = refl
  three_by false tc s td y = refl

  four_by : (tb tc td s : Bool) (z : ℕ) → (if tb && tc && td && s then 4 else 0) ≡ char_size (given tb (given tc (given td (given s (At z 4)))))
  four_by true true true true z = refl
  four_by true true true false z = refl
  four_by true true false s z = refl
  four_by true false td s z = refl
  four_by false tc td s z = refl

  pub two_bytes : a < 0xE0 → (if within 0xC2 0xDF a && tail b then 2 else 0) ≡ char_size (char_of a b c d)
  unfolding char_of
  two_bytes h = simp (lt-leb a 0x7F l, no_start3 a b (inl h), no_start4 a b (omega arith)) (two_by (within 0xC2 0xDF a) (tail b) (tail c) (tail d) _)

  pub three_bytes : 0xE0 ≤ a → a < 0xF0 → (if tail b && tail c && starts3 a b then 3 else 0) ≡ char_size (char_of a b c d)
  unfolding char_of
  three_bytes g h = simp (lt-leb a 0x7F l, within_above 0xC2 0xDF a (omega arith) (omega arith), no_start4 a b h) (three_by (tail b) (tail c) (starts3 a b) (tail d) _)

  pub four_bytes : 0xF0 ≤ a → (if tail b && tail c && tail d && starts4 a b then 4 else 0) ≡ char_size (char_of a b c d)
  unfolding char_of
  four_bytes g = simp (lt-leb a 0x7F l, within_above 0xC2 0xDF a (omega arith) (omega arith), no_start3 a b (inr g)) (four_by (tail b) (tail c) (tail d) (starts4 a b) _)

pub three : (a b c : ℕ) → tail c ≡ true → starts3 a b ≡ true → Three a b c
unfolding starts3
three a b c t =
    let h = within_true 0x80 0xBF c t in
    or_elim (row 0xE0 0xE0 0xA0 0xBF a b || row 0xE1 0xEC 0x80 0xBF a b || row 0xED 0xED 0x80 0x9F a b) _
    (or_elim (row 0xE0 0xE0 0xA0 0xBF a b || row 0xE1 0xEC 0x80 0xBF a b) _
    (or_elim (row 0xE0 0xE0 0xA0 0xBF a b) _
    (λ r. let k = row_true 0xE0 0xE0 0xA0 0xBF a b r in omega arith)
    (λ r. let k = row_true 0xE1 0xEC 0x80 0xBF a b r in omega arith))
    (λ r. let k = row_true 0xED 0xED 0x80 0x9F a b r in omega arith))
    (λ r. let k = row_true 0xEE 0xEF 0x80 0xBF a b r in omega arith)

pub four : (a b c d : ℕ) → tail c ≡ true → tail d ≡ true → starts4 a b ≡ true → IsFour a b c d
unfolding starts4
four a b c d t u =
    let h = within_true 0x80 0xBF c t in
    let i = within_true 0x80 0xBF d u in
    or_elim (row 0xF0 0xF0 0x90 0xBF a b || row 0xF1 0xF3 0x80 0xBF a b) _
    (or_elim (row 0xF0 0xF0 0x90 0xBF a b) _
    (λ r. let k = row_true 0xF0 0xF0 0x90 0xBF a b r in omega arith)
    (λ r. let k = row_true 0xF1 0xF3 0x80 0xBF a b r in omega arith))
    (λ r. let k = row_true 0xF4 0xF4 0x80 0x8F a b r in omega arith)

pub two : (a b : ℕ) → tail b ≡ true → within 0xC2 0xDF a ≡ true → Two a b
two a b t e =
    let h = within_true 0x80 0xBF b t in
    let k = within_true 0xC2 0xDF a e in
    omega arith

-- what holds of each row of the table, and of no character, holds of what `char_of` finds
pub by_rows : (P : Char → Type 0) (a b c d : ℕ)
    → (a ≤ 0x7F → P (At a 1))
    → (Two a b → P (At (value2 a b) 2))
    → (Three a b c → P (At (value3 a b c) 3))
    → (IsFour a b c d → P (At (value4 a b c d) 4))
    → P Bad
    → P (char_of a b c d)
unfolding char_of
by_rows P a b c d one p2 p3 p4 bad =
    on P (leb a 0x7F)
    (λ e. one (leb-true a 0x7F e))
    (λ _. on P (tail b)
    (λ tb. on P (within 0xC2 0xDF a)
    (λ e. p2 (two a b tb e))
    (λ _. on P (tail c)
    (λ tc. on P (starts3 a b)
    (λ e. p3 (three a b c tc e))
    (λ _. on P (tail d)
    (λ td. on P (starts4 a b) (λ e. p4 (four a b c d tc td e)) (λ _. bad))
    (λ _. bad)))
    (λ _. bad)))
    (λ _. bad))

-- what the size tells
pub size_0 : (a b c d : ℕ) → char_size (char_of a b c d) ≡ 0 → char_of a b c d ≡ Bad
size_0 a b c d =
    by_rows (λ (x : Char). char_size x ≡ 0 → x ≡ Bad) a b c d
    (λ _ q. absurd (omega arith))
    (λ _ q. absurd (omega arith))
    (λ _ q. absurd (omega arith))
    (λ _ q. absurd (omega arith))
    (λ q. refl)

module _ (a b c d n : ℕ) (e : n ≡ char_size (char_of a b c d)) where
  pub size_1 : n ≡ 1 → char_of a b c d ≡ At a n
  size_1 h =
      by_rows (λ (x : Char). n ≡ char_size x → x ≡ At a n) a b c d
      (λ _ q. ap (At a) (sym q))
      (λ _ q. absurd (omega arith))
      (λ _ q. absurd (omega arith))
      (λ _ q. absurd (omega arith))
      (λ q. absurd (omega arith))
      e

  pub size_2 : n ≡ 2 → Two a b × (char_of a b c d ≡ At (value2 a b) n)
  size_2 h =
      by_rows (λ (x : Char). n ≡ char_size x → Two a b × (x ≡ At (value2 a b) n)) a b c d
      (λ _ q. absurd (omega arith))
      (λ r q. (r, ap (At (value2 a b)) (sym q)))
      (λ _ q. absurd (omega arith))
      (λ _ q. absurd (omega arith))
      (λ q. absurd (omega arith))
      e

  pub size_3 : n ≡ 3 → Three a b c × (char_of a b c d ≡ At (value3 a b c) n)
  size_3 h =
      by_rows (λ (x : Char). n ≡ char_size x → Three a b c × (x ≡ At (value3 a b c) n)) a b c d
      (λ _ q. absurd (omega arith))
      (λ _ q. absurd (omega arith))
      (λ r q. (r, ap (At (value3 a b c)) (sym q)))
      (λ _ q. absurd (omega arith))
      (λ q. absurd (omega arith))
      e

  pub size_4 : 0 < n → n ≢ 1 → n ≢ 2 → n ≢ 3 → IsFour a b c d × (char_of a b c d ≡ At (value4 a b c d) n)
  size_4 l n1 n2 n3 =
      by_rows (λ (x : Char). n ≡ char_size x → IsFour a b c d × (x ≡ At (value4 a b c d) n)) a b c d
      (λ _ q. absurd (n1 q))
      (λ _ q. absurd (n2 q))
      (λ _ q. absurd (n3 q))
      (λ r q. (r, ap (At (value4 a b c d)) (sym q)))
      (λ q. absurd (omega arith))
      e

-- ---- reading: what `char` finds stands at the start of the bytes
pub record Decoded (bs : List ℕ) (c n : ℕ) : Type 0 where
  pub scalar : IsScalar c
  pub size : length (utf8 c) ≡ n
  pub split : bs ≡ utf8 c ++ drop n bs

below_surrogates : (c : ℕ) → c ≤ 0x10FFFF → c / 2048 ≢ 27 → IsScalar c
below_surrogates c h n =
    ⊎_elim (λ e. inl (leb-true c 0xD7FF e)) (λ e. let k = leb-false c 0xD7FF e in inr (omega arith, h)) (decide (leb c 0xD7FF))

is : (bs rest : List ℕ) (c : ℕ) → IsScalar c → utf8 c ≡ bs → Decoded (bs ++ rest) c (length bs)
is bs rest c s e = record { scalar = s; size = ap length e; split = rw (e, drop-append_seam bs rest) }

decoded_1 : (a : ℕ) (bs : List ℕ) → a ≤ 0x7F → Decoded (a ∷ bs) a 1
decoded_1 a bs h = is (a ∷ []) bs a (inl (omega arith)) (utf8_1 a (omega arith))

decoded_2 : (a b : ℕ) (bs : List ℕ) → Two a b → Decoded (a ∷ b ∷ bs) (value2 a b) 2
decoded_2 a b bs h =
    let v = value2 a b in
    let x : 0xC0 + v / 64 ≡ a = omega arith in
    let y : 0x80 + v % 64 ≡ b = omega arith in
    is (a ∷ b ∷ []) bs v (inl (omega arith)) (utf8_2 v (omega arith) (omega arith) ∙ cc)

decoded_3 : (a b c : ℕ) (bs : List ℕ) → Three a b c → Decoded (a ∷ b ∷ c ∷ bs) (value3 a b c) 3
decoded_3 a b c bs h =
    let v = value3 a b c in
    let x : 0xE0 + v / 4096 ≡ a = omega arith in
    let y : 0x80 + v / 64 % 64 ≡ b = omega arith in
    let z : 0x80 + v % 64 ≡ c = omega arith in
    is (a ∷ b ∷ c ∷ []) bs v (below_surrogates v (omega arith) h.no_surrogate) (utf8_3 v h.long (omega arith) ∙ cc)

decoded_4 : (a b c d : ℕ) (bs : List ℕ) → IsFour a b c d → Decoded (a ∷ b ∷ c ∷ d ∷ bs) (value4 a b c d) 4
decoded_4 a b c d bs h =
    let v = value4 a b c d in
    let w : 0xF0 + v / 262144 ≡ a = omega arith in
    let x : 0x80 + v / 4096 % 64 ≡ b = omega arith in
    let y : 0x80 + v / 64 % 64 ≡ c = omega arith in
    let z : 0x80 + v % 64 ≡ d = omega arith in
    is (a ∷ b ∷ c ∷ d ∷ []) bs v (inr (omega arith)) (utf8_4 v h.long (omega arith) ∙ cc)

-- what `char` says of the bytes
abbrev pub Sound : List ℕ → Char → Type 0
Sound bs (At c n) = Decoded bs c n
Sound bs Bad = Unit
Sound bs End = bs ≡ []

pub sound : (bs : List ℕ) → Sound bs (char bs)
unfolding char
sound [] = refl
sound (a ∷ []) =
    by_rows (Sound (a ∷ [])) a 0 0 0 (decoded_1 a []) (λ h. absurd (omega arith)) (λ h. absurd (omega arith)) (λ h. absurd (omega arith)) tt
sound (a ∷ b ∷ []) =
    by_rows (Sound (a ∷ b ∷ [])) a b 0 0 (decoded_1 a _) (decoded_2 a b _) (λ h. absurd (omega arith)) (λ h. absurd (omega arith)) tt
sound (a ∷ b ∷ c ∷ []) =
    by_rows (Sound (a ∷ b ∷ c ∷ [])) a b c 0 (decoded_1 a _) (decoded_2 a b _) (decoded_3 a b c _) (λ h. absurd (omega arith)) tt
sound (a ∷ b ∷ c ∷ d ∷ bs) =
    by_rows (Sound (a ∷ b ∷ c ∷ d ∷ bs)) a b c d (decoded_1 a _) (decoded_2 a b _) (decoded_3 a b c _) (decoded_4 a b c d _) tt

pub char_at : (bs : List ℕ) (c n : ℕ) → char bs ≡ At c n → Decoded bs c n
char_at bs c n e = rw e at (sound bs)

-- ---- the other way: `char` finds each scalar value
pub char_1 : (a : ℕ) (bs : List ℕ) → a ≤ 0x7F → char (a ∷ bs) ≡ At a 1
unfolding char char_of
char_1 a bs h = simp (le-leb a 0x7F h)

char_2 : (a b : ℕ) (bs : List ℕ) → Two a b → char (a ∷ b ∷ bs) ≡ At (value2 a b) 2
unfolding char char_of
char_2 a b bs h =
    simp (lt-leb a 0x7F (omega arith), within_is 0x80 0xBF b h.b_low h.b_high, within_is 0xC2 0xDF a h.a_low h.a_high)

char_3 : (a b c : ℕ) (bs : List ℕ) → 0xDF < a → tail b ≡ true → tail c ≡ true → starts3 a b ≡ true → char (a ∷ b ∷ c ∷ bs) ≡ At (value3 a b c) 3
unfolding char char_of
char_3 a b c bs h tb tc e = simp (lt-leb a 0x7F (omega arith), tb, within_above 0xC2 0xDF a (omega arith) h, tc, e)

char_4 : (a b c d : ℕ) (bs : List ℕ) → 0xEF < a → tail b ≡ true → tail c ≡ true → tail d ≡ true → starts4 a b ≡ true
    → char (a ∷ b ∷ c ∷ d ∷ bs) ≡ At (value4 a b c d) 4
unfolding char char_of starts3
char_4 a b c d bs h tb tc td e =
    simp (
      lt-leb a 0x7F (omega arith),
      tb,
      within_above 0xC2 0xDF a (omega arith) (omega arith),
      tc,
      within_above 0xE0 0xE0 a (omega arith) (omega arith),
      within_above 0xE1 0xEC a (omega arith) (omega arith),
      within_above 0xED 0xED a (omega arith) (omega arith),
      within_above 0xEE 0xEF a (omega arith) (omega arith),
      td,
      e,
    )

-- two bytes in one of the rows
module _ (a b : ℕ) where
  abbrev r31 : Bool
  r31 = row 0xE0 0xE0 0xA0 0xBF a b

  abbrev r32 : Bool
  r32 = row 0xE1 0xEC 0x80 0xBF a b

  abbrev r33 : Bool
  r33 = row 0xED 0xED 0x80 0x9F a b

  abbrev r34 : Bool
  r34 = row 0xEE 0xEF 0x80 0xBF a b

  abbrev r41 : Bool
  r41 = row 0xF0 0xF0 0x90 0xBF a b

  abbrev r42 : Bool
  r42 = row 0xF1 0xF3 0x80 0xBF a b

  abbrev r43 : Bool
  r43 = row 0xF4 0xF4 0x80 0x8F a b

-- the first two bytes of c, by the row that c falls into
starts3_of : (c : ℕ) → 0x800 ≤ c → c < 0x10000 → IsScalar c → starts3 (0xE0 + c / 4096) (0x80 + c / 64 % 64) ≡ true
unfolding starts3
starts3_of c l h s =
    let a = 0xE0 + c / 4096 in
    let b = 0x80 + c / 64 % 64 in
    ⊎_elim
    (λ u. ⊎_elim
    (λ e.
    let k = ltb-true c 0x1000 e in
    rw (row_is 0xE0 0xE0 0xA0 0xBF a b (omega arith) (omega arith) (omega arith) (omega arith)))
    (λ e.
    let k = ltb-false c 0x1000 e in
    ⊎_elim
    (λ f.
    let m = ltb-true c 0xD000 f in
    rw (or_right (r31 a b) (r32 a b) (row_is 0xE1 0xEC 0x80 0xBF a b (omega arith) (omega arith) (omega arith) (omega arith))))
    (λ f.
    let m = ltb-false c 0xD000 f in
    rw (or_right (r31 a b || r32 a b) (r33 a b) (row_is 0xED 0xED 0x80 0x9F a b (omega arith) (omega arith) (omega arith) (omega arith))))
    (decide (ltb c 0xD000)))
    (decide (ltb c 0x1000)))
    (λ u. or_right (r31 a b || r32 a b || r33 a b) (r34 a b) (row_is 0xEE 0xEF 0x80 0xBF a b (omega arith) (omega arith) (omega arith) (omega arith)))
    s

starts4_of : (c : ℕ) → 0x10000 ≤ c → c ≤ 0x10FFFF → starts4 (0xF0 + c / 262144) (0x80 + c / 4096 % 64) ≡ true
unfolding starts4
starts4_of c l h =
    let a = 0xF0 + c / 262144 in
    let b = 0x80 + c / 4096 % 64 in
    ⊎_elim
    (λ e.
    let k = ltb-true c 0x40000 e in
    rw (row_is 0xF0 0xF0 0x90 0xBF a b (omega arith) (omega arith) (omega arith) (omega arith)))
    (λ e.
    let k = ltb-false c 0x40000 e in
    ⊎_elim
    (λ f.
    let m = ltb-true c 0x100000 f in
    rw (or_right (r41 a b) (r42 a b) (row_is 0xF1 0xF3 0x80 0xBF a b (omega arith) (omega arith) (omega arith) (omega arith))))
    (λ f.
    let m = ltb-false c 0x100000 f in
    or_right (r41 a b || r42 a b) (r43 a b) (row_is 0xF4 0xF4 0x80 0x8F a b (omega arith) (omega arith) (omega arith) (omega arith)))
    (decide (ltb c 0x100000)))
    (decide (ltb c 0x40000))

-- a number lies in one of the four ranges
pub ranges : {X : Type 0} (c : ℕ) → (c < 0x80 → X) → (0x80 ≤ c → c < 0x800 → X) → (0x800 ≤ c → c < 0x10000 → X) → (0x10000 ≤ c → X) → X
ranges c p1 p2 p3 p4 =
    ⊎_elim
    (λ e. p1 (ltb-true c 0x80 e))
    (λ e. ⊎_elim
    (λ f. p2 (ltb-false c 0x80 e) (ltb-true c 0x800 f))
    (λ f. ⊎_elim
    (λ g. p3 (ltb-false c 0x800 f) (ltb-true c 0x10000 g))
    (λ g. p4 (ltb-false c 0x10000 g))
    (decide (ltb c 0x10000)))
    (decide (ltb c 0x800)))
    (decide (ltb c 0x80))

pub top : (c : ℕ) → IsScalar c → c ≤ 0x10FFFF
top c s = ⊎_elim (λ h. omega arith) (λ h. h.1) s

tail_of : (x : ℕ) → tail (0x80 + x % 64) ≡ true
tail_of x = within_is 0x80 0xBF (0x80 + x % 64) (omega arith) (omega arith)

pub char_utf8 : (c : ℕ) (bs : List ℕ) → IsScalar c → char (utf8 c ++ bs) ≡ At c (length (utf8 c))
char_utf8 c bs s =
    ranges c
    (λ h. rw (utf8_1 c h) (char_1 c bs (omega arith)))
    (λ l h. rw (utf8_2 c l h)
    (char_2 (0xC0 + c / 64) (0x80 + c % 64) bs (omega arith) ∙ ap (λ (v : ℕ). At v 2) (omega arith)))
    (λ l h. rw (utf8_3 c l h)
    (char_3 (0xE0 + c / 4096) (0x80 + c / 64 % 64) (0x80 + c % 64) bs (omega arith) (tail_of (c / 64)) (tail_of c) (starts3_of c l h s)
    ∙ ap (λ (v : ℕ). At v 3) (omega arith)))
    (λ l.
    let k = top c s in
    let x : c / 64 ≡ c / 4096 * 64 + c / 64 % 64 = omega arith in
    let y : c / 4096 ≡ c / 262144 * 64 + c / 4096 % 64 = omega arith in
    rw (utf8_4 c l (omega arith))
    (char_4 (0xF0 + c / 262144) (0x80 + c / 4096 % 64) (0x80 + c / 64 % 64) (0x80 + c % 64) bs (omega arith) (tail_of (c / 4096)) (tail_of (c / 64))
    (tail_of c)
    (starts4_of c l k)
    ∙ ap (λ (v : ℕ). At v 4) (omega arith)))

-- ---- the character at an offset
pub char_past : (s : List ℕ) (i : ℕ) → length s ≤ i → char (drop i s) ≡ End
unfolding char
char_past s i h = rw (drop_of_length-le s h)

pub char_drop : (s : List ℕ) (i : ℕ) → i < length s
    → char (drop i s) ≡ char_of (get_or s i 0) (get_or s (i + 1) 0) (get_or s (i + 2) 0) (get_or s (i + 3) 0)
unfolding char
char_drop s i h =
    let e0 : suc i + 0 ≡ i + 1 = omega arith in
    let e1 : suc i + 1 ≡ i + 2 = omega arith in
    let e2 : suc i + 2 ≡ i + 3 = omega arith in
    rw (drop-cons s i 0 h) (simp (get_or-drop, e0, e1, e2))

pub char_ascii : (s : List ℕ) (i : ℕ) → i < length s → get_or s i 0 < 0x80 → char (drop i s) ≡ At (get_or s i 0) 1
char_ascii s i l h = rw (drop-cons s i 0 l) (char_1 (get_or s i 0) (drop (suc i) s) (omega arith))

pub char_four : (s : List ℕ) (i : ℕ) (f : Four) → i < length s → FourAt s i f → char (drop i s) ≡ char_of f.a f.b f.c f.d
char_four s i f l h = char_drop s i l ∙ rw (h.first, h.second, h.third, h.fourth)

-- Spaces that are not ASCII, by their first byte, and ASCII spaces.
-- Assumes nothing.
use Prim.Native.Nat.{ℕ, ◌+◌, ◌-◌, ◌≤◌, ◌<◌}
use mathlib.Core.Bool.{Bool, true, false, ◌&&◌, ◌||◌}
use mathlib.Core.List.{List}
use mathlib.Core.Logic.{◌⊎◌, inl, inr, ⊎_elim, ◌≢◌}
use mathlib.Core.Path.{◌≡◌, refl, sym, ap, ◌∙◌}
use borrow.Author.Tests.{ne_eqb, lt-leb, lt-ltb, ltb-true, ltb-false, eqb-true}
use native.Mathlib.Omega.{arith}
use lib.Dec.{ltb, eqb}
use lib.ListN.{length, get_or, drop}
use Rattle.std.specs.Prelude.{if◌then◌else◌}
use Rattle.text.specs.Chars.{within, is_space}
use Rattle.text.specs.Utf8.{tail, starts3, given, join, char_of, char, char_size, size_of, stray, chars}
use Rattle.text.specs.Trim.{trim_start, is_blank, wide_space, is_space_of, space_at}
use Rattle.text.specs.Run.{RunTo}
use Rattle.text.specs.Char.{Char, At, Bad, End}
use Rattle.text.proofs.Tests.{decide, on, false_true, and_true, and_false, or_elim, within_true, within_is, within_above}
use Rattle.text.proofs.Utf8.{Three, value2, value3, value4, by_rows, char_drop}
use Rattle.text.proofs.Laws.{advance, advance_ascii, advance_bad}
use Rattle.text.proofs.AsciiLaws.{chars_ascii}
use Rattle.text.proofs.RunLaws.{run_same}
use Rattle.text.proofs.TrimLaws.{space_top, space_near, space_ascii, start_space, start_other}

-- ---- no space
-- a character that is none has no bytes as one
none_at : (c n : ℕ) → is_space c ≡ false → wide_space (At c n) ≡ 0
none_at c n e = on (λ (x : ℕ). x ≡ 0) (ltb 1 n && is_space c) (λ q. false_true (sym e ∙ right (ltb 1 n) (is_space c) q)) (λ _. refl)
  where
    right : (a b : Bool) → a && b ≡ true → b ≡ true
    right true b q = q
    right false b q = false_true q

not_near : (c : ℕ) → 160 < c → c < 0x2000 → c ≢ 5760 → is_space c ≡ false
not_near c l h n = space_near c (omega arith) h ∙ rw (ne_eqb c 133 (omega arith), ne_eqb c 160 (omega arith), ne_eqb c 5760 n)

pub wide_none : (a b c d : ℕ) → a ≢ 0xC2 → (a < 0xE1) ⊎ (0xE3 < a) → wide_space (char_of a b c d) ≡ 0
wide_none a b c d n w =
    by_rows (λ (x : Char). wide_space x ≡ 0) a b c d
    (λ _. refl)
    (λ t. let l = t.a_low in let h = t.a_high in let bl = t.b_low in let bh = t.b_high in
    let m : a ≢ 0xC2 = n in
    none_at (value2 a b) 2 (not_near (value2 a b) (omega arith) (omega arith) (λ e. omega arith)))
    (λ t. none_at (value3 a b c) 3 (high t w))
    (λ t. none_at (value4 a b c d) 4 (space_top (value4 a b c d) (omega (arith, t.long))))
    refl
  where
    high : Three a b c → (a < 0xE1) ⊎ (0xE3 < a) → is_space (value3 a b c) ≡ false
    high t (inl h) = not_near (value3 a b c) (omega (arith, t.long)) (omega (arith, t.a_low, t.b_high, t.c_high, h)) (λ e. omega (arith, t.a_low, t.b_high, t.c_high, h, e))
    high t (inr h) = space_top (value3 a b c) (omega (arith, h, t.b_low, t.c_low))

-- ---- two bytes
pub wide_two : (b c d : ℕ) → wide_space (char_of 0xC2 b c d) ≡ (if eqb b 0x85 || eqb b 0xA0 then 2 else 0)
unfolding char_of
wide_two b c d =
    on (λ (x : Char). wide_space x ≡ (if eqb b 0x85 || eqb b 0xA0 then 2 else 0)) (tail b)
    (λ t.
    let p = within_true 0x80 0xBF b t in
    let j : join 2 b ≡ b = omega (arith, p) in
    rw (j, space_near b p.0 (omega (arith, p)), ne_eqb b 5760 (omega (arith, p))) (two_by (eqb b 0x85) (eqb b 0xA0)))
    (λ t. rw (out 0x85 (omega arith) (omega arith) t, out 0xA0 (omega arith) (omega arith) t))
  where
    two_by : (x y : Bool) → ◌≡◌ {A = ℕ} (if x || y || false then 2 else 0) (if x || y then 2 else 0)
    two_by true y = refl
    two_by false true = refl
    two_by false false = refl

    out : (x : ℕ) → 0x80 ≤ x → x ≤ 0xBF → tail b ≡ false → eqb b x ≡ false
    out x l h t = ne_eqb b x (λ e. false_true (sym t ∙ within_is 0x80 0xBF b (omega arith) (omega arith)))

-- ---- three bytes
three_by : (tb tc s : Bool) (y : ℕ) (z : Char) → (tb ≡ true → s ≡ true)
    → wide_space (given tb (given tc (if s then At y 3 else z))) ≡ (if tb && tc then if is_space y then 3 else 0 else 0)
three_by true true true y z h = refl
three_by true true false y z h = false_true (h refl)
three_by true false s y z h = refl
three_by false tc s y z h = refl

start : (a b : ℕ) → 0xE1 ≤ a → a ≤ 0xE3 → tail b ≡ true → starts3 a b ≡ true
unfolding starts3
start a b l h t = simp (within_above 0xE0 0xE0 a (omega arith) (omega arith), within_is 0xE1 0xEC a l (omega arith), t)

pub wide_three : (a b c d : ℕ) → 0xE1 ≤ a → a ≤ 0xE3
    → wide_space (char_of a b c d) ≡ (if tail b && tail c then if is_space (join (join (a - 0xE0) b) c) then 3 else 0 else 0)
unfolding char_of
wide_three a b c d l h =
    rw (lt-leb a 0x7F (omega arith), within_above 0xC2 0xDF a (omega arith) (omega arith))
    (three_by (tail b) (tail c) (starts3 a b) (join (join (a - 0xE0) b) c) _ (start a b l h))

-- ---- at an offset
module _ (s : List ℕ) (i : ℕ) (h : i < length s) where
  pub wide_none_at : get_or s i 0 ≢ 0xC2 → (get_or s i 0 < 0xE1) ⊎ (0xE3 < get_or s i 0) → wide_space (char (drop i s)) ≡ 0
  wide_none_at n w = ap wide_space (char_drop s i h) ∙ wide_none _ _ _ _ n w

  pub wide_two_at : get_or s i 0 ≡ 0xC2 → wide_space (char (drop i s)) ≡ (if eqb (get_or s (i + 1) 0) 0x85 || eqb (get_or s (i + 1) 0) 0xA0 then 2 else 0)
  wide_two_at e = ap wide_space (char_drop s i h) ∙ rw e (wide_two _ _ _)

  pub wide_three_at : 0xE1 ≤ get_or s i 0 → get_or s i 0 ≤ 0xE3
      → wide_space (char (drop i s))
      ≡ (if tail (get_or s (i + 1) 0) && tail (get_or s (i + 2) 0) then if is_space (join (join (get_or s i 0 - 0xE0) (get_or s (i + 1) 0)) (get_or s (i + 2) 0)) then 3 else 0 else 0)
  wide_three_at l m = ap wide_space (char_drop s i h) ∙ wide_three _ _ _ _ l m

  -- a byte that is not ASCII is no space of one byte
  pub not_one : 0x80 ≤ get_or s i 0 → space_at (drop i s) 1 ≡ false
  unfolding space_at
  not_one g =
      ap (λ (x : Char). is_space_of x 1) (char_drop s i h)
      ∙ by_rows (λ (x : Char). is_space_of x 1 ≡ false) _ _ _ _
      (λ l. absurd (omega arith))
      (λ t. and_false (is_space _) (eqb 2 1) refl)
      (λ t. and_false (is_space _) (eqb 3 1) refl)
      (λ t. and_false (is_space _) (eqb 4 1) refl)
      refl

-- a space of more bytes than one is no ASCII character
pub wide_is : (x : Char) (k : ℕ) → 1 < k → is_space_of x k ≡ eqb (wide_space x) k
wide_is (At c n) k h = by (decide (is_space c)) (decide (ltb 1 n))
  where
    none : eqb 0 k ≡ false
    none = ne_eqb 0 k (omega arith)

    by : (is_space c ≡ true) ⊎ (is_space c ≡ false) → (ltb 1 n ≡ true) ⊎ (ltb 1 n ≡ false) → is_space c && eqb n k ≡ eqb (if ltb 1 n && is_space c then n else 0) k
    by (inl e) (inl f) = rw (e, f)
    by (inl e) (inr f) = rw (e, f) (ne_eqb n k (omega (arith, ltb-false 1 n f)) ∙ sym none)
    by (inr e) (inl f) = rw (e, f) (sym none)
    by (inr e) (inr f) = rw (e, f) (sym none)
wide_is Bad k h = sym (ne_eqb 0 k (omega arith))
wide_is End k h = sym (ne_eqb 0 k (omega arith))

-- ---- ASCII spaces
pub blank_yes : (b : ℕ) → is_blank b ≡ true → (b < 0x80) × (is_space b ≡ true)
blank_yes b e =
    let l : b < 0x80 = or_elim (within 9 13 b) (eqb b 32) (λ p. omega (arith, within_true 9 13 b p)) (λ p. omega (arith, eqb-true b 32 p)) e in
    (l, space_ascii b l ∙ e)

pub blank_no : (b : ℕ) → b < 0x80 → is_blank b ≡ false → is_space b ≡ false
blank_no b l e = space_ascii b l ∙ e

-- ---- trimming the start
-- a run of ASCII spaces goes
pub blanks_gone : (s : List ℕ) (i j : ℕ) → RunTo is_blank s i j → trim_start (chars (drop i s)) ≡ trim_start (chars (drop j s))
blanks_gone = run_same is_blank (λ (s : List ℕ). trim_start (chars s)) (λ x s h. let y = blank_yes x h in ap trim_start (chars_ascii x s y.0) ∙ start_space x (chars s) y.1)

-- a byte that is not ASCII starts a character of more bytes, or none
more : (a b c d : ℕ) → 0x80 ≤ a → (char_size (char_of a b c d) ≡ 0) ⊎ (1 < char_size (char_of a b c d))
more a b c d h =
    by_rows (λ (x : Char). (char_size x ≡ 0) ⊎ (1 < char_size x)) a b c d
    (λ l. absurd (omega arith))
    (λ _. inr (omega arith))
    (λ _. inr (omega arith))
    (λ _. inr (omega arith))
    (inl refl)

there : (a b c d : ℕ) → 1 ≤ size_of (char_of a b c d)
there a b c d =
    by_rows (λ (x : Char). 1 ≤ size_of x) a b c d (λ _. omega arith) (λ _. omega arith) (λ _. omega arith) (λ _. omega arith) (omega arith)

not_zero : (t : Bool) (n : ℕ) → 1 ≤ n → (if t then n else 0) ≡ 0 → t ≡ false
not_zero true n l e = absurd (omega arith)
not_zero false n l e = refl

module _ (s : List ℕ) (i : ℕ) (h : i < length s) where
  abbrev Gone : ℕ → Type 0
  Gone k = (i + k ≤ length s) × (trim_start (chars (drop i s)) ≡ trim_start (chars (drop (i + k) s)))

  -- a space of more bytes goes
  gone_at : (c n k : ℕ) → char (drop i s) ≡ At c n → 1 ≤ k → (t : Bool) → ltb 1 n && is_space c ≡ t → k ≡ (if t then n else 0) → Gone k
  gone_at c n k q l true e f =
      let st = advance s i c n q in
      rw f (st.bound, ap trim_start st.rest ∙ start_space c _ (and_true (ltb 1 n) (is_space c) e).1)
  gone_at c n k q l false e f = absurd (omega arith)

  gone_by : (x : Char) (k : ℕ) → char (drop i s) ≡ x → 1 ≤ k → k ≡ wide_space x → Gone k
  gone_by (At c n) k q l e = gone_at c n k q l (ltb 1 n && is_space c) refl e
  gone_by Bad k q l e = absurd (omega arith)
  gone_by End k q l e = absurd (omega arith)

  pub wide_gone : (k : ℕ) → k ≡ wide_space (char (drop i s)) → 1 ≤ k → Gone k
  wide_gone k e l = gone_by (char (drop i s)) k refl l e

  -- where none stands, and no ASCII space, nothing goes
  abbrev Stays : Type 0
  Stays = trim_start (chars (drop i s)) ≡ chars (drop i s)

  stays_by : (x : Char) → char (drop i s) ≡ x → wide_space x ≡ 0 → (char_size x ≡ 0) ⊎ (1 < char_size x) → 1 ≤ size_of x → Stays
  stays_by (At c n) q z (inl m) g = absurd (omega arith)
  stays_by (At c n) q z (inr m) g =
      let st = advance s i c n q in
      rw st.rest (start_other c _ (not_zero (is_space c) n g (rw (lt-ltb 1 n m) at z)))
  stays_by Bad q z m g = let p = advance_bad s i q in rw p.1 (start_other _ _ (space_top (stray (get_or s i 0)) (omega arith)))
  stays_by End q z m g = absurd (omega arith)

  stays_low : is_blank (get_or s i 0) ≡ false → get_or s i 0 < 0x80 → Stays
  stays_low b l = rw (advance_ascii s i h l) (start_other _ _ (blank_no _ l b))

  pub none_gone : is_blank (get_or s i 0) ≡ false → wide_space (char (drop i s)) ≡ 0 → Stays
  none_gone b w =
      ⊎_elim (λ e. stays_low b (ltb-true (get_or s i 0) 0x80 e))
      (λ e. stays_by (char (drop i s)) refl w (rw (char_drop s i h) (more _ _ _ _ (ltb-false (get_or s i 0) 0x80 e))) (rw (char_drop s i h) (there _ _ _ _)))
      (decide (ltb (get_or s i 0) 0x80))

-- Bytes that fit beside each other, from a place where no tail is due to another such place, are whole characters.
-- Assumes nothing.
use Prim.Native.Nat.{ℕ, zero, suc, ◌+◌, ◌-◌, ◌*◌, ◌≤◌, ◌<◌}
use native.Mathlib.Omega.{arith}
use mathlib.Core.Bool.{Bool, true, false, not, ◌&&◌, ◌||◌}
use mathlib.Core.List.{List}
use mathlib.Core.Logic.{◌⊎◌, inl, inr, ⊎_elim}
use mathlib.Core.Path.{◌≡◌, refl, sym, ap, ◌∙◌}
use borrow.Author.Tests.{not-false, eq-eqb, ltb-true, ltb-false, leb-false, le-leb, lt-leb}
use lib.Dec.{eqb, ltb, leb}
use lib.ListN.{length, get_or, drop}
use Rattle.text.specs.Words.{all}
use Rattle.text.specs.Chars.{within, is_scalar}
use Rattle.text.specs.Utf8.{tail, starts3, starts4, char_of, char, char_size, chars, is_utf8}
use Rattle.text.specs.Beside.{due, in_place, used, second, fits, fits_at, AllFit, clear}
use Rattle.text.proofs.Tests.{decide, false_true, and_true, or_left, or_right, within_true, within_is, within_below, within_above}
use Rattle.text.proofs.Utf8.{two_bytes, three_bytes, four_bytes, char_drop, char_ascii}
use Rattle.text.proofs.StartLaws.{start3_is, start4_is}
use Rattle.text.proofs.Laws.{some_char, scalar_is}

-- ---- the tests, as facts
never : (t u : Bool) → not (t && u) ≡ true → t ≡ true → u ≡ false
never true true e h = false_true e
never true false e h = refl
never false u e h = false_true h

-- what the byte b at a place has beside x, y and a
record Fit (x y a b : ℕ) : Type 0 where
  pub due_tail : due x y a ≡ true → tail b ≡ true
  pub none_due : due x y a ≡ false → tail b ≡ false
  pub is_used : used b ≡ true
  pub behind : second a b ≡ true

fit_is : (x y a b : ℕ) → fits x y a b ≡ true → Fit x y a b
unfolding fits
fit_is x y a b e =
    let p = and_true (in_place x y a b && used b) (second a b) e in
    let q = and_true (in_place x y a b) (used b) p.0 in
    let r = and_true (not (tail b && not (due x y a))) (not (due x y a && not (tail b))) q.0 in
    record {
      due_tail = λ h. not-false (tail b) (never (due x y a) (not (tail b)) r.1 h);
      none_due = λ h. ⊎_elim (λ t. false_true (sym h ∙ not-false (due x y a) (never (tail b) (not (due x y a)) r.0 t))) (λ t. t) (decide (tail b));
      is_used = q.1;
      behind = p.1;
    }

-- a byte that is used and no tail is ASCII or starts a character
lead : (b : ℕ) → used b ≡ true → tail b ≡ false → (b < 0x80) ⊎ ((0xC2 ≤ b) × (b < 0xF5))
lead b u t =
    let p = and_true (not (eqb b 0xC0) && not (eqb b 0xC1)) (ltb b 0xF5) u in
    let q = and_true (not (eqb b 0xC0)) (not (eqb b 0xC1)) p.0 in
    let differs : (n : ℕ) → not (eqb b n) ≡ true → b ≡ n → ⊥ = λ n e z. let w = sym (ap not (eq-eqb b n z)) ∙ e in false_true w in
    ⊎_elim (λ l. inl (ltb-true b 0x80 l))
    (λ l.
    let lo = ltb-false b 0x80 l in
    ⊎_elim (λ m. false_true (sym t ∙ within_is 0x80 0xBF b lo (let z = ltb-true b 0xC0 m in omega arith)))
    (λ m. let z = ltb-false b 0xC0 m in let x = differs 0xC0 q.0 in let y = differs 0xC1 q.1 in inr (omega arith, ltb-true b 0xF5 p.1))
    (decide (ltb b 0xC0)))
    (decide (ltb b 0x80))

-- ---- the second byte
record Second (a b : ℕ) : Type 0 where
  pub overlong_3 : a ≡ 0xE0 → 0xA0 ≤ b
  pub surrogate : a ≡ 0xED → b < 0xA0
  pub overlong_4 : a ≡ 0xF0 → 0x90 ≤ b
  pub above : a ≡ 0xF4 → b < 0x90

second_is : (a b : ℕ) → second a b ≡ true → Second a b
second_is a b e =
    let p = and_true _ (not (eqb a 0xF4 && leb 0x90 b)) e in
    let q = and_true _ (not (eqb a 0xF0 && ltb b 0x90)) p.0 in
    let r = and_true (not (eqb a 0xE0 && ltb b 0xA0)) (not (eqb a 0xED && leb 0xA0 b)) q.0 in
    record {
      overlong_3 = λ z. ltb-false b 0xA0 (never (eqb a 0xE0) (ltb b 0xA0) r.0 (eq-eqb a 0xE0 z));
      surrogate = λ z. leb-false 0xA0 b (never (eqb a 0xED) (leb 0xA0 b) r.1 (eq-eqb a 0xED z));
      overlong_4 = λ z. ltb-false b 0x90 (never (eqb a 0xF0) (ltb b 0x90) q.1 (eq-eqb a 0xF0 z));
      above = λ z. leb-false 0x90 b (never (eqb a 0xF4) (leb 0x90 b) p.1 (eq-eqb a 0xF4 z));
    }

-- a below n, n or above it
split : (a n : ℕ) → (a < n) ⊎ ((a ≡ n) ⊎ (n < a))
split a n =
    ⊎_elim (λ e. inl (ltb-true a n e))
    (λ e. inr (⊎_elim (λ f. inr (ltb-true n a f)) (λ f. inl (let x = ltb-false a n e in let y = ltb-false n a f in omega arith)) (decide (ltb n a))))
    (decide (ltb a n))

module _ (a b : ℕ) (t : tail b ≡ true) (e : second a b ≡ true) where
  s : Second a b
  s = second_is a b e

  bounds : (0x80 ≤ b) × (b ≤ 0xBF)
  bounds = within_true 0x80 0xBF b t

  second_3 : 0xE0 ≤ a → a < 0xF0 → starts3 a b ≡ true
  second_3 l h =
      let lo = bounds.0 in
      let hi = bounds.1 in
      let low : 0x38A0 ≤ a * 64 + b = by_low (split a 0xE0) in
      sym (start3_is a b t l h) ∙ rw (le-leb 0x38A0 (a * 64 + b) low, not_in (split a 0xED))
    where
      by_low : (a < 0xE0) ⊎ ((a ≡ 0xE0) ⊎ (0xE0 < a)) → 0x38A0 ≤ a * 64 + b
      by_low (inl z) = absurd (omega arith)
      by_low (inr (inl z)) = let y = s.overlong_3 z in omega arith
      by_low (inr (inr z)) = let lo = bounds.0 in omega arith

      not_in : (a < 0xED) ⊎ ((a ≡ 0xED) ⊎ (0xED < a)) → within 0x3BE0 0x3BFF (a * 64 + b) ≡ false
      not_in (inl z) = let hi = bounds.1 in within_below 0x3BE0 0x3BFF (a * 64 + b) (omega arith)
      not_in (inr (inl z)) = let y = s.surrogate z in within_below 0x3BE0 0x3BFF (a * 64 + b) (omega arith)
      not_in (inr (inr z)) = let lo = bounds.0 in within_above 0x3BE0 0x3BFF (a * 64 + b) (omega arith) (omega arith)

  second_4 : 0xF0 ≤ a → a < 0xF5 → starts4 a b ≡ true
  second_4 l h = sym (start4_is a b t l) ∙ within_is 0x3C90 0x3D8F (a * 64 + b) (by_low (split a 0xF0)) (by_high (split a 0xF4))
    where
      by_low : (a < 0xF0) ⊎ ((a ≡ 0xF0) ⊎ (0xF0 < a)) → 0x3C90 ≤ a * 64 + b
      by_low (inl z) = absurd (omega arith)
      by_low (inr (inl z)) = let y = s.overlong_4 z in omega arith
      by_low (inr (inr z)) = let lo = bounds.0 in omega arith

      by_high : (a < 0xF4) ⊎ ((a ≡ 0xF4) ⊎ (0xF4 < a)) → a * 64 + b ≤ 0x3D8F
      by_high (inl z) = let hi = bounds.1 in omega arith
      by_high (inr (inl z)) = let y = s.above z in omega arith
      by_high (inr (inr z)) = absurd (omega arith)

-- ---- the size of the character that starts with a byte above ASCII, from what stands behind it
module _ (a b c d : ℕ) where
  two_here : 0xC2 ≤ a → a < 0xE0 → tail b ≡ true → 2 ≡ char_size (char_of a b c d)
  two_here l h t = rw (within_is 0xC2 0xDF a l (omega arith), t) at (two_bytes a b c d (omega arith) h)

  three_here : 0xE0 ≤ a → a < 0xF0 → tail b ≡ true → tail c ≡ true → second a b ≡ true → 3 ≡ char_size (char_of a b c d)
  three_here l h t u e = rw (t, u, second_3 a b t e l h) at (three_bytes a b c d (omega arith) l h)

  four_here : 0xF0 ≤ a → a < 0xF5 → tail b ≡ true → tail c ≡ true → tail d ≡ true → second a b ≡ true → 4 ≡ char_size (char_of a b c d)
  four_here l h t u v e = rw (t, u, v, second_4 a b t e l h) at (four_bytes a b c d (omega arith) l)

-- ---- where a tail is due
module _ (x y a : ℕ) where
  due_1 : 0xC2 ≤ a → due x y a ≡ true
  due_1 l = or_left (leb 0xC2 a || leb 0xE0 y) (leb 0xF0 x) (or_left (leb 0xC2 a) (leb 0xE0 y) (le-leb 0xC2 a l))

  due_2 : 0xE0 ≤ y → due x y a ≡ true
  due_2 l = or_left (leb 0xC2 a || leb 0xE0 y) (leb 0xF0 x) (or_right (leb 0xC2 a) (leb 0xE0 y) (le-leb 0xE0 y l))

  due_3 : 0xF0 ≤ x → due x y a ≡ true
  due_3 l = or_right (leb 0xC2 a || leb 0xE0 y) (leb 0xF0 x) (le-leb 0xF0 x l)

  not_due : a < 0xC2 → y < 0xE0 → x < 0xF0 → due x y a ≡ false
  not_due l m n = rw (lt-leb 0xC2 a l, lt-leb 0xE0 y m, lt-leb 0xF0 x n)

pub record Clear (s : List ℕ) (j : ℕ) : Type 0 where
  pub one : get_or s (j - 1) 0 < 0xC2
  pub two : get_or s (j - 2) 0 < 0xE0
  pub three : get_or s (j - 3) 0 < 0xF0

pub clear_is : (s : List ℕ) (j : ℕ) → clear s j ≡ true → Clear s j
clear_is s j e =
    let p = and_true (ltb (get_or s (j - 1) 0) 0xC2 && ltb (get_or s (j - 2) 0) 0xE0) (ltb (get_or s (j - 3) 0) 0xF0) e in
    let q = and_true (ltb (get_or s (j - 1) 0) 0xC2) (ltb (get_or s (j - 2) 0) 0xE0) p.0 in
    record { one = ltb-true (get_or s (j - 1) 0) 0xC2 q.0; two = ltb-true (get_or s (j - 2) 0) 0xE0 q.1; three = ltb-true (get_or s (j - 3) 0) 0xF0 p.1 }

-- the byte at m, by the places of the three before it
beside : (s : List ℕ) (m w x y : ℕ) → fits_at s m ≡ true → m - 3 ≡ w → m - 2 ≡ x → m - 1 ≡ y → Fit (get_or s w 0) (get_or s x 0) (get_or s y 0) (get_or s m 0)
beside s m w x y e p q r = rw (← p, ← q, ← r) (fit_is _ _ _ _ e)

module _ (s : List ℕ) (j : ℕ) (lj : j ≤ length s) (cj : Clear s j) where
  abbrev Same : ℕ → Type 0
  Same p = all is_scalar (chars (drop p s)) ≡ all is_scalar (chars (drop j s))

  hop : (p k : ℕ) → k ≡ char_size (char (drop p s)) → 1 ≤ k → Same (p + k) → Same p
  hop p k e l r = let h = (some_char s p k e (λ z. omega arith)).1 in rw (h.rest, scalar_is _ h.scalar) r

  -- what has been walked over leaves the same way to go
  record Way (n p : ℕ) : Type 0 where
    pub left : j - p ≤ n
    pub far : 3 ≤ p
    pub within_j : p ≤ j
    pub free : Clear s p
    pub fit : AllFit s p j

  on_way : (n p k : ℕ) → Way (suc n) p → 1 ≤ k → p + k ≤ j → Clear s (p + k) → Way n (p + k)
  on_way n p k w l h c =
      let d = w.left in
      record { left = omega arith; far = omega (arith, w.far); within_j = h; free = c; fit = λ m a b. w.fit m (omega arith) b }

  module _ (n p : ℕ) (w : Way (suc n) p) (h : p < j) (go_on : (q : ℕ) → Way n q → Same q) where
    abbrev size_here : ℕ → Type 0
    size_here k = k ≡ char_size (char_of (get_or s p 0) (get_or s (p + 1) 0) (get_or s (p + 2) 0) (get_or s (p + 3) 0))

    over : (k : ℕ) → size_here k → 1 ≤ k → p + k ≤ j → Clear s (p + k) → Same p
    over k e l b c = hop p k (e ∙ sym (ap char_size (char_drop s p (omega arith)))) l (go_on (p + k) (on_way n p k w l b c))

    at_1 : p + 1 < j → Fit (get_or s (p - 2) 0) (get_or s (p - 1) 0) (get_or s p 0) (get_or s (p + 1) 0)
    at_1 b = let f = w.far in beside s (p + 1) (p - 2) (p - 1) p (w.fit (p + 1) (omega arith) b) (omega arith) (omega arith) (omega arith)

    at_2 : p + 2 < j → Fit (get_or s (p - 1) 0) (get_or s p 0) (get_or s (p + 1) 0) (get_or s (p + 2) 0)
    at_2 b = let f = w.far in beside s (p + 2) (p - 1) p (p + 1) (w.fit (p + 2) (omega arith) b) (omega arith) (omega arith) (omega arith)

    at_3 : p + 3 < j → Fit (get_or s p 0) (get_or s (p + 1) 0) (get_or s (p + 2) 0) (get_or s (p + 3) 0)
    at_3 b = let f = w.far in beside s (p + 3) p (p + 1) (p + 2) (w.fit (p + 3) (omega arith) b) (omega arith) (omega arith) (omega arith)

    -- the place j is not inside the character
    room_1 : 0xC2 ≤ get_or s p 0 → p + 1 < j
    room_1 l =
        ⊎_elim (λ e. ltb-true (p + 1) j e)
        (λ e. let q : j - 1 ≡ p = (let z = ltb-false (p + 1) j e in omega arith) in let c = rw q at cj.one in absurd (omega arith))
        (decide (ltb (p + 1) j))

    room_2 : 0xE0 ≤ get_or s p 0 → p + 2 < j
    room_2 l =
        let r = room_1 (omega arith) in
        ⊎_elim (λ e. ltb-true (p + 2) j e)
        (λ e. let q : j - 2 ≡ p = (let z = ltb-false (p + 2) j e in omega arith) in let c = rw q at cj.two in absurd (omega arith))
        (decide (ltb (p + 2) j))

    room_3 : 0xF0 ≤ get_or s p 0 → p + 3 < j
    room_3 l =
        let r = room_2 (omega arith) in
        ⊎_elim (λ e. ltb-true (p + 3) j e)
        (λ e. let q : j - 3 ≡ p = (let z = ltb-false (p + 3) j e in omega arith) in let c = rw q at cj.three in absurd (omega arith))
        (decide (ltb (p + 3) j))

    tail_1 : (l : 0xC2 ≤ get_or s p 0) → tail (get_or s (p + 1) 0) ≡ true
    tail_1 l = (at_1 (room_1 l)).due_tail (due_1 (get_or s (p - 2) 0) (get_or s (p - 1) 0) (get_or s p 0) l)

    tail_2 : (l : 0xE0 ≤ get_or s p 0) → tail (get_or s (p + 2) 0) ≡ true
    tail_2 l = (at_2 (room_2 l)).due_tail (due_2 (get_or s (p - 1) 0) (get_or s p 0) (get_or s (p + 1) 0) l)

    tail_3 : (l : 0xF0 ≤ get_or s p 0) → tail (get_or s (p + 3) 0) ≡ true
    tail_3 l = (at_3 (room_3 l)).due_tail (due_3 (get_or s p 0) (get_or s (p + 1) 0) (get_or s (p + 2) 0) l)

    low : (m : ℕ) → tail (get_or s m 0) ≡ true → get_or s m 0 < 0xC0
    low m t = let b = (within_true 0x80 0xBF (get_or s m 0) t).1 in omega arith

    -- no tail is due behind a character of k bytes
    behind_it : (k : ℕ) → get_or s (p + k - 1) 0 < 0xC2 → get_or s (p + k - 2) 0 < 0xE0 → get_or s (p + k - 3) 0 < 0xF0 → Clear s (p + k)
    behind_it k a b c = record { one = a; two = b; three = c }

    ascii_step : get_or s p 0 < 0x80 → Same p
    ascii_step l =
        let f = w.far in
        let c = w.free in
        let u : p + 1 - 1 ≡ p = omega arith in
        let v : p + 1 - 2 ≡ p - 1 = omega arith in
        let x : p + 1 - 3 ≡ p - 2 = omega arith in
        hop p 1 (sym (ap char_size (char_ascii s p (omega arith) l))) (omega arith)
        (go_on (p + 1) (on_way n p 1 w (omega arith) (omega arith) (behind_it 1 (rw u (omega arith)) (rw v (omega (arith, c.one))) (rw x (omega (arith, c.two))))))

    two_step : 0xC2 ≤ get_or s p 0 → get_or s p 0 < 0xE0 → Same p
    two_step l m =
        let f = w.far in
        let c = w.free in
        let r = room_1 l in
        let t = tail_1 l in
        let u : p + 2 - 1 ≡ p + 1 = omega arith in
        let v : p + 2 - 2 ≡ p = omega arith in
        let x : p + 2 - 3 ≡ p - 1 = omega arith in
        over 2 (two_here (get_or s p 0) (get_or s (p + 1) 0) (get_or s (p + 2) 0) (get_or s (p + 3) 0) l m t) (omega arith) (omega arith)
        (behind_it 2 (rw u (omega (arith, low (p + 1) t))) (rw v m) (rw x (omega (arith, c.one))))

    three_step : 0xE0 ≤ get_or s p 0 → get_or s p 0 < 0xF0 → Same p
    three_step l m =
        let r = room_2 l in
        let k : 0xC2 ≤ get_or s p 0 = omega arith in
        let t = tail_1 k in
        let t' = tail_2 l in
        let u : p + 3 - 1 ≡ p + 2 = omega arith in
        let v : p + 3 - 2 ≡ p + 1 = omega arith in
        let x : p + 3 - 3 ≡ p = omega arith in
        over 3 (three_here (get_or s p 0) (get_or s (p + 1) 0) (get_or s (p + 2) 0) (get_or s (p + 3) 0) l m t t' (at_1 (room_1 k)).behind) (omega arith)
        (omega arith) (behind_it 3 (rw u (omega (arith, low (p + 2) t'))) (rw v (omega (arith, low (p + 1) t))) (rw x m))

    four_step : 0xF0 ≤ get_or s p 0 → get_or s p 0 < 0xF5 → Same p
    four_step l m =
        let r = room_3 l in
        let k : 0xC2 ≤ get_or s p 0 = omega arith in
        let k' : 0xE0 ≤ get_or s p 0 = omega arith in
        let t = tail_1 k in
        let t' = tail_2 k' in
        let t'' = tail_3 l in
        let u : p + 4 - 1 ≡ p + 3 = omega arith in
        let v : p + 4 - 2 ≡ p + 2 = omega arith in
        let x : p + 4 - 3 ≡ p + 1 = omega arith in
        over 4 (four_here (get_or s p 0) (get_or s (p + 1) 0) (get_or s (p + 2) 0) (get_or s (p + 3) 0) l m t t' t'' (at_1 (room_1 k)).behind) (omega arith)
        (omega arith) (behind_it 4 (rw u (omega (arith, low (p + 3) t''))) (rw v (omega (arith, low (p + 2) t'))) (rw x (omega (arith, low (p + 1) t))))

    step : Same p
    step =
        let c = w.free in
        let f = fit_is (get_or s (p - 3) 0) (get_or s (p - 2) 0) (get_or s (p - 1) 0) (get_or s p 0) (w.fit p (omega arith) h) in
        ⊎_elim ascii_step
        (λ z.
        ⊎_elim (λ e. two_step z.0 (ltb-true (get_or s p 0) 0xE0 e))
        (λ e.
        ⊎_elim (λ g. three_step (ltb-false (get_or s p 0) 0xE0 e) (ltb-true (get_or s p 0) 0xF0 g))
        (λ g. four_step (ltb-false (get_or s p 0) 0xF0 g) z.1)
        (decide (ltb (get_or s p 0) 0xF0)))
        (decide (ltb (get_or s p 0) 0xE0)))
        (lead (get_or s p 0) f.is_used (f.none_due (not_due (get_or s (p - 3) 0) (get_or s (p - 2) 0) (get_or s (p - 1) 0) c.one c.two c.three)))

  walk : (n p : ℕ) → Way n p → Same p
  walk zero p w = let d = w.left in let b = w.within_j in let q : p ≡ j = omega arith in rw q
  walk (suc n) p w =
      ⊎_elim (λ e. step n p w (ltb-true p j e) (walk n))
      (λ e. let b = w.within_j in let q : p ≡ j = (let z = ltb-false p j e in omega arith) in rw q)
      (decide (ltb p j))

pub fit_same : (s : List ℕ) (i j : ℕ) → 3 ≤ i → i ≤ j → j ≤ length s → clear s i ≡ true → clear s j ≡ true → AllFit s i j → is_utf8 (drop i s) ≡ is_utf8 (drop j s)
unfolding is_utf8
fit_same s i j f h l c d g = walk s j l (clear_is s j d) (j - i) i (record { left = omega arith; far = f; within_j = h; free = clear_is s i c; fit = g })

-- ---- the loop over a block
pub fit_more : (s : List ℕ) (i k : ℕ) → AllFit s i k → fits_at s k ≡ true → AllFit s i (k + 1)
fit_more s i k f e m l h =
    ⊎_elim (λ z. f m l (ltb-true m k z))
    (λ z. let q : m ≡ k = (let y = ltb-false m k z in omega arith) in rw q e)
    (decide (ltb m k))

-- Where a comment ends, in bytes as in characters.
-- Assumes nothing.
use Prim.Native.Nat.{ℕ, suc, ◌+◌, ◌≤◌, ◌<◌}
use native.Mathlib.Omega.{arith}
use mathlib.Core.Path.{◌≡◌, refl, sym, ap, ◌∙◌}
use mathlib.Core.Bool.{Bool, true, false, cond}
use mathlib.Core.Logic.{⊎_elim}
use mathlib.Core.Option.{Option, some, none}
use mathlib.Core.List.{List, [], ◌∷◌, ◌++◌}
use lib.Dec.{ltb}
use lib.ListN.{length, drop, length-drop}
use lib.Seq.{drop-drop, drop-length}
use borrow.Author.Tests.{ne_eqb, ltb-true, ltb-false}
use Rattle.std.specs.Prelude.{if◌then◌else◌}
use Rattle.text.specs.Words.{◌>>=◌, case, starts, index, find}
use Rattle.text.specs.Utf8.{utf8, chars, stray}
use Rattle.text.proofs.Tests.{decide, starts_room}
use Rattle.text.proofs.Utf8.{utf8_1}
use Rattle.text.proofs.Laws.{by_chars, chars_nil, chars_utf8, chars_bad, Tails, Long, utf8_long, lost_high}
use Rattle.text.proofs.AsciiLaws.{chars_ascii, starts_chars, drop_chars}
use Rattle.text.specs.Find.{found, closed, comment_end}
use Rattle.std.specs.Prelude.{Some, None}

-- ---- an ASCII text that stands at the start is as long in bytes as in characters
abbrev arrow : List ℕ
arrow = 45 ∷ 45 ∷ 62 ∷ []

-- ---- `closed`, step by step
closed_cons : (x : ℕ) (s : List ℕ) → closed (x ∷ s) ≡ cond (starts "-->" (x ∷ s)) (drop 3 (x ∷ s)) (closed s)
unfolding closed
closed_cons x s = refl

closed_nil : closed [] ≡ []
unfolding closed
closed_nil = refl

closed_not : (x : ℕ) (s : List ℕ) → (x ≡ 45 → ⊥) → closed (x ∷ s) ≡ closed s
unfolding closed
closed_not x s h = rw (ne_eqb x 45 h)

closed_yes : (x : ℕ) (s : List ℕ) → starts "-->" (x ∷ s) ≡ true → closed (x ∷ s) ≡ drop 3 (x ∷ s)
closed_yes x s t = closed_cons x s ∙ ap (λ (b : Bool). cond b (drop 3 (x ∷ s)) (closed s)) t

closed_no : (x : ℕ) (s : List ℕ) → starts "-->" (x ∷ s) ≡ false → closed (x ∷ s) ≡ closed s
closed_no x s t = closed_cons x s ∙ ap (λ (b : Bool). cond b (drop 3 (x ∷ s)) (closed s)) t

closed_tails : (ys zs : List ℕ) → Tails ys → closed (ys ++ zs) ≡ closed zs
closed_tails [] zs h = refl
closed_tails (y ∷ ys) zs h = closed_not y (ys ++ zs) (omega arith) ∙ closed_tails ys zs h.1

closed_long : (ys zs : List ℕ) → Long ys → closed (ys ++ zs) ≡ closed zs
closed_long [] zs h = absurd h
closed_long (y ∷ ys) zs h = closed_not y (ys ++ zs) (omega arith) ∙ closed_tails ys zs h.1

closed_ascii : (x : ℕ) (bs : List ℕ) → x < 0x80 → chars (closed bs) ≡ closed (chars bs) → chars (closed (x ∷ bs)) ≡ closed (chars (x ∷ bs))
closed_ascii x bs h ih =
    let c = chars_ascii x bs h in
    let s : starts "-->" (x ∷ chars bs) ≡ starts "-->" (x ∷ bs) = ap (starts "-->") (sym c) ∙ starts_chars arrow (x ∷ bs) (omega arith, (omega arith, (omega arith, tt))) in
    ⊎_elim
    (λ t.
    ap chars (closed_yes x bs t)
    ∙ drop_chars arrow (x ∷ bs) (omega arith, (omega arith, (omega arith, tt))) t
    ∙ ap (drop 3) c
    ∙ sym (ap closed c ∙ closed_yes x (chars bs) (s ∙ t)))
    (λ t. ap chars (closed_no x bs t) ∙ ih ∙ sym (ap closed c ∙ closed_no x (chars bs) (s ∙ t)))
    (decide (starts "-->" (x ∷ bs)))

pub closed_chars : (bs : List ℕ) → chars (closed bs) ≡ closed (chars bs)
closed_chars =
    by_chars (λ (bs : List ℕ). chars (closed bs) ≡ closed (chars bs))
    (nil)
    (λ c bs s ih.
    ⊎_elim
    (λ l. let k = ltb-true c 0x80 l in rw (utf8_1 c k) (closed_ascii c bs k ih))
    (λ l.
    let k = ltb-false c 0x80 l in
    ap chars (closed_long (utf8 c) bs (utf8_long c s k))
    ∙ ih
    ∙ sym (ap closed (chars_utf8 c bs s) ∙ closed_not c (chars bs) (omega arith)))
    (decide (ltb c 0x80)))
    (λ b bs e ih.
    let k = lost_high b bs e in
    ap chars (closed_not b bs (omega arith))
    ∙ ih
    ∙ sym (ap closed (chars_bad b bs e) ∙ closed_not (stray b) (chars bs) (omega arith)))
  where
    nil : chars (closed []) ≡ closed (chars [])
    nil = ap chars closed_nil ∙ chars_nil ∙ sym (ap closed chars_nil ∙ closed_nil)

-- what the definition of `comment` leaves
pub comment_left : (s : List ℕ) → case (find "-->" s) [] (λ end. drop (end + 3) s) ≡ closed s
unfolding index closed
comment_left [] = refl
comment_left (x ∷ s) = go (starts "-->" (x ∷ s)) (find "-->" s) (comment_left s)
  where
    go : (t : Bool) (o : Option ℕ) → case o [] (λ end. drop (end + 3) s) ≡ closed s
        → case (if t then some 0 else (o >>= (λ n. some (suc n)))) [] (λ end. drop (end + 3) (x ∷ s)) ≡ cond t (drop 3 (x ∷ s)) (closed s)
    go true o e = refl
    go false none e = e
    go false (some n) e =
        let q : suc n + 3 ≡ suc (n + 3) = omega arith in
        rw q e

-- ---- the answer of the code's search for it
arrow_room : (s : List ℕ) (n : ℕ) → find "-->" s ≡ some n → n + 3 ≤ length s
unfolding index
arrow_room [] n e = let y : ◌≡◌ {A = ℕ} 0 1 = cc in absurd (omega arith)
arrow_room (x ∷ s) n e = go (starts "-->" (x ∷ s)) refl (find "-->" s) (arrow_room s) e
  where
    go : (t : Bool) → starts "-->" (x ∷ s) ≡ t → (o : Option ℕ) → ((m : ℕ) → o ≡ some m → m + 3 ≤ length s)
        → (if t then some 0 else (o >>= (λ m. some (suc m)))) ≡ some n → n + 3 ≤ length (x ∷ s)
    go true h o f e = let q : 0 ≡ n = cc in omega (arith, starts_room arrow (x ∷ s) 0 (omega arith) h)
    go false h none f e = let y : ◌≡◌ {A = ℕ} 0 1 = cc in absurd (omega arith)
    go false h (some m) f e = let q : suc m ≡ n = cc in omega (arith, f m refl)

module _ (s : List ℕ) (i : ℕ) where
  -- the answer of the code's search for it
  pub end_nowhere : found i (find "-->" (drop i s)) ≡ None → length s ≡ comment_end s i
  unfolding comment_end
  end_nowhere = go (find "-->" (drop i s))
    where
      go : (o : Option ℕ) → found i o ≡ None → length s ≡ case o (length s) (λ end. i + end + 3)
      go none e = refl
      go (some n) e = let y : ◌≡◌ {A = ℕ} 0 1 = cc in absurd (omega arith)

  pub end_here : (j : ℕ) → found i (find "-->" (drop i s)) ≡ Some j → (j + 3 ≡ comment_end s i) × (j + 3 ≤ length s)
  unfolding comment_end
  end_here j = go (find "-->" (drop i s)) (arrow_room (drop i s))
    where
      go : (o : Option ℕ) → ((n : ℕ) → o ≡ some n → n + 3 ≤ length (drop i s)) → found i o ≡ Some j
          → (j + 3 ≡ case o (length s) (λ end. i + end + 3)) × (j + 3 ≤ length s)
      go none f e = let y : ◌≡◌ {A = ℕ} 0 1 = cc in absurd (omega arith)
      go (some n) f e = let q : i + n ≡ j = cc in (omega arith, omega (arith, f n refl, length-drop i s))

  -- what stands from there on
  pub end_left : drop (comment_end s i) s ≡ closed (drop i s)
  unfolding comment_end
  end_left = go (find "-->" (drop i s)) (comment_left (drop i s))
    where
      go : (o : Option ℕ) → case o [] (λ end. drop (end + 3) (drop i s)) ≡ closed (drop i s) → drop (case o (length s) (λ end. i + end + 3)) s ≡ closed (drop i s)
      go none e = drop-length s ∙ e
      go (some n) e =
          let q : i + n + 3 ≡ i + (n + 3) = omega arith in
          ap (λ (k : ℕ). drop k s) q ∙ sym (drop-drop (n + 3) i s) ∙ e

  pub end_bounds : i ≤ length s → (i ≤ comment_end s i) × ((comment_end s i ≤ length s) × (i < length s → i < comment_end s i))
  unfolding comment_end
  end_bounds l = go (find "-->" (drop i s)) (arrow_room (drop i s))
    where
      go : (o : Option ℕ) → ((n : ℕ) → o ≡ some n → n + 3 ≤ length (drop i s))
          → (i ≤ case o (length s) (λ end. i + end + 3)) × ((case o (length s) (λ end. i + end + 3) ≤ length s) × (i < length s → i < case o (length s) (λ end. i + end + 3)))
      go none f = (l, (omega arith, λ h. h))
      go (some n) f = (omega arith, (omega (arith, f n refl, length-drop i s), λ _. omega arith))

-- ---- what is left is a part of the text
pub closed_part : (s : List ℕ) → (n : ℕ) × (closed s ≡ drop n s)
closed_part s = go (find "-->" s) (comment_left s)
  where
    go : (o : Option ℕ) → case o [] (λ end. drop (end + 3) s) ≡ closed s → (n : ℕ) × (closed s ≡ drop n s)
    go none e = (length s, sym e ∙ sym (drop-length s))
    go (some n) e = (n + 3, sym e)

pub closed_less : (x : ℕ) (s : List ℕ) → length (closed (x ∷ s)) ≤ length s
closed_less x s =
    ⊎_elim
    (λ t. let q = ap length (closed_yes x s t) in omega (arith, length-drop 3 (x ∷ s)))
    (λ t.
    let p = closed_part s in
    let q = ap length (closed_no x s t ∙ p.1) in
    omega (arith, length-drop p.0 s))
    (decide (starts "-->" (x ∷ s)))

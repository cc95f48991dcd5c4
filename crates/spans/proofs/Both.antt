-- What is searched for in bytes and in their characters: a mark is ASCII, so it is found in both or in neither, and what stands before and
-- after it in the bytes are the bytes of what stands there in the characters.
-- Assumes nothing.
use mathlib.Core.Path.{◌≡◌, refl, sym, ap, ◌∙◌}
use mathlib.Core.Logic.{◌⊎◌, inl, inr, ⊎_elim}
use Prim.Native.Nat.{ℕ, ◌+◌, ◌<◌}
use native.Mathlib.Omega.{arith}
use mathlib.Core.Bool.{Bool, true, false}
use mathlib.Core.Option.{none, some}
use mathlib.Core.List.{List, [], ◌∷◌}
use lib.ListN.{length, take, drop, get_or}
use lib.Seq.{drop-drop}
use lib.Dec.{eqb}
use borrow.Author.Tests.{eqb-true}
use Rattle.text.specs.Words.{index, starts_with, starts}
use Rattle.text.specs.Utf8.{chars}
use Rattle.text.proofs.Tests.{and_true}
use Rattle.text.proofs.Laws.{chars_nil}
use Rattle.text.proofs.FindLaws.{chars_until, chars_since, index_none, index_some, take_until, drop_until, since_head}
use Rattle.text.proofs.AsciiLaws.{chars_ascii, starts_chars}
use Rattle.text.specs.Find.{until, since}
use Rattle.spans.specs.Spans.{link}

-- ---- one mark in one list

-- what stands before the first x and after it
record Split (x : ℕ) (l rest : List ℕ) : Type 0 where
  is : index (x ∷ []) l ≡ some (length (until x l))
  before : take (length (until x l)) l ≡ until x l
  after : drop (length (until x l) + 1) l ≡ rest

since_some : (x : ℕ) (l : List ℕ) (y : ℕ) (ys : List ℕ) → since x l ≡ y ∷ ys → Split x l ys
since_some x l y ys e =
    record {
      is = index_some x l (omega (arith, ap length e));
      before = take_until x l;
      after = drop_until x 1 l ∙ ap (drop 1) e;
    }

since_first : (x : ℕ) (l : List ℕ) (y : ℕ) (ys : List ℕ) → since x l ≡ y ∷ ys → y ≡ x
since_first x l y ys e = sym (ap (λ (z : List ℕ). get_or z 0 0) e) ∙ since_head x l (omega (arith, ap length e))

-- ---- one mark in bytes and in characters

pub record Hit (x : ℕ) (bs : List ℕ) : Type 0 where
  pub byte : ℕ
  pub char : ℕ
  pub in_bytes : index (x ∷ []) bs ≡ some byte
  pub in_chars : index (x ∷ []) (chars bs) ≡ some char
  pub before : chars (take byte bs) ≡ take char (chars bs)
  pub after : chars (drop (byte + 1) bs) ≡ drop (char + 1) (chars bs)

pub both : (x : ℕ) → x < 0x80 → (bs : List ℕ) → Hit x bs ⊎ ((index (x ∷ []) bs ≡ none) × (index (x ∷ []) (chars bs) ≡ none))
both x low bs = go (since x bs) refl
  where
    go : (l : List ℕ) → since x bs ≡ l → Hit x bs ⊎ ((index (x ∷ []) bs ≡ none) × (index (x ∷ []) (chars bs) ≡ none))
    go [] e = inr (index_none x bs e, index_none x (chars bs) (sym (chars_since x low bs) ∙ ap chars e ∙ chars_nil))
    go (y ∷ ys) e =
        let y_is = since_first x bs y ys e in
        let p = since_some x bs y ys e in
        let q = since_some x (chars bs) y (chars ys) (sym (chars_since x low bs) ∙ ap chars e ∙ chars_ascii y ys (omega arith)) in
        inl
        (record {
          byte = length (until x bs);
          char = length (until x (chars bs));
          in_bytes = p.is;
          in_chars = q.is;
          before = ap chars p.before ∙ chars_until x low bs ∙ sym q.before;
          after = ap chars p.after ∙ sym q.after;
        })

-- a text that starts with x is x and the rest
pub first : (x : ℕ) (l : List ℕ) → starts_with (x ∷ []) l ≡ true → l ≡ x ∷ drop 1 l
first x [] e = let z : ◌≡◌ {A = ℕ} 0 1 = cc in absurd (omega arith)
first x (c ∷ l) e = ap (λ (n : ℕ). n ∷ l) (eqb-true c x (and_true (eqb c x) true e).0)

-- both start with a mark, or neither does; and what follows it
pub starts_both : (x : ℕ) → x < 0x80 → (bs : List ℕ) → starts_with (x ∷ []) (chars bs) ≡ starts_with (x ∷ []) bs
starts_both x low bs = starts_chars (x ∷ []) bs (low, tt)

pub rest_both : (x : ℕ) → x < 0x80 → (bs : List ℕ) → starts_with (x ∷ []) bs ≡ true → chars (drop 1 bs) ≡ drop 1 (chars bs)
rest_both x low bs e =
    sym (ap (drop 1) (chars_ascii x (drop 1 bs) low)) ∙ ap (λ (l : List ℕ). drop 1 (chars l)) (sym (first x bs e))

-- ---- a link in bytes and in characters

pub record LinkHit (bs : List ℕ) : Type 0 where
  pub close : ℕ
  pub last : ℕ
  pub close_char : ℕ
  pub last_char : ℕ
  pub in_bytes : link bs ≡ some (close, last)
  pub in_chars : link (chars bs) ≡ some (close_char, last_char)
  pub label : chars (take close bs) ≡ take close_char (chars bs)
  pub after : chars (drop (last + 1) bs) ≡ drop (last_char + 1) (chars bs)

abbrev NoLink : List ℕ → Type 0
NoLink bs = (link bs ≡ none) × (link (chars bs) ≡ none)

pub link_both : (bs : List ℕ) → LinkHit bs ⊎ NoLink bs
unfolding link
link_both bs = ⊎_elim (λ h. at_close h (starts "(" (drop (h.byte + 1) bs)) refl) (λ n. inr (rw n.0, rw n.1)) (both 93 (omega arith) bs)
  where
    at_target : (h : Hit 93 bs) → starts "(" (drop (h.byte + 1) bs) ≡ true → starts "(" (drop (h.char + 1) (chars bs)) ≡ true
        → chars (drop (h.byte + 2) bs) ≡ drop (h.char + 2) (chars bs) → LinkHit bs ⊎ NoLink bs
    at_target h t u r =
        ⊎_elim
        (λ g.
        let j : h.byte + 2 + (g.byte + 1) ≡ h.byte + 2 + g.byte + 1 = omega arith in
        let k : h.char + 2 + (g.char + 1) ≡ h.char + 2 + g.char + 1 = omega arith in
        let f : index (41 ∷ []) (drop (h.char + 2) (chars bs)) ≡ some g.char = ap (index (41 ∷ [])) (sym r) ∙ g.in_chars in
        inl
        (record {
          close = h.byte;
          last = h.byte + 2 + g.byte;
          close_char = h.char;
          last_char = h.char + 2 + g.char;
          in_bytes = rw (h.in_bytes, t, g.in_bytes);
          in_chars = rw (h.in_chars, u, f);
          label = h.before;
          after =
              ap (λ (n : ℕ). chars (drop n bs)) (sym j)
              ∙ ap chars (sym (drop-drop (g.byte + 1) (h.byte + 2) bs))
              ∙ g.after
              ∙ ap (drop (g.char + 1)) r
              ∙ drop-drop (g.char + 1) (h.char + 2) (chars bs)
              ∙ ap (λ (n : ℕ). drop n (chars bs)) k;
        }))
        (λ n.
        let f : index (41 ∷ []) (drop (h.char + 2) (chars bs)) ≡ none = ap (index (41 ∷ [])) (sym r) ∙ n.1 in
        inr (rw (h.in_bytes, t, n.0), rw (h.in_chars, u, f)))
        (both 41 (omega arith) (drop (h.byte + 2) bs))

    at_close : (h : Hit 93 bs) (t : Bool) → starts "(" (drop (h.byte + 1) bs) ≡ t → LinkHit bs ⊎ NoLink bs
    at_close h false e =
        let f : starts "(" (drop (h.char + 1) (chars bs)) ≡ false =
        ap (starts "(") (sym h.after) ∙ starts_both 40 (omega arith) (drop (h.byte + 1) bs) ∙ e in
        inr (rw (h.in_bytes, e), rw (h.in_chars, f))
    at_close h true e =
        let f : starts "(" (drop (h.char + 1) (chars bs)) ≡ true =
        ap (starts "(") (sym h.after) ∙ starts_both 40 (omega arith) (drop (h.byte + 1) bs) ∙ e in
        let j : h.byte + 1 + 1 ≡ h.byte + 2 = omega arith in
        let k : h.char + 1 + 1 ≡ h.char + 2 = omega arith in
        at_target h e f
        (ap (λ (n : ℕ). chars (drop n bs)) (sym j)
        ∙ ap chars (sym (drop-drop 1 (h.byte + 1) bs))
        ∙ rest_both 40 (omega arith) (drop (h.byte + 1) bs) e
        ∙ ap (drop 1) h.after
        ∙ drop-drop 1 (h.char + 1) (chars bs)
        ∙ ap (λ (n : ℕ). drop n (chars bs)) k)

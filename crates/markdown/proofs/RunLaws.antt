-- What no character above ASCII passes is the same of bytes as of characters: runs, tests, literals.
-- Assumes nothing.
use Prim.Native.Nat.{ℕ, ◌≤◌, ◌<◌}
use mathlib.Core.Bool.{Bool, true, false, cond}
use mathlib.Core.List.{List, [], ◌∷◌}
use mathlib.Core.Logic.{⊎_elim}
use mathlib.Core.Path.{◌≡◌, refl, sym, ap}
use borrow.Author.Tests.{ltb-true, ltb-false, ne_eqb}
use native.Mathlib.Omega.{arith}
use lib.Dec.{eqb, ltb}
use lib.ListN.{length, get_or, drop, drop_of_length-le}
use Rattle.text.specs.Words.{is_empty, all, matches, starts_with, take_while, drop_while}
use Rattle.text.specs.Utf8.{chars}
use Rattle.text.proofs.Tests.{decide}
use Rattle.text.proofs.Laws.{chars_nil}
use Rattle.text.proofs.AsciiLaws.{chars_ascii, chars_high}
use Rattle.text.proofs.Lists.{drop_next}

module _ (p : ℕ → Bool) where
  -- ---- what no character above ASCII passes
  module _ (low : (c : ℕ) → 0x80 ≤ c → p c ≡ false) where
    pub run_chars : (s : List ℕ) → (take_while p (chars s) ≡ take_while p s) × (drop_while p (chars s) ≡ chars (drop (length (take_while p s)) s))
    unfolding take_while drop_while
    run_chars [] = (rw chars_nil, rw chars_nil)
    run_chars (x ∷ xs) =
        ⊎_elim
        (λ l. rw (chars_ascii x xs (ltb-true x 0x80 l)) (go (p x) (chars_ascii x xs (ltb-true x 0x80 l)) (run_chars xs)))
        (λ l.
        let h = chars_high x xs (ltb-false x 0x80 l) in
        (rw (h.2, low h.0 h.3, low x (ltb-false x 0x80 l)), rw (low x (ltb-false x 0x80 l), h.2, low h.0 h.3)))
        (decide (ltb x 0x80))
      where
        go : (t : Bool) → chars (x ∷ xs) ≡ x ∷ chars xs
            → (take_while p (chars xs) ≡ take_while p xs) × (drop_while p (chars xs) ≡ chars (drop (length (take_while p xs)) xs))
            → (cond t (x ∷ take_while p (chars xs)) [] ≡ cond t (x ∷ take_while p xs) [])
            × (cond t (drop_while p (chars xs)) (x ∷ chars xs) ≡ chars (drop (length (cond t (x ∷ take_while p xs) [])) (x ∷ xs)))
        go true q ih = (ap (λ (l : List ℕ). x ∷ l) ih.0, ih.1)
        go false q ih = (refl, sym q)

    pub all_chars : (s : List ℕ) → all p (chars s) ≡ all p s
    all_chars [] = rw chars_nil
    all_chars (x ∷ xs) =
        ⊎_elim
        (λ l. rw (chars_ascii x xs (ltb-true x 0x80 l), all_chars xs))
        (λ l. let h = chars_high x xs (ltb-false x 0x80 l) in rw (h.2, low h.0 h.3, low x (ltb-false x 0x80 l)))
        (decide (ltb x 0x80))

-- ---- tests
pub same_low : (b : ℕ) → b < 0x80 → (c : ℕ) → 0x80 ≤ c → eqb c b ≡ false
same_low b l c h = ne_eqb c b (omega arith)

pub ruled_low : (c : ℕ) → 0x80 ≤ c → matches "-*_ |:" c ≡ false
ruled_low c h =
    simp (ne_eqb c 45 (omega arith), ne_eqb c 42 (omega arith), ne_eqb c 95 (omega arith), ne_eqb c 32 (omega arith), ne_eqb c 124 (omega arith), ne_eqb c 58 (omega arith))

pub not_empty : (l : List ℕ) → 1 ≤ length l → is_empty l ≡ false
not_empty [] h = absurd (omega arith)
not_empty (x ∷ l) h = refl

pub empty_chars : (s : List ℕ) → is_empty (chars s) ≡ is_empty s
empty_chars [] = rw chars_nil
empty_chars (x ∷ xs) =
    ⊎_elim
    (λ l. rw (chars_ascii x xs (ltb-true x 0x80 l)))
    (λ l. let h = chars_high x xs (ltb-false x 0x80 l) in rw h.2)
    (decide (ltb x 0x80))

-- a literal does not stand past the end, nor where another byte than its first stands
zero_above : {A : Type 0} → 0 < 0 → A
zero_above h = absurd (omega arith)

pub starts_past : (ps s : List ℕ) (i : ℕ) → 0 < length ps → length s ≤ i → false ≡ starts_with ps (drop i s)
starts_past [] s i f h = zero_above f
starts_past (d ∷ ps) s i f h = rw (drop_of_length-le s h)

pub starts_not : (ps s : List ℕ) (i : ℕ) → 0 < length ps → i < length s → (get_or s i 0 ≡ get_or ps 0 0 → ⊥) → false ≡ starts_with ps (drop i s)
starts_not [] s i f h n = zero_above f
starts_not (d ∷ ps) s i f h n = rw (drop_next s i h, ne_eqb (get_or s i 0) d n)

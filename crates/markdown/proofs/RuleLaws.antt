-- The laws of `is_rule` and of the tests that it is made of.
-- Assumes nothing.
use Prim.Native.Nat.{ℕ, ◌+◌, ◌≤◌, ◌<◌}
use mathlib.Core.Bool.{Bool, true, false, ◌&&◌, ◌||◌, true≢false, or-false}
use mathlib.Core.List.{List, [], ◌∷◌}
use mathlib.Core.Logic.{⊎_elim}
use mathlib.Core.Path.{◌≡◌, refl, sym, ap, ◌∙◌}
use borrow.Author.Tests.{ltb-true, ltb-false, le-leb, lt-leb}
use lib.Dec.{ltb, leb, eqb}
use lib.ListN.{length, get_or, drop}
use Rattle.text.specs.Words.{all, any, matches}
use Rattle.text.specs.Utf8.{size, chars}
use Rattle.text.specs.Run.{RunTo}
use Rattle.text.proofs.Tests.{decide, false_true, and_true, or_elim, or_right}
use Rattle.text.proofs.Laws.{chars_nil, size_chars}
use Rattle.text.proofs.AsciiLaws.{chars_ascii}
use Rattle.text.proofs.Lists.{drop_next}
use Rattle.text.proofs.RunLaws.{run_same}
use Rattle.markdown.specs.Blocks.{is_rule}
use Rattle.markdown.proofs.RunLaws.{ruled_low, all_chars}

abbrev pub ruled : ℕ → Bool
ruled = matches "-*_ |:"

abbrev pub marks : ℕ → Bool
marks = matches "-*_"

-- ---- tests in another order
-- ---- the loop
ascii_of : (s : List ℕ) → all ruled s ≡ true → chars s ≡ s
ascii_of [] e = chars_nil
ascii_of (x ∷ xs) e =
    let p = and_true (ruled x) (all ruled xs) e in
    ⊎_elim
    (λ l. chars_ascii x xs (ltb-true x 0x80 l) ∙ ap (λ (l : List ℕ). x ∷ l) (ascii_of xs p.1))
    (λ l. absurd (true≢false (sym p.0 ∙ ruled_low x (ltb-false x 0x80 l))))
    (decide (ltb x 0x80))

module _ (s : List ℕ) where
  pub rule_short : length s < 3 → false ≡ is_rule (chars s)
  unfolding is_rule
  rule_short h = rw (size_chars s, lt-leb 3 (length s) h)

  pub rule_not : all ruled s ≡ false → false ≡ is_rule (chars s)
  unfolding is_rule
  rule_not e = rw (all_chars ruled ruled_low s, e) (go (leb 3 (size (chars s))) (any marks (chars s)))
    where
      go : (a b : Bool) → false ≡ (a && false && b)
      go true b = refl
      go false b = refl

  pub rule_is : (m : Bool) → 3 ≤ length s → all ruled s ≡ true → m || false ≡ any marks s → m ≡ is_rule (chars s)
  unfolding is_rule
  rule_is m h e f = rw (ascii_of s e, e) (sym (or-false m) ∙ f ∙ rw (sym (ap size (ascii_of s e)) ∙ size_chars s, le-leb 3 (length s) h))

  module _ (i : ℕ) (l : i < length s) where
    pub ruled_next : ruled (get_or s i 0) ≡ true → all ruled (drop i s) ≡ all ruled (drop (i + 1) s)
    ruled_next e = rw (drop_next s i l, e)

    pub ruled_stop : ruled (get_or s i 0) ≡ false → all ruled (drop i s) ≡ false
    ruled_stop e = rw (drop_next s i l, e)

    pub marks_none : marks (get_or s i 0) ≡ false → any marks (drop i s) ≡ any marks (drop (i + 1) s)
    marks_none e = rw (drop_next s i l, e)

    pub marks_some : marks (get_or s i 0) ≡ true → any marks (drop i s) ≡ true
    marks_some e = rw (drop_next s i l, e)

-- a run of ruled bytes changes nothing
pub ruled_run : (s : List ℕ) (i j : ℕ) → RunTo ruled s i j → all ruled (drop i s) ≡ all ruled (drop j s)
ruled_run = run_same ruled (all ruled) (λ x s e. rw e)

-- a mark is ruled
pub mark_ruled : (x : ℕ) → marks x ≡ true → ruled x ≡ true
mark_ruled x e =
    or_elim (eqb x 45) _ (λ a. rw a) (or_elim (eqb x 42) _ (λ a. or_right (eqb x 45) _ (rw a))
    (or_elim (eqb x 95) false (λ a. or_right (eqb x 45) _ (or_right (eqb x 42) _ (rw a))) false_true)) e

-- the answer at the first mark
pub rule_marked : (s : List ℕ) (t : Bool) → 3 ≤ length s → any marks s ≡ true → t ≡ all ruled s → t ≡ is_rule (chars s)
rule_marked s true h m e = rule_is s true h (sym e) (sym m)
rule_marked s false h m e = rule_not s (sym e)

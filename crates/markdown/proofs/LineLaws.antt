-- The laws of `lines`: the line that a text starts with, and what is left after it.
-- Assumes nothing.
use Prim.Native.Nat.{ℕ}
use mathlib.Core.Bool.{Bool, true, false, cond}
use mathlib.Core.List.{List, [], ◌∷◌}
use mathlib.Core.Path.{◌≡◌, refl, sym, ◌∙◌}
use native.Mathlib.Omega.{arith}
use borrow.Author.Tests.{eqb-true}
use lib.Dec.{eqb}
use lib.ListN.{drop}
use Rattle.text.specs.Utf8.{chars}
use Rattle.text.proofs.FindLaws.{chars_until, chars_since}
use Rattle.text.proofs.Laws.{chars_nil}
use Rattle.text.proofs.AsciiLaws.{chars_ascii}
use Rattle.text.proofs.Tests.{on}
use Rattle.records.specs.Blocks.{Block}
use Rattle.markdown.specs.Blocks.{Reader, reader, flush, lines, before_lines, read_line, read_lines}
use Rattle.text.specs.Words.{drop_while, trim_end_matches}
use Rattle.text.specs.Find.{until, since}

-- what stands after the first line
abbrev pub after : List ℕ → List ℕ
after s = drop 1 (since 10 s)

-- the first line, and the others
pub lines_cons : (c : ℕ) (s : List ℕ) → lines (c ∷ s) ≡ until 10 (c ∷ s) ∷ lines (after (c ∷ s))
unfolding lines
lines_cons c [] = by (eqb c 10)
  where
    by : (t : Bool) → cond t ([] ∷ []) ((c ∷ []) ∷ []) ≡ cond t [] (c ∷ []) ∷ lines (drop 1 (cond t (c ∷ []) []))
    by true = refl
    by false = refl
lines_cons c (d ∷ s) = by (eqb c 10) (lines_cons d s)
  where
    by : (t : Bool) → lines (d ∷ s) ≡ until 10 (d ∷ s) ∷ lines (after (d ∷ s))
        → cond t ([] ∷ lines (d ∷ s)) (before_lines c (lines (d ∷ s)))
        ≡ cond t [] (c ∷ until 10 (d ∷ s)) ∷ lines (drop 1 (cond t (c ∷ d ∷ s) (since 10 (d ∷ s))))
    by true ih = refl
    by false ih = rw ih

-- the blocks of what is left, in a reader
unfoldable pub final : Reader → List ℕ → List Block
final r s = flush (read_lines r (lines s))

-- a blank line ends the paragraph, as the end does
pub flush_end : (bs : List Block) → flush (reader bs []) ≡ bs
unfolding flush
flush_end bs = refl

blank_end : (r : Reader) → flush (read_line r []) ≡ flush r
unfolding read_line drop_while trim_end_matches
blank_end r = flush_end (flush r)

-- one line more
pub final_next : (r : Reader) (s : List ℕ) → final r s ≡ final (read_line r (until 10 s)) (after s)
unfolding final read_lines lines
final_next r [] = sym (blank_end r)
final_next r (c ∷ s) = rw (lines_cons c s)

pub final_end : (r : Reader) → final r [] ≡ flush r
unfolding final read_lines lines
final_end r = refl

-- the same of bytes
pub chars_after : (s : List ℕ) → chars (drop 1 (since 10 s)) ≡ drop 1 (chars (since 10 s))
chars_after [] = rw (chars_nil)
chars_after (c ∷ s) =
    on (λ (l : List ℕ). chars (drop 1 l) ≡ drop 1 (chars l)) (eqb c 10)
    (λ e. rw (chars_ascii c s (omega (arith, eqb-true c 10 e))))
    (λ _. chars_after s)

pub final_line : (r : Reader) (s : List ℕ) → final r (chars s) ≡ final (read_line r (chars (until 10 s))) (chars (after s))
final_line r s =
    final_next r (chars s)
    ∙ rw (chars_until 10 (omega arith) s, chars_after s, chars_since 10 (omega arith) s)

-- The texts of a sheet, and its written form, are scalar values if the page is.
-- Assumes nothing.
use Rattle.std.proofs.Common.{◌≡◌, refl, ℕ, min, arith, true, List, [], ◌∷◌, ◌++◌, map}
use Rattle.std.proofs.lemmas.Bool.Decides.{nat_tests}
use Rattle.text.specs.Words.{str, all}
use Rattle.text.specs.Chars.{is_scalar, is_digit}
use Rattle.text.specs.Utf8.{Scalars}
use Rattle.text.proofs.Laws.{scalar_is, scalars_true}
use Rattle.sheet.specs.Tree.{Run, run, Block}
use Rattle.sheet.specs.Grammar as G
use Rattle.sheet.specs.Grammar.{before, Char, Many, stop, more, concat, IsRun, is_run, Line, IsPage}
use Rattle.sheet.specs.Written.{written_run, written_runs, Row, rows, written_row, joined, written_block, written}
use Rattle.sheet.proofs.AllChars.{all_append, Marks, all_run, all_head, all_item}
use Rattle.sheet.proofs.EachLine.{past, char_kept, run_kept, Entries, Lines, a_heading, a_para, a_list, Each, page_lines}
use Rattle.sheet.proofs.EachLine as E

-- each run's text is of scalar values
abbrev pub Texts : List Run → Type 0
Texts [] = Unit {0}
Texts (run k t ∷ rs) = (all is_scalar t ≡ true) × Texts rs

rest : (c : ℕ) (s : List ℕ) → Scalars (c ∷ s) → Scalars s
rest c s h = h.1

char_scalar : {s q m : List ℕ} → Char s q m → Scalars s → all is_scalar q ≡ true
unfolding is_scalar
char_scalar G.&lt h = refl
char_scalar G.&amp h = refl
char_scalar G.&gt h = refl
char_scalar G.&quot h = refl
char_scalar G.blank h = refl
char_scalar (G.own c e) h = rw (scalar_is c h.0)

text_scalar : {s r : List ℕ} {qs : List (List ℕ)} → Many Char s qs r → Scalars s → all is_scalar (concat qs) ≡ true
text_scalar stop h = refl
text_scalar (more {s} {m} {x = q} {xs = qs} c ms) h =
    all_append is_scalar q (concat qs) (char_scalar c h) (text_scalar ms (char_kept Scalars rest s q m c h))

runs_texts : {s r : List ℕ} {rs : List Run} → Many IsRun s rs r → Scalars s → Texts rs
runs_texts stop h = tt
runs_texts (more (is_run {s} {t} {m} k (G.text cs) f) ms) h = (
  text_scalar cs (past Scalars rest (before k) s h),
  runs_texts ms (run_kept Scalars rest (before k ++ s) (run k t) m (is_run k (G.text cs) f) h),
)

line_texts : (s : List ℕ) (l : List Run) (r : List ℕ) → Line s l r → Scalars s → Texts l
line_texts s l r (G.line ms f) h = runs_texts ms h

pub page_texts : {s : List ℕ} {t : List Block} → IsPage s t → Scalars s → Each Texts t
page_texts = page_lines Scalars rest Texts line_texts

-- ---- the written form
digit_scalar : (c : ℕ) → is_digit c ≡ true → is_scalar c ≡ true
unfolding is_scalar
digit_scalar c e = grind (arith, nat_tests)

scalar_marks : Marks is_scalar
unfolding is_scalar
scalar_marks =
    record { backslash = refl; star = refl; tick = refl; hash = refl; blank = refl; dash = refl; point = refl; digit = digit_scalar }

runs_scalar : (l : List Run) → Texts l → all is_scalar (written_runs l) ≡ true
unfolding written_runs
runs_scalar [] h = refl
runs_scalar (run k t ∷ rs) h =
    all_append is_scalar (written_run (run k t)) (written_runs rs) (all_run is_scalar scalar_marks k t h.0) (runs_scalar rs h.1)

-- what is joined, all of it scalar values
data Scalar : List (List ℕ) → Type 0 where
  none : Scalar []
  one : {x : List ℕ} {xs : List (List ℕ)} → all is_scalar x ≡ true → Scalar xs → Scalar (x ∷ xs)

joined_scalar : (sep : List ℕ) → all is_scalar sep ≡ true → {xs : List (List ℕ)} → Scalar xs → all is_scalar (joined sep xs) ≡ true
unfolding joined
joined_scalar sep e none = refl
joined_scalar sep e (one h none) = h
joined_scalar sep e (one {x} h (one {x = y} {xs = ys} i hs)) =
    all_append is_scalar x (sep ++ joined sep (y ∷ ys)) h (all_append is_scalar sep (joined sep (y ∷ ys)) e (joined_scalar sep e (one i hs)))

entries_scalar : {rs : List Row} → Entries Texts rs → Scalar (map written_row rs)
entries_scalar E.none = none
entries_scalar (E.one {d} {n} {l} b h e) = one (all_item is_scalar scalar_marks d n l (runs_scalar l h)) (entries_scalar e)

newline_scalar : all is_scalar (str "\n") ≡ true
unfolding is_scalar
newline_scalar = refl

gap_scalar : all is_scalar (str "\n\n") ≡ true
unfolding is_scalar
gap_scalar = refl

block_scalar : {b : Block} → Lines Texts b → all is_scalar (written_block b) ≡ true
unfolding rows joined
block_scalar (a_heading {n} {l} lo h) = all_head is_scalar scalar_marks (min n 3) l (runs_scalar l h)
block_scalar (a_para {l} h) = runs_scalar l h
block_scalar (a_list it its e) = joined_scalar (str "\n") newline_scalar (entries_scalar e)

blocks_scalar : {bs : List Block} → Each Texts bs → Scalar (map written_block bs)
blocks_scalar E.none = none
blocks_scalar (E.one h e) = one (block_scalar h) (blocks_scalar e)

pub sheet_scalars : {s : List ℕ} {t : List Block} → IsPage s t → Scalars s → Scalars (written t)
unfolding written
sheet_scalars {t = t} p h = scalars_true (written t) (joined_scalar (str "\n\n") gap_scalar (blocks_scalar (page_texts p h)))

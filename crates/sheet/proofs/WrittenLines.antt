-- The lines of a written form are its rows, with an empty line between two blocks.
-- Assumes nothing.
use Rattle.std.proofs.Common.{◌≡◌, refl, sym, ◌∙◌, ap, ℕ, min, arith, Bool, true, false, cond, not, List, [], ◌∷◌, ◌++◌, map, append_assoc, eqb}
use Rattle.std.proofs.lemmas.Bool.Decides.{nat_tests}
use borrow.Author.Tests.{not-true}
use Rattle.text.specs.Words.{str, repeat, all, is_empty}
use Rattle.text.specs.Chars.{is_space, is_digit}
use Rattle.text.proofs.Tests.{and_true, false_true}
use Rattle.spans.specs.Spans.{spans}
use Rattle.markdown.specs.Blocks.{before_lines, lines}
use Rattle.sheet.specs.Tree.{Run, run, alone, with, items, Block}
use Rattle.sheet.specs.Grammar as G
use Rattle.sheet.specs.Grammar.{Many, IsRun, is_run, stop, more, Line}
use Rattle.sheet.specs.Written.{span, written_run, written_runs, Row, head, text, item, place, rows_from, rows, lead, written_row, joined, written_block, written}
use Rattle.sheet.proofs.Facts.{inked}
use Rattle.sheet.proofs.AllChars.{all_append, all_weaker, Marks, all_run, all_head, all_item}
use Rattle.sheet.proofs.Source.{inked_text}
use Rattle.sheet.proofs.ReadBack.{all_fit, line_read}
use Rattle.sheet.proofs.Conditions.{neat_of}
use Rattle.sheet.proofs.Fronts.{Good, good_of, front_empty}
use Rattle.sheet.proofs.PageRead.{filled_append}
use Rattle.sheet.proofs.EachLine.{Entries, Lines, a_heading, a_para, a_list, Each}
use Rattle.sheet.proofs.EachLine as E

-- ---- no byte 10 is written in a row
abbrev pub not_break : ℕ → Bool
not_break c = not (eqb c 10)

inked_not_break : (x : ℕ) → inked x ≡ true → not_break x ≡ true
unfolding is_space
inked_not_break x e = grind (arith, nat_tests)

digit_not_break : (c : ℕ) → is_digit c ≡ true → not_break c ≡ true
digit_not_break c e = grind (arith, nat_tests)

not_break_marks : Marks not_break
not_break_marks =
    record { backslash = refl; star = refl; tick = refl; hash = refl; blank = refl; dash = refl; point = refl; digit = digit_not_break }

not_break_runs : {s r : List ℕ} {rs : List Run} → Many IsRun s rs r → all not_break (written_runs rs) ≡ true
unfolding written_runs
not_break_runs stop = refl
not_break_runs (more {xs = rs} (is_run {t = t} k (G.text m) f) ms) =
    all_append not_break (written_run (run k t)) (written_runs rs)
    (all_run not_break not_break_marks k t (all_weaker inked not_break inked_not_break t (inked_text m)))
    (not_break_runs ms)

-- ---- what the reader needs of a line's runs
pub record GoodRuns (l : List Run) : Type 0 where
  pub good : Good (written_runs l)
  pub spans_are : spans (written_runs l) ≡ map span l
  pub no_nl : all not_break (written_runs l) ≡ true
  pub fit : all_fit l ≡ true

fit_of : {s r : List ℕ} {rs : List Run} → Many IsRun s rs r → all_fit rs ≡ true
unfolding all_fit
fit_of stop = refl
fit_of (more (is_run k T f) ms) = rw (f, fit_of ms)

pub good_runs : {s r : List ℕ} {l : List Run} → Line s l r → GoodRuns l
good_runs {l = l} (G.line m f) =
    record {
      good = good_of (G.line m f);
      spans_are = line_read l (neat_of l f).parted (fit_of m);
      no_nl = not_break_runs m;
      fit = fit_of m;
    }

-- ---- `lines`
lines_nl : (s t : List ℕ) → all not_break s ≡ true → lines (s ++ (10 ∷ t)) ≡ s ∷ lines t
unfolding lines
lines_nl [] t e = refl
lines_nl (c ∷ s) t e = let i = lines_nl s t in grind (arith, nat_tests)

lines_last : (a : ℕ) (s : List ℕ) → all not_break (a ∷ s) ≡ true → lines (a ∷ s) ≡ (a ∷ s) ∷ []
unfolding lines
lines_last a [] e = rw (not-true (eqb a 10) (and_true (not_break a) true e).0)
lines_last a (b ∷ s) e =
    let f = and_true (not_break a) (all not_break (b ∷ s)) e in
    ap (λ (x : Bool). cond x ([] ∷ lines (b ∷ s)) (before_lines a (lines (b ∷ s)))) (not-true (eqb a 10) f.0)
    ∙ ap (before_lines a) (lines_last b s f.1)

-- ---- rows are lines: not empty, with no byte 10
pub record IsLine (s : List ℕ) : Type 0 where
  pub filled : is_empty s ≡ false
  pub no_nl : all not_break s ≡ true

runs_line : {l : List Run} → GoodRuns l → IsLine (written_runs l)
runs_line g = record { filled = front_empty g.good.front; no_nl = g.no_nl }

pub data Rows : List Row → Type 0 where
  none : Rows []
  one : {r : Row} {rs : List Row} → IsLine (written_row r) → Rows rs → Rows (r ∷ rs)

item_line : (d n : ℕ) (l : List Run) → GoodRuns l → IsLine (written_row (item d n l))
item_line d n l g =
    record {
      filled = filled_append (repeat d "  ") (lead n ++ written_runs l) (filled_append (lead n) (written_runs l) (front_empty g.good.front));
      no_nl = all_item not_break not_break_marks d n l g.no_nl;
    }

head_line : (n : ℕ) (l : List Run) → GoodRuns l → IsLine (written_row (head n l))
head_line n l g =
    record { filled = filled_append (repeat n "#") (32 ∷ written_runs l) refl; no_nl = all_head not_break not_break_marks n l g.no_nl }

pub entry_rows : {rs : List Row} → Entries GoodRuns rs → Rows rs
entry_rows E.none = none
entry_rows (E.one {d} {n} {l} h g e) = one (item_line d n l g) (entry_rows e)

pub record Rowed (b : Block) : Type 0 where
  pub first : Row
  pub others : List Row
  pub is : rows b ≡ first ∷ others
  pub lined : Rows (first ∷ others)

pub rowed : {b : Block} → Lines GoodRuns b → Rowed b
unfolding rows rows_from
rowed (a_heading {n} {l} lo g) = record { first = head (min n 3) l; others = []; is = refl; lined = one (head_line (min n 3) l g) none }
rowed (a_para {l} g) = record { first = text l; others = []; is = refl; lined = one (runs_line g) none }
rowed (a_list {m = m} (alone l) its e) =
    record { first = item 0 (place m 1) l; others = rows_from 0 m 2 (items its); is = refl; lined = entry_rows e }
rowed (a_list {m = m} (with l k sub) its e) =
    record { first = item 0 (place m 1) l; others = rows_from 1 k 1 sub ++ rows_from 0 m 2 (items its); is = refl; lined = entry_rows e }

-- ---- the lines of rows, of a block, of a page
lines_one : (s : List ℕ) → IsLine s → lines s ≡ s ∷ []
lines_one [] h = false_true (sym h.filled)
lines_one (a ∷ s) h = lines_last a s h.no_nl

lines_mid : (r : Row) (rs : List Row) → Rows (r ∷ rs) → (t : List ℕ) → lines (joined (str "\n") (map written_row (r ∷ rs)) ++ (10 ∷ t)) ≡ map written_row (r ∷ rs) ++ lines t
unfolding joined
lines_mid r [] (one h e) t = lines_nl (written_row r) t h.no_nl
lines_mid r (q ∷ rs) (one h e) t =
    ap lines (append_assoc (written_row r) (10 ∷ joined (str "\n") (map written_row (q ∷ rs))) (10 ∷ t))
    ∙ lines_nl (written_row r) (joined (str "\n") (map written_row (q ∷ rs)) ++ (10 ∷ t)) h.no_nl
    ∙ ap (λ (l : List (List ℕ)). written_row r ∷ l) (lines_mid q rs e t)

lines_end : (r : Row) (rs : List Row) → Rows (r ∷ rs) → lines (joined (str "\n") (map written_row (r ∷ rs))) ≡ map written_row (r ∷ rs)
unfolding joined
lines_end r [] (one h e) = lines_one (written_row r) h
lines_end r (q ∷ rs) (one h e) =
    lines_nl (written_row r) (joined (str "\n") (map written_row (q ∷ rs))) h.no_nl
    ∙ ap (λ (l : List (List ℕ)). written_row r ∷ l) (lines_end q rs e)

lines_block : (b : Block) → Rowed b → (t : List ℕ) → lines (written_block b ++ (10 ∷ t)) ≡ map written_row (rows b) ++ lines t
lines_block b h t =
    ap (λ (rs : List Row). lines (joined (str "\n") (map written_row rs) ++ (10 ∷ t))) h.is
    ∙ lines_mid h.first h.others h.lined t
    ∙ ap (λ (rs : List Row). map written_row rs ++ lines t) (sym h.is)

lines_final : (b : Block) → Rowed b → lines (written_block b) ≡ map written_row (rows b)
lines_final b h =
    ap (λ (rs : List Row). lines (joined (str "\n") (map written_row rs))) h.is
    ∙ lines_end h.first h.others h.lined
    ∙ ap (map written_row) (sym h.is)

unfoldable pub line_list : List Block → List (List ℕ)
line_list [] = []
line_list (b ∷ []) = map written_row (rows b)
line_list (b ∷ c ∷ bs) = map written_row (rows b) ++ ([] ∷ line_list (c ∷ bs))

pub lines_written : (bs : List Block) → Each GoodRuns bs → lines (written bs) ≡ line_list bs
unfolding lines written joined line_list
lines_written [] E.none = refl
lines_written (b ∷ []) (E.one h e) = lines_final b (rowed h)
lines_written (b ∷ c ∷ bs) (E.one h e) =
    lines_block b (rowed h) (10 ∷ written (c ∷ bs))
    ∙ ap (λ (l : List (List ℕ)). map written_row (rows b) ++ ([] ∷ l)) (lines_written (c ∷ bs) e)

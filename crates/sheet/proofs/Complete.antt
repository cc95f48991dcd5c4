-- What is in the grammar the reader reads.
-- Assumes nothing.
use Rattle.std.proofs.Common.{◌≡◌, refl, ◌∙◌, ap, ℕ, zero, suc, ◌+◌, ◌≤◌, arith, le_refl, true, false, List, [], ◌∷◌, ◌++◌, eqb}
use Rattle.std.proofs.Common.{length, length-append}
use Rattle.std.proofs.lemmas.Bool.Decides.{nat_tests}
use Rattle.std.proofs.Math.Option.{none, some}
use Rattle.text.specs.Words.{str, ◌>>=◌}
use Rattle.text.specs.Chars.{is_space, is_control}
use Rattle.text.proofs.Tests.{false_true}
use Rattle.sheet.specs.Reading.{◌<|>◌, strip, many}
use Rattle.sheet.specs.Tree.{Kind, plain, strong, em, both, code, Run, run, Mark, ul, ol, Items, Item, Block, heading, list}
use Rattle.sheet.specs.Grammar as G
use Rattle.sheet.specs.Grammar.{NL, Char, Many, stop, more, Text, IsRun, is_run, Line, ThenNL, IsItem, is_alone, is_with, ListOf, IsList, IsBlock, is_heading, is_para, IsPage}
use Rattle.sheet.specs.Grammar.{shown, singles, first_is, fits, apart, opens, closes, opens_h, closes_h, before, after}
use Rattle.sheet.specs.Reader.{Answer, nl?, own, char, text, opening, kind, one_run, line, then_nl, item, marked, list_of, read_list, digit, closed_by, headed, read_heading}
use Rattle.sheet.specs.Reader.{read_para, block, read_page, referred}
use Rattle.sheet.proofs.Conditions.{neat_of, apart_rest}
use Rattle.sheet.proofs.ReadingLaws.{alt_left, alt_right, strip_append, front, many_stop, many_more}
use Rattle.sheet.proofs.Sound.{Listed}
use Rattle.sheet.proofs.Shrinks.{Less, nl_less, char_less, first_char, run_less, item_less, list_less, block_less}

-- characters

own_complete : (c : ℕ) (s : List ℕ) → shown c ≡ true → own (c ∷ s) ≡ some (c ∷ [], s)
unfolding own
own_complete c s f = rw f

char_complete : {s q r : List ℕ} → Char s q r → char s ≡ some (q, r)
unfolding char referred own shown is_control is_space
char_complete G.&lt = refl
char_complete G.&amp = refl
char_complete G.&gt = refl
char_complete G.&quot = refl
char_complete G.blank = refl
char_complete (G.own {s} c f) = alt_left (own (c ∷ s)) _ (own_complete c s f)

-- a character of text is no tag
no_tag : {s q r : List ℕ} → Char s q r → (p : List ℕ) → strip (60 ∷ p) s ≡ none
unfolding shown is_control is_space
no_tag G.&lt p = refl
no_tag G.&amp p = refl
no_tag G.&gt p = refl
no_tag G.&quot p = refl
no_tag G.blank p = refl
no_tag (G.own {s} c f) p = grind (arith, nat_tests)

text_chars : {s r : List ℕ} {qs : List (List ℕ)} → Many Char s qs r → char r ≡ none → (n : ℕ) → length s ≤ n → many char n s ≡ (qs, r)
text_chars (stop {s}) e n h = many_stop char n s e
text_chars (more {s} {m} {x = q} c t) e zero h = absurd (omega (arith, char_less s q m c))
text_chars (more {s} {m} {x = q} c t) e (suc n) h =
    many_more char n s (char_complete c) ∙ ap (front q) (text_chars t e n (omega (arith, char_less s q m c)))

text_complete : {s t r : List ℕ} → Text s t r → char r ≡ none → text s ≡ (t, r)
unfolding text
text_complete (G.text {s} m) e = rw (text_chars m e (length s) (le_refl (length s)))

-- runs

no_open : (k : Kind) (p s : List ℕ) → strip (60 ∷ p) s ≡ none → ◌>>=◌ {B = Kind × List ℕ} (strip (60 ∷ p) s) (λ r. some (k, r)) ≡ none
no_open k p s h = rw h

kind_complete : (k : Kind) (s : List ℕ) → ((p : List ℕ) → strip (60 ∷ p) s ≡ none) → kind (before k ++ s) ≡ some (k, s)
unfolding kind
kind_complete both s h = refl
kind_complete em s h = refl
kind_complete code s h = refl
kind_complete strong s h = alt_right (opening both (str "<strong>" ++ s)) _ (no_open both (str "em>") s (h (str "em>")))
kind_complete plain s h =
    alt_right (opening both s) _ (no_open both (str "strong><em>") s (h (str "strong><em>")))
    ∙ (alt_right (opening strong s) _ (no_open strong (str "strong>") s (h (str "strong>")))
    ∙ (alt_right (opening em s) _ (no_open em (str "em>") s (h (str "em>")))
    ∙ alt_right (opening code s) _ (no_open code (str "code>") s (h (str "code>")))))

-- what has to follow a run: no more text after a plain one
abbrev Follows : Kind → List ℕ → Type 0
Follows plain m = char m ≡ none
Follows strong m = Unit {0}
Follows em m = Unit {0}
Follows both m = Unit {0}
Follows code m = Unit {0}

after_text : (k : Kind) (m : List ℕ) → Follows k m → char (after k ++ m) ≡ none
unfolding char referred own shown is_control is_space
after_text plain m h = h
after_text strong m h = refl
after_text em m h = refl
after_text both m h = refl
after_text code m h = refl

run_complete : (k : Kind) {s t m : List ℕ} → Text s t (after k ++ m) → fits k t ≡ true → Follows k m → one_run (before k ++ s) ≡ some (run k t, m)
unfolding one_run
run_complete k {s} {t} {m} (G.text cs) f h =
    let c = first_char k cs f in
    rw (kind_complete k s (no_tag c.2), text_complete (G.text cs) (after_text k m h), f, strip_append (after k) m)

next : (k : Kind) (t : List ℕ) {m r : List ℕ} {rs : List Run} → Many IsRun m rs r → apart (run k t ∷ rs) ≡ true → char r ≡ none → Follows k m
unfolding apart char referred own shown is_control is_space
next plain u stop a e = e
next plain u (more (is_run plain t f) rs) a e = false_true a
next plain u (more (is_run strong t f) rs) a e = refl
next plain u (more (is_run em t f) rs) a e = refl
next plain u (more (is_run both t f) rs) a e = refl
next plain u (more (is_run code t f) rs) a e = refl
next strong u rs a e = tt
next em u rs a e = tt
next both u rs a e = tt
next code u rs a e = tt

-- where a line ends
record Ends (r : List ℕ) : Type 0 where
  no_char : char r ≡ none
  no_run : one_run r ≡ none

runs_complete : {s r : List ℕ} {rs : List Run} → Many IsRun s rs r → apart rs ≡ true → Ends r → (n : ℕ) → length s ≤ n → many one_run n s ≡ (rs, r)
runs_complete (stop {s}) a e n h = many_stop one_run n s e.no_run
runs_complete (more {s} {m} {x = x} h rs) a e zero l = absurd (omega (arith, run_less s x m h))
runs_complete (more (is_run {s} {t} {m} k T f) rs) a e (suc n) h =
    many_more one_run n (before k ++ s) (run_complete k T f (next k t rs a e.no_char))
    ∙ ap (front (run k t)) (runs_complete rs (apart_rest (run k t) _ a) e n (omega (arith, run_less (before k ++ s) (run k t) m (is_run k T f))))

line_complete : {s r : List ℕ} {rs : List Run} → Line s rs r → Ends r → line s ≡ some (rs, r)
unfolding line
line_complete (G.line {s} {r} {rs} m f) e = rw (runs_complete m (neat_of rs f).parted e (length s) (le_refl (length s)), f)

-- NL?

nl_complete : {s r : List ℕ} → NL s r → nl? r ≡ r → nl? s ≡ r
nl_complete G.no_nl e = e
nl_complete G.nl e = refl

-- what a reader has to have, that things one after the other, each followed by NL?, are read
record Reads {A : Type 0} (R : List ℕ → A → List ℕ → Type 0) (p : List ℕ → Answer A) : Type 0 where
  complete : (s : List ℕ) (x : A) (r : List ℕ) → R s x r → p s ≡ some (x, r)
  no_nl : (s : List ℕ) (x : A) (r : List ℕ) → R s x r → nl? s ≡ s
  less : Less R

module _ {A : Type 0} (R : List ℕ → A → List ℕ → Type 0) (p : List ℕ → Answer A) (reads : Reads R p) where
  seq_first : {s r : List ℕ} {xs : List A} → Many (ThenNL R) s xs r → nl? r ≡ r → nl? s ≡ s
  seq_first stop e = e
  seq_first (more (G.then x n) t) e = reads.no_nl _ _ _ x

  seq_complete : {s r : List ℕ} {xs : List A} → Many (ThenNL R) s xs r → nl? r ≡ r → p r ≡ none → (n : ℕ) → length s ≤ n → many (then_nl p) n s ≡ (xs, r)
  seq_complete (stop {s}) e f n l = many_stop (then_nl p) n s (rw f)
  seq_complete (more (G.then x k) t) e f zero l = absurd (omega (arith, reads.less _ _ _ x))
  seq_complete (more (G.then {s} {x = y} x k) t) e f (suc n) l =
      many_more (then_nl p) n s (rw (reads.complete _ _ _ x, nl_complete k (seq_first t e)))
      ∙ ap (front y) (seq_complete t e f n (omega (arith, reads.less _ _ _ x, nl_less k)))

-- lists and items

data Opens : List ℕ → Type 0 where
  opened : (m : Mark) (s : List ℕ) → Opens (opens m ++ s)

record After (s r : List ℕ) : Type 0 where
  ends : Ends s
  not_closed : strip (str "</li>") s ≡ none
  rest : nl? s ≡ r

after_line : {s r : List ℕ} → NL s r → Opens r → After s r
unfolding char referred own shown is_control is_space one_run kind text many fits singles first_is
after_line G.no_nl (opened ul s) = record { ends = record { no_char = refl; no_run = refl }; not_closed = refl; rest = refl }
after_line G.no_nl (opened ol s) = record { ends = record { no_char = refl; no_run = refl }; not_closed = refl; rest = refl }
after_line G.nl (opened ul s) = record { ends = record { no_char = refl; no_run = refl }; not_closed = refl; rest = refl }
after_line G.nl (opened ol s) = record { ends = record { no_char = refl; no_run = refl }; not_closed = refl; rest = refl }

-- a closing tag ends a line
closing : (s : List ℕ) → Ends (60 ∷ 47 ∷ s)
unfolding char referred own shown is_control is_space one_run kind text many fits singles first_is
closing s = record { no_char = refl; no_run = refl }

record ReadsLists (L : List ℕ → Mark → Items → List ℕ → Type 0) (read : List ℕ → Answer (Mark × Items)) : Type 0 where
  complete : (s : List ℕ) (m : Mark) (its : Items) (r : List ℕ) → L s m its r → read s ≡ some ((m, its), r)
  begins : (s : List ℕ) (m : Mark) (its : Items) (r : List ℕ) → L s m its r → Opens s
  less : Less (Listed L)

module _ (L : List ℕ → Mark → Items → List ℕ → Type 0) (read : List ℕ → Answer (Mark × Items)) (reads : ReadsLists L read) where
  item_complete : (s : List ℕ) (it : Item) (r : List ℕ) → IsItem L s it r → item read s ≡ some (it, r)
  unfolding item
  item_complete s it r (is_alone l) = rw (line_complete l (closing _))
  item_complete s it r (is_with l n q n') =
      let a = after_line n (reads.begins _ _ _ _ q) in
      rw (line_complete l a.ends, a.not_closed, a.rest, reads.complete _ _ _ _ q, nl_complete n' refl)

  item_first : (s : List ℕ) (it : Item) (r : List ℕ) → IsItem L s it r → nl? s ≡ s
  item_first s it r (is_alone l) = refl
  item_first s it r (is_with l n q n') = refl

  reads_items : Reads (IsItem L) (item read)
  reads_items = record { complete = item_complete; no_nl = item_first; less = item_less L reads.less }

  not_item : (m : Mark) (r : List ℕ) → item read (closes m ++ r) ≡ none
  unfolding item
  not_item ul r = refl
  not_item ol r = refl

closes_first : (m : Mark) (r : List ℕ) → nl? (closes m ++ r) ≡ closes m ++ r
closes_first ul r = refl
closes_first ol r = refl

marked_complete : (m : Mark) (s : List ℕ) → (marked ul (opens m ++ s) <|> marked ol (opens m ++ s)) ≡ some (m, s)
marked_complete ul s = refl
marked_complete ol s = refl

module _ (I : List ℕ → Item → List ℕ → Type 0) (read : List ℕ → Answer Item) (reads : Reads I read) (no_item : (m : Mark) (r : List ℕ) → read (closes m ++ r) ≡ none) where
  list_complete : (s : List ℕ) (m : Mark) (its : Items) (r : List ℕ) → ListOf I s m its r → list_of read s ≡ some ((m, its), r)
  unfolding list_of
  list_complete s _ its r (G.is_list {s = s₀} m n q) =
      let e = closes_first m r in
      let h : length s₀ ≤ length (opens m ++ s₀) = omega (arith, length-append (opens m) s₀) in
      let z = seq_complete I read reads q e (no_item m r) (length (opens m ++ s₀)) (omega (arith, nl_less n)) in
      rw (marked_complete m s₀, nl_complete n (seq_first I read reads q e), z, strip_append (closes m) r)

  list_begins : (s : List ℕ) (m : Mark) (its : Items) (r : List ℕ) → ListOf I s m its r → Opens s
  list_begins s _ its r (G.is_list {s = s₀} m n q) = opened m s₀

  reads_lists : ReadsLists (ListOf I) (list_of read)
  reads_lists = record { complete = list_complete; begins = list_begins; less = list_less I reads.less }

read_list_reads : (d : ℕ) → ReadsLists (IsList d) (read_list d)
unfolding read_list
read_list_reads zero = record { complete = λ s m its r h. absurd h; begins = λ s m its r h. absurd h; less = λ s t r h. absurd h }
read_list_reads (suc d) =
    let i = read_list_reads d in
    reads_lists (IsItem (IsList d)) (item (read_list d)) (reads_items (IsList d) (read_list d) i) (not_item (IsList d) (read_list d) i)

-- blocks

digit_complete : (n : ℕ) (s : List ℕ) → 1 ≤ n → n ≤ 6 → digit ((48 + n) ∷ s) ≡ some (n, s)
digit_complete n s lo hi = grind (arith, nat_tests)

closed_complete : (q : List ℕ) {s r : List ℕ} {l : List Run} → Line s l (q ++ r) → Ends (q ++ r) → closed_by q s ≡ some (l, r)
unfolding closed_by
closed_complete q {s} {r} h e = rw (line_complete h e, strip_append q r)

heading_complete : (n : ℕ) {s r : List ℕ} {l : List Run} → 1 ≤ n → n ≤ 6 → Line s l (closes_h n ++ r) → read_heading (opens_h n ++ s) ≡ some (heading n l, r)
unfolding read_heading headed
heading_complete n {s} lo hi h = rw (digit_complete n (str ">" ++ s) lo hi, closed_complete (closes_h n) h (closing _))

no_heading : (b : ℕ) (s : List ℕ) → eqb 104 b ≡ false → read_heading (60 ∷ b ∷ s) ≡ none
unfolding read_heading
no_heading b s e = rw e

list_block : {s r : List ℕ} {m : Mark} {its : Items} → Opens s → read_list 8 s ≡ some ((m, its), r) → block s ≡ some (list m its, r)
unfolding block read_heading read_para
list_block (opened ul s₀) e = rw e
list_block (opened ol s₀) e = rw e

block_complete : (s : List ℕ) (b : Block) (r : List ℕ) → IsBlock s b r → block s ≡ some (b, r)
unfolding block read_para
block_complete s b r (is_heading {s = s₀} n lo hi h) = alt_left (read_heading (opens_h n ++ s₀)) _ (heading_complete n lo hi h)
block_complete s b r (is_para {s = s₀} h) = alt_right (read_heading (str "<p>" ++ s₀)) _ (no_heading 112 (str ">" ++ s₀) refl) ∙ rw (closed_complete (str "</p>") h (closing _))
block_complete s b r (G.is_list {m = m} {its = its} h) = list_block ((read_list_reads 8).begins s m its r h) ((read_list_reads 8).complete s m its r h)

block_first : (s : List ℕ) (b : Block) (r : List ℕ) → IsBlock s b r → nl? s ≡ s
block_first s b r (is_heading n lo hi h) = refl
block_first s b r (is_para h) = refl
block_first s b r (G.is_list {m = m} {its = its} h) = by s ((read_list_reads 8).begins s m its r h)
  where
    by : (s : List ℕ) → Opens s → nl? s ≡ s
    by s (opened ul s₀) = refl
    by s (opened ol s₀) = refl

reads_blocks : Reads IsBlock block
reads_blocks = record { complete = block_complete; no_nl = block_first; less = block_less }

no_block : block [] ≡ none
unfolding block read_heading read_para read_list list_of
no_block = refl

pub page_complete : {s : List ℕ} {t : List Block} → IsPage s t → read_page s ≡ some t
unfolding read_page
page_complete (G.page {s} n q) =
    rw (nl_complete n (seq_first IsBlock block reads_blocks q refl), seq_complete IsBlock block reads_blocks q refl no_block (length s) (nl_less n))

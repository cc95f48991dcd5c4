-- What a written line starts with, and so what the block reader does not take it for: a heading, a list item, a rule, a row of a table, the
-- continuation of an item.
-- Assumes nothing.
use Rattle.std.proofs.Common.{◌≡◌, refl, sym, ◌∙◌, ap, subst, ℕ, arith, Bool, true, false, ◌||◌, inl, List, [], ◌∷◌, ◌++◌, reverse, eqb}
use Rattle.std.proofs.lemmas.Bool.Decides.{nat_tests}
use mathlib.Core.Bool.{and-false}
use Rattle.std.proofs.Math.Option.{none}
use mathlib.Core.List.{reverse-reverse}
use Rattle.text.specs.Words.{matches, is_empty, all, starts, drop_while, trim_end_matches}
use Rattle.text.specs.Chars.{is_space, is_digit, is_letter}
use Rattle.text.specs.Trim.{trim}
use Rattle.text.proofs.Tests.{false_true}
use Rattle.markdown.specs.Blocks.{is_rule, marker_at, list_marker}
use Rattle.sheet.specs.Tree.{Kind, plain, strong, em, both, code, Run, run}
use Rattle.sheet.specs.Grammar as G
use Rattle.sheet.specs.Grammar.{Many, stop, more, IsRun, is_run, Line, first_is, first_letter}
use Rattle.sheet.specs.Written.{escaped, sign, written_run, written_runs}
use Rattle.sheet.proofs.Facts.{Letter, a_letter, letter_is_not, letter_space, letter_special, letter_digit}
use Rattle.sheet.proofs.Conditions.{neat_of}
use Rattle.sheet.proofs.LineEnd.{space_first, solid_drop, runs_ended}

-- ---- trimming
pub trim_start_is : (s t : List ℕ) → drop_while is_space s ≡ t → space_first (reverse t) ≡ false → trim s ≡ t
unfolding trim_end_matches
trim_start_is s t e f = rw e (ap reverse (solid_drop (reverse t) f) ∙ reverse-reverse t)

pub trim_id : (s : List ℕ) → space_first s ≡ false → space_first (reverse s) ≡ false → trim s ≡ s
trim_id s e f = trim_start_is s s (solid_drop s e) f

-- ---- what a line starts with: a letter, or a mark and what is no space
pub data Front : List ℕ → Type 0 where
  letter_front : {x : ℕ} {w : List ℕ} → Letter x → Front (x ∷ w)
  star_front : {a : ℕ} {w : List ℕ} → eqb a 32 ≡ false → Front (42 ∷ a ∷ w)
  tick_front : {w : List ℕ} → Front (96 ∷ w)

pub front_hash : {s : List ℕ} → Front s → starts "#" s ≡ false
front_hash (letter_front {x} h) = grind (arith, nat_tests)
front_hash (star_front e) = refl
front_hash tick_front = refl

pub front_bar : {s : List ℕ} → Front s → starts "|" s ≡ false
front_bar (letter_front {x} h) = grind (arith, nat_tests)
front_bar (star_front e) = refl
front_bar tick_front = refl

pub front_blank : {s : List ℕ} → Front s → starts " " s ≡ false
front_blank (letter_front {x} h) = grind (arith, nat_tests)
front_blank (star_front e) = refl
front_blank tick_front = refl

pub front_empty : {s : List ℕ} → Front s → is_empty s ≡ false
front_empty (letter_front h) = refl
front_empty (star_front e) = refl
front_empty tick_front = refl

pub front_solid : {s : List ℕ} → Front s → space_first s ≡ false
unfolding is_space
front_solid (letter_front {x} h) = letter_space x h
front_solid (star_front e) = refl
front_solid tick_front = refl

-- ---- no list marker
abbrev pub bulleted : List ℕ → Bool
bulleted s = starts "- " s || starts "* " s || starts "+ " s

front_bullet : {s : List ℕ} → Front s → bulleted s ≡ false
front_bullet (letter_front {x} h) = grind (arith, nat_tests)
front_bullet (star_front e) = rw e
front_bullet tick_front = refl

front_digits : {s : List ℕ} → Front s → drop_while is_digit s ≡ s
unfolding drop_while
front_digits (letter_front {x} h) = rw (letter_digit x h)
front_digits (star_front e) = refl
front_digits tick_front = refl

front_point : {s : List ℕ} → Front s → starts ". " s ≡ false
front_point (letter_front {x} h) = rw (letter_is_not x h 46 (inl (omega arith)))
front_point (star_front e) = refl
front_point tick_front = refl

pub front_marker : (s : List ℕ) → Front s → list_marker s ≡ none
unfolding list_marker marker_at
front_marker s f = rw (solid_drop s (front_solid f), front_bullet f, front_digits f, front_point f)

-- ---- no rule
abbrev pub ruled : ℕ → Bool
ruled c = matches "-*_ |:" c

pub no_rule : (w : List ℕ) → all ruled w ≡ false → is_rule w ≡ false
unfolding is_rule
no_rule w e = simp (e, and-false)

rule_first : (x : ℕ) (s : List ℕ) → Letter x → all ruled (x ∷ s) ≡ false
rule_first x s h = grind (arith, nat_tests)

-- ---- a letter is written as it is
escaped_first : (x : ℕ) (u : List ℕ) → is_letter x ≡ true → escaped (x ∷ u) ≡ x ∷ escaped u
unfolding escaped
escaped_first x u h = rw (letter_special x (a_letter x h))

-- ---- a written line
front_run : (k : Kind) (x : ℕ) (u s : List ℕ) → is_letter x ≡ true → Front (written_run (run k (x ∷ u)) ++ s)
front_run plain x u s h = subst (λ (e : List ℕ). Front ((e ++ []) ++ s)) (sym (escaped_first x u h)) (letter_front (a_letter x h))
front_run strong x u s h = star_front refl
front_run em x u s h =
    subst (λ (e : List ℕ). Front (42 ∷ ((e ++ sign em) ++ s))) (sym (escaped_first x u h))
    (star_front (letter_is_not x (a_letter x h) 32 (inl (omega arith))))
front_run both x u s h = star_front refl
front_run code x u s h = tick_front

-- the letter that follows the stars
rule_run : (k : Kind) (x : ℕ) (u s : List ℕ) → is_letter x ≡ true → all ruled (written_run (run k (x ∷ u)) ++ s) ≡ false
rule_run plain x u s h = rw (escaped_first x u h) (rule_first x ((escaped u ++ []) ++ s) (a_letter x h))
rule_run strong x u s h = rw (escaped_first x u h) (rule_first x ((escaped u ++ sign strong) ++ s) (a_letter x h))
rule_run em x u s h = rw (escaped_first x u h) (rule_first x ((escaped u ++ sign em) ++ s) (a_letter x h))
rule_run both x u s h = rw (escaped_first x u h) (rule_first x ((escaped u ++ sign both) ++ s) (a_letter x h))
rule_run code x u s h = refl

-- what the reader needs of a written line
pub record Good (w : List ℕ) : Type 0 where
  pub front : Front w
  pub unruled : all ruled w ≡ false
  pub last : space_first (reverse w) ≡ false

first_good : (k : Kind) (t s : List ℕ) → first_is is_letter t ≡ true → Front (written_run (run k t) ++ s) × (all ruled (written_run (run k t) ++ s) ≡ false)
unfolding first_is
first_good k [] s f = false_true f
first_good k (x ∷ u) s f = (front_run k x u s f, rule_run k x u s f)

runs_good : {s r : List ℕ} {rs : List Run} → Many IsRun s rs r → first_letter rs ≡ true → Front (written_runs rs) × (all ruled (written_runs rs) ≡ false)
unfolding first_letter written_runs
runs_good stop f = false_true f
runs_good (more {xs = rs} (is_run {t = t} k T g) ms) f = first_good k t (written_runs rs) f

pub good_of : {s r : List ℕ} {rs : List Run} → Line s rs r → Good (written_runs rs)
good_of {rs = rs} (G.line m f) =
    let n = neat_of rs f in
    let g = runs_good m n.first in
    record { front = g.0; unruled = g.1; last = (runs_ended m n.last []).solid }

-- ---- what follows does not change how it starts
pub first_append : (x y : List ℕ) → is_empty x ≡ false → space_first (x ++ y) ≡ space_first x
first_append [] y e = false_true (sym e)
first_append (a ∷ x) y e = refl

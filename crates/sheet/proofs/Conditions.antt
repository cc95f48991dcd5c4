-- What the grammar's conditions say, part by part: of a character that stands for itself, of a run's text, of the runs of a line.
-- Assumes nothing.
use Rattle.std.proofs.Common.{◌≡◌, refl, ℕ, true, false, not, List, [], ◌∷◌, eqb}
use Rattle.std.proofs.Common.{arith}
use Rattle.std.proofs.lemmas.Bool.Decides.{nat_tests}
use Rattle.text.specs.Words.{is_empty}
use Rattle.text.specs.Chars.{is_space}
use Rattle.text.proofs.Tests.{false_true}
use Rattle.html.specs.State.{special}
use Rattle.sheet.specs.Tree.{Kind, plain, strong, em, both, code, Run, run}
use Rattle.sheet.specs.Grammar.{shown, none_of, singles, first_is, last_is, no_blank, fits, apart, first_letter, last_no_blank, neat}

-- ---- a character that stands for itself
pub record Shown (c : ℕ) : Type 0 where
  pub no_space : not (is_space c) ≡ true
  pub no_tag : not (eqb c 60) ≡ true
  pub no_reference : not (eqb c 38) ≡ true

pub a_shown : (c : ℕ) → shown c ≡ true → Shown c
unfolding shown
a_shown c h = grind (arith, nat_tests)

-- ---- a run's text
pub filled : {A : Type 0} (k : Kind) → fits k [] ≡ true → A
unfolding fits singles first_is
filled plain e = false_true e
filled strong e = false_true e
filled em e = false_true e
filled both e = false_true e
filled code e = false_true e

pub filled_text : (k : Kind) (t : List ℕ) → fits k t ≡ true → is_empty t ≡ false
filled_text k [] e = filled k e
filled_text k (a ∷ t) e = refl

pub code_text : (t : List ℕ) → fits code t ≡ true → none_of special t ≡ true
unfolding fits
code_text t f = grind (arith, nat_tests)

-- a run in tags, and how its text ends
abbrev pub InTags : Kind → Type 0
InTags plain = ⊥
InTags strong = Unit
InTags em = Unit
InTags both = Unit
InTags code = Unit

pub ends_of : (k : Kind) (t : List ℕ) → InTags k → fits k t ≡ true → last_is no_blank t ≡ true
unfolding fits
ends_of plain t n f = absurd n
ends_of strong t n f = grind (arith, nat_tests)
ends_of em t n f = grind (arith, nat_tests)
ends_of both t n f = grind (arith, nat_tests)
ends_of code t n f = grind (arith, nat_tests)

-- ---- the runs of a line
pub record Neat (rs : List Run) : Type 0 where
  pub parted : apart rs ≡ true
  pub first : first_letter rs ≡ true
  pub last : last_no_blank rs ≡ true

pub neat_of : (rs : List Run) → neat rs ≡ true → Neat rs
unfolding neat
neat_of rs f = grind (arith, nat_tests)

pub apart_rest : (x : Run) (rs : List Run) → apart (x ∷ rs) ≡ true → apart rs ≡ true
unfolding apart
apart_rest (run k t) [] a = refl
apart_rest (run k t) (run l u ∷ rs) a = grind (arith, nat_tests)

-- What the answers of the code say of the reader's: the code reads bytes, the reader characters.
-- Assumes nothing.
use Rattle.std.specs.Prelude.{ℕ, ◌≡◌, List, Some, None, MatchOption}
use Rattle.std.specs.Prelude.{Option as Maybe}
use Rattle.std.proofs.Common.{Bor}
use Rattle.std.proofs.Math.Option.{none, some}
use Rattle.text.specs.Words.{◌>>=◌}
use Rattle.text.specs.Utf8.{chars}
use Rattle.sheet.specs.Reading.{strip}
use Rattle.sheet.specs.declared.count.Count.{Count}
use Rattle.sheet.specs.declared.reading.Read.{Read}
use Rattle.sheet.specs.Reader.{Answer}
use Rattle.sheet.specs.Weight.{weight}

-- what the code read where the reader read x: values that R relates, and the same characters left
pub record Same {A B : Type 0} (R : A → B → Type 0) (x : A × List ℕ) (r : Read B) : Type 0 where
  pub value : R x.0 r.value
  pub rest : x.1 ≡ chars r.rest.now

-- the code has an answer where the reader has one, and it is the same
abbrev pub Says : {A B : Type 0} → (A → B → Type 0) → Answer A → Maybe (Read B) → Type 0
Says R none None = Unit {0}
Says R none (Some r) = ⊥
Says R (some x) None = ⊥
Says R (some x) (Some r) = Same R x r

-- a tag taken off the front of the bytes s
abbrev pub Strips : List ℕ → List ℕ → Maybe (Bor (List ℕ)) → Type 0
Strips tag s r = MatchOption r (strip tag (chars s) ≡ none) (λ rest. strip tag (chars s) ≡ some (chars rest.now))

-- a tag, and a value that stands for it
abbrev pub valued : {A : Type 0} → List ℕ → A → List ℕ → Answer A
valued tag x s = strip tag s >>= λ r. some (x, r)

-- the counts of a written form
abbrev pub Weighs : {A : Type 0} → (A → List ℕ) → A → Count → Type 0
Weighs form x w = w ≡ weight (form x)

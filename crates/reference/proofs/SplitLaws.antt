-- The first place of a character in a text: what stands before it and what after.
-- Assumes nothing.
use Prim.Native.Nat.{ℕ, ◌<◌}
use mathlib.Core.Bool.{true, false}
use mathlib.Core.List.{List, [], ◌∷◌, ◌++◌}
use mathlib.Core.Logic.{◌⊎◌, inl, inr}
use mathlib.Core.Option.{none, some}
use mathlib.Core.Path.{◌≡◌, refl, sym, ap, ◌∙◌, subst}
use borrow.Author.Tests.{eqb-true, eq-eqb}
use lib.Dec.{eqb}
use lib.ListN.{length}
use Rattle.text.specs.Words.{index}
use Rattle.text.specs.Utf8.{chars}
use Rattle.text.proofs.Tests.{decide, on, within_below}
use Rattle.text.proofs.Laws.{chars_append}
use Rattle.text.proofs.AsciiLaws.{chars_ascii}
use Rattle.text.proofs.FindLaws.{chars_until}
use Rattle.text.specs.Find.{until}

-- b is not in the text
abbrev pub Without : ℕ → List ℕ → Type 0
Without b [] = Unit
Without b (x ∷ xs) = (eqb x b ≡ false) × Without b xs

pub data First (b : ℕ) (s : List ℕ) : Type 0 where
  missing : Without b s → First b s
  here : (u v : List ℕ) → Without b u → s ≡ u ++ b ∷ v → First b s

pub first : (b : ℕ) (s : List ℕ) → First b s
first b [] = missing tt
first b (x ∷ s) = go (first b s) (decide (eqb x b))
  where
    go : First b s → (eqb x b ≡ true) ⊎ (eqb x b ≡ false) → First b (x ∷ s)
    go f (inl e) = here [] s tt (ap (λ (y : ℕ). y ∷ s) (eqb-true x b e))
    go (missing w) (inr e) = missing (e, w)
    go (here u v w q) (inr e) = here (x ∷ u) v (e, w) (ap (λ (l : List ℕ). x ∷ l) q)

-- ---- where a search finds it
pub index_missing : (b : ℕ) (s : List ℕ) → Without b s → index (b ∷ []) s ≡ none
unfolding index
index_missing b [] w = refl
index_missing b (x ∷ s) w = rw (w.0, index_missing b s w.1)

pub index_here : (b : ℕ) (u v : List ℕ) → Without b u → index (b ∷ []) (u ++ b ∷ v) ≡ some (length u)
unfolding index
index_here b [] v w = rw (eq-eqb b b refl)
index_here b (x ∷ u) v w = rw (w.0, index_here b u v w.1)

-- ---- the same in the characters of bytes, where b is ASCII
until_all : (b : ℕ) (s : List ℕ) → Without b s → until b s ≡ s
until_all b [] w = refl
until_all b (x ∷ s) w = rw w.0 (ap (λ (l : List ℕ). x ∷ l) (until_all b s w.1))

without_until : (b : ℕ) (s : List ℕ) → Without b (until b s)
without_until b [] = tt
without_until b (x ∷ s) = on (Without b) (eqb x b) (λ _. tt) (λ e. (e, without_until b s))

module _ (b : ℕ) (low : b < 0x80) where
  pub chars_without : (s : List ℕ) → Without b s → Without b (chars s)
  chars_without s w =
      subst (Without b) (sym (chars_until b low s) ∙ ap chars (until_all b s w)) (without_until b (chars s))

  pub chars_here : (u v : List ℕ) → chars (u ++ b ∷ v) ≡ chars u ++ b ∷ chars v
  chars_here u v =
      chars_append u (b ∷ v) (within_below 0x80 0xBF b low) ∙ ap (λ (l : List ℕ). chars u ++ l) (chars_ascii b v low)

-- The words of document 02's U11, no character invented. Characters of a line "in their order, some perhaps left out" are a `Sublist` of it,
-- which is mathlib's; joined texts are `joined` of records.
-- Assumes nothing.
use Rattle.std.specs.Prelude.{Bool, true, false, List, [], ◌∷◌, ◌≡◌}
use Rattle.records.specs.Blocks.{Span}
use Rattle.spans.specs.Spans.{Step, made, label}

-- unless it is code, the span has text
abbrev pub HasText : Span → Type 0
HasText s = s.code ≡ false → s.text ≡ [] → ⊥

-- each of a list
abbrev pub Every : {A : Type 0} → (A → Type 0) → List A → Type 0
Every P [] = Unit {0}
Every P (x ∷ xs) = P x × Every P xs

-- the turn yields a label
abbrev pub yields_label : Step → Bool
yields_label (made out w n) = false
yields_label (label close n) = true

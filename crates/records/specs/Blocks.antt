-- What notes.rs reads from Markdown: `Span` and `Block`. Texts are characters.
-- Assumes nothing.
use Rattle.std.specs.Prelude.{ℕ, Bool, List, [], ◌∷◌, ◌++◌}

-- one piece of a line with its emphasis
pub record Span : Type 0 where
  pub text : List ℕ
  pub bold : Bool
  pub italic : Bool
  pub code : Bool

-- the joined text of spans: their texts one after the other, with nothing between
abbrev pub joined : List Span → List ℕ
joined [] = []
joined (s ∷ ss) = s.text ++ joined ss

-- a heading has a level; an item a depth and a marker
pub data Kind : Type 0 where
  heading : ℕ → Kind
  paragraph : Kind
  item : ℕ → List ℕ → Kind

pub record Block : Type 0 where
  pub kind : Kind
  pub spans : List Span

abbrev pub Heading : ℕ → List Span → Block
Heading level ss = record { kind = heading level; spans = ss }

abbrev pub Paragraph : List Span → Block
Paragraph ss = record { kind = paragraph; spans = ss }

abbrev pub Item : ℕ → List ℕ → List Span → Block
Item depth marker ss = record { kind = item depth marker; spans = ss }

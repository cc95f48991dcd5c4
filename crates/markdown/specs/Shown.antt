-- What the blocks of a Markdown text show of it: document 02's U11 for a whole reading. `marked` says whether the items' markers are among
-- what is shown.
-- Assumes nothing.
use Rattle.std.specs.Prelude.{ℕ, Bool, true, false, ◌&&◌, if◌then◌else◌}
use Prim.Native.String.{String}
use mathlib.Core.List.{List, [], ◌∷◌, ◌++◌, Sublist}
use Rattle.text.specs.Words.{str, is, matches}
use Rattle.records.specs.Blocks.{Kind, heading, paragraph, item, Block, joined}

-- the texts of the blocks one after the other, an item's with its marker before it
abbrev pub marker : Kind → Bool → List ℕ
marker (heading level) marked = []
marker paragraph marked = []
marker (item depth text) true = text
marker (item depth text) false = []

abbrev pub shown : Bool → List Block → List ℕ
shown marked [] = []
shown marked (b ∷ bs) = marker b.kind marked ++ joined b.spans ++ shown marked bs

-- what the reader itself writes in place of a character: a space for the end of a line, ` · ` for a bar, the bullet for the sign of an item
unfoldable pub instead : Bool → ℕ → List ℕ
instead marked c =
    if is "\n" c then str " "
    else if is "|" c then str " · "
    else if marked && matches "-*+" c then str "•"
    else c ∷ []

-- a text, and the same with that written in place of some of its characters
pub data Rewritten (marked : Bool) : List ℕ → List ℕ → Type 0 where
  ends : Rewritten marked [] []
  stays : {c : ℕ} {s t : List ℕ} → Rewritten marked s t → Rewritten marked (c ∷ s) (c ∷ t)
  rewrites : {c : ℕ} {s t : List ℕ} → Rewritten marked s t → Rewritten marked (c ∷ s) (instead marked c ++ t)

-- what is seen are characters of a text in their order, some perhaps left out, once the reader has written its own in place of some
pub record Shows (marked : Bool) (seen text : List ℕ) : Type 0 where
  pub written : List ℕ
  pub rewritten : Rewritten marked text written
  pub from : Sublist seen written

-- a text without the characters of a literal
unfoldable pub without : String → List ℕ → List ℕ
without p [] = []
without p (c ∷ s) = let rest = without p s in if matches p c then rest else c ∷ rest

-- A tag's name, and what it says to the code: `tag_means` gives the tag of notes.rs, and `script` and `style` are skipped.
-- Assumes nothing.
use Rattle.std.specs.Prelude.{ℕ, ◌+◌, ◌-◌, ◌*◌, List, [], ◌∷◌, map, leb, length, Option, Some, None, if◌then◌else◌}
use Prim.Native.String.{String}
use Rattle.text.specs.Words.{case, str, same, lookup}
use Rattle.text.specs.Chars.{is_alphanumeric, to_lower}
use Rattle.html.specs.State.{tags, heading, marked, para, pre, br, ul, ol, li, tr, cell, code, other}
use Rattle.html.specs.State as state
use Rattle.html.specs.declared.ListKind.TheVariants.{Unordered, Ordered}
use Rattle.html.specs.declared.Skipped.TheVariants.{Script, Style}
use Rattle.html.specs.declared.Tag.{Tag}
use Rattle.html.specs.declared.Tag.TheVariants.{List as Lists, Skipped, Writes}
use Rattle.html.specs.declared.Step.TheVariants.{Heading, Block, Pre, Break, Item, Row, Cell, Strong, Emphasis, Code, Other}

-- one byte of a name, and none for a byte that ends it
unfoldable pub folded : ℕ → Option ℕ
folded b = if is_alphanumeric b then Some (to_lower b) else None

-- a name as one number: its bytes less 47 are digits in base 76, here after those of k. Ten digits stay below 2 ^ 64; a longer name has none
abbrev pub digits : ℕ → List ℕ → ℕ
digits k [] = k
digits k (b ∷ n) = digits (k * 76 + (b - 47)) n

unfoldable pub key : List ℕ → Option ℕ
key n = if leb (length n) 10 then Some (digits 0 n) else None

abbrev pub Rows : Type 0
Rows = List (String × Tag)

-- what a table says of a name
unfoldable pub find : Rows → List ℕ → Tag
find rows n = case (lookup rows n) (Writes Other) (λ t. t)

-- a tag of notes.rs as the code has it
abbrev pub code_of : state.Tag → Tag
code_of (heading n) = Writes (Heading n)
code_of (marked m) = Writes (if same (str "**") (str m) then Strong else Emphasis)
code_of para = Writes Block
code_of pre = Writes Pre
code_of br = Writes Break
code_of ul = Lists Unordered
code_of ol = Lists Ordered
code_of li = Writes Item
code_of tr = Writes Row
code_of cell = Writes Cell
code_of code = Writes Code
code_of other = Writes Other

unfoldable pub writing : Rows
writing = map (λ (r : String × state.Tag). (r.0, code_of r.1)) tags

unfoldable pub table : Rows
table = ("script", Skipped Script) ∷ ("style", Skipped Style) ∷ writing

unfoldable pub says : List ℕ → Tag
says n = find table n

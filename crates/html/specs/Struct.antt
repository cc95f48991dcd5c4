-- What the code's values stand for: the struct `Converter` and the lent output for a state, the enums `Skipped`, `ListKind`, `Step` and `Tag` for
-- the names of notes.rs, and what a tag and a turn answer.
-- Assumes nothing.
use Rattle.std.specs.Prelude.{ℕ, zero, suc, ◌+◌, ◌^◌, ◌≤◌, ◌<◌, leb, Bool, false, length, get_or, drop, Result, Ok, Err, if◌then◌else◌}
use Rattle.std.specs.Prelude as code
use mathlib.Core.List.{List, [], ◌∷◌, ◌++◌, reverse, reverse_aux, tail}
use Rattle.std.proofs.Math.Option.{Option, none, some}
use Rattle.text.specs.Words.{str, is, drop_while}
use Rattle.text.specs.Utf8.{chars}
use Rattle.html.specs.State.{State, with_out, list_changed, heading, marked, para, pre, br, ul, ol, li, tr, cell, code, other}
use Rattle.html.specs.State as state
use Rattle.html.specs.Page.{Turn, read, refused}
use Rattle.html.specs.declared.Skipped.{Skipped as SkippedTag}
use Rattle.html.specs.declared.Skipped.TheVariants.{Script, Style}
use Rattle.html.specs.declared.converter.Converter.{Converter}
use Rattle.html.specs.declared.ListKind.{ListKind}
use Rattle.html.specs.declared.ListKind.TheVariants.{Unordered, Ordered}
use Rattle.html.specs.declared.TooManyLists.{TooManyLists}
use Rattle.html.specs.declared.Turned.{Turned}
use Rattle.html.specs.declared.Tag.{Tag}
use Rattle.html.specs.declared.Tag.TheVariants.{List as Lists, Skipped, Writes}
use Rattle.html.specs.declared.Step.{Step}
use Rattle.html.specs.declared.Step.TheVariants.{Heading, Block, Pre, Break, Item, Row, Cell, Strong, Emphasis, Code, Other}

-- the first n bytes of a buffer
abbrev pub written : ℕ → List ℕ → List ℕ
written zero w = []
written (suc n) w = written n w ++ (get_or w n 0 ∷ [])

-- the characters of bytes, last first
unfoldable pub last_first : List ℕ → List ℕ
last_first s = reverse (chars s)

-- those of the written bytes
unfoldable pub out_of : ℕ → List ℕ → List ℕ
out_of n w = reverse (chars (written n w))

-- the first n of an array, last first: the numbers of the open lists
abbrev pub upto : ℕ → List ℕ → List ℕ
upto zero l = []
upto (suc n) l = get_or l n 0 ∷ upto n l

abbrev pub lists_of : Converter → List ℕ
lists_of c = upto c.depth c.lists

-- the number of the innermost list's next item: 0 for `ul`, and where no list is open
unfoldable pub number : List ℕ → ℕ
number [] = 0
number (n ∷ l) = n

abbrev pub skipped_name : SkippedTag → List ℕ
skipped_name Script = str "script"
skipped_name Style = str "style"

abbrev pub skip_name : code.Option SkippedTag → Option (List ℕ)
skip_name code.None = none
skip_name (code.Some k) = some (skipped_name k)

-- the state that a struct and the lent output hold
unfoldable pub state_of : Converter → List ℕ → State
state_of c w = record { out = out_of c.len w; lists = lists_of c; pre = c.pre; skip = skip_name c.skip; space = c.space }

-- no pending space, and no spaces at the output's end
unfoldable pub unspaced : State → State
unspaced c = with_out (drop_while (is " ") c.out) false c

-- a pending space, written
abbrev pub with_space : Bool → List ℕ → List ℕ
with_space space o = if space then 32 ∷ o else o

-- how many bytes it takes
abbrev pub pending : Bool → ℕ
pending space = if space then 1 else 0

-- text that ends a pending space
unfoldable pub ended : List ℕ → State → State
ended s c = with_out (reverse_aux s c.out) false c

-- the number that a list starts with
abbrev pub first_number : ListKind → ℕ
first_number Unordered = 0
first_number Ordered = 1

-- `ul` and `ol`, by that number
unfoldable pub list_tag : ℕ → Bool → State → Option State
list_tag first closing c =
    if closing then some (list_changed (tail c.lists) c)
    else if leb 64 (length c.lists) then none
    else some (list_changed (first ∷ c.lists) c)

-- the tags that only write, and all tags
abbrev pub step_means : Step → state.Tag
step_means (Heading n) = heading n
step_means Block = para
step_means Pre = pre
step_means Break = br
step_means Item = li
step_means Row = tr
step_means Cell = cell
step_means Strong = marked "**"
step_means Emphasis = marked "*"
step_means Code = code
step_means Other = other

abbrev pub tag_means : Tag → state.Tag
tag_means (Lists Unordered) = ul
tag_means (Lists Ordered) = ol
tag_means (Skipped k) = other
tag_means (Writes t) = step_means t

-- what a tag step answers: none is the refusal
abbrev pub tagged : Result Converter TooManyLists → List ℕ → Option State
tagged (Ok c) w = some (state_of c w)
tagged (Err e) w = none

-- what a turn leaves: the characters that are left, and the state; none is the refusal
abbrev pub left : List ℕ → Turn → Option (List ℕ × State)
left s refused = none
left s (read n d) = some (drop n s, d)

abbrev pub turned : Result Turned TooManyLists → List ℕ → Option (List ℕ × State)
turned (Ok t) w = some (chars t.rest.now, state_of t.state w)
turned (Err e) w = none

-- what each tag needs: 149 bytes of the output for what it writes, and a number for the item after the next
pub record TagRoom (c : Converter) (w : List ℕ) : Type 0 where
  pub len : c.len + 149 ≤ length w
  pub number : number (lists_of c) + 1 < 2 ^ 16

-- The state of `Converter` in notes.rs as values, and what each of its methods makes of it (document 01, "Converter").
-- Assumes nothing.
use Rattle.std.specs.Prelude.{ℕ, zero, suc, min, Bool, true, false, ◌&&◌, ◌||◌, not, length, if◌then◌else◌}
use Prim.Native.String.{String}
use mathlib.Core.List.{List, [], ◌∷◌, ◌++◌, reverse_aux, tail}
use Rattle.std.proofs.Math.Option.{Option, none}
use Rattle.text.specs.Words.{case, str, repeat, is, matches, is_empty, lookup, starts, drop_while}
use Rattle.text.specs.Chars.{is_space, is_digit}
use Rattle.text.specs.Decimal.{decimal}
use Rattle.reference.specs.Unescape.{unescape}

-- `out` has its last character first, so that what it ends with is its front. A list open is its next number, or 0 for `ul`; the innermost
-- comes first. `skip` is the name of the tag whose content is skipped.
pub record State : Type 0 where
  pub out : List ℕ
  pub lists : List ℕ
  pub pre : Bool
  pub skip : Option (List ℕ)
  pub space : Bool

abbrev pub new : State
new = record { out = []; lists = []; pre = false; skip = none; space = false }

abbrev pub with_out : List ℕ → Bool → State → State
with_out o b c = record { out = o; lists = c.lists; pre = c.pre; skip = c.skip; space = b }

abbrev pub with_lists : List ℕ → State → State
with_lists l c = record { out = c.out; lists = l; pre = c.pre; skip = c.skip; space = c.space }

abbrev pub with_pre : Bool → State → State
with_pre b c = record { out = c.out; lists = c.lists; pre = b; skip = c.skip; space = c.space }

abbrev pub with_skip : Option (List ℕ) → State → State
with_skip w c = record { out = c.out; lists = c.lists; pre = c.pre; skip = w; space = c.space }

abbrev pub push_str : List ℕ → State → State
push_str s c = with_out (reverse_aux s c.out) c.space c

unfoldable pub line_start : List ℕ → Bool
line_start out = is_empty out || starts "\n" out

unfoldable pub block : State → State
block c =
    let out = drop_while (is " ") c.out in
    if is_empty out || starts "\n\n" out then with_out out false c
    else if starts "\n" out then with_out (str "\n" ++ out) false c
    else with_out (str "\n\n" ++ out) false c

unfoldable pub newline : State → State
newline c =
    let out = drop_while (is " ") c.out in
    if line_start out then with_out out false c else with_out (str "\n" ++ out) false c

-- the pending space, written out
unfoldable pub spaced : State → State
spaced c = if c.space then with_out (str " " ++ c.out) false c else c

unfoldable pub marks : List ℕ → Bool → State → State
marks m closing c = push_str m (if closing then c else spaced c)

-- Escaped is what the Markdown reader would take for emphasis, headings or lists; `first`: nothing of this text has been written yet
unfoldable pub special : ℕ → Bool
special x = matches "\\*`[!" x

unfoldable pub opens : ℕ → Bool
opens x = matches "#-+>|" x

unfoldable pub ends_with_digit : List ℕ → Bool
ends_with_digit [] = false
ends_with_digit (d ∷ out) = is_digit d

unfoldable pub escape : Bool → ℕ → List ℕ → Bool
escape first x out = special x || line_start out && opens x || first && ends_with_digit out && is "." x

unfoldable pub put : Bool → ℕ → State → State
put first x c = push_str (if escape first x c.out && not c.pre then str "\\" ++ (x ∷ []) else x ∷ []) c

-- a space outside `pre`
unfoldable pub blank : Bool → ℕ → Bool
blank pre x = not pre && is_space x

-- a space is pending, unless nothing is on the line yet
unfoldable pub paused : State → State
paused c = with_out c.out (not (line_start c.out)) c

-- `text`, one character: whether nothing has been written yet, and the state
unfoldable pub next : Bool → ℕ → State → Bool × State
next first x c = if blank c.pre x then (first, paused c) else (false, put first x (spaced c))

unfoldable pub put_all : Bool → List ℕ → State → State
put_all first [] c = c
put_all first (x ∷ s) c = let n = next first x c in put_all n.0 s n.1

unfoldable pub text : List ℕ → State → State
text raw c = put_all true (unescape 0 raw) c

-- `tag`: the names that it knows, and what each does
pub data Tag : Type 0 where
  heading : ℕ → Tag
  marked : String → Tag
  para pre br ul ol li tr cell code other : Tag

unfoldable pub tags : List (String × Tag)
tags =
    ("h1", heading 1) ∷ ("h2", heading 2) ∷ ("h3", heading 3) ∷ ("h4", heading 4) ∷ ("h5", heading 5) ∷ ("h6", heading 6)
    ∷ ("p", para)
    ∷ ("div", para)
    ∷ ("blockquote", para)
    ∷ ("table", para)
    ∷ ("hr", para)
    ∷ ("pre", pre)
    ∷ ("br", br)
    ∷ ("ul", ul)
    ∷ ("ol", ol)
    ∷ ("li", li)
    ∷ ("tr", tr)
    ∷ ("td", cell)
    ∷ ("th", cell)
    ∷ ("strong", marked "**")
    ∷ ("b", marked "**")
    ∷ ("em", marked "*")
    ∷ ("i", marked "*")
    ∷ ("code", code)
    ∷ []

unfoldable pub tag_of : List ℕ → Tag
tag_of name = case (lookup tags name) other (λ t. t)

unfoldable pub list_changed : List ℕ → State → State
list_changed l c = let d = newline (with_lists l c) in if is_empty l then block d else d

unfoldable pub item : List ℕ → State → State
item [] c = push_str (str "- ") c
item (zero ∷ l) c = push_str (repeat (length l) "  " ++ str "- ") c
item (suc n ∷ l) c =
    with_lists (suc (suc n) ∷ l) (push_str (repeat (length l) "  " ++ decimal (suc n) ++ str ". ") c)

unfoldable pub tag : Tag → Bool → State → State
tag (heading n) false c = push_str (repeat (min n 3) "#" ++ str " ") (block c)
tag (heading n) true c = block c
tag para closing c = block c
tag pre closing c = with_pre (not closing) (block c)
tag br false c = with_out (str "\n" ++ c.out) false c
tag br true c = c
tag ul false c = list_changed (0 ∷ c.lists) c
tag ul true c = list_changed (tail c.lists) c
tag ol false c = list_changed (1 ∷ c.lists) c
tag ol true c = list_changed (tail c.lists) c
tag li false c = item c.lists (newline c)
tag li true c = c
tag tr false c = c
tag tr true c = newline c
tag cell false c = c
tag cell true c = with_out (reverse_aux (str " | ") c.out) false c
tag (marked m) closing c = marks (str m) closing c
tag code closing c = if c.pre then c else marks (str "`") closing c
tag other closing c = c

-- `html_to_markdown` of notes.rs: the loop over a page's text, comments and tags, and the cuts (document 01, "Converter").
-- Assumes nothing.
use Rattle.std.specs.Prelude.{ℕ, zero, suc, ◌+◌, ◌-◌, Bool, true, false, ◌&&◌, ◌||◌, not, List, [], ◌∷◌, map, reverse, length, take, drop, ltb, leb, if◌then◌else◌}
use Rattle.std.proofs.Math.Option.{Option, none, some}
use Rattle.text.specs.Words.{◌>>=◌, case, str, same, starts, find, take_while}
use Rattle.text.specs.Chars.{is_alphanumeric, to_lower}
use Rattle.text.specs.Utf8.{size}
use Rattle.text.specs.Trim.{trim}
use Rattle.text.specs.Cut.{cut}
use Rattle.html.specs.State.{State, new, with_skip, text, Tag, heading, marked, para, pre, br, ul, ol, li, tr, cell, code, other, tag_of, tag}

abbrev pub is_list : Tag → Bool
is_list (heading n) = false
is_list (marked m) = false
is_list para = false
is_list pre = false
is_list br = false
is_list ul = true
is_list ol = true
is_list li = false
is_list tr = false
is_list cell = false
is_list code = false
is_list other = false

-- a tag; none (number 4) where it opens a list and 64 are open already
unfoldable pub listed : Tag → Bool → State → Option State
listed t closing c = if is_list t && not closing && leb 64 (length c.lists) then none else some (tag t closing c)

-- a tag by its name, outside `script` and `style`, and inside one of them
unfoldable pub shown : Bool → List ℕ → State → Option State
shown closing name c =
    if not closing && (same (str "script") name || same (str "style") name) then some (with_skip (some name) c)
    else listed (tag_of name) closing c

unfoldable pub skipped : Bool → List ℕ → List ℕ → State → Option State
skipped closing name skipping c = some (if closing && same skipping name then with_skip none c else c)

unfoldable pub element : Bool → List ℕ → State → Option State
element closing name c = case c.skip (shown closing name c) (λ skipping. skipped closing name skipping c)

-- the longest ASCII alphanumeric front part, in lower case
abbrev pub name_of : List ℕ → List ℕ
name_of s = map to_lower (take_while is_alphanumeric s)

-- what stands between `<` and `>`, trimmed
unfoldable pub inside : List ℕ → State → Option State
inside inner c =
    let closing = starts "/" inner in
    let rest = if closing then drop 1 inner else inner in
    element closing (name_of rest) c

-- text is dropped inside `script` and `style`
unfoldable pub words : List ℕ → State → State
words raw c = case c.skip (text raw c) (λ skipping. c)

-- One turn of the loop: the characters that it read, all of them for `break`, and the state after it; or number 4
pub data Turn : Type 0 where
  read : ℕ → State → Turn
  refused : Turn

abbrev pub tag_read : ℕ → Option State → Turn
tag_read n none = refused
tag_read n (some d) = read n d

-- what starts with `<`, after `at` characters of text
unfoldable pub comment : ℕ → List ℕ → State → Turn
comment at rest c = case (find "-->" (drop 4 rest)) (read (at + length rest) c) (λ end. read (at + 4 + end + 3) c)

unfoldable pub a_tag : ℕ → List ℕ → State → Turn
a_tag at rest c =
    case (find ">" rest) (read (at + length rest) c)
    (λ end. tag_read (at + end + 1) (inside (trim (drop 1 (take end rest))) c))

unfoldable pub markup : ℕ → List ℕ → State → Turn
markup at rest c = if starts "<!--" rest then comment at rest c else a_tag at rest c

unfoldable pub turn : List ℕ → State → Turn
turn rest c =
    case (find "<" rest) (read (length rest) (words rest c)) (λ at. markup at (drop at rest) (words (take at rest) c))

abbrev pub on_turn : Turn → (ℕ → State → Option State) → Option State
on_turn refused f = none
on_turn (read n d) f = f n d

-- the first n characters of the list are read already
unfoldable pub loop : ℕ → List ℕ → State → Option State
loop n [] c = some c
loop (suc n) (x ∷ s) c = loop n s c
loop zero (x ∷ s) c =
    let more = on_turn (turn (x ∷ s) c) (λ n d. loop (n - 1) s d) in
    if ltb (size c.out) 16000 then more else some c

unfoldable pub finish : State → List ℕ
finish c = take 8000 (trim (reverse c.out))

-- what is read of a page
abbrev pub read_part : List ℕ → List ℕ
read_part html = cut 1048576 html

-- none: number 4
unfoldable pub html_to_markdown : List ℕ → Option (List ℕ)
html_to_markdown html = loop 0 (read_part html) new >>= λ c. some (finish c)

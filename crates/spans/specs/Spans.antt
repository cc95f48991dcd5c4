-- `spans` of notes.rs: a line's bold, italic and code, links shown as their label, images dropped (document 01, "Block reader").
-- Assumes nothing.
use Rattle.std.specs.Prelude.{ℕ, zero, suc, ◌+◌, Bool, true, false, not, ◌&&◌, ◌||◌, List, [], ◌∷◌, ◌++◌, map, reverse, length, take, drop, get_or, if◌then◌else◌}
use Rattle.std.proofs.Math.Option.{Option, some}
use Rattle.text.specs.Words.{◌>>=◌, ensure, case, is, is_empty, starts, find}
use Rattle.records.specs.Blocks.{Span}

-- where the walk stands: the emphasis, and the text that is in no span yet, last character first
pub record Walk : Type 0 where
  pub bold : Bool
  pub italic : Bool
  pub text : List ℕ

abbrev pub at : Bool → Bool → List ℕ → Walk
at b i t = record { bold = b; italic = i; text = t }

abbrev pub push : ℕ → Walk → Walk
push c w = at w.bold w.italic (c ∷ w.text)

abbrev pub cleared : Walk → Walk
cleared w = at w.bold w.italic []

abbrev pub span : Bool → Walk → List ℕ → Span
span code w t = record { text = t; bold = w.bold; italic = w.italic; code = code }

unfoldable pub flush : Walk → List Span
flush w = if is_empty w.text then [] else span false w (reverse w.text) ∷ []

-- `[label](target)` after its first bracket: where the label and the target end
unfoldable pub link : List ℕ → Option (ℕ × ℕ)
link s =
    find "]" s >>= λ close.
    ensure (starts "(" (drop (close + 1) s)) >>= λ _.
    find ")" (drop (close + 2) s) >>= λ end.
    some (close, close + 2 + end)

-- One turn of the loop, at c with s after it: the spans made, the state, and how many characters of s were read; or a link whose label
-- has so many characters
pub data Step : Type 0 where
  made : List Span → Walk → ℕ → Step
  label : ℕ → ℕ → Step

-- c is text like any other
abbrev pub kept : Walk → ℕ → Step
kept w c = made [] (push c w) 0

unfoldable pub code_step : Walk → ℕ → List ℕ → Step
code_step w c s =
    case (find "`" s) (kept w c) (λ end. made (flush w ++ (span true w (take end s) ∷ [])) (cleared w) (end + 1))

unfoldable pub star_step : Walk → List ℕ → Step
star_step w s =
    if starts "*" s then made (flush w) (at (not w.bold) w.italic []) 1
    else made (flush w) (at w.bold (not w.italic) []) 0

unfoldable pub link_step : Walk → ℕ → List ℕ → Step
link_step w c s = case (link s) (kept w c) (λ l. label l.0 (l.1 + 1))

unfoldable pub image_step : Walk → ℕ → List ℕ → Step
image_step w c s = case (link (drop 1 s)) (kept w c) (λ l. made [] w (l.1 + 2))

unfoldable pub step : Walk → ℕ → List ℕ → Step
step w c s =
    if is "\\" c && not (is_empty s) then made [] (push (get_or s 0 0) w) 1
    else if is "`" c then code_step w c s
    else if is "*" c then star_step w s
    else if is "[" c then link_step w c s
    else if is "!" c && starts "[" s then image_step w c s
    else kept w c

-- a label's span, with the emphasis around the link; a label without spans parts nothing
abbrev pub carry : Walk → Span → Span
carry w l = record { text = l.text; bold = l.bold || w.bold; italic = l.italic || w.italic; code = l.code }

abbrev pub labelled : Walk → List Span → (Walk → List Span) → List Span
labelled w [] go = go w
labelled w (l ∷ ls) go = flush w ++ ((l ∷ ls) ++ go (cleared w))

abbrev pub on_step : Step → (List Span → Walk → ℕ → List Span) → (ℕ → ℕ → List Span) → List Span
on_step (made out w n) f g = f out w n
on_step (label close n) f g = g close n

-- The loop, with the reader of labels as a parameter; the first n characters of the list are read already
unfoldable pub walk : (List ℕ → List Span) → Walk → ℕ → List ℕ → List Span
walk inner w n [] = flush w
walk inner w (suc n) (c ∷ s) = walk inner w n s
walk inner w zero (c ∷ s) =
    on_step (step w c s) (λ out v n. out ++ walk inner v n s)
    (λ close n. labelled w (map (carry w) (inner (take close s))) (λ v. walk inner v n s))

-- labels in labels to at most `depth`; a label is shorter than its line, so a depth above the line's length is enough
unfoldable pub spans_at : ℕ → List ℕ → List Span
spans_at zero line = []
spans_at (suc depth) line = walk (spans_at depth) (at false false []) 0 line

unfoldable pub spans : List ℕ → List Span
spans line = spans_at (suc (length line)) line

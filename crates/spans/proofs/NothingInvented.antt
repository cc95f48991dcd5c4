-- No character invented (document 02, U11), for every line given to `spans`, the empty one included:
--   the joined span texts are characters of the line in their order, some perhaps left out: `nothing_invented`;
--   none is left out where the line holds none of `\ * [ !` and the backtick: `all_shown`;
--   every span that is not code has text: `only_code_empty`;
--   no label yields another label, whatever reads labels: `no_label_in_label`, `label_read_alone`, `label_once`.
-- Only the texts of spans and whether they are code are spoken of: the target of a link is no span text.
-- Assumes nothing.
use mathlib.Core.Path.{◌≡◌, sym, ap, ◌∙◌}
use Prim.Native.Nat.{ℕ}
use mathlib.Core.Bool.{false}
use mathlib.Core.Option.{some}
use mathlib.Core.List.{List, [], ◌∷◌, Sublist}
use lib.ListN.{take, drop}
use Rattle.text.specs.Words.{matches, any}
use Rattle.records.specs.Blocks.{Span, joined}
use Rattle.spans.specs.Spans.{Walk, at, link, step, walk, spans}
use Rattle.spans.specs.Shown.{HasText, Every, yields_label}
use Rattle.spans.proofs.SpanLaws.{walk_drop, spans_eq}
use Rattle.spans.proofs.ShownLaws.{line_shown, spans_from, walk_unmarked}
use Rattle.spans.proofs.LinkLaws.{unclosed_tail, unclosed_drop, label_unclosed, unclosed_step, unclosed_walk, links_walk}

pub nothing_invented : (line : List ℕ) → Sublist (joined (spans line)) line
nothing_invented line = ∣ spans_from line ∣₁

pub all_shown : (line : List ℕ) → any (matches "\\*[!`") line ≡ false → joined (spans line) ≡ line
all_shown line unmarked = ap joined (spans_eq line) ∙ walk_unmarked line unmarked (at false false [])

pub only_code_empty : (line : List ℕ) → Every HasText (spans line)
only_code_empty line = (line_shown line).texts

-- The label of a link, s being what stands after its first bracket
module _ (s : List ℕ) (l : ℕ × ℕ) (linked : link s ≡ some l) where
  -- at no place in it, and with whatever emphasis and pending text, does a turn yield a label
  pub no_label_in_label : (place c : ℕ) (rest : List ℕ) → drop place (take l.0 s) ≡ c ∷ rest → (w : Walk) → yields_label (step w c rest) ≡ false
  no_label_in_label place c rest e w = unclosed_step w c rest (unclosed_tail c rest (rw (sym e) (unclosed_drop place (take l.0 s) (label_unclosed s l linked))))

  -- so any two readers of labels leave it the same
  pub label_read_alone : (p q : List ℕ → List Span) (w : Walk) (n : ℕ) → walk p w n (take l.0 s) ≡ walk q w n (take l.0 s)
  label_read_alone p q w n =
      walk_drop p w n (take l.0 s)
      ∙ unclosed_walk p q (drop n (take l.0 s)) (unclosed_drop n (take l.0 s) (label_unclosed s l linked)) w
      ∙ sym (walk_drop q w n (take l.0 s))

-- and a line has the same spans whatever is taken for a label in a label
pub label_once : (inner : List ℕ → List Span) (line : List ℕ) → walk (walk inner (at false false []) 0) (at false false []) 0 line ≡ spans line
label_once inner line =
    links_walk (walk inner (at false false []) 0) spans
    (λ s l linked. label_read_alone s l linked inner spans (at false false []) 0 ∙ sym (spans_eq (take l.0 s)))
    line (at false false [])
    ∙ sym (spans_eq line)

-- Where the texts and the spans of a block stand in the records (document 01, "Records": the order of the fields).
-- Assumes nothing.
use Rattle.std.specs.Prelude.{ℕ, zero, suc, ◌+◌, ◌-◌, List, length, drop}
use Rattle.std.specs.Borrow.{Bor}
use Rattle.text.specs.Utf8.{size}
use Rattle.text.specs.Part.{part_of}
use Rattle.records.specs.Blocks.{Span, Kind, heading, paragraph, item, Block}
use Rattle.records.specs.Format.{encode_spans}
use Rattle.records.specs.Decode.{span_at}
use Rattle.walker.specs.Answers.{Answer, at_end, refused, gives, map, Emphasis, emphasis_of, placed, found_at, nth}
use Rattle.text.specs.declared.parts.Part.{Part}

-- where there is no text
abbrev pub nowhere : Part
nowhere = record { start = 0; end = 0 }

abbrev pub range_or_none : {A : Type 0} → (A → Part) → Answer A → Part
range_or_none f at_end = nowhere
range_or_none f (refused n) = nowhere
range_or_none f (gives a) = f a

-- what stands in an item's record before the marker: the map byte, a depth's two bytes unless it is 0, the length byte
abbrev pub marker_from : ℕ → ℕ
marker_from zero = 2
marker_from (suc d) = 4

-- the marker in a record that starts at this offset
abbrev pub marker_range : ℕ → Kind → Part
marker_range at (heading l) = nowhere
marker_range at paragraph = nowhere
marker_range at (item d m) = record { start = at + marker_from d; end = at + marker_from d + size m }

unfoldable pub marker_place : List ℕ → ℕ → Part
marker_place s at = range_or_none (λ f. marker_range at f.0.kind) (found_at s at)

-- the offset of span n of a block that ends before next: the spans from n on stand last in its record
abbrev pub span_from : List Span → ℕ → ℕ → ℕ
span_from xs next n = next - length (encode_spans (drop n xs))

-- the text of a span stands last in its record, which ends before this offset
abbrev pub text_range : ℕ → List ℕ → Part
text_range end t = record { start = end - size t; end = end }

abbrev pub nth_range : ℕ → Block × ℕ → Part
nth_range n f = range_or_none (λ x. text_range (span_from f.0.spans f.1 (suc n)) x.text) (nth f.0.spans n)

unfoldable pub text_place : List ℕ → ℕ → ℕ → Part
text_place s at n = range_or_none (nth_range n) (found_at s at)

-- the marker and the text of a span as parts of the lent records
abbrev pub marker_part : Bor (List ℕ) → ℕ → Bor (List ℕ)
marker_part s at = part_of s (marker_place s.now at)

abbrev pub text_part : Bor (List ℕ) → ℕ → ℕ → Bor (List ℕ)
text_part s at n = part_of s (text_place s.now at n)

-- going through the spans of a block in turn: where the first one stands, or the end of a block without spans
unfoldable pub first_answer : List ℕ → ℕ → Answer ℕ
first_answer s at = map (λ f. span_from f.0.spans f.1 0) (found_at s at)

-- and a span by its own offset: its emphasis, where its text stands, and the offset behind it, where the next span stands
pub record HereValues : Type 0 where
  pub emphasis : Emphasis
  pub text : Part
  pub next : ℕ

abbrev pub here_values_of : Span → ℕ → HereValues
here_values_of x next = record { emphasis = emphasis_of x; text = text_range next x.text; next = next }

unfoldable pub here_answer : List ℕ → ℕ → Answer HereValues
here_answer s at = map (λ f. here_values_of f.0 f.1) (placed (length s) (span_at (drop at s)))

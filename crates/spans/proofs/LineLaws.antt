-- The laws of `line_spans`: what `spans_in` stores for the bytes of a line are the records of its characters' spans.
-- Assumes nothing.
use mathlib.Core.Path.{◌≡◌, refl, sym, ap, ap₂, ◌∙◌}
use Prim.Native.Nat.{ℕ, ◌+◌, ◌*◌, ◌^◌, ◌≤◌}
use native.Mathlib.Nat.{add-zero}
use native.Mathlib.Omega.{arith}
use mathlib.Core.Bool.{Bool, true, false, ◌&&◌, or-false}
use mathlib.Core.List.{List, [], ◌∷◌, ◌++◌, map}
use lib.ListN.{length, length-map}
use lib.Seq.{sets}
use lib.Dec.{leb}
use borrow.Author.Tests.{le-leb, leb-true}
use Rattle.text.specs.Utf8.{encode, chars}
use Rattle.text.proofs.Tests.{and_true, on}
use Rattle.text.proofs.Laws.{size_chars}
use Rattle.records.specs.Blocks.{Span}
use Rattle.records.specs.Format.{span_form, encode_span, encode_spans}
use Rattle.spans.specs.Spans.{spans}
use Rattle.spans.specs.Line.{line_spans}
use Rattle.spans.specs.Turn.{record_of, records_of}
use Rattle.spans.proofs.Bounds.{spans_few}
use Rattle.spans.proofs.Bytes.{as_bytes, spans_bytes}

record_same : (s : Span) → record_of false false (as_bytes s) ≡ encode_span s
unfolding encode_span
record_same s = ap₂ (λ (b i : Bool). span_form b i s.code (encode s.text)) (or-false s.bold) (or-false s.italic)

records_same : (ss : List Span) → records_of false false (map as_bytes ss) ≡ encode_spans ss
unfolding records_of encode_spans
records_same [] = refl
records_same (s ∷ ss) = ap₂ (λ (x y : List ℕ). x ++ y) (record_same s) (records_same ss)

pub line_records : (bs : List ℕ) → records_of false false (spans bs) ≡ encode_spans (spans (chars bs))
line_records bs = ap (records_of false false) (spans_bytes bs) ∙ records_same (spans (chars bs))

pub line_count : (bs : List ℕ) → length (spans bs) ≡ length (spans (chars bs))
line_count bs = ap length (spans_bytes bs) ∙ length-map (spans (chars bs)) as_bytes

-- ---- the guard

pub line_is : (line : List ℕ) (at : ℕ) → length line ≤ 1048576 → at ≤ 2 ^ 40 → line_spans line at ≡ spans (chars line)
unfolding line_spans
line_is line at h k = rw (le-leb (length line) 1048576 h, le-leb at (2 ^ 40) k)

line_read : (line : List ℕ) (at : ℕ) → leb (length line) 1048576 && leb at (2 ^ 40) ≡ true → line_spans line at ≡ spans (chars line)
unfolding line_spans
line_read line at h = rw h

pub line_none : (line : List ℕ) (at : ℕ) → leb (length line) 1048576 && leb at (2 ^ 40) ≡ false → line_spans line at ≡ []
unfolding line_spans
line_none line at h = rw h

-- what holds of no spans and of those of a line that is not too long holds of `line_spans`
line_by : (P : List Span → Type 0) (line : List ℕ) (at : ℕ) → P [] → (length line ≤ 1048576 → P (spans (chars line))) → P (line_spans line at)
unfolding line_spans
line_by P line at f g =
    on P (leb (length line) 1048576 && leb at (2 ^ 40))
    (λ e. g (leb-true (length line) 1048576 (and_true (leb (length line) 1048576) (leb at (2 ^ 40)) e).0))
    (λ _. f)

-- a line has few spans
pub line_few : (line : List ℕ) (at : ℕ) → 5 * length (line_spans line at) ≤ 6 * length line
line_few line at =
    line_by (λ ss. 5 * length ss ≤ 6 * length line) line at (omega arith) (λ _. omega (arith, spans_few (chars line), size_chars line))

-- ---- what `spans` answers and stores

abbrev pub Wrote : List ℕ → List ℕ → List ℕ → ℕ → ℕ → ℕ → Type 0
Wrote line out out' at next count =
    (next ≡ at + length (encode_spans (line_spans line at)))
    × ((count ≡ length (line_spans line at)) × (out' ≡ sets out at (encode_spans (line_spans line at))))

module _ (line out : List ℕ) (at : ℕ) where
  pub wrote_none : line_spans line at ≡ [] → Wrote line out out at at 0
  unfolding encode_spans
  wrote_none e = rw e (sym (add-zero at), (refl, refl))

  pub wrote_all : (out' : List ℕ) (next count : ℕ) → leb (length line) 1048576 && leb at (2 ^ 40) ≡ true
      → (next ≡ at + length (records_of false false (spans line))) × ((count ≡ length (spans line)) × (out' ≡ sets out at (records_of false false (spans line))))
      → Wrote line out out' at next count
  wrote_all out' next count h e = rw (line_read line at h, ← line_records line, ← line_count line) e

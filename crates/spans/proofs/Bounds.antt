-- How long the records of a line's spans are: in bytes, for each turn and for a whole line.
-- Assumes nothing.
use mathlib.Core.Path.{◌≡◌, refl, ap}
use Prim.Native.Nat.{ℕ, ◌+◌, ◌*◌, ◌≤◌}
use native.Mathlib.Omega.{arith}
use mathlib.Core.Bool.{Bool}
use mathlib.Core.List.{List, [], ◌∷◌}
use lib.ListN.{length, take, length-append, length-take}
use Rattle.text.specs.Utf8.{utf8, encode, size}
use Rattle.text.proofs.Laws.{utf8_size, size_encode}
use Rattle.records.specs.Blocks.{Span}
use Rattle.records.specs.Format.{text_form, encode_span, encode_spans}
use Rattle.records.proofs.FormatLaws.{form_long}
use Rattle.spans.specs.Spans.{Walk, step, spans}
use Rattle.spans.specs.Turn.{Turn, turned, records_of}
use Rattle.spans.proofs.Turns.{weigh, texts, spans_fits, turn_fits}

-- ---- bytes: each weighs 1

abbrev one : ℕ → ℕ
one c = 1

weigh_one : (s : List ℕ) → weigh one s ≡ length s
weigh_one [] = refl
weigh_one (c ∷ s) = omega (arith, weigh_one s)

some_one : (c : ℕ) → 1 ≤ one c
some_one c = omega arith

rec_long : (b i : Bool) (ss : List Span) → length (records_of b i ss) ≤ 5 * length ss + texts one ss
unfolding records_of
rec_long b i [] = omega arith
rec_long b i (s ∷ ss) = omega (arith, rec_long b i ss, length-append (text_form s.text) (records_of b i ss), form_long s.text, weigh_one s.text)

pub turn_within : (w : Walk) (c : ℕ) (s : List ℕ) → (turned spans w s (step w c s)).more ≤ length s
turn_within w c s = (turn_fits one some_one w c s).within

pub turn_small : (b i : Bool) (w : Walk) (c : ℕ) (s : List ℕ)
    → length (records_of b i (turned spans w s (step w c s)).spans) + 6 * length (turned spans w s (step w c s)).walk.text
    ≤ 6 * length w.text + 6 * (1 + (turned spans w s (step w c s)).more)
turn_small b i w c s =
    let t : Turn = turned spans w s (step w c s) in
    let g = turn_fits one some_one w c s in
    omega (
      arith,
      rec_long b i t.spans,
      g.fits.small,
      g.within,
      weigh_one t.walk.text,
      weigh_one w.text,
      weigh_one (take t.more s),
      length-take t.more s,
    )

-- the records of the spans of bytes, with any emphasis around them, are at most six times as long as the bytes
pub bytes_small : (b i : Bool) (line : List ℕ) → length (records_of b i (spans line)) ≤ 6 * length line
bytes_small b i line = omega (arith, rec_long b i (spans line), (spans_fits one some_one line).small, weigh_one line)

-- ---- characters: each weighs its bytes

abbrev pub bytes : ℕ → ℕ
bytes c = length (utf8 c)

pub weigh_bytes : (s : List ℕ) → weigh bytes s ≡ size s
unfolding size
weigh_bytes [] = refl
weigh_bytes (c ∷ s) = ap (λ (n : ℕ). length (utf8 c) + n) (weigh_bytes s)

some_bytes : (c : ℕ) → 1 ≤ bytes c
some_bytes c = (utf8_size c).0

spans_long : (ss : List Span) → length (encode_spans ss) ≤ 5 * length ss + texts bytes ss
unfolding encode_spans encode_span
spans_long [] = omega arith
spans_long (s ∷ ss) =
    omega (arith, spans_long ss, length-append (text_form (encode s.text)) (encode_spans ss), form_long (encode s.text), size_encode s.text, weigh_bytes s.text)

-- the texts of a line's spans are no longer than the line, its records at most six times, and it has few spans
pub spans_texts : (cs : List ℕ) → texts bytes (spans cs) ≤ size cs
spans_texts cs = omega (arith, (spans_fits bytes some_bytes cs).fit, weigh_bytes cs)

pub spans_small : (cs : List ℕ) → length (encode_spans (spans cs)) ≤ 6 * size cs
spans_small cs = omega (arith, spans_long (spans cs), (spans_fits bytes some_bytes cs).small, weigh_bytes cs)

pub spans_few : (cs : List ℕ) → 5 * length (spans cs) ≤ 6 * size cs
spans_few cs = omega (arith, (spans_fits bytes some_bytes cs).small, weigh_bytes cs)

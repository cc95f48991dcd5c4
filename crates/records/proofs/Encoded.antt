-- Decoding an encoding gives what was encoded, and what follows it.
-- Assumes nothing.
use Prim.Native.Nat.{ℕ, zero, suc, ◌+◌, ◌/◌, ◌%◌, ◌^◌, ◌<◌, ◌≤◌}
use native.Mathlib.Omega.{arith}
use mathlib.Core.Path.{◌≡◌, refl, ap}
use mathlib.Core.Bool.{Bool, true, false, ◌||◌, false≢true}
use mathlib.Core.List.{List, [], ◌∷◌, ◌++◌, append_assoc}
use lib.ListN.{length, length-append}
use lib.Seq.{take-append_seam, drop-append_seam}
use lib.Dec.{leb, ltb}
use borrow.Author.Tests.{le-leb}
use Rattle.text.specs.Utf8.{Scalars, encode, size, is_utf8}
use Rattle.text.proofs.Laws.{chars_encode, size_encode, scalars_is}
use Rattle.records.specs.Blocks.{Span, Kind, Block, heading, paragraph, item}
use Rattle.records.specs.Format.{le16, le32, non_empty, span_map, encode_span, encode_spans, encode_kind, encode_count, encode_block, kind_bits, bit, is_marker, WfSpan, WfSpans, WfKind, WfBlock}
use Rattle.records.specs.Decode.{u16, u32, part, text_at, span_at, spans_at, level_at, marker_at, item_at, kind_at, count_at, head_at, block_at, parsed}
use Rattle.records.proofs.FormatLaws.{size_some, span_some}
use Rattle.records.proofs.Markers.{marker_scalars}

u16_of : (n : ℕ) (s : List ℕ) → n < 2 ^ 16 → u16 (le16 n ++ s) ≡ parsed n s
unfolding u16
u16_of n s h = let e : n / 256 % 256 ≡ n / 256 = omega arith in rw e (ap (λ (k : ℕ). parsed k s) (omega arith))

u32_of : (n : ℕ) (s : List ℕ) → n < 2 ^ 32 → u32 (le32 n ++ s) ≡ parsed n s
unfolding u32
u32_of n s h = let e : n / 16777216 % 256 ≡ n / 16777216 = omega arith in rw e (ap (λ (k : ℕ). parsed k s) (omega arith))

part_of : (t s : List ℕ) → part (length t) (t ++ s) ≡ parsed t s
unfolding part
part_of t s =
    let h : length t ≤ length (t ++ s) = simp length-append (omega arith) in
    rw (le-leb _ _ h, take-append_seam, drop-append_seam)

utf8_encode : (cs : List ℕ) → Scalars cs → is_utf8 (encode cs) ≡ true
unfolding is_utf8
utf8_encode cs h = rw (chars_encode cs h) (scalars_is cs h)

-- a text's bytes
bytes_of : (cs s : List ℕ) → part (size cs) (encode cs ++ s) ≡ parsed (encode cs) s
bytes_of cs s = rw (← size_encode cs) (part_of (encode cs) s)

text_at_of : (cs s : List ℕ) → Scalars cs → size cs < 2 ^ 32 → 1 ≤ size cs → text_at (le32 (size cs) ++ (encode cs ++ s)) ≡ parsed cs s
unfolding text_at
text_at_of cs s w b h =
    rw (u32_of (size cs) (encode cs ++ s) b, le-leb 1 (size cs) h, bytes_of cs s, utf8_encode cs w, chars_encode cs w)

-- with text
module _ (x : ℕ) (t s : List ℕ) (w : Scalars (x ∷ t)) (h : size (x ∷ t) < 2 ^ 32) where
  stands : text_at (le32 (size (x ∷ t)) ++ (encode (x ∷ t) ++ s)) ≡ parsed (x ∷ t) s
  stands = text_at_of (x ∷ t) s w h (size_some x t)

  full : (b i c : Bool)
      → span_at (span_map b i c true ∷ (le32 (size (x ∷ t)) ++ encode (x ∷ t)) ++ s) ≡ parsed (record { text = x ∷ t; bold = b; italic = i; code = c }) s
  unfolding span_at
  full true true true = rw stands
  full true true false = rw stands
  full true false true = rw stands
  full true false false = rw stands
  full false true true = rw stands
  full false true false = rw stands
  full false false true = rw stands
  full false false false = rw stands

-- with none: the code bit is set
bare : (b i : Bool) (s : List ℕ)
    → span_at (encode_span (record { text = []; bold = b; italic = i; code = true }) ++ s) ≡ parsed (record { text = []; bold = b; italic = i; code = true }) s
unfolding span_at encode_span
bare true true s = refl
bare true false s = refl
bare false true s = refl
bare false false s = refl

span_at_cases : (b i c : Bool) (t s : List ℕ) → Scalars t → size t < 2 ^ 32 → non_empty t || c ≡ true
    → span_at (encode_span (record { text = t; bold = b; italic = i; code = c }) ++ s) ≡ parsed (record { text = t; bold = b; italic = i; code = c }) s
span_at_cases b i c (x ∷ t) s w h e = rw (span_some b i c x t) (full x t s w h b i c)
span_at_cases b i true [] s w h e = bare b i s
span_at_cases b i false [] s w h e = absurd (false≢true e)

pub span_at_of : (x : Span) (s : List ℕ) → WfSpan x → span_at (encode_span x ++ s) ≡ parsed x s
span_at_of x s w = span_at_cases x.bold x.italic x.code x.text s w.scalars w.bounded w.shown

pub spans_at_of : (xs : List Span) (s : List ℕ) → WfSpans xs → spans_at (length xs) (encode_spans xs ++ s) ≡ parsed xs s
unfolding spans_at encode_spans
spans_at_of [] s w = refl
spans_at_of (x ∷ xs) s w = rw (append_assoc (encode_span x) (encode_spans xs) s, span_at_of x (encode_spans xs ++ s) w.0, spans_at_of xs s w.1)

pub count_at_of : {A : Type 0} (xs : List A) (s : List ℕ) → length xs < 2 ^ 32 → count_at (non_empty xs) (encode_count (length xs) ++ s) ≡ parsed (length xs) s
unfolding count_at
count_at_of [] s h = refl
count_at_of (x ∷ xs) s h = rw (u32_of (length (x ∷ xs)) s h, le-leb 1 (length (x ∷ xs)) (omega arith))

marker_at_of : (d : ℕ) (m s : List ℕ) → is_marker m ≡ true → marker_at d (size m ∷ (encode m ++ s)) ≡ parsed (item d m) s
unfolding marker_at
marker_at_of d m s u = rw (bytes_of m s, chars_encode m (marker_scalars m u), u)

pub kind_at_of : (k : Kind) (s : List ℕ) → WfKind k → kind_at (kind_bits k) (encode_kind k ++ s) ≡ parsed k s
unfolding kind_at level_at item_at
kind_at_of (heading l) s w = rw (le-leb 1 l w.0, le-leb l 3 w.1)
kind_at_of paragraph s w = refl
kind_at_of (item zero m) s w = marker_at_of zero m s w.1
kind_at_of (item (suc d) m) s w =
    rw (u16_of (suc d) (size m ∷ (encode m ++ s)) w.0, le-leb 1 (suc d) (omega arith), marker_at_of (suc d) m s w.1)

-- the map byte
map_kind : (k : Kind) (b : Bool) → ((kind_bits k + bit b 8) % 8 ≡ kind_bits k) × (ltb (kind_bits k + bit b 8) 16 ≡ true) × (leb 8 (kind_bits k + bit b 8) ≡ b)
map_kind (heading l) true = (refl, refl, refl)
map_kind (heading l) false = (refl, refl, refl)
map_kind paragraph true = (refl, refl, refl)
map_kind paragraph false = (refl, refl, refl)
map_kind (item zero m) true = (refl, refl, refl)
map_kind (item zero m) false = (refl, refl, refl)
map_kind (item (suc d) m) true = (refl, refl, refl)
map_kind (item (suc d) m) false = (refl, refl, refl)

-- a record decodes to its block
pub block_at_of : (b : Block) (s : List ℕ) → WfBlock b → block_at (encode_block b ++ s) ≡ parsed b s
unfolding block_at head_at encode_block
block_at_of b s w =
    let k = b.kind in
    let xs = b.spans in
    let e = map_kind k (non_empty xs) in
    rw (
      e.1,
      e.0,
      e.2,
      append_assoc,
      append_assoc,
      kind_at_of k (encode_count (length xs) ++ (encode_spans xs ++ s)) w.kind,
      count_at_of xs (encode_spans xs ++ s) w.bounded,
      spans_at_of xs s w.spans,
    )

-- A record is bytes.
-- Assumes nothing.
use Prim.Native.Nat.{ℕ, zero, suc, ◌≤◌}
use native.Mathlib.Omega.{arith}
use mathlib.Core.Bool.{Bool, true, false}
use mathlib.Core.List.{List, [], ◌∷◌, ◌++◌}
use lib.ListN.{length}
use Rattle.text.specs.Utf8.{encode, size, Scalars, IsScalar, utf8}
use Rattle.text.proofs.Utf8.{utf8_1, utf8_2, utf8_3, utf8_4, ranges, top}
use Rattle.records.specs.Blocks.{Span, Kind, heading, paragraph, item, Block}
use Rattle.records.specs.Format.{le16, le32, bit, non_empty, text_form, encode_span, encode_spans, kind_bits, encode_kind, encode_count, encode_block, encode_blocks, WfSpan}
use Rattle.records.specs.Format.{WfSpans, WfKind, WfBlock, WfBlocks}
use Rattle.records.specs.Decode.{Bytes}
use Rattle.records.proofs.Markers.{marker_scalars, marker_short}

-- an encoding is bytes
bytes_append : (xs ys : List ℕ) → Bytes xs → Bytes ys → Bytes (xs ++ ys)
bytes_append [] ys v w = w
bytes_append (x ∷ xs) ys v w = (v.0, bytes_append xs ys v.1 w)

bytes_utf8 : (c : ℕ) → IsScalar c → Bytes (utf8 c)
bytes_utf8 c s =
    ranges c
    (λ h. rw (utf8_1 c h) (omega arith, tt))
    (λ l h. rw (utf8_2 c l h) (omega arith, (omega arith, tt)))
    (λ l h. rw (utf8_3 c l h) (omega arith, (omega arith, (omega arith, tt))))
    (λ l. let k = top c s in rw (utf8_4 c l (omega arith)) (omega arith, (omega arith, (omega arith, (omega arith, tt)))))

bytes_encode : (cs : List ℕ) → Scalars cs → Bytes (encode cs)
bytes_encode [] h = tt
bytes_encode (c ∷ cs) h = bytes_append (utf8 c) (encode cs) (bytes_utf8 c h.0) (bytes_encode cs h.1)

-- and so are numbers
bytes_le16 : (n : ℕ) → Bytes (le16 n)
bytes_le16 n = (omega arith, (omega arith, tt))

bytes_le32 : (n : ℕ) → Bytes (le32 n)
bytes_le32 n = (omega arith, (omega arith, (omega arith, (omega arith, tt))))

bit_small : (b : Bool) (v : ℕ) → bit b v ≤ v
bit_small true v = omega arith
bit_small false v = omega arith

bytes_text : (bs : List ℕ) → Bytes bs → Bytes (text_form bs)
bytes_text [] w = tt
bytes_text (b ∷ bs) w = bytes_append (le32 (length (b ∷ bs))) (b ∷ bs) (bytes_le32 (length (b ∷ bs))) w

bytes_span : (x : Span) → WfSpan x → Bytes (encode_span x)
unfolding encode_span
bytes_span x w =
    let a = bit_small x.bold 1 in
    let b = bit_small x.italic 2 in
    let c = bit_small x.code 4 in
    let d = bit_small (non_empty (encode x.text)) 8 in
    (omega arith, bytes_text (encode x.text) (bytes_encode x.text w.scalars))

bytes_spans : (xs : List Span) → WfSpans xs → Bytes (encode_spans xs)
unfolding encode_spans
bytes_spans [] w = tt
bytes_spans (x ∷ xs) w = bytes_append (encode_span x) (encode_spans xs) (bytes_span x w.0) (bytes_spans xs w.1)

bytes_kind : (k : Kind) → WfKind k → (kind_bits k ≤ 6) × Bytes (encode_kind k)
bytes_kind (heading l) w = let h : l ≤ 3 = w.1 in (omega arith, (omega arith, tt))
bytes_kind paragraph w = (omega arith, tt)
bytes_kind (item zero m) w =
    let h = marker_short m w.1 in
    (omega arith, (omega arith, bytes_encode m (marker_scalars m w.1)))
bytes_kind (item (suc d) m) w =
    let h = marker_short m w.1 in
    (omega arith, bytes_append (le16 (suc d)) (size m ∷ encode m) (bytes_le16 (suc d)) (omega arith, bytes_encode m (marker_scalars m w.1)))

bytes_count : (n : ℕ) → Bytes (encode_count n)
bytes_count zero = tt
bytes_count (suc n) = bytes_le32 (suc n)

bytes_block : (b : Block) → WfBlock b → Bytes (encode_block b)
unfolding encode_block
bytes_block b w =
    let k = bytes_kind b.kind w.kind in
    let d = bit_small (non_empty b.spans) 8 in
    let l : kind_bits b.kind ≤ 6 = k.0 in (
      omega arith,
      bytes_append (encode_kind b.kind ++ encode_count (length b.spans)) (encode_spans b.spans)
          (bytes_append (encode_kind b.kind) (encode_count (length b.spans)) k.1 (bytes_count (length b.spans))) (bytes_spans b.spans w.spans),
    )

-- every record string consists of bytes
pub records_are_bytes : (bs : List Block) → WfBlocks bs → Bytes (encode_blocks bs)
unfolding encode_blocks
records_are_bytes [] w = tt
records_are_bytes (b ∷ bs) w = bytes_append (encode_block b) (encode_blocks bs) (bytes_block b w.0) (records_are_bytes bs w.1)

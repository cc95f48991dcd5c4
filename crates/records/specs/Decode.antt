-- Reading block records from the front of a list of bytes (document 01, "Records").
-- Assumes nothing.
use Rattle.std.specs.Prelude.{ℕ, zero, suc, ◌+◌, ◌*◌, ◌/◌, ◌%◌, ◌<◌, Bool, true, false, List, [], ◌∷◌, length, take, drop, leb, ltb, eqb, if◌then◌else◌}
use Rattle.text.specs.Utf8.{chars, is_utf8}
use Rattle.records.specs.Blocks.{Span, Kind, heading, paragraph, item, Block}
use Rattle.records.specs.Format.{is_marker}

-- a list of bytes
abbrev pub Bytes : List ℕ → Type 0
Bytes [] = Unit {0}
Bytes (a ∷ s) = (a < 256) × Bytes s

-- what stands at the front: nothing well-formed, or a value and the bytes after it
pub data Parse (A : Type 0) : Type 0 where
  failed : Parse A
  parsed : A → List ℕ → Parse A

infixl 20 ◌▹◌
abbrev pub ◌▹◌ : {A B : Type 0} → Parse A → (A → List ℕ → Parse B) → Parse B
failed ▹ f = failed
parsed a r ▹ f = f a r

abbrev pub only : {A : Type 0} → Bool → Parse A → Parse A
only true p = p
only false p = failed

-- integers, little-endian
unfoldable pub u16 : List ℕ → Parse ℕ
u16 [] = failed
u16 (a ∷ []) = failed
u16 (a ∷ b ∷ s) = parsed (a + 256 * b) s

unfoldable pub u32 : List ℕ → Parse ℕ
u32 [] = failed
u32 (a ∷ []) = failed
u32 (a ∷ b ∷ []) = failed
u32 (a ∷ b ∷ c ∷ []) = failed
u32 (a ∷ b ∷ c ∷ d ∷ s) = parsed (a + 256 * b + 65536 * c + 16777216 * d) s

-- n bytes
unfoldable pub part : ℕ → List ℕ → Parse (List ℕ)
part n s = only (leb n (length s)) (parsed (take n s) (drop n s))

-- a span's text, which is not empty
unfoldable pub text_at : List ℕ → Parse (List ℕ)
text_at s = u32 s ▹ λ n r. only (leb 1 n) (part n r ▹ λ t q. only (is_utf8 t) (parsed (chars t) q))

-- the span with this text whose map byte is m
abbrev pub span_of : ℕ → List ℕ → Span
span_of m t = record { text = t; bold = eqb (m % 2) 1; italic = eqb (m / 2 % 2) 1; code = eqb (m / 4 % 2) 1 }

-- the map has bit 2 or bit 3, and no bit above these
unfoldable pub span_at : List ℕ → Parse Span
span_at [] = failed
span_at (m ∷ s) =
    only (leb 4 m) (only (ltb m 16)
    (if ltb m 8 then parsed (span_of m []) s else (text_at s ▹ λ t r. parsed (span_of m t) r)))

unfoldable pub spans_at : ℕ → List ℕ → Parse (List Span)
spans_at zero s = parsed [] s
spans_at (suc n) s = span_at s ▹ λ x r. spans_at n r ▹ λ xs q. parsed (x ∷ xs) q

unfoldable pub level_at : List ℕ → Parse Kind
level_at [] = failed
level_at (l ∷ s) = only (leb 1 l) (only (leb l 3) (parsed (heading l) s))

-- the marker of an item of depth d
unfoldable pub marker_at : ℕ → List ℕ → Parse Kind
marker_at d [] = failed
marker_at d (n ∷ s) = part n s ▹ λ t r. only (is_marker (chars t)) (parsed (item d (chars t)) r)

-- an item whose depth is not 0
unfoldable pub item_at : List ℕ → Parse Kind
item_at s = u16 s ▹ λ d r. only (leb 1 d) (marker_at d r)

-- the fields of the map's bits 0 to 2
unfoldable pub kind_at : ℕ → List ℕ → Parse Kind
kind_at m s =
    if eqb m 0 then parsed paragraph s
    else if eqb m 1 then level_at s
    else if eqb m 4 then marker_at 0 s
    else only (eqb m 6) (item_at s)

-- the span count, where bit 3 is set
unfoldable pub count_at : Bool → List ℕ → Parse ℕ
count_at false s = parsed 0 s
count_at true s = u32 s ▹ λ n r. only (leb 1 n) (parsed n r)

-- what stands before the spans
pub record Head : Type 0 where
  pub kind : Kind
  pub count : ℕ

unfoldable pub head_at : List ℕ → Parse Head
head_at [] = failed
head_at (m ∷ s) =
    only (ltb m 16)
    (kind_at (m % 8) s ▹ λ k r. count_at (leb 8 m) r ▹ λ n q. parsed (record { kind = k; count = n }) q)

unfoldable pub block_at : List ℕ → Parse Block
block_at s = head_at s ▹ λ h r. spans_at h.count r ▹ λ xs q. parsed (record { kind = h.kind; spans = xs }) q

-- all the blocks of a record string; each takes a byte at least, so the string's length is turns enough
unfoldable pub blocks_at : ℕ → List ℕ → Parse (List Block)
blocks_at zero [] = parsed [] []
blocks_at zero (a ∷ s) = failed
blocks_at (suc k) [] = parsed [] []
blocks_at (suc k) (a ∷ s) = block_at (a ∷ s) ▹ λ b r. blocks_at k r ▹ λ bs q. parsed (b ∷ bs) q

unfoldable pub decode_blocks : List ℕ → Parse (List Block)
decode_blocks s = blocks_at (length s) s

-- The record of a block, and which blocks have one (document 01, "Records").
-- Assumes nothing.
use Rattle.std.specs.Prelude.{ℕ, zero, suc, ◌+◌, ◌^◌, ◌<◌, ◌≤◌, ◌≡◌, Bool, true, false, ◌&&◌, ◌||◌, List, [], ◌∷◌, ◌++◌, length, leb, eqb}
use Rattle.std.specs.Int.{bytes_low_first}
use Rattle.text.specs.Words.{str, same}
use Rattle.text.specs.Chars.{is_digit}
use Rattle.text.specs.Utf8.{Scalars, size, encode}
use Rattle.records.specs.Blocks.{Span, Kind, heading, paragraph, item, Block}

-- integers, little-endian: the k lower bytes of n, the lowest first
abbrev pub little_endian : ℕ → ℕ → List ℕ
little_endian k n = bytes_low_first 0 k n

abbrev pub le16 : ℕ → List ℕ
le16 n = little_endian 2 n

abbrev pub le32 : ℕ → List ℕ
le32 n = little_endian 4 n

-- a bit's value v in a map byte
abbrev pub bit : Bool → ℕ → ℕ
bit true v = v
bit false v = 0

abbrev pub non_empty : {A : Type 0} → List A → Bool
non_empty [] = false
non_empty (x ∷ xs) = true

-- a span: the map byte, then the text's length and bytes unless it is empty
abbrev pub span_map : Bool → Bool → Bool → Bool → ℕ
span_map bold italic code text = bit bold 1 + bit italic 2 + bit code 4 + bit text 8

abbrev pub text_form : List ℕ → List ℕ
text_form [] = []
text_form (b ∷ bs) = le32 (length (b ∷ bs)) ++ (b ∷ bs)

-- by its emphasis and the bytes of its text
abbrev pub span_form : Bool → Bool → Bool → List ℕ → List ℕ
span_form bold italic code bytes = span_map bold italic code (non_empty bytes) ∷ text_form bytes

unfoldable pub encode_span : Span → List ℕ
encode_span s = span_form s.bold s.italic s.code (encode s.text)

unfoldable pub encode_spans : List Span → List ℕ
encode_spans [] = []
encode_spans (s ∷ ss) = encode_span s ++ encode_spans ss

-- a block: the map byte, the fields of its kind, the span count unless it is 0, the spans
abbrev pub kind_bits : Kind → ℕ
kind_bits (heading l) = 1
kind_bits paragraph = 0
kind_bits (item zero m) = 4
kind_bits (item (suc d) m) = 6

abbrev pub encode_kind : Kind → List ℕ
encode_kind (heading l) = l ∷ []
encode_kind paragraph = []
encode_kind (item zero m) = size m ∷ encode m
encode_kind (item (suc d) m) = le16 (suc d) ++ size m ∷ encode m

abbrev pub encode_count : ℕ → List ℕ
encode_count zero = []
encode_count (suc n) = le32 (suc n)

unfoldable pub encode_block : Block → List ℕ
encode_block b =
    (kind_bits b.kind + bit (non_empty b.spans) 8)
    ∷ (encode_kind b.kind ++ encode_count (length b.spans) ++ encode_spans b.spans)

unfoldable pub encode_blocks : List Block → List ℕ
encode_blocks [] = []
encode_blocks (b ∷ bs) = encode_block b ++ encode_blocks bs

-- markers: U+2022, or 1 to 9 digits and a full stop
abbrev pub is_bullet : List ℕ → Bool
is_bullet m = same m (str "•")

-- digits, and a full stop at the end
abbrev pub digits_stop : List ℕ → Bool
digits_stop [] = false
digits_stop (c ∷ []) = eqb c 46
digits_stop (c ∷ d ∷ s) = is_digit c && digits_stop (d ∷ s)

abbrev pub is_ordinal : List ℕ → Bool
is_ordinal m = leb 2 (length m) && leb (length m) 10 && digits_stop m

unfoldable pub is_marker : List ℕ → Bool
is_marker m = is_bullet m || is_ordinal m

-- the blocks that have a record
pub record WfSpan (s : Span) : Type 0 where
  pub scalars : Scalars s.text
  pub bounded : size s.text < 2 ^ 32
  pub shown : non_empty s.text || s.code ≡ true

abbrev pub WfSpans : List Span → Type 0
WfSpans [] = Unit {0}
WfSpans (s ∷ ss) = WfSpan s × WfSpans ss

abbrev pub WfKind : Kind → Type 0
WfKind (heading l) = (1 ≤ l) × (l ≤ 3)
WfKind paragraph = Unit {0}
WfKind (item d m) = (d < 2 ^ 16) × (is_marker m ≡ true)

pub record WfBlock (b : Block) : Type 0 where
  pub kind : WfKind b.kind
  pub spans : WfSpans b.spans
  pub bounded : length b.spans < 2 ^ 32

abbrev pub WfBlocks : List Block → Type 0
WfBlocks [] = Unit {0}
WfBlocks (b ∷ bs) = WfBlock b × WfBlocks bs

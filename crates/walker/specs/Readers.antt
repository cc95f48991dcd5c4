-- What the inner readers promise: an answer says what the decoder finds at an offset, and where the rest starts.
-- Assumes nothing.
use Rattle.std.specs.Prelude.{ℕ, ◌+◌, ◌*◌, ◌/◌, ◌%◌, ◌<◌, ◌≤◌, ◌≡◌, List, [], ◌∷◌, length, drop, eqb, Some, None, Ok, Err}
use Rattle.std.specs.Prelude as code
use Rattle.std.specs.Borrow.{Bor}
use Rattle.text.specs.Part.{between, Inside}
use Rattle.text.specs.Utf8.{chars}
use Rattle.text.specs.declared.parts.Part.{Part}
use Rattle.records.specs.Blocks.{Span, Kind, heading, paragraph, item}
use Rattle.records.specs.Decode.{Parse, failed, parsed, ◌▹◌, part, spans_at, block_at}
use Rattle.walker.specs.Answers.{at_end, refused, gives, span_in}
use Rattle.walker.specs.Places.{nowhere, marker_from, text_place}
use Rattle.walker.specs.declared.blocks.Broken.{Broken}
use Rattle.walker.specs.declared.blocks.Kind as K
use Rattle.walker.specs.declared.blocks.Kind.TheVariants as KV
use Rattle.walker.specs.declared.blocks.Span as S
use Rattle.walker.specs.declared.cursor.Cursor.{Cursor}
use Rattle.walker.specs.declared.reader.Fields.{Fields}
use Rattle.walker.specs.declared.reader.Whole.{Whole}

-- what is left to read
abbrev pub left : Cursor → List ℕ
left c = drop c.at c.bytes.now

-- the same bytes, and an offset within them
abbrev pub Moved : Bor (List ℕ) → Cursor → Type 0
Moved b d = (d.bytes ≡ b) × (d.at ≤ length d.bytes.now)

-- the value of what was read, and where its parts stand
abbrev pub Reads : {A V : Type 0} → (V → A) → (V → Type 0) → Parse A → Bor (List ℕ) → Cursor → code.Result V Broken → Type 0
Reads value placed p b d (Ok v) = (p ≡ parsed (value v) (left d)) × Moved b d × placed v
Reads value placed p b d (Err e) = p ≡ failed

-- a byte
abbrev pub ByteIs : Cursor → Cursor → code.Result ℕ Broken → Type 0
ByteIs c d (Ok b) = (left c ≡ b ∷ left d) × Moved c.bytes d × (d.at ≡ c.at + 1)
ByteIs c d (Err e) = left c ≡ []

-- an integer of k bytes, the lowest first
abbrev pub worth : List ℕ → ℕ
worth [] = 0
worth (b ∷ s) = b + 256 * worth s

unfoldable pub integer : ℕ → List ℕ → Parse ℕ
integer k s = part k s ▹ λ t r. parsed (worth t) r

abbrev pub CountIs : Parse ℕ → Bor (List ℕ) → Cursor → code.Result ℕ Broken → Type 0
CountIs p b d r = Reads (λ n. n) (λ n. Unit {0}) p b d r

abbrev pub NumberIs : ℕ → Cursor → Cursor → code.Result ℕ Broken → Type 0
NumberIs k c d r = CountIs (integer k (left c)) c.bytes d r

-- a text, by the offsets of its bytes
abbrev pub text_in : List ℕ → Part → List ℕ
text_in s p = chars (between s p.start p.end)

abbrev pub TextIs : Parse (List ℕ) → Bor (List ℕ) → Cursor → code.Result Part Broken → Type 0
TextIs p b d r = Reads (text_in b.now) (λ t. (t.start ≤ t.end) × (t.end ≡ d.at)) p b d r

-- a span
abbrev pub span_of : List ℕ → S.Span → Span
span_of s x = record { text = text_in s x.text; bold = x.emphasis.bold; italic = x.emphasis.italic; code = x.emphasis.code }

-- whose map byte is m
abbrev pub span_with : ℕ → Part → S.Span
span_with m text =
    record { emphasis = record { bold = eqb (m % 2) 1; italic = eqb (m / 2 % 2) 1; code = eqb (m / 4 % 2) 1 }; text = text; next = text.end }

abbrev pub span_placed : Cursor → S.Span → Type 0
span_placed d x = (x.text.start ≤ x.text.end) × (x.text.end ≡ d.at) × (x.next ≡ d.at)

abbrev pub SpanIs : Parse Span → Bor (List ℕ) → Cursor → code.Result S.Span Broken → Type 0
SpanIs p b d r = Reads (span_of b.now) (span_placed d) p b d r

-- where a reading ends, whatever was read
abbrev pub rest : {A : Type 0} → Parse A → Parse (Unit {0})
rest failed = failed
rest (parsed a r) = parsed tt r

abbrev pub EndIs : {A : Type 0} → Parse A → Bor (List ℕ) → Cursor → code.Result (Unit {0}) Broken → Type 0
EndIs p b d r = Reads (λ u. tt) (λ u. Unit {0}) (rest p) b d r

-- the fields of a kind, of which a marker is the last
abbrev pub kind_of : List ℕ → K.Kind → Part → Kind
kind_of s (KV.Heading l) m = heading l
kind_of s KV.Paragraph m = paragraph
kind_of s (KV.Item d) m = item d (text_in s m)

abbrev pub marker_ended : ℕ → K.Kind → Part → Type 0
marker_ended next (KV.Heading l) m = m ≡ nowhere
marker_ended next KV.Paragraph m = m ≡ nowhere
marker_ended next (KV.Item d) m = (m.start ≤ m.end) × (m.end ≡ next)

abbrev pub FieldsIs : Parse Kind → Bor (List ℕ) → Cursor → code.Result Fields Broken → Type 0
FieldsIs p b d r = Reads (λ f. kind_of b.now f.kind f.marker) (λ f. marker_ended d.at f.kind f.marker) p b d r

-- a marker's place, in a block at an offset
abbrev pub marker_placed : List ℕ → ℕ → K.Kind → Part → Type 0
marker_placed s at (KV.Heading l) m = m ≡ nowhere
marker_placed s at KV.Paragraph m = m ≡ nowhere
marker_placed s at (KV.Item d) m = Inside s m.start m.end × (m.start ≡ at + marker_from d)

-- a whole block, whose spans xs start at its first offset
pub record Found (s : List ℕ) (at : ℕ) (w : Whole) : Type 0 where
  pub xs : List Span
  pub spans : spans_at w.block.count (drop w.first s) ≡ parsed xs (drop w.block.next s)
  pub block : block_at (drop at s) ≡ parsed (record { kind = kind_of s w.block.kind w.marker; spans = xs }) (drop w.block.next s)
  pub placed : marker_placed s at w.block.kind w.marker
  pub starts : w.first ≤ length s
  pub within : w.block.next ≤ length s

abbrev pub BlockIs : List ℕ → ℕ → code.Result (code.Option Whole) Broken → Type 0
BlockIs s at (Ok (Some w)) = Found s at w
BlockIs s at (Ok None) = at ≡ length s
BlockIs s at (Err e) = (at ≡ length s → ⊥) × (block_at (drop at s) ≡ failed)

-- a span of the block at an offset, and where its text stands
abbrev pub NthIs : List ℕ → ℕ → ℕ → code.Result (code.Option S.Span) Broken → Type 0
NthIs s at n (Ok (Some x)) = (span_in s at n ≡ gives (span_of s x)) × (text_place s at n ≡ x.text)
NthIs s at n (Ok None) = (span_in s at n ≡ at_end) × (text_place s at n ≡ nowhere)
NthIs s at n (Err e) = (span_in s at n ≡ refused 7) × (text_place s at n ≡ nowhere)

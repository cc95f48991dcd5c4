-- What the reader's state means: the records stored so far, the last item, and the paragraph that is open.
-- Assumes nothing.
use Rattle.std.specs.Prelude.{ℕ, ◌+◌, ◌*◌, ◌-◌, ◌≤◌, min, Bool, true, false, List, [], ◌∷◌, ◌++◌, reverse, ◌≡◌, length, take, eqb, if◌then◌else◌}
use Rattle.std.proofs.Math.Option.{none}
use Rattle.std.proofs.lemmas.List.Edits.{sets}
use Rattle.text.specs.Utf8.{Scalars, chars}
use Rattle.records.specs.Blocks.{Span, item, Block, Item}
use Rattle.records.specs.Format.{bit, non_empty, le32, kind_bits, encode_kind, encode_count, encode_span, encode_spans, encode_block, encode_blocks}
use Rattle.spans.specs.Spans.{spans}
use Rattle.spans.specs.declared.Written.{Written}
use Rattle.markdown.specs.Blocks.{Reader, reader, flush, plain_space, continued}
use Rattle.text.specs.Part.{between}
use Rattle.markdown.specs.Parts.{lent, size, text_at}
use Rattle.markdown.specs.declared.lines.Text.{Text}
use Rattle.markdown.specs.declared.writer.OpenItem.{OpenItem}
use Rattle.markdown.specs.declared.writer.State.{State}
use Rattle.std.specs.Prelude.{◌&&◌, Some, None}
use Rattle.std.specs.Prelude as code

-- no block, and no paragraph
abbrev pub fresh : State
fresh = record { at = 0; item = None; text = lent 0 0 }

-- the span count of a block, unless it is 0, and its spans
abbrev pub counted : List Span → List ℕ
counted ss = encode_count (length ss) ++ encode_spans ss

-- the spans of a text stored behind the fields of a block, and then the block's map byte
pub record SpansPut (text out₀ out : List ℕ) (head map fields : ℕ) (w : Written) : Type 0 where
  pub stored : out ≡ sets (sets out₀ fields (counted (spans (chars text)))) head ((map + bit (non_empty (spans (chars text))) 8) ∷ [])
  pub next : w.next ≡ fields + length (counted (spans (chars text)))
  pub count : w.count ≡ length (spans (chars text))

-- after a heading or a paragraph
abbrev pub plain_after : State → Block → State
plain_after s b = record { at = s.at + length (encode_block b); item = None; text = s.text }

-- after an item
abbrev pub item_after : State → ℕ → List ℕ → List Span → State
item_after s depth marker ss =
    record {
      at = s.at + length (encode_block (Item depth marker ss));
      item =
          Some
          (record {
            head = s.at;
            map = kind_bits (item depth marker);
            fields = s.at + 1 + length (encode_kind (item depth marker));
            count = length ss;
          });
      text = s.text;
    }

-- where the next span of the last item goes, behind its count, and the state after a span of one space and some more
abbrev pub span_start : ℕ → OpenItem → ℕ
span_start at i = if eqb i.count 0 then i.fields + 4 else at

abbrev pub item_continued : OpenItem → List Span → OpenItem
item_continued i more = record { head = i.head; map = i.map; fields = i.fields; count = i.count + 1 + length more }

abbrev pub continued_after : State → OpenItem → List Span → State
continued_after s i more =
    record { at = span_start s.at i + 6 + length (encode_spans more); item = Some (item_continued i more); text = s.text }

-- the record of a span of one space
abbrev pub space_bytes : List ℕ
space_bytes = encode_span plain_space

abbrev pub continued_out : State → OpenItem → List Span → List ℕ → List ℕ
continued_out s i more out =
    sets (sets (sets out (span_start s.at i) (space_bytes ++ encode_spans more)) i.fields (le32 (i.count + 1 + length more))) i.head ((i.map + 8) ∷ [])

-- the last block is an item, and this is where its record is
pub record ItemAt (bs : List Block) (i : OpenItem) : Type 0 where
  pub depth : ℕ
  pub marker : List ℕ
  pub spans : List Span
  pub before : List Block
  pub is : bs ≡ Item depth marker spans ∷ before
  pub head : i.head ≡ length (encode_blocks (reverse before))
  pub map : i.map ≡ kind_bits (item depth marker)
  pub fields : i.fields ≡ i.head + 1 + length (encode_kind (item depth marker))
  pub count : i.count ≡ length spans

abbrev pub LastIs : code.Option OpenItem → List Block → Type 0
LastIs (Some i) bs = ItemAt bs i
LastIs None bs = (more : List Span) → continued more bs ≡ none

-- the last item, if a line goes on with it
abbrev pub continues : State → Bool → code.Option OpenItem
continues s indented = if indented && eqb s.text.part.start s.text.part.end then s.item else None

-- the state stands for a reader, over the result buffer as it was at first
pub record Holds (markdown work out₀ out : List ℕ) (r : Reader) (s : State) : Type 0 where
  pub stored : out ≡ sets out₀ 0 (encode_blocks (reverse r.blocks))
  pub end : s.at ≡ length (encode_blocks (reverse r.blocks))
  pub last : LastIs s.item r.blocks
  pub paragraph : r.paragraph ≡ chars (text_at markdown work s.text)

-- the open paragraph is in the second part of the work buffer
pub record Owned (markdown work₀ work : List ℕ) (s : State) : Type 0 where
  pub text : between work (length markdown) (length markdown + size s.text) ≡ text_at markdown work₀ s.text
  pub below : take (length markdown) work ≡ take (length markdown) work₀
  pub size : length work ≡ length work₀

-- what a step does: the paragraph ends; another one starts
abbrev pub ends : Reader → Reader
ends q = reader (flush q) []

abbrev pub starts_with_text : List ℕ → Reader → Reader
starts_with_text text q = reader q.blocks text

-- ---- offsets
-- a paragraph in the Markdown, or joined in the second part of the work buffer
abbrev pub Placed : Bool → ℕ → ℕ → ℕ → Type 0
Placed true n from to = (from ≡ n) × (to ≤ n + n)
Placed false n from to = to ≤ n

-- the offsets of the last item, where the records end at `at`
pub record SafeItem (i : OpenItem) (at : ℕ) : Type 0 where
  pub head : i.head ≤ i.fields
  pub fields : i.fields ≤ at
  pub count : i.count ≤ at
  pub map : i.map ≤ 6

abbrev pub SafeLast : code.Option OpenItem → ℕ → Type 0
SafeLast None at = Unit {0}
SafeLast (Some i) at = SafeItem i at

pub record Safe (markdown work : List ℕ) (s : State) : Type 0 where
  pub small : length markdown ≤ 65536
  pub room : 6 * length markdown ≤ length work
  pub order : s.text.part.start ≤ s.text.part.end
  pub place : Placed s.text.copied (length markdown) s.text.part.start s.text.part.end
  pub last : SafeLast s.item s.at

-- how much longer a paragraph is once a line joins it, but for the line
abbrev pub grown : State → ℕ
grown s = size s.text + min (size s.text) 1

-- the state before a step that reads a part of the Markdown, or of the first part of the work buffer
pub record Given (markdown work : List ℕ) (s : State) (from to : ℕ) : Type 0 where
  pub safe : Safe markdown work s
  pub low : s.at ≤ 300000000000
  pub order : from ≤ to
  pub bound : to ≤ length markdown

-- a step: what the reader does, how far the records grow, and how long the paragraph is at most
pub record Steps (markdown work₀ work out₁ out₂ : List ℕ) (s r : State) (cost long : ℕ) (f : Reader → Reader) : Type 0 where
  pub holds : (out₀ : List ℕ) (q : Reader) → Holds markdown work₀ out₀ out₁ q s → Holds markdown work out₀ out₂ (f q) r
  pub safe : Safe markdown work r
  pub grows : r.at ≤ s.at + cost
  pub short : size r.text ≤ long

-- the state before a line is read
pub record LineGiven (markdown work : List ℕ) (s : State) (l : Text) : Type 0 where
  pub safe : Safe markdown work s
  pub low : s.at ≤ 274877906944
  pub order : l.part.start ≤ l.part.end
  pub bound : l.part.end ≤ length markdown
  pub fits : grown s + size l ≤ length markdown
  pub scalars : Scalars (chars (text_at markdown work l))

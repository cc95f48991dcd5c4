-- What the walker answers at an offset of the records (document 01, "Records" and the walker's row of "Where each call says no").
-- Assumes nothing.
use Rattle.std.specs.Prelude.{ℕ, zero, suc, ◌-◌, Bool, List, [], ◌∷◌, length, drop, eqb, if◌then◌else◌}
use Rattle.std.proofs.Math.Option.{Option, none, some}
use Rattle.records.specs.Blocks.{Span, Kind, heading, paragraph, item, Block}
use Rattle.records.specs.Decode.{Parse, failed, parsed, block_at}

-- the end, a refusal's number, or values
pub data Answer (A : Type 0) : Type 0 where
  at_end : Answer A
  refused : ℕ → Answer A
  gives : A → Answer A

-- the number returned, 0 where nothing is refused
abbrev pub number : {A : Type 0} → Answer A → ℕ
number at_end = 0
number (refused n) = n
number (gives a) = 0

abbrev pub map : {A B : Type 0} → (A → B) → Answer A → Answer B
map f at_end = at_end
map f (refused n) = refused n
map f (gives a) = gives (f a)

-- a block's numbers: a heading's level, an item's depth, the span count and the next block's offset
pub record BlockValues : Type 0 where
  pub level : Option ℕ
  pub depth : Option ℕ
  pub count : ℕ
  pub next : ℕ

-- a span's emphasis bits
pub record Emphasis : Type 0 where
  pub bold : Bool
  pub italic : Bool
  pub code : Bool

abbrev pub level_of : Kind → Option ℕ
level_of (heading l) = some l
level_of paragraph = none
level_of (item d m) = none

abbrev pub depth_of : Kind → Option ℕ
depth_of (heading l) = none
depth_of paragraph = none
depth_of (item d m) = some d

abbrev pub marker_of : Kind → List ℕ
marker_of (heading l) = []
marker_of paragraph = []
marker_of (item d m) = m

abbrev pub values_of : Block → ℕ → BlockValues
values_of b next = record { level = level_of b.kind; depth = depth_of b.kind; count = length b.spans; next = next }

abbrev pub emphasis_of : Span → Emphasis
emphasis_of x = record { bold = x.bold; italic = x.italic; code = x.code }

-- what was read and the offset after it, in records of this length; 7 where nothing well-formed stands
abbrev pub placed : {A : Type 0} → ℕ → Parse A → Answer (A × ℕ)
placed size failed = refused 7
placed size (parsed a r) = gives (a, size - length r)

-- the block at an offset; the end at the records' length; past it no block stands
unfoldable pub found_at : List ℕ → ℕ → Answer (Block × ℕ)
found_at s at = if eqb at (length s) then at_end else placed (length s) (block_at (drop at s))

unfoldable pub block_answer : List ℕ → ℕ → Answer BlockValues
block_answer s at = map (λ f. values_of f.0 f.1) (found_at s at)

-- the span count of the block that is answered
abbrev pub count_of : Answer BlockValues → ℕ
count_of at_end = 0
count_of (refused n) = 0
count_of (gives v) = v.count

-- a text, which is empty where there is none
abbrev pub text_or_none : {A : Type 0} → (A → List ℕ) → Answer A → List ℕ
text_or_none f at_end = []
text_or_none f (refused n) = []
text_or_none f (gives a) = f a

unfoldable pub marker_answer : List ℕ → ℕ → List ℕ
marker_answer s at = text_or_none (λ f. marker_of f.0.kind) (found_at s at)

-- span n of a list, counted from 0, and the end from the list's length on
abbrev pub nth : List Span → ℕ → Answer Span
nth [] n = at_end
nth (x ∷ xs) zero = gives x
nth (x ∷ xs) (suc n) = nth xs n

abbrev pub nth_of : Answer (Block × ℕ) → ℕ → Answer Span
nth_of at_end n = at_end
nth_of (refused k) n = refused k
nth_of (gives f) n = nth f.0.spans n

unfoldable pub span_in : List ℕ → ℕ → ℕ → Answer Span
span_in s at n = nth_of (found_at s at) n

unfoldable pub span_answer : List ℕ → ℕ → ℕ → Answer Emphasis
span_answer s at n = map emphasis_of (span_in s at n)

unfoldable pub text_answer : List ℕ → ℕ → ℕ → List ℕ
text_answer s at n = text_or_none (λ x. x.text) (span_in s at n)

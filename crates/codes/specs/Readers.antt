-- What the inner functions promise: which of the codes' front parts stand at the end of a text that is read byte by byte, kept in one bit each.
-- Assumes nothing.
use Rattle.std.specs.Prelude.{ℕ, zero, suc, ◌+◌, ◌*◌, ◌-◌, ◌<◌, ◌≤◌, ◌≡◌, Bool, true, false, ◌&&◌, ◌||◌, length, get_or, slice_index, eqb, ltb, Some, None}
use Rattle.std.specs.Prelude as code
use Rattle.std.specs.Int.{bit_at}
use mathlib.Core.List.{List, [], ◌∷◌, ◌++◌, reverse}
use Rattle.records.specs.Blocks.{Block}
use Rattle.records.specs.Format.{bit}
use Rattle.walker.specs.Answers.{Answer, at_end, refused, gives, found_at}
use Rattle.codes.specs.Search.{text_of}
use Rattle.codes.specs.declared.Found.{Found}
use Rattle.codes.specs.declared.scan.Scan.{Scan}

-- the text of a block that the walker finds
abbrev pub text_at : Answer (Block × ℕ) → List ℕ
text_at at_end = []
text_at (refused n) = []
text_at (gives f) = text_of f.0

-- whether byte j of a code is b
abbrev pub has : List ℕ → ℕ → ℕ → Bool
has code j b = ltb j (length code) && eqb b (get_or code j 0)

-- whether the first n bytes of a code stand at the end of a text, whose last byte is the first of this list
unfoldable pub ends : List ℕ → ℕ → List ℕ → Bool
ends code zero r = true
ends code (suc j) [] = false
ends code (suc j) (b ∷ r) = has code j b && ends code j r

-- whether the first j + 1 bytes stand somewhere in it
unfoldable pub stood : List ℕ → ℕ → List ℕ → Bool
stood code j [] = false
stood code j (b ∷ r) = ends code (suc j) (b ∷ r) || stood code j r

-- code i, and no bytes behind the last one
abbrev pub nth : List (List ℕ) → ℕ → List ℕ
nth codes i = get_or codes i []

-- for each byte there is a word for each code, whose bits say where the code has the byte
abbrev pub word : List ℕ → ℕ → ℕ → ℕ
word masks b i = slice_index masks (b * 16 + i)

abbrev pub HasMasks : List (List ℕ) → List ℕ → Type 0
HasMasks codes masks = (b i j : ℕ) → b < 256 → i < 16 → j < 32 → bit_at (word masks b i) j ≡ bit (has (nth codes i) j b) 1

-- what is known of a text that was read, whose last byte is the first of this list
pub record IsScan (codes : List (List ℕ)) (r : List ℕ) (scan : Scan) : Type 0 where
  pub live : (i j : ℕ) → i < 16 → j < 32 → bit_at (slice_index scan.live i) j ≡ bit (ends (nth codes i) (suc j) r) 1
  pub hit : (i j : ℕ) → i < 16 → j < 32 → bit_at (slice_index scan.hit i) j ≡ bit (stood (nth codes i) j r) 1

-- what is known of a text becomes what is known of it with these bytes behind it, of which the last is the first
abbrev pub Further : List ℕ → List ℕ → Scan → Scan → Type 0
Further p masks old new = (codes : List (List ℕ)) (r : List ℕ) → HasMasks codes masks → IsScan codes r old → IsScan codes (p ++ r) new

-- what is known of the text of the block at an offset
abbrev pub Scanned : List ℕ → ℕ → List ℕ → Scan → Type 0
Scanned s at masks scan = (codes : List (List ℕ)) → HasMasks codes masks → IsScan codes (reverse (text_at (found_at s at))) scan

-- ---- the numbers of the codes while blocks are read
-- one more block gives its number to a code that stands in it and has none
abbrev pub given : Bool → ℕ → code.Option ℕ → code.Option ℕ
given here v (Some n) = Some n
given true v None = Some v
given false v None = None

-- whether code i, of which the last bit tells, stands in the text
abbrev pub stands : Scan → List ℕ → ℕ → Bool
stands scan lengths i = eqb (bit_at (slice_index scan.hit i) (get_or lengths i 0 - 1)) 1

-- the first n codes have their numbers with this block, the others as before
pub record Numbered (scan : Scan) (lengths : List ℕ) (old new : Found) (n : ℕ) : Type 0 where
  pub size : length new.blocks ≡ length old.blocks
  pub visited : new.visited ≡ old.visited
  pub these : (i : ℕ) → i < n → get_or new.blocks i None ≡ given (stands scan lengths i) old.visited (get_or old.blocks i None)
  pub others : (i : ℕ) → n ≤ i → get_or new.blocks i None ≡ get_or old.blocks i None

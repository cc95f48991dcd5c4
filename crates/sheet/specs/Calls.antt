-- The sheet test as a call: document 01, "Sheet" and "Where each call says no".
-- Assumes nothing.
use Rattle.std.specs.Prelude.{ℕ, List, length, Some, None, Ok, Err, Result}
use Rattle.std.specs.Prelude.{Option as Maybe}
use Rattle.std.proofs.Math.Option.{Option, none, some}
use Rattle.text.specs.Words.{◌>>=◌, ensure, case}
use Rattle.text.specs.Utf8.{size, decode}
use Rattle.sheet.specs.Tree.{Block}
use Rattle.sheet.specs.Reader.{read_page}
use Rattle.sheet.specs.Written.{written}
use Rattle.sheet.specs.Sheet.{small}
use Rattle.sheet.specs.declared.count.Count.{Count}
use Rattle.sheet.specs.declared.NotUtf8.{NotUtf8}

-- the tree of a sheet
unfoldable pub sheet : List ℕ → Option (List Block)
sheet s = read_page s >>= λ t. ensure (small t) >>= λ _. some t

-- the test's answer: refusal 1, no, or yes with the bytes and the characters of the written form
pub data Tested : Type 0 where
  no_utf8 : Tested
  no_sheet : Tested
  yes_sheet : ℕ → ℕ → Tested

unfoldable pub sheet_call : List ℕ → Tested
sheet_call page = case (decode page) no_utf8 (λ s. case (sheet s) no_sheet (λ t. yes_sheet (size (written t)) (length (written t))))

-- document 01's number of an answer, 0 where it is none, and the counts it gives
abbrev pub number : Tested → ℕ
number no_utf8 = 1
number no_sheet = 0
number (yes_sheet b c) = 0

abbrev pub counts : Tested → Option (ℕ × ℕ)
counts no_utf8 = none
counts no_sheet = none
counts (yes_sheet b c) = some (b, c)

-- what the code's answer says
abbrev pub answer : Result (Maybe Count) NotUtf8 → Tested
answer (Err e) = no_utf8
answer (Ok None) = no_sheet
answer (Ok (Some w)) = yes_sheet w.bytes w.chars

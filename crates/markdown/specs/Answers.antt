-- Document 01's numbers and values for what `blocks` answers.
-- Assumes nothing.
use Rattle.std.specs.Prelude.{ℕ, Result, Ok, Err}
use Rattle.markdown.specs.declared.BlocksError.{BlocksError}
use Rattle.markdown.specs.declared.BlocksError.TheVariants.{NotUtf8, SmallWork, TooLong, SmallResult}

abbrev pub error_number : BlocksError → ℕ
error_number NotUtf8 = 1
error_number SmallWork = 2
error_number TooLong = 5
error_number SmallResult = 6

-- the number: 0 for success, and that of each refusal
abbrev pub answer_number : Result ℕ BlocksError → ℕ
answer_number (Ok n) = 0
answer_number (Err e) = error_number e

-- the length: that of the records, and 0 for a refusal
abbrev pub answer_length : Result ℕ BlocksError → ℕ
answer_length (Ok n) = n
answer_length (Err e) = 0

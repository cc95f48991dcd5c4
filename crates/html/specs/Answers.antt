-- What the code's answer says: document 01's number and length of each case.
-- Assumes nothing.
use Rattle.std.specs.Prelude.{ℕ, Result, Ok, Err}
use Rattle.html.specs.declared.PageError.{PageError}
use Rattle.html.specs.declared.PageError.TheVariants.{NotUtf8, SmallWork, SmallResult, TooManyLists}

abbrev pub error_number : PageError → ℕ
error_number NotUtf8 = 1
error_number SmallWork = 2
error_number SmallResult = 3
error_number TooManyLists = 4

abbrev pub answer_number : Result ℕ PageError → ℕ
answer_number (Ok n) = 0
answer_number (Err e) = error_number e

abbrev pub answer_length : Result ℕ PageError → ℕ
answer_length (Ok n) = n
answer_length (Err e) = 0

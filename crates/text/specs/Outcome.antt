-- What a call that writes a result answers: document 01, "Where each call says no".
-- Assumes nothing.
use Rattle.std.specs.Prelude.{ℕ, ◌||◌, List, [], ◌++◌, eqb, length, drop, replicate, if◌then◌else◌}

-- a refusal's number, or the bytes written to the front of the result
pub data Outcome : Type 0 where
  refused : ℕ → Outcome
  wrote : List ℕ → Outcome

-- the number returned, 0 for success, and the length returned, 0 for a refusal
abbrev pub number : Outcome → ℕ
number (refused n) = n
number (wrote bs) = 0

abbrev pub returned : Outcome → ℕ
returned (refused n) = 0
returned (wrote bs) = length bs

-- the first bytes of a buffer replaced, every other one as before
abbrev pub front : List ℕ → List ℕ → List ℕ
front bs buffer = bs ++ drop (length bs) buffer

-- the result buffer afterwards: its first bytes replaced after success, all zero after 6, as before after any other refusal
abbrev pub result_after : Outcome → List ℕ → List ℕ
result_after (refused n) buffer = if eqb n 6 then replicate (length buffer) 0 else buffer
result_after (wrote bs) buffer = front bs buffer

-- the bytes of the work buffer that are not free afterwards: none after 4, 6 and success, all after any other refusal
abbrev pub work_kept : Outcome → List ℕ → List ℕ
work_kept (refused n) buffer = if eqb n 4 || eqb n 6 then [] else buffer
work_kept (wrote bs) buffer = []

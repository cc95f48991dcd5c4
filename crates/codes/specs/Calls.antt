-- What the call answers for records and codes (document 02, U10; READINGS-02, points 1, 3 and 26): 10 for too many codes or a length outside its range,
-- before any record is read; 7 where the walk reaches a broken block; otherwise how many blocks were visited, and a block's number or none for each code.
-- Assumes nothing.
use Rattle.std.specs.Prelude.{ℕ, zero, suc, ◌+◌, ◌-◌, Bool, true, false, not, ◌&&◌, length, take, drop, map, replicate, leb, eqb, if◌then◌else◌, Some, None, Ok, Err}
use Rattle.std.specs.Prelude as code
use mathlib.Core.List.{List, [], ◌∷◌, ◌++◌}
use Rattle.std.proofs.Math.Option.{Option, none, some}
use Rattle.text.specs.Words.{all}
use Rattle.records.specs.Blocks.{Block}
use Rattle.walker.specs.Answers.{Answer, at_end, refused, gives, found_at}
use Rattle.codes.specs.Search.{first_block, visited, all_found}
use Rattle.codes.specs.declared.Found.{Found}
use Rattle.codes.specs.declared.CodesError.{CodesError}
use Rattle.codes.specs.declared.CodesError.TheVariants.{NotCodes, Broken}

-- ---- codes, lent as their bytes one after the other and the length of each
abbrev pub divided : List ℕ → List ℕ → List (List ℕ)
divided bytes [] = []
divided bytes (n ∷ ns) = take n bytes ∷ divided (drop n bytes) ns

abbrev pub total : List ℕ → ℕ
total [] = 0
total (n ∷ ns) = n + total ns

abbrev pub code_length : ℕ → Bool
code_length n = leb 1 n && leb n 32

-- at most 16, each of 1 to 32 bytes, which are all the bytes that are lent
unfoldable pub are_codes : List ℕ → List ℕ → Bool
are_codes bytes lengths = leb (length lengths) 16 && all code_length lengths && eqb (total lengths) (length bytes)

-- ---- the blocks from an offset on, by the walker's answers: each at the offset that the one before it gave, up to the end or a broken one
pub record Reading : Type 0 where
  pub blocks : List Block
  pub broken : Bool

abbrev pub nothing_read : Bool → Reading
nothing_read broken = record { blocks = []; broken = broken }

abbrev pub then_read : Block → Reading → Reading
then_read b r = record { blocks = b ∷ r.blocks; broken = r.broken }

-- what stands at an offset, and then what is read from the next one on
abbrev pub read_at : Answer (Block × ℕ) → (ℕ → Reading) → Reading
read_at at_end more = nothing_read false
read_at (refused n) more = nothing_read true
read_at (gives f) more = then_read f.0 (more f.1)

-- in at most this many turns
unfoldable pub read_from : ℕ → List ℕ → ℕ → Reading
read_from zero s at = nothing_read false
read_from (suc k) s at = read_at (found_at s at) (λ next. read_from k s next)

-- a block takes a byte at least, so one turn more than the records have bytes is enough
unfoldable pub reading : List ℕ → Reading
reading s = read_from (suc (length s)) s 0

-- ---- the call
-- the blocks visited, and what stands for each of 16 codes: its block's number or none, and none behind the codes
pub record FoundValues : Type 0 where
  pub visited : ℕ
  pub blocks : List (Option ℕ)

abbrev pub sixteen : List (Option ℕ) → List (Option ℕ)
sixteen ns = ns ++ replicate (16 - length ns) none

abbrev pub numbers : List (List ℕ) → List Block → List (Option ℕ)
numbers codes bs = sixteen (map (λ c. first_block c bs) codes)

-- the walk reaches the broken block where some code stands in none of the blocks before it
unfoldable pub search : List (List ℕ) → Reading → Answer FoundValues
search codes r =
    if r.broken && not (all_found codes r.blocks) then refused 7
    else gives (record { visited = visited codes r.blocks; blocks = numbers codes r.blocks })

unfoldable pub codes_answer : List ℕ → List ℕ → List ℕ → Answer FoundValues
codes_answer records bytes lengths =
    if are_codes bytes lengths then search (divided bytes lengths) (reading records) else refused 10

-- ---- the number and values of the answer's cases
abbrev pub option_of : code.Option ℕ → Option ℕ
option_of None = none
option_of (Some n) = some n

abbrev pub refusal : CodesError → ℕ
refusal NotCodes = 10
refusal Broken = 7

abbrev pub codes_values : code.Result Found CodesError → Answer FoundValues
codes_values (Ok f) = gives (record { visited = f.visited; blocks = map option_of f.blocks })
codes_values (Err e) = refused (refusal e)

-- Where the code finds something: the answer of a search that started at an offset, and the parts of a text before and after it.
-- Assumes nothing.
use Rattle.std.specs.Prelude.{ℕ, ◌+◌, cond, List, [], ◌∷◌, None, Some, eqb, length, drop, if◌then◌else◌}
use Rattle.std.specs.Prelude as code
use Rattle.std.proofs.Math.Option.{Option, none, some}
use Rattle.text.specs.Words.{case, starts, find}

abbrev pub found : ℕ → Option ℕ → code.Option ℕ
found from none = None
found from (some n) = Some (from + n)

-- what stands before the first b, and what stands from it on
abbrev pub until : ℕ → List ℕ → List ℕ
until b [] = []
until b (x ∷ xs) = cond (eqb x b) [] (x ∷ until b xs)

abbrev pub since : ℕ → List ℕ → List ℕ
since b [] = []
since b (x ∷ xs) = cond (eqb x b) (x ∷ xs) (since b xs)

-- what is left after the first `-->`
unfoldable pub closed : List ℕ → List ℕ
closed [] = []
closed (x ∷ s) = let later = closed s in if starts "-->" (x ∷ s) then drop 3 (x ∷ s) else later

-- where that starts, from offset i of a text on: at its end where there is none
unfoldable pub comment_end : List ℕ → ℕ → ℕ
comment_end s i = case (find "-->" (drop i s)) (length s) (λ end. i + end + 3)

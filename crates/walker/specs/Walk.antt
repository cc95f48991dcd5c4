-- A walk over the records by the walker's answers alone: block after block, each at the offset that the one before it gave, and then the end or 7.
-- Assumes nothing.
use Rattle.std.specs.Prelude.{ℕ, ◌≡◌, List, [], ◌∷◌}
use Rattle.records.specs.Blocks.{Block}
use Rattle.walker.specs.Answers.{Answer, at_end, refused, gives, BlockValues, Emphasis, map, values_of, emphasis_of, marker_of, text_or_none, nth}
use Rattle.walker.specs.Answers.{block_answer, marker_answer, span_answer, text_answer}

-- at this offset the walker shows the block b: its numbers and the next offset, its marker, and each span's emphasis and text
pub record Shows (s : List ℕ) (at : ℕ) (b : Block) (next : ℕ) : Type 0 where
  pub values : block_answer s at ≡ gives (values_of b next)
  pub marker : marker_answer s at ≡ marker_of b.kind
  pub emphasis : (n : ℕ) → span_answer s at n ≡ map emphasis_of (nth b.spans n)
  pub text : (n : ℕ) → text_answer s at n ≡ text_or_none (λ x. x.text) (nth b.spans n)

-- at this offset no block is shown: the same is answered for each span number, and there is no text
pub record Blank (s : List ℕ) (at : ℕ) (x : Answer BlockValues) (y : Answer Emphasis) : Type 0 where
  pub values : block_answer s at ≡ x
  pub marker : marker_answer s at ≡ []
  pub emphasis : (n : ℕ) → span_answer s at n ≡ y
  pub text : (n : ℕ) → text_answer s at n ≡ []

abbrev pub Ends : List ℕ → ℕ → Type 0
Ends s at = Blank s at at_end at_end

abbrev pub Refuses : List ℕ → ℕ → Type 0
Refuses s at = Blank s at (refused 7) (refused 7)

-- these blocks are shown from an offset on, and then comes what is asked of the last offset
abbrev pub Steps : (List ℕ → ℕ → Type 0) → List ℕ → ℕ → List Block → Type 0
Steps last s at [] = last s at
Steps last s at (b ∷ bs) = (next : ℕ) × Shows s at b next × Steps last s next bs

-- these, and then the end
abbrev pub Walk : List ℕ → ℕ → List Block → Type 0
Walk s at bs = Steps Ends s at bs

-- these, and then 7
abbrev pub Breaks : List ℕ → ℕ → List Block → Type 0
Breaks s at bs = Steps Refuses s at bs

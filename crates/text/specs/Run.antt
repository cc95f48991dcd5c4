-- What is left of a run, or of a search, from offset i of some bytes on, at offset j.
-- Assumes nothing.
use Rattle.std.specs.Prelude.{ℕ, ◌+◌, ◌≤◌, Bool, not, ◌≡◌, List, eqb, length, drop}
use Rattle.text.specs.Words.{take_while, index}
use Rattle.text.specs.Find.{found}

-- the bytes from i to j all pass p
pub record RunTo (p : ℕ → Bool) (s : List ℕ) (i j : ℕ) : Type 0 where
  pub low : i ≤ j
  pub high : j ≤ length s
  pub run : i + length (take_while p (drop i s)) ≡ j + length (take_while p (drop j s))

-- any byte but b
unfoldable pub other : ℕ → ℕ → Bool
other b x = not (eqb x b)

-- p stands at no place from i up to j
pub record SeekTo (p s : List ℕ) (i j : ℕ) : Type 0 where
  pub low : i ≤ j
  pub high : j ≤ length s
  pub same : found i (index p (drop i s)) ≡ found j (index p (drop j s))

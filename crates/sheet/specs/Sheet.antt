-- What a sheet is (document 01, "Sheet"): UTF-8 that the grammar reads as a tree whose written form keeps both limits.
-- Assumes nothing.
use Rattle.std.specs.Prelude.{ℕ, Bool, true, ◌&&◌, ◌≡◌, List, ltb, leb, length}
use Rattle.text.specs.Utf8.{Scalars, size, encode}
use Rattle.sheet.specs.Tree.{Block}
use Rattle.sheet.specs.Grammar.{IsPage}
use Rattle.sheet.specs.Written.{written}

-- fewer than 16,000 bytes and at most 8,000 characters
abbrev pub within_limits : ℕ → ℕ → Bool
within_limits bytes chars = ltb bytes 16000 && leb chars 8000

-- so many has a sheet's written form
unfoldable pub small : List Block → Bool
small t = within_limits (size (written t)) (length (written t))

-- the page's bytes are a sheet with the tree t
pub record IsSheet (page : List ℕ) (t : List Block) : Type 0 where
  pub html : List ℕ
  pub scalars : Scalars html
  pub encoded : encode html ≡ page
  pub grammar : IsPage html t
  pub short : small t ≡ true

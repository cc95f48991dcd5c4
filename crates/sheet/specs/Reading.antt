-- What the reader of sheets is made of: the first answer that is there, a prefix taken off, and a reader used again and again.
-- Assumes nothing.
use Rattle.std.specs.Prelude.{ℕ, zero, suc, List, [], ◌∷◌, eqb}
use Rattle.std.proofs.Math.Option.{Option, none, some}
use Rattle.text.specs.Words.{◌>>=◌, ensure, case}

-- the first answer that is there
infixr 25 ◌<|>◌
abbrev pub ◌<|>◌ : {A : Type 0} → Option A → Option A → Option A
none <|> o = o
some a <|> o = some a

-- `s.strip_prefix(p)`
abbrev pub strip : List ℕ → List ℕ → Option (List ℕ)
strip [] s = some s
strip (a ∷ p) [] = none
strip (a ∷ p) (b ∷ s) = ensure (eqb a b) >>= λ _. strip p s

-- p again and again, at most n times, as far as it goes
unfoldable pub many : {A : Type 0} → (List ℕ → Option (A × List ℕ)) → ℕ → List ℕ → List A × List ℕ
many p zero s = ([], s)
many p (suc n) s = case (p s) ([], s) (λ x. let y = many p n x.1 in (x.0 ∷ y.0, y.1))

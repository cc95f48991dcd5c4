-- The number and values of an answer determine its case.
-- Assumes nothing.
use Prim.Native.Nat.{ℕ}
use mathlib.Core.Path.{◌≡◌, refl, sym, ap, ap₂, ◌∙◌}
use mathlib.Core.Bool.{cond}
use mathlib.Core.List.{List, [], ◌∷◌, map}
use mathlib.Core.Option.{Option, none, some}
use lib.Dec.{eqb}
use Rattle.std.specs.Prelude.{Some, None, Ok, Err}
use Rattle.std.specs.Prelude as code
use Rattle.walker.specs.Answers.{Answer, at_end, refused, gives}
use Rattle.codes.specs.Calls.{FoundValues, option_of, codes_values}
use Rattle.codes.specs.declared.Found.{Found}
use Rattle.codes.specs.declared.CodesError.{CodesError}
use Rattle.codes.specs.declared.CodesError.TheVariants.{NotCodes, Broken}

option_case : Option ℕ → code.Option ℕ
option_case none = None
option_case (some n) = Some n

option_back : (o : code.Option ℕ) → option_case (option_of o) ≡ o
unfolding option_case
option_back None = refl
option_back (Some n) = refl

pub option_one : (o p : code.Option ℕ) → option_of o ≡ option_of p → o ≡ p
option_one o p e = sym (option_back o) ∙ ap option_case e ∙ option_back p

options_back : (os : List (code.Option ℕ)) → map option_case (map option_of os) ≡ os
options_back [] = refl
options_back (o ∷ os) = ap₂ ◌∷◌ (option_back o) (options_back os)

codes_case : Answer FoundValues → code.Result Found CodesError
codes_case at_end = Err Broken
codes_case (refused n) = cond (eqb n 10) (Err NotCodes) (Err Broken)
codes_case (gives v) = Ok (record { visited = v.visited; blocks = map option_case v.blocks })

codes_back : (r : code.Result Found CodesError) → codes_case (codes_values r) ≡ r
unfolding codes_case
codes_back (Ok f) = ap (λ (os : List (code.Option ℕ)). Ok (record { visited = f.visited; blocks = os })) (options_back f.blocks)
codes_back (Err NotCodes) = refl
codes_back (Err Broken) = refl

pub codes_values_one : (q r : code.Result Found CodesError) → codes_values q ≡ codes_values r → q ≡ r
codes_values_one q r e = sym (codes_back q) ∙ ap codes_case e ∙ codes_back r

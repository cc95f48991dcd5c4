-- The number and values of an answer determine its case: a contract that goes through them leaves no choice of the answer.
-- Assumes nothing.
use Prim.Native.Nat.{ℕ}
use mathlib.Core.Path.{◌≡◌, refl, sym, ap, ◌∙◌}
use mathlib.Core.Option.{Option, none, some}
use Rattle.std.specs.Prelude.{Some, None, Ok, Err}
use Rattle.std.specs.Prelude as code
use Rattle.walker.specs.Answers.{Answer, at_end, refused, gives, BlockValues, Emphasis}
use Rattle.walker.specs.Places.{HereValues}
use Rattle.walker.specs.Numbers.{answered, level_in, depth_in, values_in, emphasis_in, block_values, span_values, first_values, here_values}
use Rattle.walker.specs.declared.blocks.Broken.{Broken}
use Rattle.walker.specs.declared.blocks.Kind as K
use Rattle.walker.specs.declared.blocks.Kind.TheVariants as KV
use Rattle.walker.specs.declared.blocks.Block as B
use Rattle.walker.specs.declared.blocks.Emphasis as E
use Rattle.walker.specs.declared.blocks.Span as S

-- where the values determine what stands there
module _ {A B : Type 0} (f : A → B) (g : B → A) (back : (a : A) → g (f a) ≡ a) where
  case_of : Answer B → code.Result (code.Option A) Broken
  case_of at_end = Ok None
  case_of (refused n) = Err (record {})
  case_of (gives b) = Ok (Some (g b))

  case_back : (r : code.Result (code.Option A) Broken) → case_of (answered f r) ≡ r
  unfolding case_of
  case_back (Ok (Some a)) = ap (λ (a : A). Ok (Some a)) (back a)
  case_back (Ok None) = refl
  case_back (Err e) = refl

  answered_one : (q r : code.Result (code.Option A) Broken) → answered f q ≡ answered f r → q ≡ r
  answered_one q r e = sym (case_back q) ∙ ap case_of e ∙ case_back r

kind_of : Option ℕ → Option ℕ → K.Kind
kind_of (some l) d = KV.Heading l
kind_of none (some d) = KV.Item d
kind_of none none = KV.Paragraph

kind_back : (k : K.Kind) → kind_of (level_in k) (depth_in k) ≡ k
unfolding kind_of
kind_back (KV.Heading l) = refl
kind_back KV.Paragraph = refl
kind_back (KV.Item d) = refl

block_of : BlockValues → B.Block
block_of v = record { kind = kind_of v.level v.depth; count = v.count; next = v.next }

block_back : (b : B.Block) → block_of (values_in b) ≡ b
unfolding block_of
block_back b = ap (λ (k : K.Kind). record { kind = k; count = b.count; next = b.next }) (kind_back b.kind)

pub block_values_one : (q r : code.Result (code.Option B.Block) Broken) → block_values q ≡ block_values r → q ≡ r
block_values_one = answered_one values_in block_of block_back

abbrev emphasis_out : Emphasis → E.Emphasis
emphasis_out e = record { bold = e.bold; italic = e.italic; code = e.code }

pub span_values_one : (q r : code.Result (code.Option E.Emphasis) Broken) → span_values q ≡ span_values r → q ≡ r
span_values_one = answered_one emphasis_in emphasis_out (λ e. refl)

pub first_values_one : (q r : code.Result (code.Option ℕ) Broken) → first_values q ≡ first_values r → q ≡ r
first_values_one = answered_one (λ (at : ℕ). at) (λ (at : ℕ). at) (λ at. refl)

here_case : Answer HereValues → code.Result S.Span Broken
here_case at_end = Err (record {})
here_case (refused n) = Err (record {})
here_case (gives v) = Ok (record { emphasis = emphasis_out v.emphasis; text = v.text; next = v.next })

here_back : (r : code.Result S.Span Broken) → here_case (here_values r) ≡ r
unfolding here_case
here_back (Ok x) = refl
here_back (Err e) = refl

pub here_values_one : (q r : code.Result S.Span Broken) → here_values q ≡ here_values r → q ≡ r
here_values_one q r e = sym (here_back q) ∙ ap here_case e ∙ here_back r

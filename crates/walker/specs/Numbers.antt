-- The number and values for each case of the walker's answers ("Where each call says no": 7).
-- Assumes nothing.
use Rattle.std.specs.Prelude.{ℕ, Some, None, Ok, Err}
use Rattle.std.specs.Prelude as code
use Rattle.std.proofs.Math.Option.{Option, none, some}
use Rattle.walker.specs.Answers.{Answer, at_end, refused, gives, BlockValues, Emphasis}
use Rattle.walker.specs.Places.{HereValues}
use Rattle.walker.specs.declared.blocks.Broken.{Broken}
use Rattle.walker.specs.declared.blocks.Kind as K
use Rattle.walker.specs.declared.blocks.Kind.TheVariants as KV
use Rattle.walker.specs.declared.blocks.Block as B
use Rattle.walker.specs.declared.blocks.Emphasis as E
use Rattle.walker.specs.declared.blocks.Span as S

-- the end, 7, or the values of what stands there
abbrev pub answered : {A B : Type 0} → (A → B) → code.Result (code.Option A) Broken → Answer B
answered f (Ok (Some a)) = gives (f a)
answered f (Ok None) = at_end
answered f (Err e) = refused 7

abbrev pub level_in : K.Kind → Option ℕ
level_in (KV.Heading l) = some l
level_in KV.Paragraph = none
level_in (KV.Item d) = none

abbrev pub depth_in : K.Kind → Option ℕ
depth_in (KV.Heading l) = none
depth_in KV.Paragraph = none
depth_in (KV.Item d) = some d

abbrev pub values_in : B.Block → BlockValues
values_in b = record { level = level_in b.kind; depth = depth_in b.kind; count = b.count; next = b.next }

abbrev pub block_values : code.Result (code.Option B.Block) Broken → Answer BlockValues
block_values r = answered values_in r

abbrev pub first_values : code.Result (code.Option ℕ) Broken → Answer ℕ
first_values r = answered (λ at. at) r

abbrev pub emphasis_in : E.Emphasis → Emphasis
emphasis_in e = record { bold = e.bold; italic = e.italic; code = e.code }

abbrev pub here_values : code.Result S.Span Broken → Answer HereValues
here_values (Ok x) = gives (record { emphasis = emphasis_in x.emphasis; text = x.text; next = x.next })
here_values (Err e) = refused 7

abbrev pub span_values : code.Result (code.Option E.Emphasis) Broken → Answer Emphasis
span_values r = answered emphasis_in r

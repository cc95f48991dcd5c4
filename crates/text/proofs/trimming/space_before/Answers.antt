-- `text::space_before` meets its contract: each answer is the case of `space_before` that the tests on the way say.
-- Assumes nothing.
use Prim.Native.Nat.{◌-◌}
use native.Mathlib.Omega.{arith}
use mathlib.Core.Bool.{false}
use mathlib.Core.Path.{◌≡◌, sym, ◌∙◌}
use lib.Dec.{ltb}
use lib.ListN.{drop}
use borrow.Author.Tests.{lt-ltb, le-ltb}
use Rattle.text.specs.Utf8.{char}
use Rattle.text.specs.Trim.{space_at, space_before}
use Rattle.text.proofs.Sizes.{size_eq}
use Rattle.text.proofs.WideLaws.{not_one, wide_is}
use Rattle.text.proofs.trimming.space_before.Goals as goal
use Rattle.text.proofs.trimming.space_before.Goals.{After-eq, After-eq-2, Else-e-lt2, Else-e-lt3, Start}

-- what is known from the start, and what the tests say at each place
l1 : (c : Start) → ltb c.args.e 1 ≡ false
l1 c = le-ltb c.args.e 1 (omega arith)

q1 : (c : Start) → space_at (drop (c.args.e - 1) c.args.s.now) 1 ≡ false
q1 c = not_one c.args.s.now (c.args.e - 1) (omega arith) (omega arith)

l2 : (c : Else-e-lt2) → ltb c.args.e 2 ≡ false
l2 c = le-ltb c.args.e 2 c.if-e-lt2.false

q2 : (c : After-eq) → space_at (drop (c.args.e - 2) c.args.s.now) 2 ≡ c.eq.result
unfolding space_at
q2 c = wide_is (char (drop (c.args.e - 2) c.args.s.now)) 2 (omega arith) ∙ sym (c.eq.ensures ∙ rw c.wide_space.ensures (size_eq _ 1))

l3 : (c : Else-e-lt3) → ltb c.args.e 3 ≡ false
l3 c = le-ltb c.args.e 3 c.if-e-lt3.false

q3 : (c : After-eq-2) → space_at (drop (c.args.e - 3) c.args.s.now) 3 ≡ c.eq-2.result
unfolding space_at
q3 c = wide_is (char (drop (c.args.e - 3) c.args.s.now)) 3 (omega arith) ∙ sym (c.eq-2.ensures ∙ rw c.wide_space-2.ensures (size_eq _ 2))

pub returns-then-e-lt2 : goal.returns-then-e-lt2
unfolding space_before
returns-then-e-lt2 c = simp (l1 (goal.at.returns-then-e-lt2 c).Start, q1 (goal.at.returns-then-e-lt2 c).Start, lt-ltb c.args.e 2 c.if-e-lt2.true)

pub returns-then-eq : goal.returns-then-eq
unfolding space_before
returns-then-eq c =
    simp (
      l1 (goal.at.returns-then-eq c).Start,
      q1 (goal.at.returns-then-eq c).Start,
      l2 (goal.at.returns-then-eq c).Else-e-lt2,
      q2 (goal.at.returns-then-eq c).After-eq ∙ c.if-eq.true,
    )

pub returns-then-e-lt3 : goal.returns-then-e-lt3
unfolding space_before
returns-then-e-lt3 c =
    simp (
      l1 (goal.at.returns-then-e-lt3 c).Start,
      q1 (goal.at.returns-then-e-lt3 c).Start,
      l2 (goal.at.returns-then-e-lt3 c).Else-e-lt2,
      q2 (goal.at.returns-then-e-lt3 c).After-eq ∙ c.if-eq.false,
      lt-ltb c.args.e 3 c.if-e-lt3.true,
    )

pub returns-then-eq-2 : goal.returns-then-eq-2
unfolding space_before
returns-then-eq-2 c =
    simp (
      l1 (goal.at.returns-then-eq-2 c).Start,
      q1 (goal.at.returns-then-eq-2 c).Start,
      l2 (goal.at.returns-then-eq-2 c).Else-e-lt2,
      q2 (goal.at.returns-then-eq-2 c).After-eq ∙ c.if-eq.false,
      l3 (goal.at.returns-then-eq-2 c).Else-e-lt3,
      q3 (goal.at.returns-then-eq-2 c).After-eq-2 ∙ c.if-eq-2.true,
    )

pub returns : goal.returns
unfolding space_before
returns c =
    simp (
      l1 (goal.at.returns c).Start,
      q1 (goal.at.returns c).Start,
      l2 (goal.at.returns c).Else-e-lt2,
      q2 (goal.at.returns c).After-eq ∙ c.if-eq.false,
      l3 (goal.at.returns c).Else-e-lt3,
      q3 (goal.at.returns c).After-eq-2 ∙ c.if-eq-2.false,
    )

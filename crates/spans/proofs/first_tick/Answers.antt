-- `first_tick`: where the search has come to it finds what it finds from the start.
-- Assumes nothing.
use native.Mathlib.Omega.{arith}
use mathlib.Core.Path.{refl, sym, ◌∙◌}
use Rattle.spans.specs.State.{next_at}
use Rattle.spans.proofs.Search.{next_here, next_step}
use Rattle.spans.proofs.first_tick.Goals as goal

pub loop-k-init : goal.loop-k-init
loop-k-init c = refl

pub loop-k-preserved : goal.loop-k-preserved
loop-k-preserved c =
    let l = c.loop-k in
    l.invariant ∙ next_step 96 c.args.s.now l.k (omega (arith, c.loop-k-test.true, c.min-k-end.ensures)) c.if-s-k-eq96.false

pub returns-then-s-k-eq96 : goal.returns-then-s-k-eq96
returns-then-s-k-eq96 c =
    let l = c.loop-k in
    sym (l.invariant ∙ next_here 96 c.args.s.now l.k (omega (arith, c.loop-k-test.true, c.min-k-end.ensures)) c.if-s-k-eq96.true)

pub returns : goal.returns
unfolding next_at
returns c = c.find.ensures

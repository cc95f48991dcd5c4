-- `sections::is_titled`: each turn compares the text of one span, and leaves the others and the rest of the title.
-- Assumes nothing.
use native.Mathlib.Omega.{arith}
use Rattle.sections.proofs.TitleLaws.{no_title, meets_first, meets_all, meets_span, text_within, Turn, turn}
use Rattle.sections.proofs.is_titled.Goals as goal
use Rattle.sections.proofs.is_titled.Goals.{After-of-text}

-- a span whose text is compared
this : (c : After-of-text) → let l = c.loop-n in Turn c.args.records.now c.args.at c.args.title.now c.args.count l.met l._n c.in-Ok.span c.of-text.result.now
this c = turn _ _ _ c.loop-n.invariant c.loop-n-test.true c.in-Ok.span c.in-Ok.ensures c.of-text.ensures.bytes

pub returns-in_default : goal.returns-in_default
returns-in_default c = grind (arith, no_title c.args.records.now c.args.at c.args.title.now c.first_at.result c.first_at.ensures)

pub returns-in_default-2 : goal.returns-in_default-2
returns-in_default-2 c = grind (arith, no_title c.args.records.now c.args.at c.args.title.now c.first_at.result c.first_at.ensures)

pub loop-n-init : goal.loop-n-init
loop-n-init c = meets_first _ _ _ c.requires c.in-Ok-Some.field-0-is c.in-Ok-Some.ensures

pub returns-in_default-here_at : goal.returns-in_default-here_at
returns-in_default-here_at c = meets_span _ _ _ c.loop-n.invariant c.loop-n-test.true c.in_default-here_at.ensures

pub of-text-requires : goal.of-text-requires
of-text-requires c = text_within _ _ _ c.loop-n.invariant c.loop-n-test.true c.in-Ok.span c.in-Ok.ensures

pub returns-then-not-starts_with : goal.returns-then-not-starts_with
returns-then-not-starts_with c = (this (goal.at.returns-then-not-starts_with c).After-of-text).other c.starts_with.ensures c.if-not-starts_with.true

pub overflow_add-met : goal.overflow_add-met
overflow_add-met c =
    let m = (this (goal.at.overflow_add-met c).After-of-text).most c.starts_with.ensures c.if-not-starts_with.false in
    omega arith

pub loop-n-preserved : goal.loop-n-preserved
loop-n-preserved c = (this (goal.at.loop-n-preserved c).After-of-text).again c.starts_with.ensures c.if-not-starts_with.false

pub returns : goal.returns
returns c = meets_all _ _ _ c.loop-n.invariant c.loop-n-test.false

-- `walker::nth_at`: each return is answered by one law, over plain lists and numbers.
-- Assumes nothing.
use mathlib.Core.Path.{subst}
use Rattle.std.specs.Prelude.{Ok}
use Rattle.std.specs.Prelude as code
use Rattle.walker.specs.Readers.{Found, BlockIs}
use Rattle.walker.specs.declared.reader.Whole.{Whole}
use Rattle.walker.proofs.WalkerLaws.{refused_as, nth_end, nth_none, nth_past, nth_cut, then_wrong, then_is}
use Rattle.walker.proofs.nth_at.Goals as goal
use Rattle.walker.proofs.nth_at.Goals.{In-Some}

-- the block that was found
found : (c : In-Some) → Found c.args.s.now c.args.at c.in-Some.whole
found c = subst (λ (o : code.Option Whole). BlockIs c.args.s.now c.args.at (Ok o)) c.in-Some.is c.in_ok-whole.ensures

pub returns-in_err-whole : goal.returns-in_err-whole
returns-in_err-whole c = refused_as _ _ _ _ c.from_residual.ensures.0 (λ e. nth_none _ _ _ c.in_err-whole.ensures)

pub returns-in_default : goal.returns-in_default
returns-in_default c =
    nth_end _ _ _ (subst (λ (o : code.Option Whole). BlockIs c.args.s.now c.args.at (Ok o)) c.in_default.is c.in_ok-whole.ensures)

pub returns-then-whole-n : goal.returns-then-whole-n
returns-then-whole-n c = nth_past _ _ _ (found (goal.at.returns-then-whole-n c).In-Some) c.if-whole-n.true

pub returns-in_err-spans : goal.returns-in_err-spans
returns-in_err-spans c =
    refused_as _ _ _ _ c.from_residual-in_err-spans.ensures.0
    (λ e. nth_cut _ _ _ (found (goal.at.returns-in_err-spans c).In-Some) c.if-whole-n.false c.in_err-spans.ensures)

pub returns-in_err-span : goal.returns-in_err-span
returns-in_err-span c =
    refused_as _ _ _ _ c.from_residual-in_err-span.ensures.0
    (λ e. then_wrong _ _ (found (goal.at.returns-in_err-span c).In-Some) c.if-whole-n.false c.spans.new.self c.in_ok-spans.ensures c.in_err-span.ensures)

pub returns : goal.returns
returns c = then_is _ _ (found (goal.at.returns c).In-Some) c.if-whole-n.false c.spans.new.self c.in_ok-spans.ensures c.span.new.self c.in_ok-span.ensures

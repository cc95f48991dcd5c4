-- `sheet::sheet` meets its contract: refusal 1, no, or yes with both counts, for every page.
-- Assumes nothing.
use Rattle.std.proofs.Common.{◌≡◌, sym, ◌∙◌, ap, eqb-true, Option as Maybe, Ok}
use Rattle.std.proofs.Math.Option.{none}
use borrow.Author.Tests.{eqb-false}
use Rattle.text.specs.Utf8.{chars}
use Rattle.sheet.specs.Reader.{block}
use Rattle.sheet.specs.Says.{Weighs}
use Rattle.sheet.specs.Forms.{block_form}
use Rattle.sheet.specs.Calls.{answer}
use Rattle.sheet.specs.declared.count.Count.{Count}
use Rattle.sheet.proofs.TestSays.{Got, says_no, got}
use Rattle.sheet.proofs.TestPage.{blocks_none, block_shrinks, blocks_next, call_0, call_1, call_2, some_left, none_left}
use Rattle.sheet.proofs.sheet.Goals as goal
use Rattle.sheet.proofs.sheet.Goals.{In-Some, In_default}

-- a block was read
has_block : (c : In-Some) → Got (Weighs block_form) (block (chars c.loop-read.rest.now)) c.in-Some.read
has_block c = got (Weighs block_form) (block (chars c.loop-read.rest.now)) c.in-Some.ensures

-- there is no other
no_block : (c : In_default) → block (chars c.loop-read.rest.now) ≡ none
no_block c = says_no (Weighs block_form) (block (chars c.loop-read.rest.now)) c.in_default.ensures

pub returns-then-not-is_utf8 : goal.returns-then-not-is_utf8
returns-then-not-is_utf8 c = call_0 c.args.page.now (sym c.is_utf8.ensures ∙ c.if-not-is_utf8.true)

pub loop-read-init : goal.loop-read-init
loop-read-init c = blocks_none (chars c.after_newline-rest.result.now) c.ascii-count.ensures

pub loop-read-smaller : goal.loop-read-smaller
loop-read-smaller c = block_shrinks (chars c.loop-read.rest.now) (has_block (goal.at.loop-read-smaller c).In-Some).is c.after_newline-rest-in-Some.ensures

pub loop-read-preserved : goal.loop-read-preserved
loop-read-preserved c = blocks_next c.loop-read.invariant (has_block (goal.at.loop-read-preserved c).In-Some) c.after_newline-rest-in-Some.ensures c.add-count.ensures

pub returns-then-not-is_empty : goal.returns-then-not-is_empty
returns-then-not-is_empty c =
    let l = some_left c.loop-read.rest.now (eqb-false _ 0 (sym c.is_empty.ensures ∙ c.if-not-is_empty.true)) in
    call_1 c.args.page.now (sym c.is_utf8.ensures ∙ c.if-not-is_utf8.false) c.after_newline-rest.ensures c.loop-read.invariant
    (no_block (goal.at.returns-then-not-is_empty c).In_default) l.2

pub returns : goal.returns
returns c =
    ap (λ (r : Maybe Count). answer (Ok r)) c.judged.ensures
    ∙ call_2 c.args.page.now (sym c.is_utf8.ensures ∙ c.if-not-is_utf8.false) c.after_newline-rest.ensures c.loop-read.invariant
    (no_block (goal.at.returns c).In_default) (none_left c.loop-read.rest.now (eqb-true _ 0 (sym c.is_empty.ensures ∙ c.if-not-is_empty.false)))

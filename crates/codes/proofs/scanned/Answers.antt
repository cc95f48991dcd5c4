-- `codes::scanned`: each turn reads the text of one span.
-- Assumes nothing.
use native.Mathlib.Omega.{arith}
use mathlib.Core.Path.{◌≡◌}
use mathlib.Core.List.{[]}
use Rattle.walker.specs.Answers.{found_at}
use Rattle.codes.specs.Readers.{text_at}
use Rattle.codes.proofs.BlockLaws.{reads_first, scanned_none, no_text, reads_all, reads_span, within, reads_next}
use Rattle.codes.proofs.scanned.Goals as goal

pub returns-in_default : goal.returns-in_default
returns-in_default c =
    let s = c.args.records.now in
    let none : [] ≡ text_at (found_at s c.args.at) = grind (arith, no_text s c.args.at c.first_at.result c.first_at.ensures) in
    scanned_none s c.args.at c.args.masks.now c.new-scan.ensures none

pub returns-in_default-2 : goal.returns-in_default-2
returns-in_default-2 c =
    let s = c.args.records.now in
    let none : [] ≡ text_at (found_at s c.args.at) = grind (arith, no_text s c.args.at c.first_at.result c.first_at.ensures) in
    scanned_none s c.args.at c.args.masks.now c.new-scan.ensures none

pub loop-n-init : goal.loop-n-init
loop-n-init c = reads_first _ _ c.new-scan.ensures c.requires c.in-Ok-Some.field-0-is c.in-Ok-Some.ensures

pub returns-in_default-here_at : goal.returns-in_default-here_at
returns-in_default-here_at c = reads_span _ _ c.loop-n.invariant c.loop-n-test.true c.in_default-here_at.ensures

pub of-requires : goal.of-requires
of-requires c = within _ _ c.loop-n.invariant c.loop-n-test.true c.in-Ok.span c.in-Ok.ensures

pub loop-n-preserved : goal.loop-n-preserved
loop-n-preserved c = reads_next _ _ c.loop-n.invariant c.loop-n-test.true c.in-Ok.span c.in-Ok.ensures c.of.ensures.bytes c.read.ensures

pub returns : goal.returns
returns c = reads_all _ _ c.loop-n.invariant c.loop-n-test.false

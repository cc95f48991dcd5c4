-- `sheet::block` meets its contract.
-- Assumes nothing.
use Rattle.text.specs.Utf8.{chars}
use Rattle.sheet.specs.Reader.{read_list}
use Rattle.sheet.specs.Says.{Weighs}
use Rattle.sheet.specs.Forms.{list_form, block_form}
use Rattle.sheet.proofs.TestSays.{says_no, got, refuses}
use Rattle.sheet.proofs.TestBlocks.{by_heading, block_para, block_none, block_some}
use Rattle.sheet.proofs.block.Goals as goal

pub returns-in-Some : goal.returns-in-Some
returns-in-Some c = rw (by_heading (chars c.args.page.now) c.in-Some.ensures) c.heading.ensures

pub returns-in-Some-strip : goal.returns-in-Some-strip
returns-in-Some-strip c = block_para (chars c.args.page.now) c.in-Some-strip.ensures c.closed_by.result c.closed_by.ensures

pub returns-in_err-list : goal.returns-in_err-list
returns-in_err-list c =
    let s = chars c.args.page.now in
    refuses (Weighs block_form)
    (block_none s c.in_default.ensures c.in_default-strip.ensures
    (says_no (Weighs (list_form 0)) (read_list 8 s) c.in_err-list.ensures))
    c.from_residual.ensures

pub returns : goal.returns
returns c =
    let s = chars c.args.page.now in
    block_some s c.in_default.ensures c.in_default-strip.ensures
    (got (Weighs (list_form 0)) (read_list 8 s) c.in_ok-list.ensures) c.ascii.ensures c.add.ensures

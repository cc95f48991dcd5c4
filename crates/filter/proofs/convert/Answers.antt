-- `filter::convert` meets its contract: a refusal leaves the front as it was and its line is stored there; the Markdown has byte 10 stored behind it.
-- Assumes nothing.
use mathlib.Core.Path.{sym}
use native.Mathlib.Omega.{arith}
use lib.Seq.{length-take-le}
use Rattle.filter.proofs.ProgramLaws.{Called, called, refusal_stands, markdown_small, room_behind, markdown_stands}
use Rattle.filter.proofs.convert.Goals as goal
use Rattle.filter.proofs.convert.Goals.{After-html_to_markdown}

pub slice_bounds-html_to_markdown-end-3 : goal.slice_bounds-html_to_markdown-end-3
slice_bounds-html_to_markdown-end-3 c = sym (length-take-le 32000 c.args.out.now (omega (arith, c.requires)))

-- what is known of the answer and of the front of the buffer, once the converter has run
converted : (c : After-html_to_markdown)
    → Called c.args.page.now c.args.out.now c.html_to_markdown.result c.html_to_markdown.new.res
converted c =
    let call = c.html_to_markdown in
    called _ _ _ _ c.requires call.auto.res call.ensures.result_value call.ensures.res_after

pub returns-in-Err : goal.returns-in-Err
returns-in-Err c =
    let run = converted (goal.at.returns-in-Err c).After-html_to_markdown in
    refusal_stands _ _ _ _ run c.in-Err.error c.in-Err.is _ _ c.refuse.ensures.0 c.refuse.ensures.1

pub bounds-out-n : goal.bounds-out-n
bounds-out-n c =
    let run = converted (goal.at.bounds-out-n c).After-html_to_markdown in
    room_behind _ _ _ _ run c.in-Ok.n c.in-Ok.is

pub overflow_add-result : goal.overflow_add-result
overflow_add-result c =
    let run = converted (goal.at.overflow_add-result c).After-html_to_markdown in
    let small = markdown_small _ _ _ _ run c.in-Ok.n c.in-Ok.is in
    omega arith

pub returns-in-Ok : goal.returns-in-Ok
returns-in-Ok c =
    let run = converted (goal.at.returns-in-Ok c).After-html_to_markdown in
    let stands = markdown_stands _ _ _ _ run c.in-Ok.n c.in-Ok.is in
    (stands.0, stands.1)

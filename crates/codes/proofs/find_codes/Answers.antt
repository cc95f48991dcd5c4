-- `codes::find_codes`: each turn reads one block, and gives its number to the codes that stand in it and have none.
-- Assumes nothing.
use native.Mathlib.Omega.{arith}
use mathlib.Core.Path.{sym, ◌∙◌}
use Rattle.walker.proofs.Decoded.{stands_here, turn_less}
use Rattle.codes.proofs.LengthLaws.{known}
use Rattle.codes.proofs.Reading.{end_here, broken_here}
use Rattle.codes.proofs.LoneSearch.{ten_iff}
use Rattle.codes.proofs.WalkLaws.{walks_start, whole_is, answer_all, answer_end, answer_broken, walks_on, err_seven}
use Rattle.codes.proofs.find_codes.Goals as goal

pub returns-then-not-are_codes : goal.returns-then-not-are_codes
returns-then-not-are_codes c = sym ((ten_iff c.args.records.now c.args.codes.now c.args.lengths.now).1 (sym c.are_codes.ensures ∙ c.if-not-are_codes.true))

pub loop-masks-init : goal.loop-masks-init
loop-masks-init c = walks_start _ _

pub is_whole-requires : goal.is_whole-requires
is_whole-requires c = (known c.args.codes.now c.args.lengths.now (sym c.are_codes.ensures ∙ c.if-not-are_codes.false)).few

pub returns-in_err-block : goal.returns-in_err-block
returns-in_err-block c =
    let w = c.loop-masks.invariant in
    let t = sym c.are_codes.ensures ∙ c.if-not-are_codes.false in
    let missing = sym (whole_is _ _ _ w t) ∙ sym c.is_whole.ensures ∙ c.loop-masks-test.true in
    err_seven _ c.from_residual.ensures.1 ∙ answer_broken _ _ _ w t (broken_here _ _ c.in_err-block.ensures) missing

pub add-requires : goal.add-requires
add-requires c = let w = known c.args.codes.now c.args.lengths.now (sym c.are_codes.ensures ∙ c.if-not-are_codes.false) in (w.few, w.good)

pub overflow_add-found : goal.overflow_add-found
overflow_add-found c =
    let x = stands_here c.args.records.now c.loop-masks.at c.type_inv.records c.in-Some.is c.in_ok-block.ensures in
    omega (arith, c.add.ensures.visited, c.loop-masks.invariant.small, x.then.later, x.then.within)

pub loop-masks-smaller : goal.loop-masks-smaller
loop-masks-smaller c = turn_less _ _ (stands_here _ _ c.type_inv.records c.in-Some.is c.in_ok-block.ensures)

pub loop-masks-preserved : goal.loop-masks-preserved
loop-masks-preserved c =
    let w = c.loop-masks.invariant in
    let t = sym c.are_codes.ensures ∙ c.if-not-are_codes.false in
    let missing = sym (whole_is _ _ _ w t) ∙ sym c.is_whole.ensures ∙ c.loop-masks-test.true in
    let x = stands_here c.args.records.now c.loop-masks.at c.type_inv.records c.in-Some.is c.in_ok-block.ensures in
    walks_on _ _ _ w t c.type_inv.records x missing _ c.masks_of-masks.ensures c.scanned-scan.ensures c.add.ensures

pub returns-after-loop-masks : goal.returns-after-loop-masks
returns-after-loop-masks c =
    let w = c.loop-masks.invariant in
    let t = sym c.are_codes.ensures ∙ c.if-not-are_codes.false in
    answer_all _ _ _ w t (sym (whole_is _ _ _ w t) ∙ sym c.is_whole.ensures ∙ c.loop-masks-test.false)

pub returns-in_default : goal.returns-in_default
returns-in_default c =
    let t = sym c.are_codes.ensures ∙ c.if-not-are_codes.false in
    answer_end _ _ _ c.loop-masks.invariant t (end_here _ _ c.in_default.is c.in_ok-block.ensures)

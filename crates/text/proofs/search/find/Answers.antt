-- `text::find` meets its contract: by what the searches through its parts answer.
-- Assumes nothing.
use native.Mathlib.Omega.{arith}
use mathlib.Core.Path.{◌≡◌, sym, ap, ◌∙◌}
use lib.ListN.{length, drop, take}
use Rattle.text.proofs.Lists.{to_end}
use Rattle.text.proofs.FindLaws.{nowhere_is, first_here, first_nowhere, near_here, far_here, far_nowhere}
use Rattle.text.proofs.search.find.Goals as goal
use Rattle.text.proofs.search.find.Goals.{In_ok-rest, In-Some}

-- what is left from i on
rest_is : (c : In_ok-rest) → c.in_ok-rest.rest.now ≡ drop c.args.i c.args.s.now
rest_is c = c.in_ok-rest.ensures.lookup.0.2 ∙ to_end c.args.s.now c.args.i

pub returns-in_err-rest : goal.returns-in_err-rest
returns-in_err-rest c = c.from_residual.ensures ∙ sym (nowhere_is c.args.s.now c.args.i c.args.b (omega (arith, c.in_err-rest.ensures.lookup)))

pub returns-in_err-position_of : goal.returns-in_err-position_of
returns-in_err-position_of c =
    let e = rest_is (goal.at.returns-in_err-position_of c).In_ok-rest in
    c.from_residual-in_err-position_of.ensures ∙ first_nowhere c.args.s.now c.args.i c.args.b c.in_ok-rest.ensures.lookup.0.0 (rw e at c.in_err-position_of.ensures)

pub returns-in_default : goal.returns-in_default
returns-in_default c =
    let e = rest_is (goal.at.returns-in_default c).In_ok-rest in
    let h = rw e at c.in_ok-position_of.ensures in
    first_here c.args.s.now c.args.i c.args.b _ h.0.before h.0.high h.1

pub returns-in-Some-position_of : goal.returns-in-Some-position_of
returns-in-Some-position_of c =
    let e = rest_is (goal.at.returns-in-Some-position_of c).In_ok-rest in
    let p = c.in-Some.ensures.cases in
    let h = c.in-Some-position_of.ensures in
    near_here c.args.s.now c.args.i c.args.b _ _ (p.0 ∙ ap (take 8) e) (p.1 ∙ ap (drop 8) e) (omega (arith, p.2, ap length e)) _ h.0 h.1

pub returns-in_err-memchr : goal.returns-in_err-memchr
returns-in_err-memchr c =
    let e = rest_is (goal.at.returns-in_err-memchr c).In_ok-rest in
    let p = c.in-Some.ensures.cases in
    c.from_residual-in_err-memchr.ensures
    ∙ far_nowhere c.args.s.now c.args.i c.args.b _ _ (p.0 ∙ ap (take 8) e) (p.1 ∙ ap (drop 8) e) (omega (arith, p.2, ap length e))
    c.in_default-position_of.ensures c.in_ok-rest.ensures.lookup.0.0 c.in_err-memchr.ensures

pub returns : goal.returns
returns c =
    let e = rest_is (goal.at.returns c).In_ok-rest in
    let p = c.in-Some.ensures.cases in
    let h = c.in_ok-memchr.ensures in
    far_here c.args.s.now c.args.i c.args.b _ _ (p.0 ∙ ap (take 8) e) (p.1 ∙ ap (drop 8) e) (omega (arith, p.2, ap length e)) c.in_default-position_of.ensures _ h.0 h.1

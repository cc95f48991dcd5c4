-- `reference::number` meets its contract: each answer is the case of `number` that the tests on the way say.
-- Assumes nothing.
use mathlib.Core.Bool.{true}
use mathlib.Core.Option.{some}
use mathlib.Core.Path.{◌≡◌, sym, ap, ◌∙◌}
use Rattle.text.specs.Chars.{is_scalar}
use Rattle.reference.specs.Unescape.{written}
use Rattle.reference.specs.Answers.{value}
use Rattle.reference.proofs.AnswerLaws.{value_some, value_none}
use Rattle.reference.proofs.NameLaws.{number_none, number_no_scalar, number_control, number_is}
use Rattle.reference.proofs.number.Goals as goal
use Rattle.reference.proofs.number.Goals.{Else-not-is_scalar, In_ok-c}

-- the number that was written, and that it is a scalar value
number_of : (c : In_ok-c) → written c.args.name.now ≡ some c.in_ok-c.c
number_of c = value_some _ _ (sym c.written.ensures ∙ c.in_ok-c.was)

scalar : (c : Else-not-is_scalar) → is_scalar c.in_ok-c.c ≡ true
scalar c = sym c.is_scalar.ensures ∙ c.if-not-is_scalar.false

pub returns-in_err-c : goal.returns-in_err-c
returns-in_err-c c =
    c.from_residual.ensures ∙ sym (ap value (number_none c.args.name.now (value_none _ (sym c.written.ensures ∙ c.in_err-c.was))))

pub returns-then-not-is_scalar : goal.returns-then-not-is_scalar
returns-then-not-is_scalar c =
    sym
    (ap value
    (number_no_scalar c.args.name.now _ (number_of (goal.at.returns-then-not-is_scalar c).In_ok-c) (sym c.is_scalar.ensures ∙ c.if-not-is_scalar.true)))

pub returns-then-is_control : goal.returns-then-is_control
returns-then-is_control c =
    sym
    (ap value
    (number_control c.args.name.now _ (number_of (goal.at.returns-then-is_control c).In_ok-c) (scalar (goal.at.returns-then-is_control c).Else-not-is_scalar)
    (sym c.is_control.ensures ∙ c.if-is_control.true)))

pub returns : goal.returns
returns c =
    sym
    (ap value
    (number_is c.args.name.now _ (number_of (goal.at.returns c).In_ok-c) (scalar (goal.at.returns c).Else-not-is_scalar) (sym c.is_control.ensures ∙ c.if-is_control.false)))

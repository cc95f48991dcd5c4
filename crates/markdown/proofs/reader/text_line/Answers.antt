-- `markdown::reader::text_line` meets its contract.
-- Assumes nothing.
use Rattle.markdown.proofs.LineSteps.{last_safe, rule_step, row_step, continue_step, add_step}
use Rattle.markdown.proofs.StateLaws.{given_small}
use mathlib.Core.Path.{sym, ◌∙◌}
use native.Mathlib.Omega.{arith}
use Rattle.markdown.proofs.reader.text_line.Goals as goal

pub returns-then-is_rule : goal.returns-then-is_rule
returns-then-is_rule c = rule_step _ _ c.args.s c.args.text.copied _ _ c.requires.0 _ c.text_of-line.ensures _ c.requires.1.0 _ _ _ (sym c.is_rule.ensures ∙ c.if-is_rule.true) c.flush.ensures

pub bounds-line-0 : goal.bounds-line-0
bounds-line-0 c = omega (arith, (given_small _ _ c.args.s c.args.text.copied _ _ _ c.requires.0 c.text_of-line.ensures).1, c.requires.1.0)

pub returns-then-line-eq124 : goal.returns-then-line-eq124
returns-then-line-eq124 c =
    row_step _ _ c.args.s c.args.text.copied _ _ c.requires.0 _ c.text_of-line.ensures _ c.requires.1.0 (sym c.is_rule.ensures ∙ c.if-is_rule.false) _ _ _ _
    c.if-line-eq124.true c.row_line.ensures

pub returns-in_default : goal.returns-in_default
returns-in_default c =
    add_step _ _ c.args.s c.args.text.copied _ _ c.requires.0 _ c.text_of-line.ensures _ c.requires.1.0 (sym c.is_rule.ensures ∙ c.if-is_rule.false)
    c.if-line-eq124.false _ _ _ (sym c.in_default.is ∙ c.continued.ensures) (c.add_text.ensures c.args.out.now)

pub continue_item-requires : goal.continue_item-requires
continue_item-requires c =
    let g = c.requires.0 in (
      omega (arith, g.low),
      (omega (arith, (given_small _ _ _ c.args.text.copied _ _ _ g c.text_of-line.ensures).0), last_safe _ _ _ _ _ g.safe (sym c.in-Some.is ∙ c.continued.ensures)),
    )

pub returns : goal.returns
returns c =
    let e = c.continue_item.ensures in
    continue_step _ _ c.args.s c.args.text.copied _ _ c.requires.0 _ c.text_of-line.ensures _ c.requires.1.0 (sym c.is_rule.ensures ∙ c.if-is_rule.false)
    c.if-line-eq124.false _ _ _ _ (sym c.in-Some.is ∙ c.continued.ensures) e.0 e.1

-- `reference::named` meets its contract: a name that is none of the six is looked for among the numbers.
-- Assumes nothing.
use mathlib.Core.Path.{sym, ap, ◌∙◌}
use Rattle.reference.specs.Answers.{value}
use Rattle.reference.proofs.NameLaws.{amp, lt, gt, quot, apos, nbsp, is_word, is_other, none_of}
use Rattle.reference.proofs.named.Goals as goal

pub returns-then-eq : goal.returns-then-eq
returns-then-eq c = sym (ap value (is_word amp c.args.name.now _ _ c.as_slice.ensures c.eq.ensures c.if-eq.true))

pub returns-then-eq-2 : goal.returns-then-eq-2
returns-then-eq-2 c = sym (ap value (is_word lt c.args.name.now _ _ c.as_slice-2.ensures c.eq-2.ensures c.if-eq-2.true))

pub returns-then-eq-3 : goal.returns-then-eq-3
returns-then-eq-3 c = sym (ap value (is_word gt c.args.name.now _ _ c.as_slice-3.ensures c.eq-3.ensures c.if-eq-3.true))

pub returns-then-eq-4 : goal.returns-then-eq-4
returns-then-eq-4 c = sym (ap value (is_word quot c.args.name.now _ _ c.as_slice-4.ensures c.eq-4.ensures c.if-eq-4.true))

pub returns-then-eq-5 : goal.returns-then-eq-5
returns-then-eq-5 c = sym (ap value (is_word apos c.args.name.now _ _ c.as_slice-5.ensures c.eq-5.ensures c.if-eq-5.true))

pub returns-then-eq-6 : goal.returns-then-eq-6
returns-then-eq-6 c = sym (ap value (is_word nbsp c.args.name.now _ _ c.as_slice-6.ensures c.eq-6.ensures c.if-eq-6.true))

pub returns : goal.returns
returns c =
    let u = c.args.name.now in
    c.number.ensures
    ∙ sym
    (ap value
    (none_of u
    (is_other amp u _ _ c.as_slice.ensures c.eq.ensures c.if-eq.false)
    (is_other lt u _ _ c.as_slice-2.ensures c.eq-2.ensures c.if-eq-2.false)
    (is_other gt u _ _ c.as_slice-3.ensures c.eq-3.ensures c.if-eq-3.false)
    (is_other quot u _ _ c.as_slice-4.ensures c.eq-4.ensures c.if-eq-4.false)
    (is_other apos u _ _ c.as_slice-5.ensures c.eq-5.ensures c.if-eq-5.false)
    (is_other nbsp u _ _ c.as_slice-6.ensures c.eq-6.ensures c.if-eq-6.false)))

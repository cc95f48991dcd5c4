-- `Converter::element` meets its contract.
-- Assumes nothing.
use mathlib.Core.Path.{◌≡◌, sym, ap, ◌∙◌}
use borrow.Author.Rules.{rules}
use Rattle.html.specs.Struct.{state_of, skip_name}
use Rattle.html.specs.Page.{name_of}
use Rattle.html.specs.declared.Tag.TheVariants.{Skipped}
use Rattle.html.proofs.SkipLaws.{element_tag, element_closes, element_skips, element_hides, element_stays, element_ends}
use Rattle.html.proofs.converter.Converter.element.Goals as goal
use Rattle.html.proofs.converter.Converter.element.Goals.{then-not-closing-via-then-not-closing, then-not-closing-via-else-not-closing+then-ne}
use Rattle.html.proofs.converter.Converter.element.Goals.{in_default-tag-via-in-Skipped+else-not-closing-2, in_default-tag-via-in_default-tag}

pub returns-then-not-closing : goal.returns-then-not-closing
unfolding state_of
returns-then-not-closing c =
    let a = c.args in
    let s = state_of a.self a.out.now in
    let t = c.tag_of-tag in
    let z = ap skip_name c.in-Some.is in
    elim c.then-not-closing.branch [
      | then-not-closing-via-then-not-closing w ↦ rw w.if-not-closing.true (element_hides (name_of a.name.now) s t.result t.ensures c.in-Some.skipping z)
      | then-not-closing-via-else-not-closing+then-ne w ↦
          element_stays (name_of a.name.now) s t.result t.ensures c.in-Some.skipping z a.closing (search rules)
    ]

pub returns-in-Some : goal.returns-in-Some
unfolding state_of
returns-in-Some c =
    let a = c.args in
    let s = state_of a.self a.out.now in
    let t = c.tag_of-tag in
    let e : t.result ≡ Skipped c.in-Some.skipping = search rules in
    rw c.if-not-closing.false (element_ends (name_of a.name.now) s t.result t.ensures c.in-Some.skipping (ap skip_name c.in-Some.is) e)

pub returns-in-Skipped : goal.returns-in-Skipped
unfolding state_of
returns-in-Skipped c =
    let a = c.args in
    let s = state_of a.self a.out.now in
    let t = c.tag_of-tag in
    rw c.if-not-closing-2.true (element_skips (name_of a.name.now) s t.result t.ensures (ap skip_name c.in_default.is) c.in-Skipped.named c.in-Skipped.is)

pub returns-in_default-tag : goal.returns-in_default-tag
unfolding state_of
returns-in_default-tag c =
    let a = c.args in
    let s = state_of a.self a.out.now in
    let t = c.tag_of-tag in
    let z = ap skip_name c.in_default.is in
    let u = c.in_default-tag.tag in
    let n = name_of a.name.now in
    elim c.in_default-tag.branch [
      | in_default-tag-via-in-Skipped+else-not-closing-2 w ↦
          c.tag.ensures ∙ element_closes n s u (w.tag-is ∙ sym w.in-Skipped.is ∙ t.ensures) z a.closing w.if-not-closing-2.false
      | in_default-tag-via-in_default-tag w ↦
          c.tag.ensures ∙ element_tag n s u (w.tag-is ∙ t.ensures) z a.closing (λ k e. w.in_default-tag.not-Skipped k (sym w.tag-is ∙ e))
    ]

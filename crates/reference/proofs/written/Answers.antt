-- `reference::written` meets its contract.
-- Assumes nothing.
use mathlib.Core.Path.{sym, ap, ◌∙◌}
use Rattle.text.specs.Words.{str}
use Rattle.reference.specs.Answers.{value}
use Rattle.reference.specs.Unescape.{from_str_radix}
use Rattle.reference.proofs.NameLaws.{written_none, written_hexadecimal, written_decimal}
use Rattle.reference.proofs.PrefixLaws.{Hexadecimal, hexadecimal_or, hexadecimal_hash, prefix_is}
use Rattle.reference.proofs.written.Goals as goal
use Rattle.reference.proofs.written.Goals.{After-or-hexadecimal}

-- what stands behind `#x` or `#X`
hexadecimal : (c : After-or-hexadecimal) → Hexadecimal c.args.name.now c.or-hexadecimal.result
hexadecimal c =
    rw c.or-hexadecimal.ensures
    (hexadecimal_or c.args.name.now c.strip_prefix.result c.strip_prefix-2.result c.strip_prefix.ensures.cases c.strip_prefix-2.ensures.cases)

pub returns-in-Some : goal.returns-in-Some
returns-in-Some c =
    let name = c.args.name.now in
    let h = rw c.in-Some.is at (hexadecimal (goal.at.returns-in-Some c).After-or-hexadecimal) in
    c.from_str_radix.ensures ∙ ap value (ap (from_str_radix 16) h.1 ∙ sym (written_hexadecimal name (hexadecimal_hash name h.0) h.0))

pub returns-in_err-strip_prefix : goal.returns-in_err-strip_prefix
returns-in_err-strip_prefix c =
    let name = c.args.name.now in
    c.from_residual.ensures ∙ sym (ap value (written_none name (sym (prefix_is (str "#") name) ∙ c.in_err-strip_prefix.ensures.cases)))

pub returns : goal.returns
returns c =
    let name = c.args.name.now in
    let h = rw c.in_default.is at (hexadecimal (goal.at.returns c).After-or-hexadecimal) in
    let d = c.in_ok-strip_prefix.ensures.cases in
    c.from_str_radix-2.ensures ∙ ap value (ap (from_str_radix 10) d.1 ∙ sym (written_decimal name (sym (prefix_is (str "#") name) ∙ d.0) h))

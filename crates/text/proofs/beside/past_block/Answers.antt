-- `text::past_block` meets its contract.
-- Assumes nothing.
use native.Mathlib.Omega.{arith}
use mathlib.Core.Path.{sym, ◌∙◌}
use Rattle.std.proofs.lemmas.Option.{IfSome_then}
use Rattle.text.proofs.BesideLaws.{fit_same}
use Rattle.text.proofs.beside.past_block.Goals as goal

pub returns : goal.returns
returns c =
    let a = c.args in
    IfSome_then c.last_clear.result c.last_clear.ensures
    (λ j h.
    let h0 = h.0.0 in
    let h1 = h.0.1 in (
      fit_same a.s.now a.i j (omega arith) (omega arith) (omega arith) (sym c.is_clear.ensures ∙ c.if-not-is_clear.false) h.1
          (λ m b d. c.is_fit_block.ensures c.if-not-is_fit_block.false m b (omega arith)),
      (omega arith, omega arith),
    ))

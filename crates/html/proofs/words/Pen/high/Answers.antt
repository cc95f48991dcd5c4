-- `Pen::high` meets its contract.
-- Assumes nothing.
use mathlib.Core.Path.{refl, ap, ◌∙◌}
use native.Mathlib.Omega.{arith}
use Prim.Native.Nat.{ℕ}
use mathlib.Core.List.{List, ◌∷◌}
use mathlib.Core.Bool.{false}
use Rattle.html.specs.Struct.{out_of}
use Rattle.html.specs.State.{with_out}
use Rattle.html.specs.Pen.{pen_state}
use Rattle.text.specs.Utf8.{code_at}
use Rattle.html.proofs.AboveLaws.{high_code}
use Rattle.html.proofs.StepLaws.{spaced_len}
use Rattle.html.proofs.TextLaws.{pending_most, high_write}
use Rattle.html.proofs.words.Pen.high.Goals as goal

pub copy_char-requires : goal.copy_char-requires
copy_char-requires c =
    let a = c.args in
    let k = spaced_len c.spaced-n.result a.self.len a.out.now _ a.self.space c.spaced-n.ensures in
    (omega (arith, pending_most a.self.space, c.requires.0), c.requires.1)

pub returns : goal.returns
unfolding pen_state
returns c =
    let a = c.args in
    let p = c.requires.1 in
    let raw = a.raw.now in
    let x = code_at raw a.i in
    rw c.behind.ensures (
      λ s.
          ap (λ (o : List ℕ). with_out o false s) (c.copy_char.ensures ∙ ap (λ (o : List ℕ). x ∷ o) c.spaced-n.ensures)
          ∙ high_write x (high_code raw a.i p.0 p.1.0 p.1.1) a.self.first s (out_of a.self.len a.out.now) a.self.space,
      refl,
    )

-- `push_times` meets its contract.
-- Assumes nothing.
use mathlib.Core.Path.{◌≡◌, sym, ap, ◌∙◌}
use native.Mathlib.Omega.{arith}
use Prim.Native.Nat.{ℕ, ◌+◌, ◌-◌}
use lib.ListN.{drop, replicate, length-replicate, length-take, length-drop}
use borrow.Author.Rules.{rules}
use Rattle.html.proofs.OutLaws.{out_all}
use Rattle.html.proofs.GrowLaws.{ascii_times}
use Rattle.html.proofs.output.push_times.Goals as goal

pub returns : goal.returns
returns c =
    let a = c.args in
    let bytes = replicate a.times a.byte in
    let filled : c.fill.new.self ≡ bytes =
    c.fill.ensures.after (search rules)
    ∙ ap (λ (k : ℕ). replicate k a.byte) (omega (arith, length-take (a.n + a.times - a.n) (drop a.n a.out.now), length-drop a.n a.out.now, c.requires.0)) in
    rw filled (out_all a.n a.times bytes a.out.now (ascii_times a.times a.byte c.requires.1) (rw length-replicate c.requires.0) (sym (length-replicate a.times a.byte)))

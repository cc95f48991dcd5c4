-- `Pen::write` meets its contract.
-- Assumes nothing.
use mathlib.Core.Path.{◌≡◌, refl, sym, ap, ◌∙◌}
use native.Mathlib.Omega.{arith}
use Prim.Native.Nat.{ℕ, ◌+◌, ◌≤◌}
use mathlib.Core.List.{List, ◌∷◌}
use mathlib.Core.Bool.{false}
use Rattle.html.specs.Struct.{out_of, last_first, with_space, pending}
use Rattle.html.specs.State.{with_out, escape}
use Rattle.html.specs.Pen.{pen_state}
use lib.ListN.{length, take}
use lib.Seq.{length-take-le}
use Rattle.text.proofs.Utf8.{utf8_1}
use Rattle.html.proofs.OutLaws.{front_is}
use Rattle.html.proofs.StepLaws.{spaced_len, put_len}
use Rattle.html.proofs.TextLaws.{pending_most, write_plain, write_escaped, tested}
use Rattle.html.proofs.words.Pen.write.Goals as goal
use Rattle.html.proofs.words.Pen.write.Goals.{After-spaced-n}

-- where the pending space ends
behind : (c : After-spaced-n) → c.spaced-n.result ≡ c.args.self.len + pending c.args.self.space
behind c = spaced_len c.spaced-n.result c.args.self.len c.args.out.now _ c.args.self.space c.spaced-n.ensures

fits : (c : After-spaced-n) → c.spaced-n.result ≤ length c.spaced-n.new.out
fits c = omega (arith, behind c, pending_most c.args.self.space, c.requires.0)

escapes_by : (c : After-spaced-n)
    → let a = c.args in
    escape a.self.first a.c (last_first (take c.spaced-n.result c.spaced-n.new.out)) ≡ escape a.self.first a.c (with_space a.self.space (out_of a.self.len a.out.now))
escapes_by c = ap (escape c.args.self.first c.args.c) (front_is c.spaced-n.result c.spaced-n.new.out (fits c) ∙ c.spaced-n.ensures)

pub slice_bounds-escapes-end : goal.slice_bounds-escapes-end
slice_bounds-escapes-end c = fits (goal.at.slice_bounds-escapes-end c).After-spaced-n

pub slice_bounds-escapes-end-2 : goal.slice_bounds-escapes-end-2
slice_bounds-escapes-end-2 c = sym (length-take-le _ _ (fits (goal.at.slice_bounds-escapes-end-2 c).After-spaced-n))

pub push-k-requires : goal.push-k-requires
push-k-requires c = (omega (arith, behind (goal.at.push-k-requires c).After-spaced-n, pending_most c.args.self.space), omega arith)

pub put_char-requires : goal.put_char-requires
put_char-requires c =
    let j = put_len c.push-k.result c.spaced-n.result 92 _ _ c.push-k.ensures in
    (omega (arith, j, behind (goal.at.put_char-requires c).After-spaced-n, pending_most c.args.self.space, ap length (utf8_1 92 (omega arith))), c.requires.1)

pub returns-then-pre-escapes : goal.returns-then-pre-escapes
unfolding pen_state
returns-then-pre-escapes c =
    let a = c.args in
    let o = out_of a.self.len a.out.now in
    rw c.behind.ensures (
      λ s h.
          ap (λ (x : List ℕ). with_out x false s) (c.put_char.ensures ∙ ap (λ (x : List ℕ). a.c ∷ x) (c.push-k.ensures ∙ ap (λ (x : List ℕ). 92 ∷ x) c.spaced-n.ensures))
          ∙ write_escaped a.self.first a.c s o a.self.space (tested _ _ a.pre s.pre h (c.escapes.ensures ∙ escapes_by (goal.at.returns-then-pre-escapes c).After-spaced-n) ∙ c.if-pre-escapes.true),
      refl,
    )

pub put_char-requires-2 : goal.put_char-requires-2
put_char-requires-2 c = (omega (arith, behind (goal.at.put_char-requires-2 c).After-spaced-n, pending_most c.args.self.space), c.requires.1)

pub returns : goal.returns
unfolding pen_state
returns c =
    let a = c.args in
    let o = out_of a.self.len a.out.now in
    rw c.behind-2.ensures (
      λ s h.
          ap (λ (x : List ℕ). with_out x false s) (c.put_char-2.ensures ∙ ap (λ (x : List ℕ). a.c ∷ x) c.spaced-n.ensures)
          ∙ write_plain a.self.first a.c s o a.self.space (tested _ _ a.pre s.pre h (c.escapes.ensures ∙ escapes_by (goal.at.returns c).After-spaced-n) ∙ c.if-pre-escapes.false),
      refl,
    )

-- `blocked` meets its contract.
-- Assumes nothing.
use mathlib.Core.Path.{◌≡◌, sym, ap, ◌∙◌}
use native.Mathlib.Omega.{arith}
use Prim.Native.Nat.{ℕ, ◌≤◌}
use mathlib.Core.List.{List}
use mathlib.Core.Bool.{false}
use Rattle.html.specs.State.{with_out, line_start}
use lib.ListN.{take, length-take}
use Rattle.text.specs.Words.{drop_while, is, starts}
use Rattle.html.specs.Struct.{out_of, last_first}
use Rattle.html.proofs.OutLaws.{front_is, unspaced_out}
use Rattle.html.proofs.StepLaws.{empty_yes, empty_no, cleared, block_none, block_blank, block_feed, block_two}
use Rattle.html.proofs.output.blocked.Goals as goal
use Rattle.html.proofs.output.blocked.Goals.{After-unspaced-n}

most : (c : After-unspaced-n) → c.unspaced-n.result ≤ c.args.len
most c = omega (arith, c.unspaced-n.ensures.bound, length-take c.args.len c.args.out.now)

cut : (c : After-unspaced-n) → out_of c.unspaced-n.result c.args.out.now ≡ drop_while (is " ") (out_of c.args.len c.args.out.now)
cut c = unspaced_out c.unspaced-n.result c.args.len c.args.out.now (omega arith) (most c) c.unspaced-n.ensures.bytes

before : (c : After-unspaced-n) → last_first (take c.unspaced-n.result c.args.out.now) ≡ out_of c.unspaced-n.result c.args.out.now
before c = front_is c.unspaced-n.result c.args.out.now (omega (arith, most c))

pub returns-then-n-eq0 : goal.returns-then-n-eq0
returns-then-n-eq0 c =
    let w = c.args.out.now in
    let n = c.unspaced-n.result in
    λ s.
    let e = cleared n c.args.len w s (cut (goal.at.returns-then-n-eq0 c).After-unspaced-n) in
    block_none _ _ e (empty_yes n w c.if-n-eq0.true)

pub returns-then-ends_blank : goal.returns-then-ends_blank
returns-then-ends_blank c =
    let w = c.args.out.now in
    let n = c.unspaced-n.result in
    λ s.
    let e = cleared n c.args.len w s (cut (goal.at.returns-then-ends_blank c).After-unspaced-n) in
    block_blank _ _ e (empty_no n w c.if-n-eq0.false) (ap (starts "\n\n") (sym (before (goal.at.returns-then-ends_blank c).After-unspaced-n)) ∙ sym c.ends_blank.ensures ∙ c.if-ends_blank.true)

pub returns-then-line_start : goal.returns-then-line_start
returns-then-line_start c =
    let w = c.args.out.now in
    let n = c.unspaced-n.result in
    let b = sym (before (goal.at.returns-then-line_start c).After-unspaced-n) in
    λ s.
    let e = cleared n c.args.len w s (cut (goal.at.returns-then-line_start c).After-unspaced-n) in
    ap (λ (o : List ℕ). with_out o false s) c.push.ensures
    ∙ block_feed _ _ e (empty_no n w c.if-n-eq0.false)
    (ap (starts "\n\n") b ∙ sym c.ends_blank.ensures ∙ c.if-ends_blank.false)
    (ap line_start b ∙ sym c.line_start.ensures ∙ c.if-line_start.true)

pub returns : goal.returns
returns c =
    let w = c.args.out.now in
    let n = c.unspaced-n.result in
    let b = sym (before (goal.at.returns c).After-unspaced-n) in
    λ s.
    let e = cleared n c.args.len w s (cut (goal.at.returns c).After-unspaced-n) in
    ap (λ (o : List ℕ). with_out o false s) c.push_all.ensures
    ∙ block_two _ _ e (empty_no n w c.if-n-eq0.false)
    (ap (starts "\n\n") b ∙ sym c.ends_blank.ensures ∙ c.if-ends_blank.false)
    (ap line_start b ∙ sym c.line_start.ensures ∙ c.if-line_start.false)

-- `markdown::blocks` meets its contract.
-- Assumes nothing.
use Rattle.markdown.proofs.CallLaws.{too_long, not_utf8, small_work, small_result, all_written}
use lib.ListN.{replicate}
use native.Mathlib.Omega.{arith}
use Prim.Native.Nat.{ℕ}
use mathlib.Core.Path.{sym, ap, ◌∙◌}
use Rattle.markdown.proofs.blocks.Goals as goal

pub returns-then-n-gt65536 : goal.returns-then-n-gt65536
returns-then-n-gt65536 c = too_long c.args.markdown.now c.args.work.now c.args.res.now c.if-n-gt65536.true

pub returns-then-not-is_utf8 : goal.returns-then-not-is_utf8
returns-then-not-is_utf8 c = not_utf8 c.args.markdown.now c.args.work.now c.args.res.now c.if-n-gt65536.false (sym c.is_utf8.ensures ∙ c.if-not-is_utf8.true)

pub returns-then-work-n : goal.returns-then-work-n
returns-then-work-n c = small_work c.args.markdown.now c.args.work.now c.args.res.now c.if-n-gt65536.false (sym c.is_utf8.ensures ∙ c.if-not-is_utf8.false) c.if-work-n.true

pub returns-then-res-end : goal.returns-then-res-end
returns-then-res-end c =
    let r = c.read-end.ensures in
    let k = c.read-end.auto.out in
    small_result c.args.markdown.now c.args.work.now c.args.res.now c.if-n-gt65536.false (sym c.is_utf8.ensures ∙ c.if-not-is_utf8.false) c.if-work-n.false
    c.read-end.new.work _ (omega (arith, c.if-res-end.true, k, r.0)) (c.clear.ensures ∙ ap (λ (n : ℕ). replicate n 0) k)

pub returns : goal.returns
returns c =
    let r = c.read-end.ensures in
    let k = c.read-end.auto.out in
    all_written c.args.markdown.now c.args.work.now c.args.res.now c.if-n-gt65536.false (sym c.is_utf8.ensures ∙ c.if-not-is_utf8.false) c.if-work-n.false
    c.read-end.new.work _ _ r.0 (omega (arith, c.if-res-end.false, k)) r.1

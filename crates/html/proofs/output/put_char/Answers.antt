-- `put_char` meets its contract.
-- Assumes nothing.
use mathlib.Core.Path.{ap}
use native.Mathlib.Omega.{arith}
use lib.ListN.{length}
use Rattle.text.proofs.Utf8.{top, utf8_1}
use Rattle.text.proofs.PutLaws.{put_yes}
use Rattle.html.proofs.OutLaws.{out_push, out_put}
use Rattle.html.proofs.output.put_char.Goals as goal

pub bounds-out-n : goal.bounds-out-n
bounds-out-n c =
    omega (arith, c.requires.0, ap length (utf8_1 c.args.c c.if-c-lt128.true))

pub returns-then-c-lt128 : goal.returns-then-c-lt128
returns-then-c-lt128 c =
    out_push c.args.n c.args.out.now c.args.c (omega (arith, c.requires.0, ap length (utf8_1 c.args.c c.if-c-lt128.true))) c.if-c-lt128.true

pub overflow_add-result-2 : goal.overflow_add-result-2
overflow_add-result-2 c =
    let t = top c.args.c c.requires.1 in
    let p = put_yes c.args.out.now c.args.n c.args.c (omega arith) c.requires.0 in
    omega (arith, c.put-k.ensures.0, p.0, c.requires.0)

pub returns : goal.returns
returns c =
    let t = top c.args.c c.requires.1 in
    let p = put_yes c.args.out.now c.args.n c.args.c (omega arith) c.requires.0 in
    rw (c.put-k.ensures.0, c.put-k.ensures.1, ← p.0, ← p.1) (out_put c.args.n c.args.out.now c.args.c c.requires.0 c.requires.1)

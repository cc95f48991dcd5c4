-- `text::put` meets its contract. The character's width says how many of its bytes there are.
-- Assumes nothing.
use native.Mathlib.Omega.{arith}
use native.Mathlib.Numerals.{add-one, add-two, add-three}
use lib.ListN.{length-set}
use Rattle.text.proofs.Laws.{utf8_size}
use Rattle.text.proofs.PutLaws.{put_bytes, put_no_room, put_no_char}
use Rattle.text.proofs.encoding.put.Goals as goal

pub returns-then-c-gt1114111 : goal.returns-then-c-gt1114111
returns-then-c-gt1114111 c = put_no_char _ _ _ c.if-c-gt1114111.true

pub returns-then-n-k : goal.returns-then-n-k
returns-then-n-k c = put_no_room _ _ _ (omega (arith, c.width-k.ensures))

pub returns-then-n-k-2 : goal.returns-then-n-k-2
returns-then-n-k-2 c = put_no_room _ _ _ (omega (arith, c.width-k.ensures))

pub bounds-out-at : goal.bounds-out-at
bounds-out-at c = omega (arith, c.width-k.ensures, (utf8_size c.args.c).0)

pub returns-then-k-eq1 : goal.returns-then-k-eq1
returns-then-k-eq1 c = put_bytes c.args.out.now c.args.at c.args.c (omega arith) c.bytes_of-f.ensures c.width-k.ensures (omega arith) 1 c.if-k-eq1.true

pub bounds-out-at-2 : goal.bounds-out-at-2
bounds-out-at-2 c = simp length-set (omega (arith, c.width-k.ensures, (utf8_size c.args.c).0))

pub returns-then-k-eq2 : goal.returns-then-k-eq2
returns-then-k-eq2 c = rw (add-one) (put_bytes c.args.out.now c.args.at c.args.c (omega arith) c.bytes_of-f.ensures c.width-k.ensures (omega arith) 2 c.if-k-eq2.true)

pub bounds-out-at-3 : goal.bounds-out-at-3
bounds-out-at-3 c = simp length-set (omega (arith, c.width-k.ensures, (utf8_size c.args.c).0))

pub returns-then-k-eq3 : goal.returns-then-k-eq3
returns-then-k-eq3 c = rw (add-one, add-two) (put_bytes c.args.out.now c.args.at c.args.c (omega arith) c.bytes_of-f.ensures c.width-k.ensures (omega arith) 3 c.if-k-eq3.true)

pub bounds-out-at-4 : goal.bounds-out-at-4
bounds-out-at-4 c = simp length-set (omega (arith, c.width-k.ensures, (utf8_size c.args.c).0))

pub returns : goal.returns
returns c =
    rw (add-one, add-two, add-three) (put_bytes c.args.out.now c.args.at c.args.c (omega arith) c.bytes_of-f.ensures c.width-k.ensures (omega arith) 4
    (omega (arith, c.width-k.ensures, utf8_size c.args.c)))

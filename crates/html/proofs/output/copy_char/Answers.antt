-- `copy_char` meets its contract.
-- Assumes nothing.
use native.Mathlib.Omega.{arith}
use lib.ListN.{length-set}
use Rattle.html.proofs.AboveLaws.{Tail, tail_1, tail_2, tail_3, copied_2, copied_3, copied_4}
use Rattle.html.proofs.output.copy_char.Goals as goal
use Rattle.html.proofs.output.copy_char.Goals.{Else-a-lt224, Else-a-lt240, Start}

first : (c : Start) → Tail c.args.raw.now c.args.i 1
first c = let raw = c.args.raw.now in let p = c.requires.1 in tail_1 raw c.args.i p.0 p.1.0 p.1.1

second : (c : Else-a-lt224) → Tail c.args.raw.now c.args.i 2
second c = let p = c.requires.1 in tail_2 c.args.raw.now c.args.i p.0 p.1.0 p.1.1 c.if-a-lt224.false

third : (c : Else-a-lt240) → Tail c.args.raw.now c.args.i 3
third c = let p = c.requires.1 in tail_3 c.args.raw.now c.args.i p.0 p.1.0 p.1.1 c.if-a-lt240.false

pub bounds-out-n : goal.bounds-out-n
bounds-out-n c = omega (arith, first (goal.at.bounds-out-n c).Start)

pub bounds-raw-i-2 : goal.bounds-raw-i-2
bounds-raw-i-2 c = omega (arith, first (goal.at.bounds-raw-i-2 c).Start)

pub bounds-out-n-2 : goal.bounds-out-n-2
bounds-out-n-2 c = simp length-set (omega (arith, first (goal.at.bounds-out-n-2 c).Start))

pub returns-then-a-lt224 : goal.returns-then-a-lt224
returns-then-a-lt224 c = let p = c.requires.1 in copied_2 c.args.raw.now c.args.i p.0 p.1.0 p.1.1 c.args.n c.args.out.now c.requires.0 c.if-a-lt224.true

pub bounds-raw-i-3 : goal.bounds-raw-i-3
bounds-raw-i-3 c = omega (arith, second (goal.at.bounds-raw-i-3 c).Else-a-lt224)

pub bounds-out-n-3 : goal.bounds-out-n-3
bounds-out-n-3 c = simp length-set (omega (arith, second (goal.at.bounds-out-n-3 c).Else-a-lt224))

pub returns-then-a-lt240 : goal.returns-then-a-lt240
returns-then-a-lt240 c = let p = c.requires.1 in copied_3 c.args.raw.now c.args.i p.0 p.1.0 p.1.1 c.args.n c.args.out.now c.requires.0 c.if-a-lt224.false c.if-a-lt240.true

pub bounds-raw-i-4 : goal.bounds-raw-i-4
bounds-raw-i-4 c = omega (arith, third (goal.at.bounds-raw-i-4 c).Else-a-lt240)

pub bounds-out-n-4 : goal.bounds-out-n-4
bounds-out-n-4 c = simp length-set (omega (arith, third (goal.at.bounds-out-n-4 c).Else-a-lt240))

pub returns : goal.returns
returns c = let p = c.requires.1 in copied_4 c.args.raw.now c.args.i p.0 p.1.0 p.1.1 c.args.n c.args.out.now c.requires.0 c.if-a-lt240.false

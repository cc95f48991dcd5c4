-- `above_ascii` meets its contract.
-- Assumes nothing.
use native.Mathlib.Omega.{arith}
use Rattle.html.proofs.AboveLaws.{Lead, Tail, lead, tail_1, tail_2, tail_3, above_2, above_3, above_4}
use Rattle.html.proofs.words.above_ascii.Goals as goal
use Rattle.html.proofs.words.above_ascii.Goals.{Else-a-lt224, Else-a-lt240, Start}

first : (c : Start) → Lead c.args.raw.now c.args.i × Tail c.args.raw.now c.args.i 1
first c = let raw = c.args.raw.now in let p = c.requires in (lead raw c.args.i p.0 p.1.0 p.1.1, tail_1 raw c.args.i p.0 p.1.0 p.1.1)

second : (c : Else-a-lt224) → Tail c.args.raw.now c.args.i 2
second c = let p = c.requires in tail_2 c.args.raw.now c.args.i p.0 p.1.0 p.1.1 c.if-a-lt224.false

third : (c : Else-a-lt240) → Tail c.args.raw.now c.args.i 3
third c = let p = c.requires in tail_3 c.args.raw.now c.args.i p.0 p.1.0 p.1.1 c.if-a-lt240.false

pub bounds-raw-i-2 : goal.bounds-raw-i-2
bounds-raw-i-2 c = omega (arith, first (goal.at.bounds-raw-i-2 c).Start)

pub overflow_sub-b : goal.overflow_sub-b
overflow_sub-b c = omega (arith, first (goal.at.overflow_sub-b c).Start)

pub overflow_sub-result : goal.overflow_sub-result
overflow_sub-result c = omega (arith, first (goal.at.overflow_sub-result c).Start)

pub returns-then-a-lt224 : goal.returns-then-a-lt224
returns-then-a-lt224 c = let p = c.requires in above_2 c.args.raw.now c.args.i p.0 p.1.0 p.1.1 c.if-a-lt224.true

pub bounds-raw-i-3 : goal.bounds-raw-i-3
bounds-raw-i-3 c = omega (arith, first (goal.at.bounds-raw-i-3 c).Start, second (goal.at.bounds-raw-i-3 c).Else-a-lt224)

pub overflow_sub-c : goal.overflow_sub-c
overflow_sub-c c = omega (arith, first (goal.at.overflow_sub-c c).Start, second (goal.at.overflow_sub-c c).Else-a-lt224)

pub returns-then-a-lt240 : goal.returns-then-a-lt240
returns-then-a-lt240 c = let p = c.requires in above_3 c.args.raw.now c.args.i p.0 p.1.0 p.1.1 c.if-a-lt224.false c.if-a-lt240.true

pub bounds-raw-i-4 : goal.bounds-raw-i-4
bounds-raw-i-4 c = omega (arith, first (goal.at.bounds-raw-i-4 c).Start, second (goal.at.bounds-raw-i-4 c).Else-a-lt224, third (goal.at.bounds-raw-i-4 c).Else-a-lt240)

pub overflow_sub-d : goal.overflow_sub-d
overflow_sub-d c = omega (arith, first (goal.at.overflow_sub-d c).Start, second (goal.at.overflow_sub-d c).Else-a-lt224, third (goal.at.overflow_sub-d c).Else-a-lt240)

pub returns : goal.returns
returns c = let p = c.requires in above_4 c.args.raw.now c.args.i p.0 p.1.0 p.1.1 c.if-a-lt240.false

-- `text::trim` meets its contract.
-- Assumes nothing.
use Prim.Native.Nat.{◌-◌}
use native.Mathlib.Omega.{arith}
use mathlib.Core.Path.{◌≡◌, sym, ◌∙◌}
use lib.ListN.{length, take, drop, length-drop}
use lib.Seq.{length-take-le, take_all}
use Rattle.text.specs.Utf8.{chars, encode}
use Rattle.text.specs.Trim.{trim_start}
use Rattle.text.proofs.TrimLaws.{start_le, drop_start, chars_start, end_le, take_end}
use Rattle.text.proofs.trimming.trim.Goals as goal
use Rattle.text.proofs.trimming.trim.Goals.{After-start_of-a}

-- the part from the start on
started : (c : After-start_of-a)
    → take (length c.args.s.now - c.start_of-a.result) (drop c.start_of-a.result c.args.s.now) ≡ encode (trim_start (chars c.args.s.now))
started c =
    let s = c.args.s.now in
    rw (take_all (length s - c.start_of-a.result) (drop c.start_of-a.result s) (omega (arith, length-drop c.start_of-a.result s)), c.start_of-a.ensures) (drop_start s)

pub slice_bounds-t-count : goal.slice_bounds-t-count
slice_bounds-t-count c = rw c.start_of-a.ensures (start_le c.args.s.now)

pub slice_bounds-t-start : goal.slice_bounds-t-start
slice_bounds-t-start c = omega (arith, c.start_of-a.ensures, start_le c.args.s.now)

pub slice_bounds-result-end : goal.slice_bounds-result-end
slice_bounds-result-end c = sym (length-take-le _ _ (rw c.end_of-e.ensures (end_le _)))

pub returns : goal.returns
returns c = rw (c.end_of-e.ensures, started (goal.at.returns c).After-start_of-a) (take_end (encode (trim_start (chars c.args.s.now))) ∙ rw (chars_start c.args.s.now))

-- `text::close_near` meets its contract. The loop's invariant: `-->` stands at no place from i up to j.
-- Assumes nothing.
use Prim.Native.Nat.{◌+◌}
use native.Mathlib.Omega.{arith}
use mathlib.Core.Path.{sym, ◌∙◌}
use Rattle.text.specs.Words.{str}
use Rattle.text.specs.Run.{SeekTo, other}
use lib.ListN.{get_or}
use Rattle.text.proofs.SeekLaws.{none_left, seek_on, seek_not, seek_found, three_apart, twice}
use Rattle.text.proofs.search.close_near.Goals as goal
use Rattle.text.proofs.search.close_near.Goals.{Then-is_outside}

-- the three places that a turn passes
apart : (c : Then-is_outside)
    →
    let a = c.args in
    SeekTo (str "-->") a.s.now c.loop-j.j (c.loop-j.j + 3)
apart c =
    let a = c.args in
    let h = c.loop-j.invariant.high in
    let x = get_or a.s.now (c.loop-j.j + 2) 0 in
    three_apart a.s.now 45 45 62 c.loop-j.j (omega arith) _ (c.is_outside.ensures ∙ twice (other 45 x) (other 62 x)) c.if-is_outside.true

pub loop-j-preserved-then-is_outside : goal.loop-j-preserved-then-is_outside
loop-j-preserved-then-is_outside c = seek_on _ _ _ _ _ c.loop-j.invariant (apart c)

pub returns-then-is_close : goal.returns-then-is_close
returns-then-is_close c = let h = c.loop-j.invariant.high in seek_found _ _ _ _ _ c.loop-j.invariant (omega arith) c.is_close.ensures c.if-is_close.true

pub loop-j-preserved : goal.loop-j-preserved
loop-j-preserved c = let h = c.loop-j.invariant.high in seek_not _ _ _ _ _ c.loop-j.invariant (omega arith) c.is_close.ensures c.if-is_close.false

pub returns : goal.returns
returns c =
    let a = c.args in
    let h = c.loop-j.invariant.high in
    sym (c.loop-j.invariant.same ∙ none_left 45 _ a.s.now c.loop-j.j (omega arith))

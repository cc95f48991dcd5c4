-- `text::is_free_block` meets its contract. The loop's invariant: where none was found, there is none from i up to i + k.
-- Assumes nothing.
use Rattle.std.proofs.Common.{◌≡◌, ◌+◌, true}
use Rattle.text.specs.Words.{str}
use Rattle.text.specs.Run.{SeekTo}
use Rattle.text.proofs.search.is_free_block.Given as goal

abbrev pub invariant-loop-k : goal.invariant-loop-k
invariant-loop-k l = l.free ≡ true → SeekTo (str "-->") l.s l.i (l.i + l.k)

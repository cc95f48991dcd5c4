-- `markdown::rows::end_without` meets its contract. The loop's invariant: the bytes that are left lose at their end what all lose.
-- Assumes nothing.
use Rattle.text.specs.Words.{trim_end_matches}
use lib.ListN.{length, take}
use lib.Dec.{eqb}
use mathlib.Core.Path.{◌≡◌}
use Prim.Native.Nat.{◌≤◌}
use Rattle.markdown.proofs.rows.end_without.Given as goal

abbrev pub invariant-loop-last : goal.invariant-loop-last
invariant-loop-last l = (trim_end_matches (λ x. eqb x l.b) (take l.last l.s) ≡ trim_end_matches (λ x. eqb x l.b) l.s) × (l.last ≤ length l.s)

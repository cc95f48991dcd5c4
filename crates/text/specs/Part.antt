-- The part of a list from an offset up to another, and of lent bytes.
-- Assumes nothing.
use Rattle.std.specs.Prelude.{ℕ, ◌+◌, ◌-◌, ◌≤◌, List, length, take, drop}
use Rattle.std.specs.Borrow.{Bor}
use Rattle.text.specs.declared.parts.Part.{Part}

abbrev pub between : List ℕ → ℕ → ℕ → List ℕ
between s from to = take (to - from) (drop from s)

-- both offsets are in the list, in order
pub record Inside (s : List ℕ) (from to : ℕ) : Type 0 where
  pub order : from ≤ to
  pub bound : to ≤ length s

-- The part of lent bytes at a place: it starts there in their own memory (a block, and an offset in it), and holds the bytes of the place.
abbrev pub part_of : Bor (List ℕ) → Part → Bor (List ℕ)
part_of s p = record { ref_ptr = (s.ref_ptr.0, p.start + s.ref_ptr.1); now = between s.now p.start p.end }

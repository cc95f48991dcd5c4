-- What stands at the start of some bytes.
-- Assumes nothing.
use Rattle.std.specs.Prelude.{ℕ}

-- a character and its size in bytes; a byte that starts no character; the end of the bytes
pub data Char : Type 0 where
  At : ℕ → ℕ → Char
  Bad : Char
  End : Char

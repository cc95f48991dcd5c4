-- A character written into a buffer.
-- Assumes nothing.
use Rattle.std.specs.Prelude.{ℕ, ◌+◌, ◌<◌, Bool, ◌&&◌, List, [], ◌∷◌, ◌≡◌, ltb, leb, length, take, if◌then◌else◌}
use Rattle.std.proofs.lemmas.List.Edits.{sets}
use Rattle.text.specs.Utf8.{utf8}
use Rattle.text.specs.declared.decoding.Four.{Four}

-- the bytes of a character, and any after them
pub record BytesOf (c : ℕ) (f : Four) : Type 0 where
  pub bytes : utf8 c ≡ take (length (utf8 c)) (f.a ∷ f.b ∷ f.c ∷ f.d ∷ [])
  pub small : (f.a < 256) × ((f.b < 256) × ((f.c < 256) × (f.d < 256)))

-- whether n bytes have room for the character c from offset at on
unfoldable pub room_for : ℕ → ℕ → ℕ → Bool
room_for n at c = ltb c 0x110000 && leb (at + length (utf8 c)) n

-- how many bytes are written, and the buffer afterwards
unfoldable pub put_size : ℕ → ℕ → ℕ → ℕ
put_size n at c = if room_for n at c then length (utf8 c) else 0

unfoldable pub put_at : List ℕ → ℕ → ℕ → List ℕ
put_at out at c = if room_for (length out) at c then sets out at (utf8 c) else out

-- The first n bytes of a text, fewer where a character would be split.
-- Assumes nothing.
use Rattle.std.specs.Prelude.{ℕ, ◌-◌, Bool, ◌&&◌, List, [], ◌∷◌, leb, ltb, length, drop, if◌then◌else◌}
use Rattle.text.specs.Utf8.{utf8, char, size_of}

unfoldable pub cut : ℕ → List ℕ → List ℕ
cut n [] = []
cut n (c ∷ s) = let more = c ∷ cut (n - length (utf8 c)) s in if leb (length (utf8 c)) n then more else []

-- whether the character that starts k bytes before byte n goes on past n
unfoldable pub splits : List ℕ → ℕ → ℕ → Bool
splits bs n k = leb k n && ltb k (size_of (char (drop (n - k) bs)))

-- where the first n bytes end without a split character; no character has more than 4 bytes
unfoldable pub cut_end : List ℕ → ℕ → ℕ
cut_end bs n =
    if splits bs n 1 then n - 1
    else if splits bs n 2 then n - 2
    else if splits bs n 3 then n - 3
    else n

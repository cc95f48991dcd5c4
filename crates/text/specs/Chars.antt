-- Classes of characters: White_Space and control, by document 01, "Characters"; Unicode scalar values; ASCII digits and letters.
-- Assumes nothing.
use Rattle.std.specs.Prelude.{ℕ, ◌+◌, ◌<◌, Bool, ◌&&◌, ◌||◌, List, [], ◌∷◌, leb, ltb, eqb, if◌then◌else◌}

-- low ≤ c ≤ high
abbrev pub within : ℕ → ℕ → ℕ → Bool
within low high c = leb low c && leb c high

unfoldable pub is_space : ℕ → Bool
is_space c =
    within 9 13 c || eqb c 32 || eqb c 133 || eqb c 160 || eqb c 5760 || within 8192 8202 c || eqb c 8232
    || eqb c 8233
    || eqb c 8239
    || eqb c 8287
    || eqb c 12288

unfoldable pub is_control : ℕ → Bool
is_control c = leb c 31 || within 127 159 c

unfoldable pub is_scalar : ℕ → Bool
is_scalar c = leb c 0xD7FF || within 0xE000 0x10FFFF c

abbrev pub is_ascii : ℕ → Bool
is_ascii c = ltb c 0x80

abbrev pub Ascii : List ℕ → Type 0
Ascii [] = Unit
Ascii (x ∷ xs) = (x < 0x80) × Ascii xs

-- `is_ascii_digit`, `is_ascii_alphabetic`, `is_ascii_alphanumeric` and `to_ascii_lowercase`
abbrev pub is_digit : ℕ → Bool
is_digit c = within 48 57 c

abbrev pub is_letter : ℕ → Bool
is_letter c = within 65 90 c || within 97 122 c

abbrev pub is_alphanumeric : ℕ → Bool
is_alphanumeric c = is_digit c || is_letter c

abbrev pub to_lower : ℕ → ℕ
to_lower c = if within 65 90 c then c + 32 else c

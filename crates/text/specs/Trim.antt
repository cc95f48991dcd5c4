-- Spaces taken off the ends of a text: of its characters, and as offsets into its bytes.
-- Assumes nothing.
use Rattle.std.specs.Prelude.{ℕ, ◌-◌, Bool, false, ◌&&◌, ◌||◌, List, ltb, eqb, length, drop, if◌then◌else◌}
use Rattle.text.specs.Words.{drop_while, trim_end_matches, trim_matches}
use Rattle.text.specs.Chars.{within, is_space}
use Rattle.text.specs.Utf8.{encode, chars, char}
use Rattle.text.specs.Char.{Char, At, Bad, End}

abbrev pub trim_start : List ℕ → List ℕ
trim_start s = drop_while is_space s

abbrev pub trim_end : List ℕ → List ℕ
trim_end s = trim_end_matches is_space s

abbrev pub trim : List ℕ → List ℕ
trim s = trim_matches is_space s

-- where the bytes of a text start without the spaces before it, and where they end without those after it
unfoldable pub start_of : List ℕ → ℕ
start_of bs = length bs - length (encode (trim_start (chars bs)))

unfoldable pub end_of : List ℕ → ℕ
end_of bs = length (encode (trim_end (chars bs)))

-- an ASCII space
abbrev pub is_blank : ℕ → Bool
is_blank b = within 9 13 b || eqb b 32

-- how many bytes a space has that is not ASCII; 0 for anything else
abbrev pub wide_space : Char → ℕ
wide_space (At c n) = if ltb 1 n && is_space c then n else 0
wide_space Bad = 0
wide_space End = 0

-- a space of k bytes
abbrev pub is_space_of : Char → ℕ → Bool
is_space_of (At c n) k = is_space c && eqb n k
is_space_of Bad k = false
is_space_of End k = false

unfoldable pub space_at : List ℕ → ℕ → Bool
space_at bs k = is_space_of (char bs) k

-- how many bytes the space has that ends before offset e, or 0 where none does; no space has 4
unfoldable pub space_before : List ℕ → ℕ → ℕ
space_before bs e =
    if ltb e 1 then 0
    else if space_at (drop (e - 1) bs) 1 then 1
    else if ltb e 2 then 0
    else if space_at (drop (e - 2) bs) 2 then 2
    else if ltb e 3 then 0
    else if space_at (drop (e - 3) bs) 3 then 3
    else 0

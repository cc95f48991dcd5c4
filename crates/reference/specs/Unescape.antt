-- `unescape` of notes.rs (document 01, "References"): character references replaced in one pass.
-- Assumes nothing.
use Rattle.std.specs.Prelude.{ℕ, zero, suc, ◌+◌, ◌-◌, ◌*◌, Bool, ◌&&◌, ◌||◌, not, List, [], ◌∷◌, take, drop, leb, ltb, if◌then◌else◌}
use Prim.Native.Char.{Char, code}
use Prim.Native.String.{String}
use Rattle.std.proofs.Math.Option.{Option, some}
use Rattle.text.specs.Words.{◌>>=◌, ensure, case, is, is_empty, starts, find, lookup}
use Rattle.text.specs.Chars.{within, is_digit, is_scalar, is_control}
use Rattle.text.specs.Utf8.{size}

-- `u32::from_str_radix`, which also parses decimal numbers; at most 8 characters reach it, so nothing overflows. 16 is no digit
unfoldable pub digit : ℕ → ℕ
digit c = if is_digit c then c - 48 else if within 97 102 c then c - 87 else if within 65 70 c then c - 55 else 16

unfoldable pub digits : ℕ → ℕ → List ℕ → Option ℕ
digits radix v [] = some v
digits radix v (c ∷ s) = ensure (ltb (digit c) radix) >>= λ _. digits radix (v * radix + digit c) s

-- the number of one digit or more, and `from_str_radix`, which takes a plus before them
unfoldable pub some_digits : ℕ → List ℕ → Option ℕ
some_digits radix s = ensure (not (is_empty s)) >>= λ _. digits radix 0 s

unfoldable pub from_str_radix : ℕ → List ℕ → Option ℕ
from_str_radix radix s = some_digits radix (if starts "+" s then drop 1 s else s)

-- what a name between `&` and `;` stands for
unfoldable pub names : List (String × Char)
names = ("amp", "&") ∷ ("lt", "<") ∷ ("gt", ">") ∷ ("quot", "\"") ∷ ("apos", "'") ∷ ("nbsp", " ") ∷ []

-- the number that a name writes, whether a character has it or not
abbrev pub is_hexadecimal : List ℕ → Bool
is_hexadecimal name = starts "#x" name || starts "#X" name

unfoldable pub written : List ℕ → Option ℕ
written name =
    ensure (starts "#" name) >>= λ _.
    (if is_hexadecimal name then from_str_radix 16 (drop 2 name) else from_str_radix 10 (drop 1 name))

unfoldable pub number : List ℕ → Option ℕ
number name =
    written name >>= λ c.
    ensure (is_scalar c && not (is_control c)) >>= λ _.
    some c

unfoldable pub named : List ℕ → Option ℕ
named name = case (lookup names name) (number name) (λ d. some (code d))

-- The reference step: the character that stands for what follows an `&`, and how many characters that is; none: the `&` is left
unfoldable pub reference : List ℕ → Option (ℕ × ℕ)
reference s =
    find ";" s >>= λ end.
    ensure (leb (1 + size (take end s)) 10) >>= λ _.
    named (take end s) >>= λ c.
    some (c, end + 1)

-- one step of the pass, at x with s after it: the character made, and how many characters of s were read
unfoldable pub unescaped : ℕ → List ℕ → ℕ × ℕ
unescaped x s = if is "&" x then case (reference s) (x, 0) (λ r. r) else (x, 0)

-- the first n characters of the list belong to the reference before it
unfoldable pub unescape : ℕ → List ℕ → List ℕ
unescape n [] = []
unescape (suc n) (x ∷ s) = unescape n s
unescape zero (x ∷ s) = let u = unescaped x s in u.0 ∷ unescape u.1 s

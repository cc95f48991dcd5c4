-- Character references by the WHATWG HTML standard, section 13.2.5 (Tokenization): the numeric ones, and of the named ones those that
-- `unescape` of notes.rs knows, each ended by a `;`. The standard's other names, and names and numbers that no `;` ends, are not written down
-- here (see `standard`). What its parse errors are is left out: they change no character.
-- Only what compares the two (proofs/StandardLaws.antt, StandardNumbers.antt and Examples.antt) uses this.
-- Assumes nothing.
use Rattle.std.specs.Prelude.{ℕ, ◌+◌, ◌-◌, ◌*◌, Bool, false, ◌||◌, not, List, [], ◌∷◌, eqb, ltb, take, drop, if◌then◌else◌}
use Prim.Native.String.{String}
use Rattle.std.proofs.Math.Option.{Option, none, some}
use Rattle.text.specs.Words.{◌>>=◌, ensure, case, str, is_empty, same, starts, find, lookup}
use Rattle.text.specs.Chars.{within, is_control}
use Rattle.text.specs.Utf8.{size}

-- "Numeric character reference end state", the table: the number, and the character reference code in its place
unfoldable pub table : List (ℕ × ℕ)
table =
    (0x80, 0x20AC) ∷ (0x82, 0x201A) ∷ (0x83, 0x0192) ∷ (0x84, 0x201E) ∷ (0x85, 0x2026) ∷ (0x86, 0x2020) ∷ (0x87, 0x2021) ∷ (0x88, 0x02C6)
    ∷ (0x89, 0x2030) ∷ (0x8A, 0x0160) ∷ (0x8B, 0x2039) ∷ (0x8C, 0x0152) ∷ (0x8E, 0x017D) ∷ (0x91, 0x2018) ∷ (0x92, 0x2019) ∷ (0x93, 0x201C)
    ∷ (0x94, 0x201D) ∷ (0x95, 0x2022) ∷ (0x96, 0x2013) ∷ (0x97, 0x2014) ∷ (0x98, 0x02DC) ∷ (0x99, 0x2122) ∷ (0x9A, 0x0161) ∷ (0x9B, 0x203A)
    ∷ (0x9C, 0x0153) ∷ (0x9E, 0x017E) ∷ (0x9F, 0x0178) ∷ []

unfoldable pub row : List (ℕ × ℕ) → ℕ → ℕ
row [] v = v
row (r ∷ rows) v = let later = row rows v in if eqb v r.0 then r.1 else later

-- the character of a number: U+FFFD for 0, for a number above 0x10FFFF and for a surrogate, else by the table. Other controls and
-- noncharacters are parse errors, and stay themselves
unfoldable pub end_state : ℕ → ℕ
end_state v = if eqb v 0 || ltb 0x10FFFF v || within 0xD800 0xDFFF v then 0xFFFD else row table v

-- "Decimal character reference state" and "Hexadecimal character reference state": what a digit adds
abbrev pub decimal_digit : ℕ → Option ℕ
decimal_digit c = if within 0x30 0x39 c then some (c - 0x30) else none

abbrev pub hexadecimal_digit : ℕ → Option ℕ
hexadecimal_digit c =
    if within 0x30 0x39 c then some (c - 0x30)
    else if within 0x41 0x46 c then some (c - 0x37)
    else if within 0x61 0x66 c then some (c - 0x57)
    else none

-- the character reference code that digits add up to, of any count but none
unfoldable pub add_digits : (ℕ → Option ℕ) → ℕ → ℕ → List ℕ → Option ℕ
add_digits digit radix v [] = some v
add_digits digit radix v (c ∷ s) = digit c >>= λ d. add_digits digit radix (v * radix + d) s

unfoldable pub decimal : List ℕ → Option ℕ
decimal s = ensure (not (is_empty s)) >>= λ _. add_digits decimal_digit 10 0 s

unfoldable pub hexadecimal : List ℕ → Option ℕ
hexadecimal s = ensure (not (is_empty s)) >>= λ _. add_digits hexadecimal_digit 16 0 s

-- "Numeric character reference state": the number that a name between `&` and `;` writes
unfoldable pub numeric : List ℕ → Option ℕ
numeric name =
    ensure (starts "#" name) >>= λ _.
    (if starts "#x" name || starts "#X" name then hexadecimal (drop 2 name) else decimal (drop 1 name))

-- section 13.5 (Named character references): the six
unfoldable pub entities : List (String × ℕ)
entities = ("amp", 0x26) ∷ ("lt", 0x3C) ∷ ("gt", 0x3E) ∷ ("quot", 0x22) ∷ ("apos", 0x27) ∷ ("nbsp", 0xA0) ∷ []

-- the character that the standard puts for the name between an `&` and the first `;` after it, where that is one of the six or a number
unfoldable pub standard_named : List ℕ → Option ℕ
standard_named name = case (lookup entities name) (numeric name >>= λ v. some (end_state v)) some

-- the same at what follows an `&`, with the count of characters, as in `reference`.
-- none: nothing of these forms stands there. That is not to say that the standard leaves the `&`. It does so where `#` or `#x` has no digit after
-- it (`&#;`, `&#+65;`) and where it knows no name (`&am;`); but by rules that are not written down here it replaces its other names (`&copy;`,
-- `&AMP;`), names that it knows without a `;` (`&lt`, also in `&ltx;`), and numbers that something else ends (`&#65`, `&#65x;`).
unfoldable pub standard : List ℕ → Option (ℕ × ℕ)
unfolding table row end_state add_digits decimal hexadecimal numeric entities standard_named
standard s = find ";" s >>= λ end. standard_named (take end s) >>= λ c. some (c, end + 1)

-- ---- the words of the comparison with `reference`
-- the name at what follows an `&`
unfoldable pub name_of : List ℕ → List ℕ
name_of s = case (find ";" s) [] (λ end. take end s)

-- its `;` stands more than 10 bytes after the `&`
unfoldable pub far : List ℕ → Bool
far name = ltb 10 (1 + size name)

-- it writes a number that is a control's, 0, a surrogate, or above 0x10FFFF
unfoldable pub no_number : ℕ → Bool
no_number v = is_control v || eqb v 0 || within 0xD800 0xDFFF v || ltb 0x10FFFF v

unfoldable pub refused : List ℕ → Bool
refused name = case (numeric name) false no_number

-- it has a `+` before its digits, and the number without it
unfoldable pub signed : List ℕ → Bool
signed name = starts "#+" name || starts "#x+" name || starts "#X+" name

unfoldable pub unsigned : List ℕ → Option ℕ
unsigned name = if starts "#+" name then decimal (drop 2 name) else hexadecimal (drop 3 name)

-- the character in place of the standard's
abbrev pub own : List ℕ → ℕ → ℕ
own name c = if same (str "nbsp") name then 32 else c

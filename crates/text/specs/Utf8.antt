-- UTF-8, by RFC 3629: the bytes of a character, the character at the start of some bytes, and the characters of any bytes.
-- A byte that belongs to no character is kept, as the code `0x110000 + byte`, which is no character's. So every list of bytes
-- has its characters, and they encode to the same bytes; the bytes are UTF-8 where each of the characters is a scalar value.
-- Assumes nothing.
use Rattle.std.specs.Prelude.{ℕ, suc, zero, pred, ◌+◌, ◌*◌, ◌-◌, ◌/◌, ◌%◌, ◌≤◌, Bool, ◌&&◌, ◌||◌, List, [], ◌∷◌, ◌++◌, ◌⊎◌, ◌≡◌, leb, ltb, length, get_or, drop, if◌then◌else◌}
use Rattle.std.specs.Prelude.{None, Some}
use Rattle.std.specs.Prelude as code
use Rattle.std.proofs.Math.Option.{Option, none, some}
use Rattle.text.specs.Words.{all}
use Rattle.text.specs.Chars.{within, is_scalar}
use Rattle.text.specs.Char.{Char, At, Bad, End}
use Rattle.text.specs.declared.decoding.Four.{Four}

-- a Unicode scalar value
abbrev pub IsScalar : ℕ → Type 0
IsScalar c = (c ≤ 0xD7FF) ⊎ ((0xE000 ≤ c) × (c ≤ 0x10FFFF))

abbrev pub Scalars : List ℕ → Type 0
Scalars [] = Unit
Scalars (c ∷ cs) = IsScalar c × Scalars cs

-- the bytes of a character (section 3)
unfoldable pub utf8 : ℕ → List ℕ
utf8 c =
    if ltb c 0x80 then c ∷ []
    else if ltb c 0x800 then (0xC0 + c / 64) ∷ (0x80 + c % 64) ∷ []
    else if ltb c 0x10000 then (0xE0 + c / 4096) ∷ (0x80 + c / 64 % 64) ∷ (0x80 + c % 64) ∷ []
    else if ltb c 0x110000 then (0xF0 + c / 262144) ∷ (0x80 + c / 4096 % 64) ∷ (0x80 + c / 64 % 64) ∷ (0x80 + c % 64) ∷ []
    else (c - 0x110000) ∷ []

abbrev pub encode : List ℕ → List ℕ
encode [] = []
encode (c ∷ cs) = utf8 c ++ encode cs

-- `s.len()`: how many bytes a text has
unfoldable pub size : List ℕ → ℕ
size [] = 0
size (c ∷ cs) = length (utf8 c) + size cs

-- UTF8-tail of section 4's table
abbrev pub tail : ℕ → Bool
tail b = within 0x80 0xBF b

-- a row of the table: the ranges of the first two bytes
abbrev pub row : ℕ → ℕ → ℕ → ℕ → ℕ → ℕ → Bool
row a_low a_high b_low b_high a b = within a_low a_high a && within b_low b_high b

-- the first two bytes of UTF8-3, and of UTF8-4
unfoldable pub starts3 : ℕ → ℕ → Bool
starts3 a b =
    row 0xE0 0xE0 0xA0 0xBF a b || row 0xE1 0xEC 0x80 0xBF a b || row 0xED 0xED 0x80 0x9F a b
    || row 0xEE 0xEF 0x80 0xBF a b

unfoldable pub starts4 : ℕ → ℕ → Bool
starts4 a b = row 0xF0 0xF0 0x90 0xBF a b || row 0xF1 0xF3 0x80 0xBF a b || row 0xF4 0xF4 0x80 0x8F a b

-- x where the test holds, and no character where it does not
abbrev pub given : Bool → Char → Char
given t x = if t then x else Bad

-- six bits more, those of the tail b
abbrev pub join : ℕ → ℕ → ℕ
join v b = v * 64 + (b - 0x80)

-- the character that the bytes a b c d start with, and how many of them it has (section 4: UTF8-1 to UTF8-4)
unfoldable pub char_of : ℕ → ℕ → ℕ → ℕ → Char
char_of a b c d =
    if leb a 0x7F then At a 1
    else given (tail b)
    (if within 0xC2 0xDF a then At (join (a - 0xC0) b) 2
    else given (tail c)
    (if starts3 a b then At (join (join (a - 0xE0) b) c) 3
    else given (tail d)
    (given (starts4 a b) (At (join (join (join (a - 0xF0) b) c) d) 4))))

-- the character at the start of a list of bytes; past the end stands 0, which is no tail
unfoldable pub char : List ℕ → Char
char [] = End
char (a ∷ bs) = char_of a (get_or bs 0 0) (get_or bs 1 0) (get_or bs 2 0)

-- how many bytes it takes up: a byte that starts no character stands by itself
abbrev pub size_of : Char → ℕ
size_of (At c n) = n
size_of Bad = 1
size_of End = 0

-- the same, but 0 for a byte that starts none
abbrev pub char_size : Char → ℕ
char_size (At c n) = n
char_size Bad = 0
char_size End = 0

-- a size, or none where it is 0
abbrev pub some_size : ℕ → code.Option ℕ
some_size zero = None
some_size (suc n) = Some (suc n)

-- the code of a byte that belongs to no character
abbrev pub stray : ℕ → ℕ
stray b = 0x110000 + b

-- the code for the byte b that `char` found this at
abbrev pub char_code : Char → ℕ → ℕ
char_code (At c n) b = c
char_code Bad b = stray b
char_code End b = 0

-- that code, and those of what f gives for the count of bytes to pass over
abbrev pub next : Char → ℕ → (ℕ → List ℕ) → List ℕ
next (At c n) b f = c ∷ f (pred n)
next Bad b f = stray b ∷ f 0
next End b f = []

-- the characters of a list of bytes without its first k bytes
unfoldable pub scan : ℕ → List ℕ → List ℕ
scan k [] = []
scan (suc k) (b ∷ bs) = scan k bs
scan zero (b ∷ bs) = next (char (b ∷ bs)) b (λ (k : ℕ). scan k bs)

unfoldable pub chars : List ℕ → List ℕ
chars bs = scan 0 bs

-- the code at an offset, and 0 past the end
unfoldable pub code_at : List ℕ → ℕ → ℕ
code_at bs i = get_or (chars (drop i bs)) 0 0

-- whether bytes are UTF-8 (section 4: UTF8-octets), and the characters that they stand for
unfoldable pub is_utf8 : List ℕ → Bool
is_utf8 bs = all is_scalar (chars bs)

unfoldable pub decode : List ℕ → Option (List ℕ)
unfolding is_utf8 chars scan char char_of starts3 starts4 is_scalar
decode bs = if is_utf8 bs then some (chars bs) else none

-- the four bytes from offset i on, with 0 past the end
pub record FourAt (bs : List ℕ) (i : ℕ) (f : Four) : Type 0 where
  pub first : f.a ≡ get_or bs i 0
  pub second : f.b ≡ get_or bs (i + 1) 0
  pub third : f.c ≡ get_or bs (i + 2) 0
  pub fourth : f.d ≡ get_or bs (i + 3) 0

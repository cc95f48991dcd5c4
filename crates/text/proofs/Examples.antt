-- Closed examples of the definitions, by computation.
-- Assumes nothing.
use mathlib.Core.List.{[], ◌∷◌}
use mathlib.Core.Option.{none, some}
use mathlib.Core.Path.{◌≡◌, refl}
use Rattle.text.specs.Chars.{is_space}
use Rattle.text.specs.Words.{drop_while, trim_end_matches}
use Rattle.text.specs.Trim.{trim}
use Rattle.text.specs.Utf8.{utf8, encode, char_of, char, starts3, starts4, scan, chars, decode}

-- RFC 3629, section 7: A, not identical to, alpha, full stop
pub first : decode (0x41 ∷ 0xE2 ∷ 0x89 ∷ 0xA2 ∷ 0xCE ∷ 0x91 ∷ 0x2E ∷ []) ≡ some (0x41 ∷ 0x2262 ∷ 0x0391 ∷ 0x2E ∷ [])
unfolding decode
first = refl

-- U+233B4 after a byte order mark
pub second : encode (0xFEFF ∷ 0x233B4 ∷ []) ≡ 0xEF ∷ 0xBB ∷ 0xBF ∷ 0xF0 ∷ 0xA3 ∷ 0x8E ∷ 0xB4 ∷ []
unfolding utf8
second = refl

-- section 10: an overlong form of U+0000
pub overlong : decode (0xC0 ∷ 0x80 ∷ []) ≡ none
unfolding decode
overlong = refl

-- a surrogate, and the bytes kept
pub surrogate : chars (0x61 ∷ 0xED ∷ 0xA0 ∷ 0x80 ∷ []) ≡ 0x61 ∷ 0x1100ED ∷ 0x1100A0 ∷ 0x110080 ∷ []
unfolding chars scan char char_of starts3 starts4
surrogate = refl

-- a no-break space, an a, an ideographic space and a line feed
pub trimmed : trim (0xA0 ∷ 0x61 ∷ 0x20 ∷ 0x62 ∷ 0x3000 ∷ 10 ∷ []) ≡ 0x61 ∷ 0x20 ∷ 0x62 ∷ []
unfolding trim_end_matches drop_while is_space
trimmed = refl

-- the same on bytes, where the last space is cut short
pub trimmed_bytes : encode (trim (chars (0xC2 ∷ 0xA0 ∷ 0x61 ∷ 0xE3 ∷ 0x80 ∷ []))) ≡ 0x61 ∷ 0xE3 ∷ 0x80 ∷ []
unfolding trim_end_matches drop_while is_space decode utf8
trimmed_bytes = refl

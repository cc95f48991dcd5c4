-- UTF-8 as a rule for neighbours: which byte may stand behind which three. It serves the test of many bytes at once.
-- Assumes nothing.
use Rattle.std.specs.Prelude.{ℕ, ◌-◌, ◌≤◌, ◌<◌, Bool, true, not, ◌&&◌, ◌||◌, List, ◌≡◌, eqb, ltb, leb, get_or}
use Rattle.text.specs.Utf8.{tail}

-- a tail has to follow the bytes x, y and a
abbrev pub due : ℕ → ℕ → ℕ → Bool
due x y a = (leb 0xC2 a || leb 0xE0 y) || leb 0xF0 x

-- b is a tail where one is due, and nowhere else
abbrev pub in_place : ℕ → ℕ → ℕ → ℕ → Bool
in_place x y a b = not (tail b && not (due x y a)) && not (due x y a && not (tail b))

-- a byte that UTF-8 has
abbrev pub used : ℕ → Bool
used b = (not (eqb b 0xC0) && not (eqb b 0xC1)) && ltb b 0xF5

-- b behind a makes no character that is overlong, a surrogate, or above 0x10FFFF
abbrev pub second : ℕ → ℕ → Bool
second a b =
    ((not (eqb a 0xE0 && ltb b 0xA0) && not (eqb a 0xED && leb 0xA0 b)) && not (eqb a 0xF0 && ltb b 0x90)) && not (eqb a 0xF4 && leb 0x90 b)

unfoldable pub fits : ℕ → ℕ → ℕ → ℕ → Bool
fits x y a b = (in_place x y a b && used b) && second a b

-- the byte at m fits
abbrev pub fits_at : List ℕ → ℕ → Bool
fits_at s m = fits (get_or s (m - 3) 0) (get_or s (m - 2) 0) (get_or s (m - 1) 0) (get_or s m 0)

abbrev pub AllFit : List ℕ → ℕ → ℕ → Type 0
AllFit s i j = (m : ℕ) → i ≤ m → m < j → fits_at s m ≡ true

-- no tail is due at j
abbrev pub clear : List ℕ → ℕ → Bool
clear s j = (ltb (get_or s (j - 1) 0) 0xC2 && ltb (get_or s (j - 2) 0) 0xE0) && ltb (get_or s (j - 3) 0) 0xF0

-- Facts about the characters of a sheet: what is not special, letters, digits, and which characters are no spaces.
-- Assumes nothing.
use Rattle.std.proofs.Common.{◌≡◌, ℕ, ◌≤◌, ◌<◌, arith, Bool, true, false, not, ◌||◌, ◌⊎◌, eqb}
use Rattle.std.proofs.lemmas.Bool.Decides.{nat_tests}
use Rattle.text.specs.Words.{matches}
use Rattle.text.specs.Chars.{is_space, is_digit, is_letter}
use Rattle.html.specs.State.{special}

-- a character that is not special is none of the five
pub record Ordinary (x : ℕ) : Type 0 where
  pub no_backslash : eqb x 92 ≡ false
  pub no_star : eqb x 42 ≡ false
  pub no_tick : eqb x 96 ≡ false
  pub no_bracket : eqb x 91 ≡ false
  pub no_bang : eqb x 33 ≡ false

pub ordinary : (x : ℕ) → special x ≡ false → Ordinary x
unfolding special
ordinary x e = grind (arith, nat_tests)

-- an ASCII letter
pub record Letter (x : ℕ) : Type 0 where
  pub low : 65 ≤ x
  pub high : x ≤ 122
  pub gap : (x ≤ 90) ⊎ (97 ≤ x)

pub a_letter : (x : ℕ) → is_letter x ≡ true → Letter x
a_letter x e = record { low = grind (arith, nat_tests); high = grind (arith, nat_tests); gap = grind (arith, nat_tests) }

-- no ASCII character after 32 is a space
pub visible : (x : ℕ) → 33 ≤ x → x < 0x80 → is_space x ≡ false
unfolding is_space
visible x lo hi = grind (arith, nat_tests)

module _ (x : ℕ) (h : Letter x) where
  pub letter_is_not : (b : ℕ) → (b < 65) ⊎ ((90 < b) × (b < 97)) ⊎ (122 < b) → eqb x b ≡ false
  letter_is_not b l = grind (arith, nat_tests)

  pub letter_space : is_space x ≡ false
  unfolding is_space
  letter_space = grind (arith, nat_tests)

  pub letter_special : special x ≡ false
  unfolding special
  letter_special = grind (arith, nat_tests)

  pub letter_leading : matches "#-+>|" x ≡ false
  letter_leading = grind (arith, nat_tests)

  pub letter_digit : is_digit x ≡ false
  letter_digit = grind (arith, nat_tests)

-- no space but 32
abbrev pub inked : ℕ → Bool
inked x = eqb x 32 || not (is_space x)

-- a space is not what is no space
pub no_space : (x b : ℕ) → is_space b ≡ true → is_space x ≡ false → eqb x b ≡ false
unfolding is_space
no_space x b h s = grind (arith, nat_tests)

-- Counts of texts put together.
-- Assumes nothing.
use Rattle.std.proofs.Common.{◌≡◌, refl, ℕ, arith, true, List, ◌++◌, length, length-append}
use Rattle.std.proofs.lemmas.Bool.Decides.{nat_tests}
use Rattle.text.specs.Utf8.{size}
use Rattle.text.specs.Words.{all}
use Rattle.text.specs.Chars.{is_digit, is_ascii}
use Rattle.text.proofs.Laws.{size_append}
use Rattle.text.proofs.AsciiLaws as A
use Rattle.sheet.specs.declared.count.Count.{Count}
use Rattle.sheet.specs.Weight.{weight, alike, added}
use Rattle.sheet.proofs.AllChars.{Marks}

-- what is written besides texts is ASCII
ascii_digit : (c : ℕ) → is_digit c ≡ true → is_ascii c ≡ true
ascii_digit c e = grind (arith, nat_tests)

pub ascii_marks : Marks is_ascii
ascii_marks =
    record { backslash = refl; star = refl; tick = refl; hash = refl; blank = refl; dash = refl; point = refl; digit = ascii_digit }

pub counts : {a b c d : ℕ} → a ≡ c → b ≡ d → ◌≡◌ {A = Count} (record { bytes = a; chars = b }) (record { bytes = c; chars = d })
counts e f = cc

pub weight_append : (l m : List ℕ) → weight (l ++ m) ≡ added (weight l) (weight m)
unfolding weight
weight_append l m = counts (omega (arith, size_append l m)) (omega (arith, length-append l m))

pub size_ascii : (l : List ℕ) → all is_ascii l ≡ true → size l ≡ length l
size_ascii l h = A.size_ascii l (A.ascii_true l h)

pub weight_ascii : (l : List ℕ) → all is_ascii l ≡ true → weight l ≡ alike (length l)
unfolding weight
weight_ascii l h = counts (omega (arith, size_ascii l h)) refl

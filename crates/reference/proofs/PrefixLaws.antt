-- The laws of a text without a prefix, as `strip_prefix` answers it.
-- Assumes nothing.
use Prim.Native.Nat.{ℕ, ◌+◌, ◌≤◌}
use mathlib.Core.Bool.{Bool, true, false, ◌&&◌, ◌||◌}
use mathlib.Core.List.{List, [], ◌∷◌}
use mathlib.Core.Path.{◌≡◌, refl, sym, ap, ◌∙◌}
use native.Mathlib.Omega.{arith}
use denote.Ref.{Bor}
use lib.Dec.{eqb}
use lib.Pointwise.{pointwise}
use lib.ListN.{length, take, drop}
use Rattle.std.specs.Prelude.{None, Some, MatchOption}
use Rattle.std.specs.Prelude as code
use Rattle.std.specs.Option.{unwrap_or, option_or}
use Rattle.text.specs.Words.{str, starts_with, starts}
use Rattle.reference.specs.Unescape.{from_str_radix, some_digits, is_hexadecimal}

pub prefix_is : (p s : List ℕ) → pointwise eqb (take (length p) s) p ≡ starts_with p s
prefix_is [] s = refl
prefix_is (d ∷ p) [] = refl
prefix_is (d ∷ p) (c ∷ s) = ap (λ (b : Bool). eqb c d && b) (prefix_is p s)

abbrev pub Stripped : List ℕ → List ℕ → code.Option (Bor (List ℕ)) → Type 0
Stripped p s r =
    MatchOption r (pointwise eqb (take (length p) s) p ≡ false)
    (λ x. (pointwise eqb (take (length p) s) p ≡ true) × (x.now ≡ drop (length p) s) × (length x.now + length p ≡ length s))

-- a `+` before the digits is passed over
pub plus_passed : (radix : ℕ) (s : Bor (List ℕ)) (r : code.Option (Bor (List ℕ))) → Stripped (str "+") s.now r
    → (some_digits radix (unwrap_or r s).now ≡ from_str_radix radix s.now) × (length (unwrap_or r s).now ≤ length s.now)
unfolding from_str_radix
plus_passed radix s None h = (simp (sym (prefix_is (str "+") s.now) ∙ h), omega arith)
plus_passed radix s (Some x) h = (rw h.1 (simp (sym (prefix_is (str "+") s.now) ∙ h.0)), omega (arith, h.2))

-- `#x` or `#X` before them
abbrev pub Hexadecimal : List ℕ → code.Option (Bor (List ℕ)) → Type 0
Hexadecimal name r =
    MatchOption r (is_hexadecimal name ≡ false) (λ x. (is_hexadecimal name ≡ true) × (x.now ≡ drop 2 name) × (length x.now + 2 ≡ length name))

pub hexadecimal_or : (name : List ℕ) (r q : code.Option (Bor (List ℕ))) → Stripped (str "#x") name r → Stripped (str "#X") name q → Hexadecimal name (option_or r q)
hexadecimal_or name None None h k = rw (sym (prefix_is (str "#x") name) ∙ h, sym (prefix_is (str "#X") name) ∙ k)
hexadecimal_or name None (Some y) h k = (rw (sym (prefix_is (str "#x") name) ∙ h, sym (prefix_is (str "#X") name) ∙ k.0), k.1, k.2)
hexadecimal_or name (Some x) q h k = (rw (sym (prefix_is (str "#x") name) ∙ h.0), h.1, h.2)

pub hexadecimal_hash : (name : List ℕ) → is_hexadecimal name ≡ true → starts "#" name ≡ true
hexadecimal_hash [] e = cc
hexadecimal_hash (c ∷ s) e = by (eqb c 35) e
  where
    by : (t : Bool) → t && starts "x" s || t && starts "X" s ≡ true → t && true ≡ true
    by true h = refl
    by false h = cc

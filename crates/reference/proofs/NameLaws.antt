-- The laws of names: what each test on the way of `named` says.
-- Assumes nothing.
use Prim.Native.Nat.{ℕ}
use Prim.Native.String.{String}
use mathlib.Core.Bool.{Bool, true, false, ◌&&◌, not}
use mathlib.Core.List.{List, [], ◌∷◌}
use mathlib.Core.Logic.{⊎_elim}
use mathlib.Core.Option.{Option, none, some}
use mathlib.Core.Path.{◌≡◌, refl, sym, ap, ◌∙◌}
use borrow.Author.Tests.{eqb-true, eqb-false, eq-eqb, ne_eqb}
use lib.Dec.{eqb}
use lib.Pointwise.{pointwise}
use lib.ListN.{drop}
use Rattle.text.specs.Words.{◌>>=◌, ensure, str, same, starts}
use Rattle.text.specs.Chars.{is_scalar, is_control}
use Rattle.text.proofs.Tests.{decide, same_true}
use Rattle.reference.specs.Unescape.{from_str_radix, names, number, named, is_hexadecimal, written}

-- ---- a comparison of slices
eqb_sym : (c d : ℕ) → eqb c d ≡ eqb d c
eqb_sym c d =
    ⊎_elim (λ e. e ∙ sym (eq-eqb d c (sym (eqb-true c d e)))) (λ e. e ∙ sym (ne_eqb d c (λ q. eqb-false c d e (sym q)))) (decide (eqb c d))

pub equal_same : (s t : List ℕ) → pointwise eqb s t ≡ same t s
equal_same [] [] = refl
equal_same [] (d ∷ t) = refl
equal_same (c ∷ s) [] = refl
equal_same (c ∷ s) (d ∷ t) = rw (eqb_sym c d) (ap (λ (b : Bool). eqb d c && b) (equal_same s t))

-- ---- the number that a name writes
module _ (name : List ℕ) where
  pub written_none : starts "#" name ≡ false → written name ≡ none
  unfolding written
  written_none e = rw e

  pub written_hexadecimal : starts "#" name ≡ true → is_hexadecimal name ≡ true → written name ≡ from_str_radix 16 (drop 2 name)
  unfolding written
  written_hexadecimal e f = rw (e, f)

  pub written_decimal : starts "#" name ≡ true → is_hexadecimal name ≡ false → written name ≡ from_str_radix 10 (drop 1 name)
  unfolding written
  written_decimal e f = rw (e, f)

-- a character's number, and no control's
abbrev pub plain : ℕ → Option ℕ
plain c = ensure (is_scalar c && not (is_control c)) >>= λ _. some c

pub number_written : (name : List ℕ) → number name ≡ written name >>= plain
unfolding number
number_written name = refl

module _ (name : List ℕ) where
  pub number_none : written name ≡ none → number name ≡ none
  number_none e = rw (number_written name, e)

  module _ (c : ℕ) (e : written name ≡ some c) where
    pub number_no_scalar : is_scalar c ≡ false → number name ≡ none
    number_no_scalar s = rw (number_written name, e, s)

    pub number_control : is_scalar c ≡ true → is_control c ≡ true → number name ≡ none
    number_control s k = rw (number_written name, e, s, k)

    pub number_is : is_scalar c ≡ true → is_control c ≡ false → number name ≡ some c
    number_is s k = rw (number_written name, e, s, k)

-- ---- a name is one of the six, or none of them
pub data Word : Type 0 where
  amp : Word
  lt : Word
  gt : Word
  quot : Word
  apos : Word
  nbsp : Word

abbrev pub spelling : Word → String
spelling amp = "amp"
spelling lt = "lt"
spelling gt = "gt"
spelling quot = "quot"
spelling apos = "apos"
spelling nbsp = "nbsp"

abbrev pub Not : List ℕ → Word → Type 0
Not u k = same (str (spelling k)) u ≡ false

abbrev pub Other : List ℕ → Type 0
Other u = (k : Word) → Not u k

pub data Kind (u : List ℕ) : Type 0 where
  word : (k : Word) → u ≡ str (spelling k) → Kind u
  other : Other u → Kind u

pub kind : (u : List ℕ) → Kind u
kind u = try amp (λ a. try lt (λ b. try gt (λ c. try quot (λ d. try apos (λ e. try nbsp (λ f. other (none_of a b c d e f)))))))
  where
    none_of : Not u amp → Not u lt → Not u gt → Not u quot → Not u apos → Not u nbsp → Other u
    none_of a b c d e f amp = a
    none_of a b c d e f lt = b
    none_of a b c d e f gt = c
    none_of a b c d e f quot = d
    none_of a b c d e f apos = e
    none_of a b c d e f nbsp = f

    try : (k : Word) → (Not u k → Kind u) → Kind u
    try k f = ⊎_elim (λ e. word k (sym (same_true (str (spelling k)) u e))) f (decide (same (str (spelling k)) u))

-- what each of the six stands for
abbrev pub meant : Word → ℕ
meant amp = 38
meant lt = 60
meant gt = 62
meant quot = 34
meant apos = 39
meant nbsp = 32

pub named_word : (k : Word) → named (str (spelling k)) ≡ some (meant k)
unfolding named names
named_word amp = refl
named_word lt = refl
named_word gt = refl
named_word quot = refl
named_word apos = refl
named_word nbsp = refl

pub named_other : (u : List ℕ) → Other u → named u ≡ number u
unfolding named names
named_other u h = rw (h amp, h lt, h gt, h quot, h apos, h nbsp)

-- what a comparison with one of the six says
module _ (k : Word) (u t : List ℕ) (r : Bool) (word_is : t ≡ str (spelling k)) (told : r ≡ pointwise eqb u t) where
  compared : r ≡ same (str (spelling k)) u
  compared = told ∙ ap (pointwise eqb u) word_is ∙ equal_same u (str (spelling k))

  pub is_word : r ≡ true → named u ≡ some (meant k)
  is_word e = ap named (sym (same_true (str (spelling k)) u (sym compared ∙ e))) ∙ named_word k

  pub is_other : r ≡ false → Not u k
  is_other e = sym compared ∙ e

pub none_of : (u : List ℕ) → Not u amp → Not u lt → Not u gt → Not u quot → Not u apos → Not u nbsp → named u ≡ number u
none_of u a b c d e f = named_other u (elim [ amp ↦ a | lt ↦ b | gt ↦ c | quot ↦ d | apos ↦ e | nbsp ↦ f ])

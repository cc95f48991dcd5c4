-- Every name that stands for a character is ASCII, so that it has as many bytes as characters.
-- Assumes nothing.
use Prim.Native.Nat.{ℕ, ◌+◌, ◌*◌, ◌≤◌, ◌<◌}
use mathlib.Core.Bool.{Bool, true, false, ◌||◌, not}
use mathlib.Core.List.{List, [], ◌∷◌}
use mathlib.Core.Logic.{⊎_elim}
use mathlib.Core.Option.{Option, none, some}
use mathlib.Core.Path.{◌≡◌, refl, sym, ap, ◌∙◌, subst}
use borrow.Author.Tests.{ltb-true}
use native.Mathlib.Omega.{arith}
use lib.Dec.{ltb}
use lib.ListN.{length, drop}
use Rattle.std.specs.Prelude.{if◌then◌else◌}
use Rattle.text.specs.Words.{◌>>=◌, ensure, is_empty, all, str, starts_with, starts}
use Rattle.text.specs.Chars.{within, is_digit, is_ascii, Ascii}
use Rattle.text.specs.Utf8.{chars}
use Rattle.text.proofs.Tests.{decide, on, within_true, then_some, ensure_some, starts_split}
use Rattle.text.proofs.Laws.{encode_chars}
use Rattle.text.proofs.AsciiLaws.{encode_ascii, chars_same, ascii_append, ascii_true, ascii_is}
use Rattle.reference.specs.Unescape.{digit, digits, from_str_radix, named, some_digits, written}
use Rattle.reference.proofs.NameLaws.{Word, amp, lt, gt, quot, apos, nbsp, spelling, Kind, word, other, kind, named_other, plain, number_written}
use Rattle.reference.proofs.DigitLaws.{from_plus, from_other}

-- ---- digits are ASCII
digit_ascii : (c : ℕ) → digit c < 16 → c < 0x80
unfolding digit
digit_ascii c =
    let P : ℕ → Type 0 = λ (d : ℕ). d < 16 → c < 0x80 in
    on P (is_digit c) (λ e _. omega (arith, within_true 48 57 c e)) (λ _.
    on P (within 97 102 c) (λ e _. omega (arith, within_true 97 102 c e)) (λ _.
    on P (within 65 70 c) (λ e _. omega (arith, within_true 65 70 c e)) (λ _ h. absurd (omega arith))))

digits_ascii : (radix v : ℕ) (s : List ℕ) (n : ℕ) → radix ≤ 16 → digits radix v s ≡ some n → Ascii s
unfolding digits
digits_ascii radix v [] n l e = tt
digits_ascii radix v (c ∷ s) n l e =
    let p = ensure_some (ltb (digit c) radix) (digits radix (v * radix + digit c) s) e in
    let h = ltb-true (digit c) radix p.0 in
    (digit_ascii c (omega arith), digits_ascii radix (v * radix + digit c) s n l p.1)

some_digits_ascii : (radix : ℕ) (s : List ℕ) (n : ℕ) → radix ≤ 16 → some_digits radix s ≡ some n → Ascii s
unfolding some_digits
some_digits_ascii radix s n l e = digits_ascii radix 0 s n l (ensure_some (not (is_empty s)) (digits radix 0 s) e).1

-- ASCII before ASCII
after : (p s : List ℕ) → Ascii p → starts_with p s ≡ true → Ascii (drop (length p) s) → Ascii s
after p s a e b = subst Ascii (sym (starts_split p s e)) (ascii_append p (drop (length p) s) a b)

from_ascii : (radix : ℕ) (s : List ℕ) (n : ℕ) → radix ≤ 16 → from_str_radix radix s ≡ some n → Ascii s
from_ascii radix s n l e =
    ⊎_elim
    (λ t. after (str "+") s (ascii_true (str "+") refl) t (some_digits_ascii radix (drop 1 s) n l (sym (from_plus radix s 0 t) ∙ e)))
    (λ t. some_digits_ascii radix s n l (sym (from_other radix s 0 t) ∙ e))
    (decide (starts "+" s))

written_ascii : (s : List ℕ) (n : ℕ) → written s ≡ some n → Ascii s
unfolding written
written_ascii s n e = by (starts "#" s) (starts "#x" s) (starts "#X" s) refl refl refl e
  where
    by : (a b c : Bool) → starts "#" s ≡ a → starts "#x" s ≡ b → starts "#X" s ≡ c
        → (ensure a >>= λ _. (if b || c then from_str_radix 16 (drop 2 s) else from_str_radix 10 (drop 1 s))) ≡ some n → Ascii s
    by false b c p q r f = let z : ◌≡◌ {A = ℕ} 0 1 = cc in absurd (omega arith)
    by true true c p q r f = after (str "#x") s (ascii_true (str "#x") refl) q (from_ascii 16 (drop 2 s) n (omega arith) f)
    by true false true p q r f = after (str "#X") s (ascii_true (str "#X") refl) r (from_ascii 16 (drop 2 s) n (omega arith) f)
    by true false false p q r f = after (str "#") s (ascii_true (str "#") refl) p (from_ascii 10 (drop 1 s) n (omega arith) f)

-- ---- and so are names
word_ascii : (k : Word) → all is_ascii (str (spelling k)) ≡ true
word_ascii amp = refl
word_ascii lt = refl
word_ascii gt = refl
word_ascii quot = refl
word_ascii apos = refl
word_ascii nbsp = refl

pub named_ascii : (u : List ℕ) (c : ℕ) → named u ≡ some c → Ascii u
named_ascii u c e = by (kind u)
  where
    by : Kind u → Ascii u
    by (word k q) = rw q (ascii_true (str (spelling k)) (word_ascii k))
    by (other h) = written_ascii u _ (then_some (written u) plain (sym (number_written u) ∙ sym (named_other u h) ∙ e)).1

-- ---- a name in bytes and in characters: what it stands for, and how long it is
abbrev pub sized : List ℕ → Option (ℕ × ℕ)
sized u = named u >>= λ c. some (c, length u + 1)

not_ascii : (u : List ℕ) → all is_ascii u ≡ false → named u ≡ none
not_ascii u n = by (named u) refl
  where
    by : (o : Option ℕ) → named u ≡ o → named u ≡ none
    by none e = e
    by (some c) e = let h = ascii_is u (named_ascii u c e) in cc

-- the characters of other bytes are not ASCII either
chars_other : (u : List ℕ) → all is_ascii u ≡ false → all is_ascii (chars u) ≡ false
chars_other u n = by (all is_ascii (chars u)) refl
  where
    by : (t : Bool) → all is_ascii (chars u) ≡ t → all is_ascii (chars u) ≡ false
    by false e = e
    by true e =
        let q : u ≡ chars u = sym (encode_chars u) ∙ encode_ascii (chars u) (ascii_true (chars u) e) in
        let r = ap (all is_ascii) q in
        cc

pub sized_chars : (u : List ℕ) → sized (chars u) ≡ sized u
sized_chars u =
    ⊎_elim
    (λ e. rw (chars_same u (ascii_true u e)))
    (λ e. rw (not_ascii u e, not_ascii (chars u) (chars_other u e)))
    (decide (all is_ascii u))

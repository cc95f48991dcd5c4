-- What is known of a reference that is replaced, and the steps of `unescape`.
-- Assumes nothing.
use Prim.Native.Nat.{ℕ, zero, suc, ◌+◌, ◌≤◌, ◌<◌}
use mathlib.Core.Bool.{Bool, true, false, ◌&&◌, ◌||◌, not}
use mathlib.Core.List.{List, [], ◌∷◌, ◌++◌}
use mathlib.Core.Option.{Option, none, some, some-injective}
use mathlib.Core.Path.{◌≡◌, refl, sym, ap, ◌∙◌, subst}
use native.Mathlib.Omega.{arith}
use lib.Dec.{leb, eqb}
use lib.ListN.{length, get_or, take, drop, length-append, length-take, length-drop, take-append-drop}
use lib.Seq.{drop-append-add, drop-drop}
use Rattle.std.specs.Prelude.{if◌then◌else◌}
use Rattle.text.specs.Words.{case, str, is, starts, index}
use Rattle.text.specs.Chars.{is_scalar, is_control}
use Rattle.text.specs.Utf8.{IsScalar, utf8, size, chars}
use Rattle.text.proofs.Tests.{on, and_true, then_some, ensure_some}
use Rattle.text.proofs.Laws.{scalar_true, utf8_size, advance_ascii, size_append, size_length}
use Rattle.text.proofs.AsciiLaws.{chars_same}
use Rattle.reference.specs.Unescape.{some_digits, from_str_radix, names, written, named, reference, unescaped, unescape}
use Rattle.reference.proofs.SplitLaws.{Without, First, missing, here, first, chars_here}
use Rattle.reference.proofs.NameLaws.{Word, amp, lt, gt, quot, apos, nbsp, spelling, meant, Kind, word, other, kind, named_word, named_other, plain, number_written}
use Rattle.reference.proofs.AsciiNames.{named_ascii, sized}
use Rattle.reference.proofs.StepLaws.{reference_missing, reference_here, bytes_missing, bytes_here}

-- ---- the character is a scalar value
word_plain : (k : Word) → is_scalar (meant k) && not (is_control (meant k)) ≡ true
unfolding is_scalar is_control
word_plain amp = refl
word_plain lt = refl
word_plain gt = refl
word_plain quot = refl
word_plain apos = refl
word_plain nbsp = refl

pub named_scalar : (u : List ℕ) (c : ℕ) → named u ≡ some c → IsScalar c
named_scalar u c e = scalar_true c (and_true (is_scalar c) (not (is_control c)) (by (kind u))).0
  where
    by : Kind u → is_scalar c && not (is_control c) ≡ true
    by (word k q) =
        let m : meant k ≡ c = some-injective (meant k) c (sym (named_word k) ∙ ap named (sym q) ∙ e) in
        subst (λ (x : ℕ). is_scalar x && not (is_control x) ≡ true) m (word_plain k)
    by (other h) =
        let t = then_some (written u) plain (sym (number_written u) ∙ sym (named_other u h) ∙ e) in
        let d = ensure_some (is_scalar t.0 && not (is_control t.0)) (some t.0) t.2 in
        subst (λ (x : ℕ). is_scalar x && not (is_control x) ≡ true) (some-injective t.0 c d.1) d.0

-- ---- a name has two characters at least
word_long : (k : Word) → 2 ≤ length (str (spelling k))
word_long amp = omega arith
word_long lt = omega arith
word_long gt = omega arith
word_long quot = omega arith
word_long apos = omega arith
word_long nbsp = omega arith

from_long : (radix : ℕ) (s : List ℕ) (n : ℕ) → from_str_radix radix s ≡ some n → 1 ≤ length s
unfolding from_str_radix some_digits
from_long radix [] n e = let z : ◌≡◌ {A = ℕ} 0 1 = cc in absurd (omega arith)
from_long radix (c ∷ s) n e = omega arith

written_long : (u : List ℕ) (n : ℕ) → written u ≡ some n → 2 ≤ length u
unfolding written
written_long u n e = by (starts "#x" u || starts "#X" u) (ensure_some (starts "#" u) _ e).1
  where
    by : (t : Bool) → (if t then from_str_radix 16 (drop 2 u) else from_str_radix 10 (drop 1 u)) ≡ some n → 2 ≤ length u
    by true f = omega (arith, from_long 16 (drop 2 u) n f, length-drop 2 u)
    by false f = omega (arith, from_long 10 (drop 1 u) n f, length-drop 1 u)

pub named_long : (u : List ℕ) (c : ℕ) → named u ≡ some c → 2 ≤ length u
named_long u c e = by (kind u)
  where
    by : Kind u → 2 ≤ length u
    by (word k q) = rw q (word_long k)
    by (other h) = written_long u _ (then_some (written u) plain (sym (number_written u) ∙ sym (named_other u h) ∙ e)).1

-- ---- a replaced reference is a name and the first `;`
pub pair_is : (a b c d : ℕ) → ◌≡◌ {A = Option (ℕ × ℕ)} (some (a, b)) (some (c, d)) → (a ≡ c) × (b ≡ d)
pair_is a b c d e = (ap (λ o. (of o).0) e, ap (λ o. (of o).1) e)
  where
    of : Option (ℕ × ℕ) → ℕ × ℕ
    of none = (0, 0)
    of (some p) = p

sized_some : (u : List ℕ) (c n : ℕ) → sized u ≡ some (c, n) → (named u ≡ some c) × (n ≡ length u + 1)
sized_some u c n e =
    let t = then_some (named u) (λ d. some (d, length u + 1)) e in
    let p = pair_is t.0 (length u + 1) c n t.2 in
    (t.1 ∙ ap some p.0, sym p.1)

pub record IsReplaced (s : List ℕ) (c n : ℕ) : Type 0 where
  pub name : List ℕ
  pub after : List ℕ
  pub split : s ≡ name ++ 59 ∷ after
  pub without : Without 59 name
  pub meaning : named name ≡ some c
  pub count : n ≡ length name + 1
  pub long : 3 ≤ n

pub replaced : (s : List ℕ) (c n : ℕ) → reference s ≡ some (c, n) → IsReplaced s c n
replaced s c n e = by (first 59 s)
  where
    by : First 59 s → IsReplaced s c n
    by (missing w) = let i = reference_missing s w in let z : ◌≡◌ {A = ℕ} 0 1 = cc in absurd (omega arith)
    by (here u v w q) =
        let f = ensure_some (leb (1 + size u) 10) (sized u) (sym (reference_here u v w) ∙ ap reference (sym q) ∙ e) in
        let g = sized_some u c n f.1 in
        let l = named_long u c g.0 in
        let m = g.1 in
        record {
          name = u;
          after = v;
          split = q;
          without = w;
          meaning = g.0;
          count = m;
          long = omega arith;
        }

-- ---- in bytes: as many as characters
pub record IsRead (s : List ℕ) (i c n : ℕ) : Type 0 where
  pub low : 3 ≤ n
  pub bound : i + n ≤ length s
  pub rest : drop n (chars (drop i s)) ≡ chars (drop (i + n) s)
  pub scalar : IsScalar c

pub read_is : (s : List ℕ) (i c n : ℕ) → reference (chars (drop i s)) ≡ some (c, n) → IsRead s i c n
read_is s i c n e = by (first 59 (drop i s))
  where
    by : First 59 (drop i s) → IsRead s i c n
    by (missing w) = let j = bytes_missing (drop i s) w in let z : ◌≡◌ {A = ℕ} 0 1 = cc in absurd (omega arith)
    by (here u v w q) =
        let f = ensure_some (leb (1 + length u) 10) (sized u) (sym (bytes_here u v w) ∙ ap (λ (l : List ℕ). reference (chars l)) (sym q) ∙ e) in
        let g = sized_some u c n f.1 in
        let l = named_long u c g.0 in
        let m : n ≡ length u + 1 = g.1 in
        let a = named_ascii u c g.0 in
        let k : chars (drop i s) ≡ u ++ 59 ∷ chars v = ap chars q ∙ chars_here 59 (omega arith) u v ∙ ap (λ (x : List ℕ). x ++ 59 ∷ chars v) (chars_same u a) in
        let d : drop (i + n) s ≡ v = sym (drop-drop n i s) ∙ ap (drop n) q ∙ rw m (drop-append-add u (59 ∷ v) 1) in
        record {
          low = omega arith;
          bound = omega (arith, ap length q, length-append u (59 ∷ v), length-drop i s);
          rest = rw (k, m) (drop-append-add u (59 ∷ chars v) 1) ∙ ap chars (sym d);
          scalar = named_scalar u c g.0;
        }

-- ---- `unescape`, step by step
pub unescape_drop : (n : ℕ) (s : List ℕ) → unescape n s ≡ unescape 0 (drop n s)
unfolding unescape
unescape_drop zero s = refl
unescape_drop (suc n) [] = refl
unescape_drop (suc n) (x ∷ s) = unescape_drop n s

pub unescape_nil : unescape 0 [] ≡ []
unfolding unescape
unescape_nil = refl

pub unescape_other : (x : ℕ) (s : List ℕ) → eqb x 38 ≡ false → unescape 0 (x ∷ s) ≡ x ∷ unescape 0 s
unfolding unescape unescaped
unescape_other x s e = rw e

pub unescape_left : (s : List ℕ) → reference s ≡ none → unescape 0 (38 ∷ s) ≡ 38 ∷ unescape 0 s
unfolding unescape unescaped
unescape_left s e = rw e

pub unescape_replaced : (s : List ℕ) (c n : ℕ) → reference s ≡ some (c, n) → unescape 0 (38 ∷ s) ≡ c ∷ unescape 0 (drop n s)
unfolding unescape unescaped
unescape_replaced s c n e = rw e (ap (λ (l : List ℕ). c ∷ l) (unescape_drop n s))

-- at an `&` of some bytes
module _ (s : List ℕ) (i : ℕ) (l : i < length s) (a : get_or s i 0 ≡ 38) where
  pub at_and : chars (drop i s) ≡ 38 ∷ chars (drop (i + 1) s)
  at_and = advance_ascii s i l (omega arith) ∙ rw a

  pub left_at : reference (chars (drop (i + 1) s)) ≡ none → unescape 0 (chars (drop i s)) ≡ 38 ∷ unescape 0 (chars (drop (i + 1) s))
  left_at e = rw at_and (unescape_left (chars (drop (i + 1) s)) e)

  pub replaced_at : (c n : ℕ) → reference (chars (drop (i + 1) s)) ≡ some (c, n)
      → unescape 0 (chars (drop i s)) ≡ c ∷ unescape 0 (chars (drop (i + 1 + n) s))
  replaced_at c n e =
      rw at_and (unescape_replaced (chars (drop (i + 1) s)) c n e ∙ ap (λ (x : List ℕ). c ∷ unescape 0 x) (read_is s (i + 1) c n e).rest)

-- ---- no text grows
unescaped_size : (x : ℕ) (s : List ℕ) → length (utf8 (unescaped x s).0) + size (drop (unescaped x s).1 s) ≤ length (utf8 x) + size s
unfolding unescaped
unescaped_size x s =
    on (λ (p : ℕ × ℕ). length (utf8 p.0) + size (drop p.1 s) ≤ length (utf8 x) + size s) (is "&" x) (λ _. by (reference s) refl)
    (λ _. omega arith)
  where
    less : (c n : ℕ) → IsReplaced s c n → length (utf8 c) + size (drop n s) ≤ length (utf8 x) + size s
    less c n r =
        let a = utf8_size c in
        let b = utf8_size x in
        let d = size_append (take n s) (drop n s) in
        let e = ap size (take-append-drop n s) in
        let f = size_length (take n s) in
        let g = length-take n s in
        let h = ap length r.split in
        let k = length-append r.name (59 ∷ r.after) in
        let m = r.count in
        let l = r.long in
        omega arith

    by : (o : Option (ℕ × ℕ)) → reference s ≡ o
        → length (utf8 (case o (x, 0) (λ r. r)).0) + size (drop (case o (x, 0) (λ r. r)).1 s) ≤ length (utf8 x) + size s
    by none e = omega arith
    by (some r) e = less r.0 r.1 (replaced s r.0 r.1 e)

pub unescape_size : (n : ℕ) (s : List ℕ) → size (unescape n s) ≤ size (drop n s)
unfolding unescape size
unescape_size zero [] = omega arith
unescape_size (suc n) [] = omega arith
unescape_size (suc n) (x ∷ s) = unescape_size n s
unescape_size zero (x ∷ s) = omega (arith, unescaped_size x s, unescape_size (unescaped x s).1 s)

-- ---- the six names
pub reference_word : (k : Word) (s : List ℕ) → reference (str (spelling k) ++ 59 ∷ s) ≡ some (meant k, length (str (spelling k)) + 1)
unfolding reference index named names size utf8
reference_word amp s = refl
reference_word lt s = refl
reference_word gt s = refl
reference_word quot s = refl
reference_word apos s = refl
reference_word nbsp s = refl

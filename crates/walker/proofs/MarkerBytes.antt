-- Markers: tested by their bytes, defined by their characters.
-- Assumes nothing.
use Prim.Native.Nat.{ℕ, ◌+◌}
use mathlib.Core.Path.{◌≡◌, refl, sym, ap, ◌∙◌}
use mathlib.Core.Bool.{Bool, true, false, ◌&&◌, ◌||◌}
use mathlib.Core.List.{List, [], ◌∷◌, ◌++◌}
use lib.ListN.{length, length-append}
use lib.Dec.{leb, eqb}
use Rattle.std.specs.List.{list_all}
use Rattle.std.specs.Cmp.Lexicographic.{pointwise}
use Rattle.text.specs.Words.{same, str}
use Rattle.text.specs.Chars.{is_digit}
use Rattle.text.specs.Utf8.{Scalars, utf8, chars, encode}
use Rattle.text.proofs.Tests.{test_iff, same_true, same_self}
use Rattle.text.proofs.Laws.{encode_chars, chars_encode}
use Rattle.text.proofs.AsciiLaws.{encode_ascii, chars_same}
use Rattle.records.specs.Format.{is_bullet, digits_stop, is_ordinal, is_marker}
use Rattle.records.proofs.Markers.{bullet_scalar, ordinal_ascii}

-- characters are compared by their bytes
same_encode : (bs cs : List ℕ) → Scalars cs → same (chars bs) cs ≡ same bs (encode cs)
same_encode bs cs h =
    test_iff (same (chars bs) cs) (same bs (encode cs))
    (λ e. let p : encode cs ≡ bs = ap encode (sym (same_true (chars bs) cs e)) ∙ encode_chars bs in rw p (same_self bs))
    (λ e. let p : chars bs ≡ cs = ap chars (same_true bs (encode cs) e) ∙ chars_encode cs h in rw p (same_self cs))

bullet_bytes : (m : List ℕ) → is_bullet (chars m) ≡ same m (226 ∷ 128 ∷ 162 ∷ [])
unfolding utf8
bullet_bytes m = same_encode m (str "•") bullet_scalar

same_pointwise : (xs ys : List ℕ) → pointwise eqb xs ys ≡ same xs ys
same_pointwise [] [] = refl
same_pointwise [] (y ∷ ys) = refl
same_pointwise (x ∷ xs) [] = refl
same_pointwise (x ∷ xs) (y ∷ ys) = ap (λ (b : Bool). eqb x y && b) (same_pointwise xs ys)

pub bullet_is : (m : List ℕ) → pointwise eqb m (226 ∷ 128 ∷ 162 ∷ []) ≡ is_bullet (chars m)
bullet_is m = same_pointwise m (226 ∷ 128 ∷ 162 ∷ []) ∙ sym (bullet_bytes m)

ordinal_chars : (m : List ℕ) → is_ordinal (chars m) ≡ is_ordinal m
ordinal_chars m =
    test_iff (is_ordinal (chars m)) (is_ordinal m)
    (λ e. let p : chars m ≡ m = sym (encode_ascii (chars m) (ordinal_ascii (chars m) e)) ∙ encode_chars m in ap is_ordinal (sym p) ∙ e)
    (λ e. ap is_ordinal (chars_same m (ordinal_ascii m e)) ∙ e)

-- the test of the bytes
pub marker_is : (m : List ℕ) → is_marker (chars m) ≡ (is_bullet (chars m) || is_ordinal m)
unfolding is_marker
marker_is m = rw (ordinal_chars m)

and_assoc : (a b c : Bool) → (a && (b && c)) ≡ ((a && b) && c)
and_assoc true b c = refl
and_assoc false b c = refl

stop_is : (digits : List ℕ) (last : ℕ) → digits_stop (digits ++ (last ∷ [])) ≡ (list_all is_digit digits && eqb last 46)
stop_is [] last = refl
stop_is (c ∷ []) last = ap (λ (b : Bool). is_digit c && b) (stop_is [] last) ∙ and_assoc (is_digit c) true (eqb last 46)
stop_is (c ∷ d ∷ s) last =
    ap (λ (b : Bool). is_digit c && b) (stop_is (d ∷ s) last)
    ∙ and_assoc (is_digit c) (list_all is_digit (d ∷ s)) (eqb last 46)

pub ordinal_is : (digits : List ℕ) (last : ℕ) → is_ordinal (digits ++ (last ∷ []))
    ≡ (leb 2 (length digits + 1) && leb (length digits + 1) 10 && (list_all is_digit digits && eqb last 46))
ordinal_is digits last = rw (length-append digits (last ∷ []), stop_is digits last)

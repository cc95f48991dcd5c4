-- What is ASCII is the same in bytes and in characters.
-- Assumes nothing.
use Prim.Native.Nat.{ℕ, zero, suc, ◌+◌, ◌≤◌, ◌<◌}
use mathlib.Core.Bool.{Bool, true, false, ◌&&◌}
use mathlib.Core.List.{List, [], ◌∷◌, ◌++◌}
use mathlib.Core.Logic.{⊎_elim}
use mathlib.Core.Path.{◌≡◌, refl, sym, ap, ◌∙◌}
use borrow.Author.Tests.{eq-eqb, ne_eqb, eqb-false, ltb-true, ltb-false, lt-ltb, le-leb, eqb-true}
use native.Mathlib.Numerals.{add-one}
use native.Mathlib.Omega.{arith}
use lib.Dec.{ltb, eqb, eqb-suc-zero}
use lib.ListN.{length, get_or, take, drop}
use lib.Seq.{drop-cons, get_or-take}
use lib.Pointwise.{pointwise}
use native.Mathlib.Nat.{add-zero}
use Rattle.text.specs.Utf8.{encode, chars, char, size_of, size}
use Rattle.text.specs.Words.{starts_with, all}
use Rattle.text.specs.Run.{RunTo}
use Rattle.text.specs.Chars.{is_digit, is_ascii, is_scalar, Ascii}
use Rattle.text.proofs.Tests.{decide, and_true, and_false, false_true, within_above}
use Rattle.text.proofs.Utf8.{utf8_1, char_1, char_ascii}
use Rattle.text.proofs.Laws.{Next, next_is, Pos, pos_next, chars_nil, chars_at, size_encode}
use Rattle.text.proofs.RunLaws.{run_same}

-- an ASCII byte is its own character
pub chars_ascii : (x : ℕ) (xs : List ℕ) → x < 0x80 → chars (x ∷ xs) ≡ x ∷ chars xs
chars_ascii x xs h = chars_at (x ∷ xs) x 1 (char_1 x xs (omega arith))

-- a list of ASCII encodes as itself
pub encode_ascii : (xs : List ℕ) → Ascii xs → encode xs ≡ xs
encode_ascii [] h = refl
encode_ascii (x ∷ xs) h = rw (utf8_1 x h.0) (ap (λ (l : List ℕ). x ∷ l) (encode_ascii xs h.1))

-- and is its own characters
pub chars_same : (xs : List ℕ) → Ascii xs → chars xs ≡ xs
chars_same [] h = chars_nil
chars_same (x ∷ xs) h = chars_ascii x xs h.0 ∙ ap (λ (l : List ℕ). x ∷ l) (chars_same xs h.1)

pub size_ascii : (xs : List ℕ) → Ascii xs → size xs ≡ length xs
size_ascii xs h = sym (size_encode xs) ∙ ap length (encode_ascii xs h)

pub ascii_append : (xs ys : List ℕ) → Ascii xs → Ascii ys → Ascii (xs ++ ys)
ascii_append [] ys p q = q
ascii_append (x ∷ xs) ys p q = (p.0, ascii_append xs ys p.1 q)

-- ASCII as a test
pub ascii_true : (xs : List ℕ) → all is_ascii xs ≡ true → Ascii xs
ascii_true [] e = tt
ascii_true (x ∷ xs) e = let p = and_true (is_ascii x) (all is_ascii xs) e in (ltb-true x 0x80 p.0, ascii_true xs p.1)

pub ascii_is : (xs : List ℕ) → Ascii xs → all is_ascii xs ≡ true
ascii_is [] h = refl
ascii_is (x ∷ xs) h = simp (lt-ltb x 0x80 h.0, ascii_is xs h.1)

pub digit_high : (c : ℕ) → 0x80 ≤ c → is_digit c ≡ false
digit_high c h = within_above 48 57 c (omega arith) (omega arith)

-- another byte starts no ASCII character
pub chars_high : (x : ℕ) (xs : List ℕ) → 0x80 ≤ x → (c : ℕ) × (cs : List ℕ) × (chars (x ∷ xs) ≡ c ∷ cs) × (0x80 ≤ c)
chars_high x xs h =
    let n = next_is (x ∷ xs) 0 (omega arith) in
    ⊎_elim
    (λ l.
    let q = ltb-true n.code 0x80 l in
    let m = n.low in
    let e : x ≡ n.code = sym (get_or-take (0 + size_of (char (x ∷ xs))) (x ∷ xs) 0 0 (omega arith)) ∙ ap (λ (z : List ℕ). get_or z 0 0) (n.front ∙ utf8_1 n.code q) in
    absurd (omega arith))
    (λ l. (n.code, _, n.rest, ltb-false n.code 0x80 l))
    (decide (ltb n.code 0x80))

pub starts_chars : (ps bs : List ℕ) → Ascii ps → starts_with ps (chars bs) ≡ starts_with ps bs
starts_chars [] bs h = refl
starts_chars (p ∷ ps) [] h = rw chars_nil
starts_chars (p ∷ ps) (x ∷ xs) h =
    ⊎_elim
    (λ l. rw (chars_ascii x xs (ltb-true x 0x80 l)) (ap (λ (t : Bool). eqb x p && t) (starts_chars ps xs h.1)))
    (λ l.
    let k = ltb-false x 0x80 l in
    let y = chars_high x xs k in
    let m = y.3 in
    rw (y.2, ne_eqb x p (omega arith), ne_eqb y.0 p (omega arith)))
    (decide (ltb x 0x80))

-- an ASCII text that stands at the start is as long in bytes as in characters
pub drop_chars : (ps bs : List ℕ) → Ascii ps → starts_with ps bs ≡ true → chars (drop (length ps) bs) ≡ drop (length ps) (chars bs)
drop_chars [] bs a h = refl
drop_chars (d ∷ ps) [] a h = false_true h
drop_chars (d ∷ ps) (b ∷ bs) a h =
    let q = and_true (eqb b d) (starts_with ps bs) h in
    let e = eqb-true b d q.0 in
    rw (chars_ascii b bs (omega arith)) (drop_chars ps bs a.1 q.1)

-- ---- a comparison of slices
pub eqb_sym : (c d : ℕ) → eqb c d ≡ eqb d c
eqb_sym c d = ⊎_elim (λ e. e ∙ sym (eq-eqb d c (sym (eqb-true c d e)))) (λ e. e ∙ sym (ne_eqb d c (λ q. eqb-false c d e (sym q)))) (decide (eqb c d))

pub starts_is : (p s : List ℕ) → pointwise eqb p (take (length p) s) ≡ starts_with p s
starts_is [] s = refl
starts_is (d ∷ p) [] = refl
starts_is (d ∷ p) (c ∷ s) = rw (eqb_sym c d) (ap (λ (b : Bool). eqb d c && b) (starts_is p s))

pub starts_short : (ps xs : List ℕ) → length xs < length ps → starts_with ps xs ≡ false
starts_short [] xs h = absurd (omega arith)
starts_short (p ∷ ps) [] h = refl
starts_short (p ∷ ps) (x ∷ xs) h = and_false (eqb x p) (starts_with ps xs) (starts_short ps xs (omega arith))

pub starts_nil : (ps : List ℕ) → starts_with ps [] ≡ eqb (length ps) 0
starts_nil [] = refl
starts_nil (p ∷ ps) = sym (eqb-suc-zero (length ps))

-- ---- a run of ASCII bytes
pub low_ascii : (x : ℕ) → x < 0x80 → is_ascii x ≡ true
low_ascii x h = lt-ltb x 0x80 h

ascii_scalar : (x : ℕ) → x < 0x80 → is_scalar x ≡ true
unfolding is_scalar
ascii_scalar x h = rw (le-leb x 0xD7FF (omega arith))

-- ASCII is UTF-8, so what follows a run of it decides
pub run_to : (s : List ℕ) (i j : ℕ) → RunTo is_ascii s i j → all is_scalar (chars (drop i s)) ≡ all is_scalar (chars (drop j s))
run_to = run_same is_ascii (λ (s : List ℕ). all is_scalar (chars s)) (λ x s h. rw (chars_ascii x s (ltb-true x 0x80 h), ascii_scalar x (ltb-true x 0x80 h)))

-- ---- from byte i, where character k stands, on over ASCII
pub pos_ascii : (m : ℕ) (s : List ℕ) (i k : ℕ) → Pos s i k → i + m ≤ length s → all is_ascii (take m (drop i s)) ≡ true → Pos s (i + m) (k + m)
pos_ascii zero s i k p l h = rw (add-zero i, add-zero k) p
pos_ascii (suc m) s i k p l h =
    let b : i < length s = omega arith in
    let e = and_true (ltb (get_or s i 0) 0x80) (all is_ascii (take m (drop (suc i) s))) (rw (drop-cons s i 0 b) at h) in
    let n : Next s i 1 = rw (char_ascii s i b (ltb-true (get_or s i 0) 0x80 e.0)) at (next_is s i b) in
    let r = pos_ascii m s (i + 1) (k + 1) (pos_next s i k 1 p n) (omega arith) (rw (add-one i) e.1) in
    let x : i + suc m ≡ i + 1 + m = omega arith in
    let y : k + suc m ≡ k + 1 + m = omega arith in
    rw (x, y) r

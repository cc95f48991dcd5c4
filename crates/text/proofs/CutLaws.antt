-- The laws of `specs/Cut.antt`.
-- Assumes nothing.
use Prim.Native.Nat.{ℕ, zero, suc, ◌+◌, ◌-◌, ◌≤◌, ◌<◌}
use mathlib.Core.Bool.{Bool, true, false, ◌&&◌, true≢false, and-true as and_true_right}
use mathlib.Core.List.{List, [], ◌∷◌, ◌++◌, cons-ne-nil}
use mathlib.Core.Logic.{⊎_elim}
use mathlib.Core.Path.{◌≡◌, refl, sym, ap, ◌∙◌}
use borrow.Author.Tests.{le-leb, lt-leb, le-ltb, lt-ltb, leb-true, leb-false, eq-eqb, ne_eqb}
use native.Mathlib.Omega.{arith}
use lib.Dec.{leb, ltb, eqb}
use lib.ListN.{length, get_or, take, drop, length-append, get_or-append}
use lib.Seq.{take-append_seam, drop-append-add, drop-cons}
use Rattle.std.specs.Prelude.{if◌then◌else◌}
use Rattle.text.specs.Utf8.{IsScalar, utf8, encode, tail, char, size_of, stray, chars, size}
use Rattle.text.specs.Cut.{cut, splits, cut_end}
use Rattle.text.specs.Char.{Char, At, Bad, End}
use Rattle.text.proofs.Tests.{decide, on, and_true, and_false, within_is}
use Rattle.text.proofs.Utf8.{utf8_stray, char_at, char_utf8, sound}
use Rattle.text.proofs.Laws.{by_chars, encode_append, encode_chars, chars_nil, chars_utf8, chars_bad, utf8_size, utf8_lead, utf8_tail, size_chars}

-- one character more, or no more
pub cut_more : (n c : ℕ) (cs : List ℕ) → length (utf8 c) ≤ n → length (encode (cut n (c ∷ cs))) ≡ length (utf8 c) + length (encode (cut (n - length (utf8 c)) cs))
unfolding cut
cut_more n c cs h = rw (le-leb _ _ h) (length-append (utf8 c) (encode (cut (n - length (utf8 c)) cs)))

pub cut_none : (n c : ℕ) (cs : List ℕ) → n < length (utf8 c) → cut n (c ∷ cs) ≡ []
unfolding cut
cut_none n c cs h = rw (lt-leb _ _ h)

-- what is cut is the front of the text
cut_split : (n : ℕ) (cs : List ℕ) → (ds : List ℕ) × (cs ≡ cut n cs ++ ds)
unfolding cut
cut_split n [] = ([], refl)
cut_split n (c ∷ cs) =
    let p = cut_split (n - length (utf8 c)) cs in
    on (λ (l : List ℕ). (ds : List ℕ) × (c ∷ cs ≡ l ++ ds)) (leb (length (utf8 c)) n)
    (λ _. (p.0, ap (λ (l : List ℕ). c ∷ l) p.1))
    (λ _. (c ∷ cs, refl))

pub take_cut : (n : ℕ) (s : List ℕ) → take (length (encode (cut n (chars s)))) s ≡ encode (cut n (chars s))
take_cut n s =
    let p = cut_split n (chars s) in
    let e : encode (cut n (chars s)) ++ encode p.0 ≡ s = sym (encode_append (cut n (chars s)) p.0) ∙ ap encode (sym p.1) ∙ encode_chars s in
    ap (take (length (encode (cut n (chars s))))) (sym e) ∙ take-append_seam (encode (cut n (chars s))) (encode p.0)

-- a text that is short enough stays whole
pub cut_whole : (n : ℕ) (cs : List ℕ) → size cs ≤ n → cut n cs ≡ cs
unfolding cut size
cut_whole n [] h = refl
cut_whole n (c ∷ cs) h = rw (le-leb (length (utf8 c)) n (omega arith)) (ap (λ (l : List ℕ). c ∷ l) (cut_whole (n - length (utf8 c)) cs (omega arith)))

pub cut_all : (n : ℕ) (s : List ℕ) → length s ≤ n → encode (cut n (chars s)) ≡ s
cut_all n s h = ap encode (cut_whole n (chars s) (rw (size_chars s) h)) ∙ encode_chars s

-- ---- where the cut is, found from the bytes before it
-- a tail byte starts no character
tail_size : (b : ℕ) (bs : List ℕ) → 0x80 ≤ b → b ≤ 0xBF → size_of (char (b ∷ bs)) ≡ 1
tail_size b bs l h = by (char (b ∷ bs)) refl
  where
    by : (x : Char) → char (b ∷ bs) ≡ x → size_of x ≡ 1
    by (At c n) e =
        let d = char_at (b ∷ bs) c n e in
        let z = utf8_size c in
        let q : get_or (utf8 c) 0 0 ≡ b = sym (get_or-append (utf8 c) (drop n (b ∷ bs)) 0 0 (omega arith)) ∙ ap (λ (x : List ℕ). get_or x 0 0) (sym d.split) in
        absurd (true≢false (sym (within_is 0x80 0xBF b l h) ∙ ap tail (sym q) ∙ utf8_lead c d.scalar))
    by Bad e = refl
    by End e = absurd (cons-ne-nil b bs (rw e at (sound (b ∷ bs))))

-- x is what the first character of x and bs takes up, and no character starts inside it
record Whole (x bs : List ℕ) : Type 0 where
  low : 1 ≤ length x
  high : length x ≤ 4
  size : size_of (char (x ++ bs)) ≡ length x
  inner : (j : ℕ) → 1 ≤ j → j < length x → size_of (char (drop j (x ++ bs))) ≡ 1

whole_utf8 : (c : ℕ) (bs : List ℕ) → IsScalar c → Whole (utf8 c) bs
whole_utf8 c bs h =
    record {
      low = (utf8_size c).0;
      high = (utf8_size c).1;
      size = ap size_of (char_utf8 c bs h);
      inner = inner;
    }
  where
    inner : (j : ℕ) → 1 ≤ j → j < length (utf8 c) → size_of (char (drop j (utf8 c ++ bs))) ≡ 1
    inner zero l m = absurd (omega arith)
    inner (suc j) l m =
        let t = utf8_tail c h j m in
        let n = length-append (utf8 c) bs in
        let q = get_or-append (utf8 c) bs 0 (suc j) m in
        rw (drop-cons (utf8 c ++ bs) (suc j) 0 (omega arith), q) (tail_size (get_or (utf8 c) (suc j) 0) (drop (suc (suc j)) (utf8 c ++ bs)) t.0 t.1)

whole_bad : (b : ℕ) (bs : List ℕ) → char (b ∷ bs) ≡ Bad → Whole (b ∷ []) bs
whole_bad b bs e = record { low = omega arith; high = omega arith; size = ap size_of e; inner = λ j l m. absurd (omega arith) }

pub reach : (bs : List ℕ) (n k : ℕ) → splits bs n k ≡ true → k ≤ n
unfolding splits
reach bs n k e = leb-true k n (and_true (leb k n) (ltb k (size_of (char (drop (n - k) bs)))) e).0

module _ (x bs : List ℕ) (w : Whole x bs) (n : ℕ) where
  -- whether a character that starts inside or with x goes on past n
  in_first : (k : ℕ) → 1 ≤ k → k ≤ n → n - k < length x → ltb k (size_of (char (drop (n - k) (x ++ bs)))) ≡ eqb n k && ltb n (length x)
  in_first k a b l = by (n - k) refl
    where
      by : (j : ℕ) → n - k ≡ j → ltb k (size_of (char (drop (n - k) (x ++ bs)))) ≡ eqb n k && ltb n (length x)
      by zero e = let q : n ≡ k = omega arith in rw (e, eq-eqb n k q, q, w.size)
      by (suc j) e =
          rw (w.inner (n - k) (omega arith) l, le-ltb k 1 a, ne_eqb n k (omega arith))

  splits_past : length x ≤ n → (k : ℕ) → 1 ≤ k → splits (x ++ bs) n k ≡ splits bs (n - length x) k
  unfolding splits
  splits_past l k a =
      ⊎_elim
      (λ e.
      let f = leb-true k (n - length x) e in
      let q : n - k ≡ length x + (n - length x - k) = omega arith in
      rw (e, le-leb k n (omega arith), q, drop-append-add x bs (n - length x - k)))
      (λ e.
      let f = leb-false k (n - length x) e in
      rw e (⊎_elim
      (λ g.
      let h = leb-true k n g in
      rw (g, in_first k a h (omega arith), le-ltb n (length x) l) (and_false (eqb n k) false refl))
      (λ g. rw g)
      (decide (leb k n))))
      (decide (leb k (n - length x)))

  splits_first : n < length x → (k : ℕ) → 1 ≤ k → splits (x ++ bs) n k ≡ eqb n k
  unfolding splits
  splits_first l k a =
      ⊎_elim
      (λ g.
      let h = leb-true k n g in
      rw (g, in_first k a h (omega arith), lt-ltb n (length x) l) (and_true_right (eqb n k)))
      (λ g. let h = leb-false k n g in rw (g, ne_eqb n k (omega arith)))
      (decide (leb k n))

  -- n is past the first character
  end_past : length x ≤ n → cut_end (x ++ bs) n ≡ length x + cut_end bs (n - length x)
  unfolding cut_end
  end_past l =
      let m = n - length x in
      rw (splits_past l 1 (omega arith), splits_past l 2 (omega arith), splits_past l 3 (omega arith))
      (by (splits bs m 1) (splits bs m 2) (splits bs m 3) refl refl refl)
    where
      by : (p q r : Bool) → splits bs (n - length x) 1 ≡ p → splits bs (n - length x) 2 ≡ q → splits bs (n - length x) 3 ≡ r
          → (if p then n - 1 else if q then n - 2 else if r then n - 3 else n)
          ≡ length x + (if p then n - length x - 1 else if q then n - length x - 2 else if r then n - length x - 3 else n - length x)
      by true q r e f g = let h = reach bs (n - length x) 1 e in omega arith
      by false true r e f g = let h = reach bs (n - length x) 2 f in omega arith
      by false false true e f g = let h = reach bs (n - length x) 3 g in omega arith
      by false false false e f g = omega arith

  -- n is inside it
  end_first : n < length x → cut_end (x ++ bs) n ≡ 0
  unfolding cut_end
  end_first l =
      let h = w.high in
      rw (splits_first l 1 (omega arith), splits_first l 2 (omega arith), splits_first l 3 (omega arith)) (by n (omega arith))
    where
      by : (n : ℕ) → n < 4 → (if eqb n 1 then n - 1 else if eqb n 2 then n - 2 else if eqb n 3 then n - 3 else n) ≡ 0
      by zero l = refl
      by (suc zero) l = refl
      by (suc (suc zero)) l = refl
      by (suc (suc (suc zero))) l = refl
      by (suc (suc (suc (suc n)))) l = absurd (omega arith)

  -- either way, by what holds of the rest
  end_step : (c : ℕ) (cs : List ℕ) → length (utf8 c) ≡ length x → (length x ≤ n → length (encode (cut (n - length x) cs)) ≡ cut_end bs (n - length x))
      → length (encode (cut n (c ∷ cs))) ≡ cut_end (x ++ bs) n
  end_step c cs e ih =
      ⊎_elim
      (λ g. let l = leb-true (length x) n g in cut_more n c cs (omega arith) ∙ rw (e, ih l) (sym (end_past l)))
      (λ g. let l = leb-false (length x) n g in rw (cut_none n c cs (omega arith), end_first l))
      (decide (leb (length x) n))

pub cut_end_is : (s : List ℕ) (n : ℕ) → n ≤ length s → length (encode (cut n (chars s))) ≡ cut_end s n
unfolding cut cut_end splits
cut_end_is =
    by_chars (λ (s : List ℕ). (n : ℕ) → n ≤ length s → length (encode (cut n (chars s))) ≡ cut_end s n)
    (λ n l. let q : n ≡ 0 = omega arith in rw (q, chars_nil) nil)
    (λ c bs h ih n l.
    let m = length-append (utf8 c) bs in
    rw (chars_utf8 c bs h) (end_step (utf8 c) bs (whole_utf8 c bs h) n c (chars bs) refl (λ k. ih (n - length (utf8 c)) (omega arith))))
    (λ b bs e ih n l.
    rw (chars_bad b bs e)
    (end_step (b ∷ []) bs (whole_bad b bs e) n (stray b) (chars bs) (ap length (utf8_stray b)) (λ k. ih (n - 1) (omega arith))))
  where
    nil : length (encode (cut 0 [])) ≡ cut_end [] 0
    nil = refl

-- ---- the first of the three places before n whose character goes on past it
pub cut_at : (s : List ℕ) (n k : ℕ) → 1 ≤ k → k < 4 → ((m : ℕ) → 1 ≤ m → m < k → splits s n m ≡ false) → splits s n k ≡ true → n - k ≡ cut_end s n
unfolding cut_end
cut_at s n zero l b h e = absurd (omega arith)
cut_at s n (suc zero) l b h e = rw e
cut_at s n (suc (suc zero)) l b h e = rw (h 1 (omega arith) (omega arith), e)
cut_at s n (suc (suc (suc zero))) l b h e = rw (h 1 (omega arith) (omega arith), h 2 (omega arith) (omega arith), e)
cut_at s n (suc (suc (suc (suc k)))) l b h e = absurd (omega arith)

pub cut_nowhere : (s : List ℕ) (n : ℕ) → ((m : ℕ) → 1 ≤ m → m < 4 → splits s n m ≡ false) → n ≡ cut_end s n
unfolding cut_end
cut_nowhere s n h = rw (h 1 (omega arith) (omega arith), h 2 (omega arith) (omega arith), h 3 (omega arith) (omega arith))

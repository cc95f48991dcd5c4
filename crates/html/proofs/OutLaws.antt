-- The written part of a buffer, as characters: what one character more or less does to it, and what its last byte says of its last character.
-- Assumes nothing.
use Prim.Native.Nat.{ℕ, zero, suc, ◌+◌, ◌-◌, ◌≤◌, ◌<◌}
use native.Mathlib.Nat.{le_refl}
use native.Mathlib.Omega.{arith}
use native.Mathlib.Numerals.{add-one, sub-one}
use mathlib.Core.Path.{◌≡◌, refl, sym, ap, ap₂, ◌∙◌}
use mathlib.Core.Bool.{Bool, true, false, ◌&&◌, and-true as and_true_right}
use mathlib.Core.Logic.{inl, ⊎_elim}
use mathlib.Core.List.{List, [], ◌∷◌, ◌++◌, reverse, reverse_aux, reverse-append, reverse-cons, reverse-reverse, append-nil, append_assoc}
use lib.Dec.{ltb, eqb}
use lib.ListN.{length, get_or, set, take, drop, length-append}
use lib.Seq.{sets, length-sets, get_or-set_same, get_or-set_other, take-suc, take_at, take_all, take-take, length-take-le}
use borrow.Rule.Slice.PartMut.{put_mid, post_of}
use Rattle.std.proofs.lemmas.Slice.{take-put_mid}
use borrow.Author.Tests.{ltb-true, ltb-false, eq-eqb, ne_eqb, eqb-true, eqb-false}
use Rattle.text.specs.Words.{drop_while, is, starts}
use Rattle.text.specs.Chars.{is_digit, Ascii}
use Rattle.text.specs.Utf8.{IsScalar, utf8, encode, size, chars}
use Rattle.text.proofs.Tests.{decide, and_false}
use Rattle.text.proofs.Utf8.{utf8_1}
use Rattle.text.proofs.Laws.{chars_nil, chars_append, encode_chars, encode_append, utf8_lead, size_chars, chars_one, size_aux}
use Rattle.text.proofs.AsciiLaws.{digit_high}
use Rattle.text.proofs.PutLaws.{put_parts}
use Rattle.text.proofs.Lists.{same_last}
use Rattle.html.specs.State.{line_start, ends_with_digit}
use Rattle.html.specs.Struct.{written, last_first, out_of}

-- ---- the written bytes
written_set : (n : ℕ) (w : List ℕ) (i b : ℕ) → n ≤ i → written n (set w i b) ≡ written n w
written_set zero w i b h = refl
written_set (suc n) w i b h =
    ap₂ (λ (l : List ℕ) (x : ℕ). l ++ (x ∷ [])) (written_set n w i b (omega arith)) (get_or-set_other w i n b 0 (omega arith))

pub written_push : (n : ℕ) (w : List ℕ) (b : ℕ) → n < length w → written (n + 1) (set w n b) ≡ written n w ++ (b ∷ [])
written_push n w b h = rw add-one (ap₂ (λ (l : List ℕ) (x : ℕ). l ++ (x ∷ [])) (written_set n w n b (le_refl n)) (get_or-set_same w n b 0 h))

pub length_written : (n : ℕ) (w : List ℕ) → length (written n w) ≡ n
length_written zero w = refl
length_written (suc n) w = length-append (written n w) (get_or w n 0 ∷ []) ∙ rw (length_written n w) (omega arith)

pub written_take : (n : ℕ) (w : List ℕ) → n ≤ length w → written n w ≡ take n w
written_take zero w h = refl
written_take (suc n) w h = ap (λ (l : List ℕ). l ++ (get_or w n 0 ∷ [])) (written_take n w (omega arith)) ∙ sym (take-suc w n 0 h)

written_last : (n : ℕ) (w : List ℕ) → 0 < n → written n w ≡ written (n - 1) w ++ (get_or w (n - 1) 0 ∷ [])
written_last zero w h = absurd (omega arith)
written_last (suc n) w h = rw sub-one refl

pub front_is : (n : ℕ) (w : List ℕ) → n ≤ length w → last_first (take n w) ≡ out_of n w
unfolding last_first out_of
front_is n w h = ap (λ (x : List ℕ). reverse (chars x)) (sym (written_take n w h))

pub whole_is : (w : List ℕ) → out_of (length w) w ≡ last_first w
whole_is w = sym (front_is (length w) w (le_refl (length w))) ∙ ap last_first (take_all (length w) w (le_refl (length w)))

-- ---- a character more
snoc_char : (xs : List ℕ) (c : ℕ) → IsScalar c → reverse (chars (xs ++ utf8 c)) ≡ c ∷ reverse (chars xs)
snoc_char xs c s =
    ap reverse (chars_append xs (utf8 c) (utf8_lead c s) ∙ ap (λ (l : List ℕ). chars xs ++ l) (chars_one c s))
    ∙ reverse-append (chars xs) (c ∷ [])

snoc_ascii : (xs : List ℕ) (b : ℕ) → b < 0x80 → reverse (chars (xs ++ (b ∷ []))) ≡ b ∷ reverse (chars xs)
snoc_ascii xs b h = rw (← utf8_1 b h) (snoc_char xs b (inl (omega arith)))

pub out_push : (n : ℕ) (w : List ℕ) (b : ℕ) → n < length w → b < 0x80 → out_of (n + 1) (set w n b) ≡ b ∷ out_of n w
unfolding out_of
out_push n w b h l = ap (λ (x : List ℕ). reverse (chars x)) (written_push n w b h) ∙ snoc_ascii (written n w) b l

pub out_put : (n : ℕ) (w : List ℕ) (c : ℕ) → n + length (utf8 c) ≤ length w → IsScalar c → out_of (n + length (utf8 c)) (sets w n (utf8 c)) ≡ c ∷ out_of n w
unfolding out_of
out_put n w c h s =
    let p = put_parts w n c h ∙ sym (append_assoc (take n w) (utf8 c) (drop (n + length (utf8 c)) w)) in
    let t : length (take n w ++ utf8 c) ≡ n + length (utf8 c) = length-append (take n w) (utf8 c) ∙ ap (λ (k : ℕ). k + length (utf8 c)) (length-take-le n w (omega arith)) in
    let l = length-sets w n (utf8 c) in
    let e : written (n + length (utf8 c)) (sets w n (utf8 c)) ≡ written n w ++ utf8 c =
    written_take (n + length (utf8 c)) (sets w n (utf8 c)) (omega arith)
    ∙ ap (take (n + length (utf8 c))) p
    ∙ take_at (take n w ++ utf8 c) (drop (n + length (utf8 c)) w) (n + length (utf8 c)) t
    ∙ ap (λ (x : List ℕ). x ++ utf8 c) (sym (written_take n w (omega arith)))
    in
    ap (λ (x : List ℕ). reverse (chars x)) e ∙ snoc_char (written n w) c s

-- ---- how many bytes there are
pub size_out : (n : ℕ) (w : List ℕ) → size (out_of n w) ≡ n
unfolding out_of size
size_out n w =
    omega (arith, size_aux (chars (written n w)) [], size_chars (written n w), length_written n w)

pub out_none : (n : ℕ) (w : List ℕ) → n ≡ 0 → out_of n w ≡ []
unfolding out_of
out_none n w e = rw (e, chars_nil)

-- ---- the last byte and the last character
pub out_ascii : (n : ℕ) (w : List ℕ) → 0 < n → get_or w (n - 1) 0 < 0x80 → out_of n w ≡ get_or w (n - 1) 0 ∷ out_of (n - 1) w
unfolding out_of
out_ascii n w h l = ap (λ (x : List ℕ). reverse (chars x)) (written_last n w h) ∙ snoc_ascii (written (n - 1) w) (get_or w (n - 1) 0) l

pub record High (o : List ℕ) : Type 0 where
  pub last : ℕ
  pub before : List ℕ
  pub is : o ≡ last ∷ before
  pub high : 0x80 ≤ last

high_of : (xs : List ℕ) (b : ℕ) (cs : List ℕ) → 0x80 ≤ b → encode (reverse cs) ≡ xs ++ (b ∷ []) → High cs
high_of xs b [] h e = absurd (omega (arith, ap length e, length-append xs (b ∷ [])))
high_of xs b (d ∷ o) h e =
    let f : encode (reverse o) ++ utf8 d ≡ xs ++ (b ∷ []) =
    ap (λ (l : List ℕ). encode (reverse o) ++ l) (sym (append-nil (utf8 d)))
    ∙ sym (encode_append (reverse o) (d ∷ []))
    ∙ ap encode (sym (reverse-cons d o))
    ∙ e
    in
    ⊎_elim
    (λ l.
    let k = ltb-true d 0x80 l in
    absurd (omega (arith, same_last (encode (reverse o)) xs d b (rw (utf8_1 d k) at f))))
    (λ l. record { last = d; before = o; is = refl; high = ltb-false d 0x80 l })
    (decide (ltb d 0x80))

pub out_high : (n : ℕ) (w : List ℕ) → 0 < n → 0x80 ≤ get_or w (n - 1) 0 → High (out_of n w)
unfolding out_of
out_high n w h l =
    high_of (written (n - 1) w) (get_or w (n - 1) 0) (out_of n w) l
    (ap encode (reverse-reverse (chars (written n w))) ∙ encode_chars (written n w) ∙ written_last n w h)

-- a test that only ASCII passes says of the last byte what it says of the last character
last_test : (Q : List ℕ → Bool) (q : ℕ → Bool) → ((d : ℕ) (o : List ℕ) → Q (d ∷ o) ≡ q d) → ((d : ℕ) → 0x80 ≤ d → q d ≡ false)
    → (n : ℕ) (w : List ℕ) → 0 < n → q (get_or w (n - 1) 0) ≡ Q (out_of n w)
last_test Q q f g n w h =
    ⊎_elim
    (λ l. sym (ap Q (out_ascii n w h (ltb-true (get_or w (n - 1) 0) 0x80 l)) ∙ f (get_or w (n - 1) 0) (out_of (n - 1) w)))
    (λ l.
    let k = ltb-false (get_or w (n - 1) 0) 0x80 l in
    let e = out_high n w h k in
    g (get_or w (n - 1) 0) k ∙ sym (ap Q e.is ∙ f e.last e.before ∙ g e.last e.high))
    (decide (ltb (get_or w (n - 1) 0) 0x80))

-- ---- spaces at the end
pub spaces_more : (w : List ℕ) (n : ℕ) → 0 < n → get_or w (n - 1) 0 ≡ 32 → drop_while (is " ") (out_of n w) ≡ drop_while (is " ") (out_of (n - 1) w)
unfolding drop_while
spaces_more w n h e = rw (out_ascii n w h (omega arith), eq-eqb (get_or w (n - 1) 0) 32 e)

not_space : (d : ℕ) (o : List ℕ) → (d ≡ 32 → ⊥) → drop_while (is " ") (d ∷ o) ≡ d ∷ o
unfolding drop_while
not_space d o h = rw (ne_eqb d 32 h)

pub spaces_stop : (w : List ℕ) (n : ℕ) → 0 < n → (get_or w (n - 1) 0 ≡ 32 → ⊥) → drop_while (is " ") (out_of n w) ≡ out_of n w
spaces_stop w n h e =
    ⊎_elim
    (λ l. rw (out_ascii n w h (ltb-true (get_or w (n - 1) 0) 0x80 l)) (not_space (get_or w (n - 1) 0) (out_of (n - 1) w) e))
    (λ l.
    let k = out_high n w h (ltb-false (get_or w (n - 1) 0) 0x80 l) in
    let m = k.high in
    rw k.is (not_space k.last k.before (omega arith)))
    (decide (ltb (get_or w (n - 1) 0) 0x80))

-- ---- bytes more
snoc_all : (xs bs : List ℕ) → Ascii bs → reverse (chars (xs ++ bs)) ≡ reverse_aux bs (reverse (chars xs))
snoc_all xs [] h = ap (λ (l : List ℕ). reverse (chars l)) (append-nil xs)
snoc_all xs (b ∷ bs) h =
    ap (λ (l : List ℕ). reverse (chars l)) (sym (append_assoc xs (b ∷ []) bs))
    ∙ snoc_all (xs ++ (b ∷ [])) bs h.1
    ∙ ap (reverse_aux bs) (snoc_ascii xs b h.0)

pub out_all : (n k : ℕ) (bs w : List ℕ) → Ascii bs → n + length bs ≤ length w → k ≡ length bs → out_of (n + k) (put_mid n (n + k - n) w bs) ≡ reverse_aux bs (out_of n w)
unfolding out_of
out_all n k bs w a h e =
    let after = post_of n (n + k - n) w in
    let more : n + k ≤ length (put_mid n (n + k - n) w bs) =
    omega (arith, length-append (take n w) (bs ++ after), length-append bs after, length-take-le n w (omega (arith, h)), e)
    in
    ap (λ (x : List ℕ). reverse (chars x)) (written_take (n + k) _ more ∙ take-put_mid n (n + k - n) w bs (n + k) (omega (arith, e)) (omega (arith, h)))
    ∙ snoc_all (take n w) bs a
    ∙ ap (λ (x : List ℕ). reverse_aux bs (reverse (chars x))) (sym (written_take n w (omega (arith, h))))

-- ---- what the output ends with
feed_high : (d : ℕ) → 0x80 ≤ d → eqb d 10 ≡ false
feed_high d h = ne_eqb d 10 (omega arith)

whole_test : (Q : List ℕ → Bool) (q : ℕ → Bool) → ((d : ℕ) (o : List ℕ) → Q (d ∷ o) ≡ q d) → ((d : ℕ) → 0x80 ≤ d → q d ≡ false)
    → (w : List ℕ) → 1 ≤ length w → q (get_or w (length w - 1) 0) ≡ Q (last_first w)
whole_test Q q f g w h = last_test Q q f g (length w) w h ∙ ap Q (whole_is w)

pub start_last : (w : List ℕ) → 1 ≤ length w → eqb (get_or w (length w - 1) 0) 10 ≡ line_start (last_first w)
unfolding line_start
start_last w h = whole_test line_start (λ d. eqb d 10) (λ d o. and_true_right (eqb d 10)) feed_high w h

none_is : (w : List ℕ) → length w < 1 → last_first w ≡ []
none_is w h = sym (whole_is w) ∙ out_none (length w) w (omega arith)

pub start_none : (w : List ℕ) → length w < 1 → true ≡ line_start (last_first w)
unfolding line_start
start_none w h = rw (none_is w h)

pub digit_last : (w : List ℕ) → 1 ≤ length w → is_digit (get_or w (length w - 1) 0) ≡ ends_with_digit (last_first w)
unfolding ends_with_digit
digit_last w h = whole_test ends_with_digit is_digit (λ d o. refl) digit_high w h

pub digit_none : (w : List ℕ) → length w < 1 → false ≡ ends_with_digit (last_first w)
unfolding ends_with_digit
digit_none w h = rw (none_is w h)

blank_other : (n : ℕ) (w : List ℕ) → 0 < n → (get_or w (n - 1) 0 ≡ 10 → ⊥) → starts "\n\n" (out_of n w) ≡ false
blank_other n w h e =
    ⊎_elim
    (λ l. rw (out_ascii n w h (ltb-true (get_or w (n - 1) 0) 0x80 l), ne_eqb (get_or w (n - 1) 0) 10 e))
    (λ l.
    let k = out_high n w h (ltb-false (get_or w (n - 1) 0) 0x80 l) in
    let m = k.high in
    rw (k.is, feed_high k.last m))
    (decide (ltb (get_or w (n - 1) 0) 0x80))

blank_two : (n : ℕ) (w : List ℕ) → 2 ≤ n → get_or w (n - 1) 0 ≡ 10 → eqb (get_or w (n - 2) 0) 10 ≡ starts "\n\n" (out_of n w)
blank_two n w h e =
    let i : n - 1 - 1 ≡ n - 2 = omega arith in
    let t = last_test (starts "\n") (λ d. eqb d 10) (λ d o. and_true_right (eqb d 10)) feed_high (n - 1) w (omega arith) in
    rw (out_ascii n w (omega arith) (omega arith), e) (rw i at t)

blank_few : (n : ℕ) (w : List ℕ) → n < 2 → starts "\n\n" (out_of n w) ≡ false
blank_few zero w h = rw (out_none 0 w refl)
blank_few (suc zero) w h =
    ⊎_elim
    (λ e. let q = eqb-true (get_or w 0 0) 10 e in rw (out_ascii 1 w (omega arith) (omega arith), out_none 0 w refl) (and_false (eqb (get_or w 0 0) 10) false refl))
    (λ e. blank_other 1 w (omega arith) (eqb-false (get_or w 0 0) 10 e))
    (decide (eqb (get_or w 0 0) 10))
blank_few (suc (suc n)) w h = absurd (omega arith)

pub blank_last : (w : List ℕ) → 2 ≤ length w → eqb (get_or w (length w - 2) 0) 10 && eqb (get_or w (length w - 1) 0) 10 ≡ starts "\n\n" (last_first w)
blank_last w h =
    ⊎_elim
    (λ e. rw e (and_true_right _ ∙ blank_two (length w) w h (eqb-true (get_or w (length w - 1) 0) 10 e)))
    (λ e. rw e (and_false (eqb (get_or w (length w - 2) 0) 10) false refl ∙ sym (blank_other (length w) w (omega arith) (eqb-false (get_or w (length w - 1) 0) 10 e))))
    (decide (eqb (get_or w (length w - 1) 0) 10))
    ∙ ap (starts "\n\n") (whole_is w)

pub blank_none : (w : List ℕ) → length w < 2 → false ≡ starts "\n\n" (last_first w)
blank_none w h = sym (blank_few (length w) w h) ∙ ap (starts "\n\n") (whole_is w)

-- ---- the spaces at the end of some bytes
pub shorter : (w r : List ℕ) → r ≡ take (length r) w → take (length r - 1) r ≡ take (length (take (length r - 1) r)) w
shorter w r e =
    let n : length (take (length r - 1) r) ≡ length r - 1 = length-take-le (length r - 1) r (omega arith) in
    rw n (ap (take (length r - 1)) e ∙ take-take (length r - 1) (length r) w (omega arith))

pub spaces_on : (r o : List ℕ) → 1 ≤ length r → get_or r (length r - 1) 0 ≡ 32 → drop_while (is " ") (last_first r) ≡ o → drop_while (is " ") (last_first (take (length r - 1) r)) ≡ o
spaces_on r o h e q =
    ap (drop_while (is " ")) (front_is (length r - 1) r (omega arith))
    ∙ sym (spaces_more r (length r) h e)
    ∙ ap (drop_while (is " ")) (whole_is r)
    ∙ q

pub spaces_off : (r o : List ℕ) → 1 ≤ length r → (get_or r (length r - 1) 0 ≡ 32 → ⊥) → drop_while (is " ") (last_first r) ≡ o → last_first r ≡ o
spaces_off r o h e q = sym (whole_is r) ∙ sym (spaces_stop r (length r) h e) ∙ ap (drop_while (is " ")) (whole_is r) ∙ q

pub spaces_none : (r o : List ℕ) → length r < 1 → drop_while (is " ") (last_first r) ≡ o → last_first r ≡ o
unfolding drop_while
spaces_none r o h q = let z = none_is r h in z ∙ sym (ap (drop_while (is " ")) z) ∙ q

-- the same of the written part of a buffer
pub unspaced_out : (n k : ℕ) (w : List ℕ) → k ≤ length w → n ≤ k → last_first (take n (take k w)) ≡ drop_while (is " ") (last_first (take k w))
    → out_of n w ≡ drop_while (is " ") (out_of k w)
unspaced_out n k w h l e =
    sym (front_is n w (omega (arith, h, l)))
    ∙ ap last_first (sym (take-take n k w l))
    ∙ e
    ∙ ap (drop_while (is " ")) (front_is k w h)

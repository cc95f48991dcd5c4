-- The laws of `chars`, `encode` and `decode`.
-- Assumes nothing.
use Prim.Native.Nat.{ℕ, zero, suc, ◌+◌, ◌≤◌, ◌<◌}
use mathlib.Core.Bool.{Bool, true, false, cond}
use mathlib.Core.List.{List, [], ◌∷◌, ◌++◌, append_assoc, append-nil, reverse, reverse_aux, reverse-cons, cons-ne-nil}
use mathlib.Core.Option.{none, some}
use mathlib.Core.Logic.{◌⊎◌, inl, inr, ⊎_elim, ◌↔◌}
use mathlib.Core.Path.{◌≡◌, refl, sym, ap, ◌∙◌, subst}
use borrow.Author.Tests.{leb-true, le-leb, lt-leb, ltb-true, ltb-false}
use native.Mathlib.Numerals.{add-one}
use native.Mathlib.Omega.{arith}
use lib.Dec.{leb, ltb}
use lib.ListN.{length, get_or, take, drop, length-append, length-drop, drop_of_length-le, take-append-drop}
use lib.Seq.{drop-append_seam, drop-drop, take-add, take_at, take-suc, drop-cons}
use Rattle.text.specs.Chars.{within, is_scalar}
use Rattle.text.specs.Words.{all}
use Rattle.text.specs.Utf8.{size, IsScalar, Scalars, utf8, encode, tail, char_of, char, size_of, char_size, char_code, stray, scan, chars, code_at, is_utf8, decode, some_size}
use Rattle.text.specs.Char.{Char, At, Bad, End}
use Rattle.std.specs.Option.{unwrap_or}
use Rattle.text.proofs.Tests.{decide, on, and_true, or_elim, or_right, within_true, within_is, within_below, within_above}
use Rattle.text.proofs.Utf8.{utf8_1, utf8_2, utf8_3, utf8_4, utf8_stray, ranges, top, sound, char_at, char_1, char_utf8}

-- ---- scalar values, as a test and as a fact
pub scalar_true : (c : ℕ) → is_scalar c ≡ true → IsScalar c
unfolding is_scalar
scalar_true c = or_elim (leb c 0xD7FF) (within 0xE000 0x10FFFF c) (λ e. inl (leb-true c 0xD7FF e)) (λ e. inr (within_true 0xE000 0x10FFFF c e))

pub scalar_is : (c : ℕ) → IsScalar c → is_scalar c ≡ true
unfolding is_scalar
scalar_is c (inl h) = rw (le-leb c 0xD7FF h)
scalar_is c (inr h) = or_right (leb c 0xD7FF) (within 0xE000 0x10FFFF c) (within_is 0xE000 0x10FFFF c h.0 h.1)

pub stray_false : (b : ℕ) → is_scalar (stray b) ≡ false
unfolding is_scalar
stray_false b = simp (lt-leb (stray b) 0xD7FF (omega arith), le-leb 0xE000 (stray b) (omega arith), lt-leb (stray b) 0x10FFFF (omega arith))

pub scalars_true : (cs : List ℕ) → all is_scalar cs ≡ true → Scalars cs
scalars_true [] e = tt
scalars_true (c ∷ cs) e = let p = and_true (is_scalar c) (all is_scalar cs) e in (scalar_true c p.0, scalars_true cs p.1)

pub scalars_is : (cs : List ℕ) → Scalars cs → all is_scalar cs ≡ true
scalars_is [] h = refl
scalars_is (c ∷ cs) h = simp (scalar_is c h.0, scalars_is cs h.1)

pub scalars_append : (xs ys : List ℕ) → Scalars xs → Scalars ys → Scalars (xs ++ ys)
scalars_append [] ys p q = q
scalars_append (x ∷ xs) ys p q = (p.0, scalars_append xs ys p.1 q)

-- and in parts of a list
pub scalars_split : (xs ys : List ℕ) → Scalars (xs ++ ys) → Scalars xs × Scalars ys
scalars_split [] ys h = (tt, h)
scalars_split (x ∷ xs) ys h = let p = scalars_split xs ys h.1 in ((h.0, p.0), p.1)

pub scalars_drop : (n : ℕ) (cs : List ℕ) → Scalars cs → Scalars (drop n cs)
scalars_drop n cs h = (scalars_split (take n cs) (drop n cs) (subst Scalars (sym (take-append-drop n cs)) h)).1

pub scalars_reverse : (cs : List ℕ) → Scalars cs → Scalars (reverse cs)
scalars_reverse [] h = tt
scalars_reverse (c ∷ cs) h = rw (reverse-cons c cs) (scalars_append (reverse cs) (c ∷ []) (scalars_reverse cs h.1) (h.0, tt))

-- ---- how long a character is
pub utf8_size : (c : ℕ) → (1 ≤ length (utf8 c)) × (length (utf8 c) ≤ 4)
unfolding utf8
utf8_size c =
    let P : List ℕ → Type 0 = λ (l : List ℕ). (1 ≤ length l) × (length l ≤ 4) in
    on P (ltb c 0x80) (λ _. omega arith) (λ _.
    on P (ltb c 0x800) (λ _. omega arith) (λ _.
    on P (ltb c 0x10000) (λ _. omega arith) (λ _.
    on P (ltb c 0x110000) (λ _. omega arith) (λ _. omega arith))))

-- ---- the characters of bytes, one after the other
scan_drop : (k : ℕ) (bs : List ℕ) → scan k bs ≡ chars (drop k bs)
unfolding scan chars
scan_drop zero bs = refl
scan_drop (suc k) [] = refl
scan_drop (suc k) (b ∷ bs) = scan_drop k bs

pub chars_nil : chars [] ≡ []
unfolding scan chars
chars_nil = refl

not_end : (c n : ℕ) → char [] ≡ At c n → ⊥
unfolding char
not_end c n e = let z : ◌≡◌ {A = ℕ} 0 1 = cc in omega arith

pub chars_at : (bs : List ℕ) (c n : ℕ) → char bs ≡ At c n → chars bs ≡ c ∷ chars (drop n bs)
unfolding scan chars
chars_at [] c n e = absurd (not_end c n e)
chars_at (b ∷ bs) c zero e = let d = char_at (b ∷ bs) c 0 e in let h = utf8_size c in absurd (omega arith)
chars_at (b ∷ bs) c (suc n) e = rw e (ap (λ (l : List ℕ). c ∷ l) (scan_drop n bs))

pub chars_bad : (b : ℕ) (bs : List ℕ) → char (b ∷ bs) ≡ Bad → chars (b ∷ bs) ≡ stray b ∷ chars bs
unfolding scan chars
chars_bad b bs e = rw e

pub chars_utf8 : (c : ℕ) (bs : List ℕ) → IsScalar c → chars (utf8 c ++ bs) ≡ c ∷ chars bs
chars_utf8 c bs s =
    chars_at (utf8 c ++ bs) c (length (utf8 c)) (char_utf8 c bs s) ∙ rw (drop-append_seam (utf8 c) bs)

pub chars_one : (c : ℕ) → IsScalar c → chars (utf8 c) ≡ c ∷ []
chars_one c s = ap chars (sym (append-nil (utf8 c))) ∙ chars_utf8 c [] s ∙ rw chars_nil

-- a byte that starts no character is not ASCII
pub lost_high : (x : ℕ) (xs : List ℕ) → char (x ∷ xs) ≡ Bad → 0x80 ≤ x
lost_high x xs e =
    ⊎_elim
    (λ l.
    let f = char_1 x xs (omega (arith, ltb-true x 0x80 l)) in
    let z : ◌≡◌ {A = ℕ} 0 1 = cc in absurd (omega arith))
    (λ l. ltb-false x 0x80 l)
    (decide (ltb x 0x80))

-- induction: what holds of no bytes, and with a character or a stray byte put in front, holds of all bytes
module _
    (P : List ℕ → Type 0)
    (none : P [])
    (more : (c : ℕ) (bs : List ℕ) → IsScalar c → P bs → P (utf8 c ++ bs))
    (lost : (b : ℕ) (bs : List ℕ) → char (b ∷ bs) ≡ Bad → P bs → P (b ∷ bs))
  where
    turn : (b : ℕ) (bs : List ℕ) → ((k : ℕ) → P (drop k bs)) → (x : Char) → char (b ∷ bs) ≡ x → P (b ∷ bs)
    turn b bs f (At c zero) e = let d = char_at (b ∷ bs) c 0 e in let h = utf8_size c in absurd (omega arith)
    turn b bs f (At c (suc n)) e =
        let d = char_at (b ∷ bs) c (suc n) e in
        subst P (sym d.split) (more c (drop n bs) d.scalar (f n))
    turn b bs f Bad e = lost b bs e (f 0)
    turn b bs f End e = absurd (cons-ne-nil b bs (rw e at (sound (b ∷ bs))))

    after : (k : ℕ) (bs : List ℕ) → P (drop k bs)
    after zero [] = none
    after (suc k) [] = none
    after (suc k) (b ∷ bs) = after k bs
    after zero (b ∷ bs) = turn b bs (λ (k : ℕ). after k bs) (char (b ∷ bs)) refl

    pub by_chars : (bs : List ℕ) → P bs
    by_chars bs = after 0 bs

-- ---- encoding and decoding
pub encode_append : (xs ys : List ℕ) → encode (xs ++ ys) ≡ encode xs ++ encode ys
encode_append [] ys = refl
encode_append (x ∷ xs) ys = rw (encode_append xs ys) (sym (append_assoc (utf8 x) (encode xs) (encode ys)))

-- the characters of an encoding, and what follows it
pub chars_encode_append : (cs bs : List ℕ) → Scalars cs → chars (encode cs ++ bs) ≡ cs ++ chars bs
chars_encode_append [] bs h = refl
chars_encode_append (c ∷ cs) bs h =
    rw append_assoc (chars_utf8 c (encode cs ++ bs) h.0 ∙ ap (λ (l : List ℕ). c ∷ l) (chars_encode_append cs bs h.1))

pub chars_encode : (cs : List ℕ) → Scalars cs → chars (encode cs) ≡ cs
chars_encode cs h =
    ap chars (sym (append-nil (encode cs))) ∙ chars_encode_append cs [] h ∙ rw chars_nil (append-nil cs)

-- every list of bytes is the encoding of its characters
pub encode_chars : (bs : List ℕ) → encode (chars bs) ≡ bs
encode_chars =
    by_chars (λ (bs : List ℕ). encode (chars bs) ≡ bs)
    (ap encode chars_nil)
    (λ c bs s ih. rw (chars_utf8 c bs s) (ap (λ (l : List ℕ). utf8 c ++ l) ih))
    (λ b bs e ih. rw (chars_bad b bs e, utf8_stray b) (ap (λ (l : List ℕ). b ∷ l) ih))

pub encode_injective : (xs ys : List ℕ) → Scalars xs → Scalars ys → encode xs ≡ encode ys → xs ≡ ys
encode_injective xs ys p q e = sym (chars_encode xs p) ∙ ap chars e ∙ chars_encode ys q

-- bytes are decoded exactly to the scalar values whose encoding they are
pub decode_encode : (cs : List ℕ) → Scalars cs → decode (encode cs) ≡ some cs
unfolding decode is_utf8
decode_encode cs h = simp (chars_encode cs h, scalars_is cs h)

some_if : (t : Bool) (xs cs : List ℕ) → cond t (some xs) none ≡ some cs → (t ≡ true) × (xs ≡ cs)
some_if true xs cs e = (refl, cc)
some_if false xs cs e = (cc, cc)

pub decode_some : (bs cs : List ℕ) → decode bs ≡ some cs → (is_utf8 bs ≡ true) × (chars bs ≡ cs)
unfolding decode
decode_some bs cs e = some_if (is_utf8 bs) (chars bs) cs e

pub decode_sound : (bs cs : List ℕ) → decode bs ≡ some cs → Scalars cs × (encode cs ≡ bs)
unfolding is_utf8
decode_sound bs cs e =
    let p = decode_some bs cs e in
    (scalars_true cs (rw p.1 at p.0), ap encode (sym p.1) ∙ encode_chars bs)

pub decode_iff : (bs cs : List ℕ) → (decode bs ≡ some cs) ↔ (Scalars cs × (encode cs ≡ bs))
decode_iff bs cs = (decode_sound bs cs, λ h. ap decode (sym h.1) ∙ decode_encode cs h.0)

-- `is_utf8` says whether bytes are decoded at all
pub decode_true : (bs : List ℕ) → is_utf8 bs ≡ true → decode bs ≡ some (chars bs)
unfolding decode
decode_true bs e = rw e

pub decode_false : (bs : List ℕ) → is_utf8 bs ≡ false → decode bs ≡ none
unfolding decode
decode_false bs e = rw e

-- bytes are UTF-8 where their characters are scalar values
pub utf8_scalars : (bs : List ℕ) → is_utf8 bs ≡ true → Scalars (chars bs)
unfolding is_utf8
utf8_scalars bs e = scalars_true (chars bs) e

-- a valid prefix, and the rest
pub decode_append : (xs bs cs : List ℕ) → Scalars xs → decode bs ≡ some cs → decode (encode xs ++ bs) ≡ some (xs ++ cs)
decode_append xs bs cs h e =
    let p = decode_sound bs cs e in
    ap (λ (l : List ℕ). decode (encode xs ++ l)) (sym p.1)
    ∙ ap decode (sym (encode_append xs cs))
    ∙ decode_encode (xs ++ cs) (scalars_append xs cs h p.0)

-- ---- bytes cut where no tail follows
pub char_cut : (a : ℕ) (x y : List ℕ) → tail (get_or y 0 0) ≡ false → char (a ∷ x ++ y) ≡ char (a ∷ x)
unfolding char char_of
char_cut a [] y h = simp h
char_cut a (b ∷ []) y h = simp h
char_cut a (b ∷ c ∷ []) y h = simp h
char_cut a (b ∷ c ∷ d ∷ x) y h = refl

pub chars_append : (x y : List ℕ) → tail (get_or y 0 0) ≡ false → chars (x ++ y) ≡ chars x ++ chars y
chars_append x y h =
    by_chars (λ (x : List ℕ). chars (x ++ y) ≡ chars x ++ chars y)
    (rw chars_nil)
    (λ c bs s ih. rw (append_assoc, chars_utf8 c (bs ++ y) s, chars_utf8 c bs s) (ap (λ (l : List ℕ). c ∷ l) ih))
    (λ b bs e ih. rw (chars_bad b (bs ++ y) (char_cut b bs y h ∙ e), chars_bad b bs e) (ap (λ (l : List ℕ). stray b ∷ l) ih))
    x

-- ---- the bytes of a character: a lead byte, which is no tail, and then tails
abbrev pub Tails : List ℕ → Type 0
Tails [] = Unit
Tails (b ∷ bs) = ((0x80 ≤ b) × (b ≤ 0xBF)) × Tails bs

abbrev pub Long : List ℕ → Type 0
Long [] = ⊥
Long (a ∷ bs) = ((0xC2 ≤ a) × (a ≤ 0xF4)) × Tails bs

pub utf8_long : (c : ℕ) → IsScalar c → 0x80 ≤ c → Long (utf8 c)
utf8_long c s m =
    ranges c
    (λ h. absurd (omega arith))
    (λ l h. rw (utf8_2 c l h) ((omega arith, omega arith), ((omega arith, omega arith), tt)))
    (λ l h. rw (utf8_3 c l h) ((omega arith, omega arith), ((omega arith, omega arith), ((omega arith, omega arith), tt))))
    (λ l.
    let k = top c s in
    rw (utf8_4 c l (omega arith))
    ((omega arith, omega arith), ((omega arith, omega arith), ((omega arith, omega arith), ((omega arith, omega arith), tt)))))

-- no byte of them is ASCII
abbrev pub High : List ℕ → Type 0
High [] = Unit
High (b ∷ bs) = (0x80 ≤ b) × High bs

pub tails_high : (bs : List ℕ) → Tails bs → High bs
tails_high [] h = tt
tails_high (b ∷ bs) h = (h.0.0, tails_high bs h.1)

pub utf8_high : (c : ℕ) → IsScalar c → 0x80 ≤ c → High (utf8 c)
utf8_high c s m = by (utf8 c) (utf8_long c s m)
  where
    by : (bs : List ℕ) → Long bs → High bs
    by [] h = absurd h
    by (b ∷ bs) h = (omega arith, tails_high bs h.1)

tails_at : (bs : List ℕ) → Tails bs → (k : ℕ) → k < length bs → (0x80 ≤ get_or bs k 0) × (get_or bs k 0 ≤ 0xBF)
tails_at [] h k l = absurd (omega arith)
tails_at (b ∷ bs) h zero l = h.0
tails_at (b ∷ bs) h (suc k) l = tails_at bs h.1 k (omega arith)

long_tail : (bs : List ℕ) → Long bs → (k : ℕ) → suc k < length bs → (0x80 ≤ get_or bs (suc k) 0) × (get_or bs (suc k) 0 ≤ 0xBF)
long_tail [] h k l = absurd h
long_tail (a ∷ bs) h k l = tails_at bs h.1 k (omega arith)

long_lead : (bs : List ℕ) → Long bs → tail (get_or bs 0 0) ≡ false
long_lead [] h = absurd h
long_lead (a ∷ bs) h = within_above 0x80 0xBF a (omega arith) (omega arith)

-- every byte after the first is 128 to 191
pub utf8_tail : (c : ℕ) → IsScalar c → (k : ℕ) → suc k < length (utf8 c) → (0x80 ≤ get_or (utf8 c) (suc k) 0) × (get_or (utf8 c) (suc k) 0 ≤ 0xBF)
utf8_tail c s k l =
    ⊎_elim
    (λ e. absurd (omega (arith, ap length (utf8_1 c (ltb-true c 0x80 e)))))
    (λ e. long_tail (utf8 c) (utf8_long c s (ltb-false c 0x80 e)) k l)
    (decide (ltb c 0x80))

-- the first is not
pub utf8_lead : (c : ℕ) → IsScalar c → tail (get_or (utf8 c) 0 0) ≡ false
utf8_lead c s =
    ⊎_elim
    (λ e. let h = ltb-true c 0x80 e in rw (utf8_1 c h) (within_below 0x80 0xBF c h))
    (λ e. long_lead (utf8 c) (utf8_long c s (ltb-false c 0x80 e)))
    (decide (ltb c 0x80))

-- ---- one step of a loop: from byte i, where the character c of n bytes stands, to byte i + n
pub record Step (s : List ℕ) (i c n : ℕ) : Type 0 where
  pub scalar : IsScalar c
  pub size : length (utf8 c) ≡ n
  pub low : 1 ≤ n
  pub high : n ≤ 4
  pub bound : i + n ≤ length s
  pub rest : chars (drop i s) ≡ c ∷ chars (drop (i + n) s)
  pub front : take (i + n) s ≡ take i s ++ utf8 c

pub advance : (s : List ℕ) (i c n : ℕ) → char (drop i s) ≡ At c n → Step s i c n
advance s i c n e =
    let d = char_at (drop i s) c n e in
    let z = utf8_size c in
    let m = simp (length-append, length-drop) at (ap length d.split) in
    record {
      scalar = d.scalar;
      size = d.size;
      low = omega arith;
      high = omega arith;
      bound = omega arith;
      rest = chars_at (drop i s) c n e ∙ rw drop-drop;
      front = take-add i n s ∙ ap (λ (l : List ℕ). take i s ++ l) (ap (take n) d.split ∙ take_at (utf8 c) (drop n (drop i s)) n d.size);
    }

-- at an ASCII byte, which need not be decoded
pub advance_ascii : (s : List ℕ) (i : ℕ) → i < length s → get_or s i 0 < 0x80 → chars (drop i s) ≡ get_or s i 0 ∷ chars (drop (i + 1) s)
advance_ascii s i l h =
    rw (drop-cons s i 0 l)
    (chars_at (get_or s i 0 ∷ drop (suc i) s) (get_or s i 0) 1 (char_1 (get_or s i 0) (drop (suc i) s) (omega arith))
    ∙ rw (add-one i))

not_past : (s : List ℕ) (i : ℕ) → char (drop i s) ≡ Bad → i < length s
unfolding char
not_past s i e =
    ⊎_elim (λ l. ltb-true i (length s) l)
    (λ l.
    let f = rw (drop_of_length-le s (ltb-false i (length s) l)) at e in
    let z : ◌≡◌ {A = ℕ} 0 1 = cc in absurd (omega arith))
    (decide (ltb i (length s)))

-- at a stray byte
pub advance_bad : (s : List ℕ) (i : ℕ) → char (drop i s) ≡ Bad → (i < length s) × (chars (drop i s) ≡ stray (get_or s i 0) ∷ chars (drop (i + 1) s))
advance_bad s i e =
    let l : i < length s = not_past s i e in (
      l,
      rw (drop-cons s i 0 l)
          (chars_bad (get_or s i 0) (drop (suc i) s) (rw (drop-cons s i 0 l) at e)
          ∙ rw (add-one i)),
    )

-- at the end
pub advance_end : (s : List ℕ) (i : ℕ) → length s ≤ i → chars (drop i s) ≡ []
advance_end s i h = rw (drop_of_length-le s h) chars_nil

-- ---- by the size alone: 0 where no character starts
pub no_char : (s : List ℕ) (i : ℕ) → char_size (char (drop i s)) ≡ 0 → (char (drop i s) ≡ Bad) ⊎ (char (drop i s) ≡ End)
no_char s i e = by (char (drop i s)) refl e
  where
    by : (x : Char) → char (drop i s) ≡ x → char_size x ≡ 0 → (x ≡ Bad) ⊎ (x ≡ End)
    by (At c n) h z = let k = advance s i c n h in absurd (omega arith)
    by Bad h z = inl refl
    by End h z = inr refl

pub some_char : (s : List ℕ) (i n : ℕ) → n ≡ char_size (char (drop i s)) → (n ≡ 0 → ⊥) → (c : ℕ) × Step s i c n
some_char s i n e z = by (char (drop i s)) refl e
  where
    by : (x : Char) → char (drop i s) ≡ x → n ≡ char_size x → (c : ℕ) × Step s i c n
    by (At c m) h q = (c, rw q (advance s i c m h))
    by Bad h q = absurd (z q)
    by End h q = absurd (z q)

-- bytes that are left, and start no character, are not UTF-8
pub stuck : (s : List ℕ) (i : ℕ) → i < length s → (char (drop i s) ≡ Bad) ⊎ (char (drop i s) ≡ End) → all is_scalar (chars (drop i s)) ≡ false
stuck s i l (inl e) = simp ((advance_bad s i e).1, stray_false (get_or s i 0))
stuck s i l (inr e) = let d = rw e at (sound (drop i s)) in absurd (omega (arith, ap length d, length-drop i s))

-- ---- any step: the character at byte i, or the stray byte
pub record Next (s : List ℕ) (i n : ℕ) : Type 0 where
  pub code : ℕ
  pub size : length (utf8 code) ≡ n
  pub low : 1 ≤ n
  pub bound : i + n ≤ length s
  pub rest : chars (drop i s) ≡ code ∷ chars (drop (i + n) s)
  pub front : take (i + n) s ≡ take i s ++ utf8 code

pub next_is : (s : List ℕ) (i : ℕ) → i < length s → Next s i (size_of (char (drop i s)))
next_is s i l = go (char (drop i s)) refl
  where
    go : (x : Char) → char (drop i s) ≡ x → Next s i (size_of x)
    go (At c n) e =
        let h = advance s i c n e in
        record { code = c; size = h.size; low = h.low; bound = h.bound; rest = h.rest; front = h.front }
    go Bad e =
        let h = advance_bad s i e in
        record {
          code = stray (get_or s i 0);
          size = ap length (utf8_stray (get_or s i 0));
          low = omega arith;
          bound = omega arith;
          rest = h.1;
          front = rw (add-one i, take-suc s i 0 l, utf8_stray (get_or s i 0));
        }
    go End e = let d = rw e at (sound (drop i s)) in absurd (omega (arith, ap length d, length-drop i s))

-- ---- byte i is where character k stands
pub record Pos (s : List ℕ) (i k : ℕ) : Type 0 where
  pub bound : i ≤ length s
  pub left : chars (drop i s) ≡ drop k (chars s)
  pub front : take i s ≡ encode (take k (chars s))

pub pos_zero : (s : List ℕ) → Pos s 0 0
pos_zero s = record { bound = omega arith; left = refl; front = refl }

pub pos_next : (s : List ℕ) (i k n : ℕ) → Pos s i k → Next s i n → Pos s (i + n) (k + 1)
pos_next s i k n p h =
    let e : drop k (chars s) ≡ h.code ∷ chars (drop (i + n) s) = sym p.left ∙ h.rest in
    record {
      bound = h.bound;
      left = sym (sym (drop-drop 1 k (chars s)) ∙ ap (drop 1) e);
      front =
          h.front
          ∙ ap (λ (l : List ℕ). l ++ utf8 h.code) p.front
          ∙ sym
          (ap encode (take-add k 1 (chars s) ∙ ap (λ (l : List ℕ). take k (chars s) ++ take 1 l) e)
          ∙ encode_append (take k (chars s)) (h.code ∷ [])
          ∙ ap (λ (l : List ℕ). encode (take k (chars s)) ++ l) (append-nil (utf8 h.code)));
    }

-- ---- the code at an offset, and the turn of a loop that reads it
code_first : (s : List ℕ) (i c : ℕ) (cs : List ℕ) → chars (drop i s) ≡ c ∷ cs → code_at s i ≡ c
unfolding code_at
code_first s i c cs e = rw e

pub code_char : (s : List ℕ) (i c n : ℕ) → char (drop i s) ≡ At c n → code_at s i ≡ c
code_char s i c n e = code_first s i c (chars (drop (i + n) s)) (advance s i c n e).rest

pub code_bad : (s : List ℕ) (i : ℕ) → char (drop i s) ≡ Bad → code_at s i ≡ stray (get_or s i 0)
code_bad s i e = code_first s i (stray (get_or s i 0)) (chars (drop (i + 1) s)) (advance_bad s i e).1

pub code_end : (s : List ℕ) (i : ℕ) → char (drop i s) ≡ End → code_at s i ≡ 0
unfolding code_at
code_end s i e = let d = rw e at (sound (drop i s)) in rw (d, chars_nil)

pub code_is : (s : List ℕ) (i : ℕ) → i < length s → code_at s i ≡ char_code (char (drop i s)) (get_or s i 0)
code_is s i l = by (char (drop i s)) refl
  where
    by : (x : Char) → char (drop i s) ≡ x → code_at s i ≡ char_code x (get_or s i 0)
    by (At c n) e = code_char s i c n e
    by Bad e = code_bad s i e
    by End e = let d = rw e at (sound (drop i s)) in absurd (omega (arith, ap length d, length-drop i s))

-- ---- a size of 1 where no character starts
pub size_or_one : (x : Char) → 0 < size_of x → unwrap_or (some_size (char_size x)) 1 ≡ size_of x
size_or_one (At c zero) l = absurd (omega arith)
size_or_one (At c (suc n)) l = refl
size_or_one Bad l = refl
size_or_one End l = absurd (omega arith)

pub record Turn (s : List ℕ) (i c : ℕ) : Type 0 where
  pub low : 1 ≤ length (utf8 c)
  pub high : length (utf8 c) ≤ 4
  pub bound : i + length (utf8 c) ≤ length s
  pub rest : chars (drop i s) ≡ c ∷ chars (drop (i + length (utf8 c)) s)
  pub front : take (i + length (utf8 c)) s ≡ take i s ++ utf8 c

pub turn_is : (s : List ℕ) (i : ℕ) → i < length s → Turn s i (code_at s i)
turn_is s i l =
    let h = next_is s i l in
    let e = code_first s i h.code _ h.rest in
    let z = utf8_size h.code in
    rw (e)
    (record {
      low = z.0;
      high = z.1;
      bound = omega (arith, h.size, h.bound);
      rest = rw h.size h.rest;
      front = rw h.size h.front;
    })

-- ---- how many
pub size_encode : (cs : List ℕ) → length (encode cs) ≡ size cs
unfolding size
size_encode [] = refl
size_encode (c ∷ cs) = length-append (utf8 c) (encode cs) ∙ rw (size_encode cs)

pub size_chars : (bs : List ℕ) → size (chars bs) ≡ length bs
size_chars bs = sym (size_encode (chars bs)) ∙ ap length (encode_chars bs)

pub size_append : (xs ys : List ℕ) → size (xs ++ ys) ≡ size xs + size ys
unfolding size
size_append [] ys = omega arith
size_append (x ∷ xs) ys = let h = size_append xs ys in omega arith

-- a character has a byte at least
pub size_length : (cs : List ℕ) → length cs ≤ size cs
unfolding size
size_length [] = omega arith
size_length (c ∷ cs) = let h = size_length cs in let k = utf8_size c in omega arith

pub chars_length : (bs : List ℕ) → length (chars bs) ≤ length bs
chars_length bs = omega (arith, size_chars bs, size_length (chars bs))

pub size_aux : (xs ys : List ℕ) → size (reverse_aux xs ys) ≡ size xs + size ys
unfolding size
size_aux [] ys = omega arith
size_aux (x ∷ xs) ys = omega (arith, size_aux xs (x ∷ ys))

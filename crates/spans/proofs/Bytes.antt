-- The spans of a line's bytes are those of its characters, their texts as bytes: every mark is ASCII, and no byte of another character is.
-- Assumes nothing.
use mathlib.Core.Path.{◌≡◌, refl, sym, ap, ap₂, ◌∙◌, subst}
use mathlib.Core.Logic.{⊎_elim}
use Prim.Native.Nat.{ℕ, zero, suc, ◌+◌, ◌≤◌, ◌<◌}
use native.Mathlib.Omega.{arith}
use mathlib.Core.Bool.{Bool, true, false, not}
use mathlib.Core.Option.{none, some}
use mathlib.Core.List.{List, [], ◌∷◌, ◌++◌, map, map-append, reverse, reverse-append, reverse-reverse, append-nil, append_assoc}
use lib.ListN.{length, take, drop, length-append, length-reverse}
use lib.Seq.{drop-drop}
use lib.Dec.{eqb, ltb}
use borrow.Author.Tests.{eqb-true, eqb-false, ltb-true, ltb-false}
use Rattle.text.specs.Words.{starts_with}
use Rattle.text.specs.Utf8.{IsScalar, utf8, encode, char, chars, stray}
use Rattle.text.specs.Char.{Char, At, Bad, End}
use Rattle.text.proofs.Tests.{decide}
use Rattle.text.proofs.Utf8.{utf8_1, utf8_stray, sound, char_at}
use Rattle.text.proofs.Laws.{chars_nil, chars_at, chars_bad, Long, utf8_long, utf8_size, encode_append, encode_chars, High, tails_high}
use Rattle.text.proofs.AsciiLaws.{chars_ascii, chars_high}
use Rattle.records.specs.Blocks.{Span}
use Rattle.spans.specs.Spans.{Walk, at, push, span, flush, link, Step, made, label, kept, code_step, star_step, link_step, image_step, step, carry, walk, spans}
use Rattle.spans.specs.Turn.{linked, turned}
use Rattle.spans.proofs.SpanLaws.{shorter_drop, shorter_take, walk_end, walk_next, after, spans_eq}
use Rattle.spans.proofs.ShownLaws.{step_plain}
use Rattle.spans.proofs.Both.{Hit, both, starts_both, rest_both, LinkHit, link_both}

-- a span with its text's bytes
abbrev pub as_bytes : Span → Span
as_bytes s = record { text = encode s.text; bold = s.bold; italic = s.italic; code = s.code }

-- the walk with pending text t, over characters and over bytes
abbrev over : Bool → Bool → List ℕ → Walk
over b i t = at b i (reverse t)

-- what is left of a line: the walk over its bytes gives the spans of its characters
abbrev Same : List ℕ → Type 0
Same bs = (b i : Bool) (t : List ℕ) → walk spans (over b i (encode t)) 0 bs ≡ map as_bytes (walk spans (over b i t) 0 (chars bs))

-- ---- a turn, by its step

next_made : (w : Walk) (c : ℕ) (s : List ℕ) (out : List Span) (v : Walk) (n : ℕ) → step w c s ≡ made out v n → walk spans w 0 (c ∷ s) ≡ out ++ walk spans v 0 (drop n s)
unfolding turned
next_made w c s out v n e = walk_next spans w c s ∙ ap (λ (x : Step). after spans s (turned spans w s x)) e

next_label : (w : Walk) (c : ℕ) (s : List ℕ) (k n : ℕ) → step w c s ≡ label k n → walk spans w 0 (c ∷ s) ≡ after spans s (linked w (map (carry w) (spans (take k s))) n)
unfolding turned
next_label w c s k n e = walk_next spans w c s ∙ ap (λ (x : Step). after spans s (turned spans w s x)) e

-- ---- pending text

snoc : (t : List ℕ) (c : ℕ) → c ∷ reverse t ≡ reverse (t ++ (c ∷ []))
snoc t c = sym (reverse-append t (c ∷ []))

encode_snoc : (t : List ℕ) (c : ℕ) → encode (t ++ (c ∷ [])) ≡ encode t ++ utf8 c
encode_snoc t c = encode_append t (c ∷ []) ∙ ap (λ (l : List ℕ). encode t ++ l) (append-nil (utf8 c))

snoc_low : (t : List ℕ) (c : ℕ) → c < 0x80 → c ∷ reverse (encode t) ≡ reverse (encode (t ++ (c ∷ [])))
snoc_low t c low = snoc (encode t) c ∙ ap reverse (sym (encode_snoc t c ∙ ap (λ (l : List ℕ). encode t ++ l) (utf8_1 c low)))

full : (b i : Bool) (x : List ℕ) → 1 ≤ length x → flush (over b i x) ≡ record { text = x; bold = b; italic = i; code = false } ∷ []
unfolding flush
full b i x h = go (reverse x) refl
  where
    go : (r : List ℕ) → reverse x ≡ r → flush (at b i r) ≡ record { text = x; bold = b; italic = i; code = false } ∷ []
    go [] e = absurd (omega (arith, length-reverse x, ap length e))
    go (c ∷ r) e = ap (λ (l : List ℕ). record { text = l; bold = b; italic = i; code = false } ∷ []) (ap reverse (sym e) ∙ reverse-reverse x)

flush_same : (b i : Bool) (t : List ℕ) → flush (over b i (encode t)) ≡ map as_bytes (flush (over b i t))
flush_same b i [] = unfold flush in refl
flush_same b i (c ∷ t) =
    full b i (encode (c ∷ t)) (omega (arith, length-append (utf8 c) (encode t), (utf8_size c).0))
    ∙ ap (map as_bytes) (sym (full b i (c ∷ t) (omega arith)))

-- spans, and then the walk from the same place
joined : (xs ys : List Span) (bs cs : List ℕ) (b i : Bool) (t : List ℕ) → xs ≡ map as_bytes ys → chars bs ≡ cs → Same bs
    → xs ++ walk spans (over b i (encode t)) 0 bs ≡ map as_bytes (ys ++ walk spans (over b i t) 0 cs)
joined xs ys bs cs b i t e f same =
    ap₂ (λ (x y : List Span). x ++ y) e (same b i t ∙ ap (λ (l : List ℕ). map as_bytes (walk spans (over b i t) 0 l)) f)
    ∙ sym (map-append as_bytes ys (walk spans (over b i t) 0 cs))

-- ---- a byte that is text

module _ (bs : List ℕ) (same : Same bs) (c : ℕ) (low : c < 0x80) where
  -- an ASCII byte joins the pending text
  kept_same : ((w : Walk) → step w c bs ≡ kept w c) → ((w : Walk) → step w c (chars bs) ≡ kept w c) → Same (c ∷ bs)
  kept_same f g b i t =
      next_made (over b i (encode t)) c bs [] (push c (over b i (encode t))) 0 (f (over b i (encode t)))
      ∙ ap (λ (l : List ℕ). walk spans (at b i l) 0 bs) (snoc_low t c low)
      ∙ same b i (t ++ (c ∷ []))
      ∙ ap (λ (l : List ℕ). map as_bytes (walk spans (at b i l) 0 (chars bs))) (sym (snoc t c))
      ∙ ap (map as_bytes) (sym (next_made (over b i t) c (chars bs) [] (push c (over b i t)) 0 (g (over b i t))))
      ∙ ap (λ (l : List ℕ). map as_bytes (walk spans (over b i t) 0 l)) (sym (chars_ascii c bs low))

step_high : (w : Walk) (c : ℕ) (s : List ℕ) → 0x80 ≤ c → step w c s ≡ kept w c
step_high w c s h = step_plain w c s (λ e. omega arith) (λ e. omega arith) (λ e. omega arith) (λ e. omega arith) (λ e. omega arith)

high_run : (b i : Bool) (x u rest : List ℕ) → High u → walk spans (over b i x) 0 (u ++ rest) ≡ walk spans (over b i (x ++ u)) 0 rest
high_run b i x [] rest h = ap (λ (l : List ℕ). walk spans (over b i l) 0 rest) (sym (append-nil x))
high_run b i x (c ∷ u) rest h =
    next_made (over b i x) c (u ++ rest) [] (push c (over b i x)) 0 (step_high (over b i x) c (u ++ rest) h.0)
    ∙ ap (λ (l : List ℕ). walk spans (at b i l) 0 (u ++ rest)) (snoc x c)
    ∙ high_run b i (x ++ (c ∷ [])) u rest h.1
    ∙ ap (λ (l : List ℕ). walk spans (over b i l) 0 rest) (append_assoc x (c ∷ []) u)

-- the character that starts with a byte that is no ASCII: its bytes, and what follows them
record Wide (y : ℕ) (ys : List ℕ) : Type 0 where
  code : ℕ
  tail : List ℕ
  rest : List ℕ
  bytes : utf8 code ≡ y ∷ tail
  split : ys ≡ tail ++ rest
  high : 0x80 ≤ code
  tail_high : High tail
  read : chars (y ∷ ys) ≡ code ∷ chars rest

long_tails : (l : List ℕ) (y : ℕ) (t : List ℕ) → Long l → l ≡ y ∷ t → High t
long_tails [] y t h e = absurd h
long_tails (x ∷ l) y t h e = let z : l ≡ t = cc in subst High z (tails_high l h.1)

wide : (y : ℕ) (ys : List ℕ) → 0x80 ≤ y → Wide y ys
wide y ys h = go (char (y ∷ ys)) refl
  where
    high_of : (c : ℕ) (cs : List ℕ) → chars (y ∷ ys) ≡ c ∷ cs → 0x80 ≤ c
    high_of c cs e = let p = chars_high y ys h in let q : p.0 ≡ c = cc p.2 in omega (arith, p.3)

    take_apart : (c : ℕ) (u : List ℕ) (rest : List ℕ) → IsScalar c → 0x80 ≤ c → utf8 c ≡ u → y ∷ ys ≡ u ++ rest → chars (y ∷ ys) ≡ c ∷ chars rest → Wide y ys
    take_apart c [] rest s m e f r = absurd (omega (arith, (utf8_size c).0, ap length e))
    take_apart c (x ∷ u) rest s m e f r =
        let p : x ≡ y = cc in
        let q : ys ≡ u ++ rest = cc in
        record {
          code = c;
          tail = u;
          rest = rest;
          bytes = e ∙ ap (λ (n : ℕ). n ∷ u) p;
          split = q;
          high = m;
          tail_high = long_tails (utf8 c) x u (utf8_long c s m) e;
          read = r;
        }

    go : (x : Char) → char (y ∷ ys) ≡ x → Wide y ys
    go (At c n) e =
        let d = char_at (y ∷ ys) c n e in
        let r = chars_at (y ∷ ys) c n e in
        take_apart c (utf8 c) (drop n (y ∷ ys)) d.scalar (high_of c _ r) refl d.split r
    go Bad e = record {
      code = stray y;
      tail = [];
      rest = ys;
      bytes = utf8_stray y;
      split = refl;
      high = omega arith;
      tail_high = tt;
      read = chars_bad y ys e;
    }
    go End e = let d : y ∷ ys ≡ [] = rw e at (sound (y ∷ ys)) in let z : ◌≡◌ {A = ℕ} 0 1 = cc in absurd (omega arith)

-- pending text and the bytes of a character that are left of it, and then the walk from where the character ends
wide_run : (y : ℕ) (ys : List ℕ) (w : Wide y ys) → Same w.rest → (b i : Bool) (t : List ℕ)
    → walk spans (at b i (y ∷ reverse (encode t))) 0 ys ≡ map as_bytes (walk spans (at b i (w.code ∷ reverse t)) 0 (chars w.rest))
wide_run y ys w same b i t =
    ap₂ (λ (l m : List ℕ). walk spans (at b i l) 0 m) (snoc (encode t) y) w.split
    ∙ high_run b i (encode t ++ (y ∷ [])) w.tail w.rest w.tail_high
    ∙ ap (λ (l : List ℕ). walk spans (over b i l) 0 w.rest)
    (append_assoc (encode t) (y ∷ []) w.tail ∙ ap (λ (l : List ℕ). encode t ++ l) (sym w.bytes) ∙ sym (encode_snoc t w.code))
    ∙ same b i (t ++ (w.code ∷ []))
    ∙ ap (λ (l : List ℕ). map as_bytes (walk spans (at b i l) 0 (chars w.rest))) (sym (snoc t w.code))

wide_short : (y : ℕ) (ys : List ℕ) (w : Wide y ys) → length w.rest ≤ length ys
wide_short y ys w = omega (arith, ap length w.split, length-append w.tail w.rest)

-- ---- the turn at each mark, where the walk over what is left is known

module _ (xs : List ℕ) (shorter : (l : List ℕ) → length l ≤ length xs → Same l) where
  abbrev here : Same xs
  here = shorter xs (omega arith)

  -- both sides of a turn at an ASCII byte
  abbrev Turns : ℕ → Type 0
  Turns c = (b i : Bool) (t : List ℕ) → walk spans (over b i (encode t)) 0 (c ∷ xs) ≡ map as_bytes (walk spans (over b i t) 0 (c ∷ chars xs))

  turns : (c : ℕ) → c < 0x80 → Turns c → Same (c ∷ xs)
  turns c low h b i t = h b i t ∙ ap (λ (l : List ℕ). map as_bytes (walk spans (over b i t) 0 l)) (sym (chars_ascii c xs low))

  -- the walk over what is left, after spans
  goes : (c n m : ℕ) (b i b' i' : Bool) (t t' : List ℕ) (out out' : List Span) → step (over b i (encode t)) c xs ≡ made out (over b' i' (encode t')) n
      → step (over b i t) c (chars xs) ≡ made out' (over b' i' t') m → out ≡ map as_bytes out' → chars (drop n xs) ≡ drop m (chars xs)
      → walk spans (over b i (encode t)) 0 (c ∷ xs) ≡ map as_bytes (walk spans (over b i t) 0 (c ∷ chars xs))
  goes c n m b i b' i' t t' out out' e f g r =
      next_made (over b i (encode t)) c xs out (over b' i' (encode t')) n e
      ∙ joined out out' (drop n xs) (drop m (chars xs)) b' i' t' g r (shorter (drop n xs) (shorter_drop n xs))
      ∙ ap (map as_bytes) (sym (next_made (over b i t) c (chars xs) out' (over b' i' t') m f))

  code_same : (b i : Bool) (t : List ℕ) (h : Hit 96 xs)
      → flush (over b i (encode t)) ++ (span true (over b i (encode t)) (take h.byte xs) ∷ [])
      ≡ map as_bytes (flush (over b i t) ++ (span true (over b i t) (take h.char (chars xs)) ∷ []))
  code_same b i t h =
      ap₂ (λ (x : List Span) (y : List ℕ). x ++ (record { text = y; bold = b; italic = i; code = true } ∷ [])) (flush_same b i t)
      (sym (encode_chars (take h.byte xs)) ∙ ap encode h.before)
      ∙ sym (map-append as_bytes (flush (over b i t)) (span true (over b i t) (take h.char (chars xs)) ∷ []))

  tick_same : Same (96 ∷ xs)
  unfolding step code_step
  tick_same =
      ⊎_elim
      (λ h. turns 96 (omega arith) (λ b i t.
      goes 96 (h.byte + 1) (h.char + 1) b i b i t []
      (flush (over b i (encode t)) ++ (span true (over b i (encode t)) (take h.byte xs) ∷ []))
      (flush (over b i t) ++ (span true (over b i t) (take h.char (chars xs)) ∷ []))
      (rw h.in_bytes)
      (rw h.in_chars)
      (code_same b i t h)
      h.after))
      (λ n. kept_same xs here 96 (omega arith) (λ w. rw n.0) (λ w. rw n.1))
      (both 96 (omega arith) xs)

  star_two : starts_with (42 ∷ []) xs ≡ true → Turns 42
  unfolding step star_step
  star_two e b i t =
      goes 42 1 1 b i (not b) i t [] (flush (over b i (encode t))) (flush (over b i t)) (rw e) (rw (starts_both 42 (omega arith) xs ∙ e))
      (flush_same b i t)
      (rest_both 42 (omega arith) xs e)

  star_one : starts_with (42 ∷ []) xs ≡ false → Turns 42
  unfolding step star_step
  star_one e b i t =
      goes 42 0 0 b i b (not i) t [] (flush (over b i (encode t))) (flush (over b i t)) (rw e) (rw (starts_both 42 (omega arith) xs ∙ e))
      (flush_same b i t)
      refl

  star_same : Same (42 ∷ xs)
  star_same = turns 42 (omega arith) (⊎_elim star_two star_one (decide (starts_with (42 ∷ []) xs)))

  carry_same : (b i : Bool) (t t' : List ℕ) (ss : List Span) → map (carry (at b i t)) (map as_bytes ss) ≡ map as_bytes (map (carry (at b i t')) ss)
  carry_same b i t t' [] = refl
  carry_same b i t t' (s ∷ ss) = ap (λ (l : List Span). as_bytes (carry (at b i t') s) ∷ l) (carry_same b i t t' ss)

  linked_same : (b i : Bool) (t : List ℕ) (ls : List Span) (n m : ℕ) → chars (drop n xs) ≡ drop m (chars xs)
      → after spans xs (linked (over b i (encode t)) (map as_bytes ls) n) ≡ map as_bytes (after spans (chars xs) (linked (over b i t) ls m))
  unfolding linked
  linked_same b i t [] n m r = joined [] [] (drop n xs) (drop m (chars xs)) b i t refl r (shorter (drop n xs) (shorter_drop n xs))
  linked_same b i t (l ∷ ls) n m r =
      joined (flush (over b i (encode t)) ++ map as_bytes (l ∷ ls)) (flush (over b i t) ++ (l ∷ ls)) (drop n xs) (drop m (chars xs)) b i []
      (ap (λ (x : List Span). x ++ map as_bytes (l ∷ ls)) (flush_same b i t) ∙ sym (map-append as_bytes (flush (over b i t)) (l ∷ ls)))
      r
      (shorter (drop n xs) (shorter_drop n xs))

  label_same : (h : LinkHit xs) → spans (take h.close xs) ≡ map as_bytes (spans (take h.close_char (chars xs)))
  label_same h =
      let l : List ℕ = take h.close xs in
      spans_eq l
      ∙ shorter l (shorter_take h.close xs) false false []
      ∙ ap (map as_bytes) (sym (spans_eq (chars l)))
      ∙ ap (λ (s : List ℕ). map as_bytes (spans s)) h.label

  link_same : Same (91 ∷ xs)
  unfolding step link_step
  link_same =
      ⊎_elim
      (λ h. turns 91 (omega arith) (λ b i t.
      next_label (over b i (encode t)) 91 xs h.close (h.last + 1) (rw h.in_bytes)
      ∙ ap (λ (ss : List Span). after spans xs (linked (over b i (encode t)) ss (h.last + 1)))
      (ap (map (carry (over b i (encode t)))) (label_same h) ∙ carry_same b i (reverse (encode t)) (reverse t) (spans (take h.close_char (chars xs))))
      ∙ linked_same b i t (map (carry (over b i t)) (spans (take h.close_char (chars xs)))) (h.last + 1) (h.last_char + 1) h.after
      ∙ ap (map as_bytes) (sym (next_label (over b i t) 91 (chars xs) h.close_char (h.last_char + 1) (rw h.in_chars)))))
      (λ n. kept_same xs here 91 (omega arith) (λ w. rw n.0) (λ w. rw n.1))
      (link_both xs)

  escape_end : xs ≡ [] → Same (92 ∷ xs)
  unfolding step
  escape_end e = kept_same xs here 92 (omega arith) (λ w. rw e) (λ w. rw (ap chars e ∙ chars_nil))

  escape_low : (y : ℕ) (ys : List ℕ) → xs ≡ y ∷ ys → y < 0x80 → Same (92 ∷ xs)
  unfolding step
  escape_low y ys e low =
      let f : chars xs ≡ y ∷ chars ys = ap chars e ∙ chars_ascii y ys low in
      turns 92 (omega arith) (λ b i t.
      goes 92 1 1 b i b i t (t ++ (y ∷ [])) [] []
      (rw (e, snoc_low t y low))
      (rw (f, snoc t y))
      refl
      (ap (λ (l : List ℕ). chars (drop 1 l)) e ∙ ap (drop 1) (sym f)))

  escape_high : (y : ℕ) (ys : List ℕ) → xs ≡ y ∷ ys → 0x80 ≤ y → Same (92 ∷ xs)
  unfolding step
  escape_high y ys e high =
      let w : Wide y ys = wide y ys high in
      let f : chars xs ≡ w.code ∷ chars w.rest = ap chars e ∙ w.read in
      turns 92 (omega arith) (λ b i t.
      next_made (over b i (encode t)) 92 xs [] (at b i (y ∷ reverse (encode t))) 1 (rw e)
      ∙ ap (λ (l : List ℕ). walk spans (at b i (y ∷ reverse (encode t))) 0 (drop 1 l)) e
      ∙ wide_run y ys w (shorter w.rest (omega (arith, wide_short y ys w, ap length e))) b i t
      ∙ ap (λ (l : List ℕ). map as_bytes (walk spans (at b i (w.code ∷ reverse t)) 0 (drop 1 l))) (sym f)
      ∙ ap (map as_bytes) (sym (next_made (over b i t) 92 (chars xs) [] (at b i (w.code ∷ reverse t)) 1 (rw f))))

  image_same : (h : LinkHit (drop 1 xs)) → starts_with (91 ∷ []) xs ≡ true → Same (33 ∷ xs)
  unfolding step image_step
  image_same h e =
      let r : chars (drop 1 xs) ≡ drop 1 (chars xs) = rest_both 91 (omega arith) xs e in
      let f : link (drop 1 (chars xs)) ≡ some (h.close_char, h.last_char) = ap link (sym r) ∙ h.in_chars in
      let j : 1 + (h.last + 1) ≡ h.last + 2 = omega arith in
      let k : 1 + (h.last_char + 1) ≡ h.last_char + 2 = omega arith in
      turns 33 (omega arith) (λ b i t.
      goes 33 (h.last + 2) (h.last_char + 2) b i b i t t [] []
      (rw (e, h.in_bytes))
      (rw (starts_both 91 (omega arith) xs ∙ e, f))
      refl
      (ap (λ (n : ℕ). chars (drop n xs)) (sym j)
      ∙ ap chars (sym (drop-drop (h.last + 1) 1 xs))
      ∙ h.after
      ∙ ap (drop (h.last_char + 1)) r
      ∙ drop-drop (h.last_char + 1) 1 (chars xs)
      ∙ ap (λ (n : ℕ). drop n (chars xs)) k))

  bang_none : starts_with (91 ∷ []) xs ≡ true → (link (drop 1 xs) ≡ none) × (link (chars (drop 1 xs)) ≡ none) → Same (33 ∷ xs)
  unfolding step image_step
  bang_none e n =
      let f : link (drop 1 (chars xs)) ≡ none = ap link (sym (rest_both 91 (omega arith) xs e)) ∙ n.1 in
      kept_same xs here 33 (omega arith) (λ w. rw (e, n.0)) (λ w. rw (starts_both 91 (omega arith) xs ∙ e, f))

  bang_other : starts_with (91 ∷ []) xs ≡ false → Same (33 ∷ xs)
  unfolding step
  bang_other e = kept_same xs here 33 (omega arith) (λ w. rw e) (λ w. rw (starts_both 91 (omega arith) xs ∙ e))

  bang_same : Same (33 ∷ xs)
  bang_same =
      ⊎_elim (λ e. ⊎_elim (λ h. image_same h e) (bang_none e) (link_both (drop 1 xs))) bang_other (decide (starts_with (91 ∷ []) xs))

  escape_same : Same (92 ∷ xs)
  escape_same = go xs refl
    where
      go : (l : List ℕ) → xs ≡ l → Same (92 ∷ xs)
      go [] e = escape_end e
      go (y ∷ ys) e = ⊎_elim (λ l. escape_low y ys e (ltb-true y 0x80 l)) (λ l. escape_high y ys e (ltb-false y 0x80 l)) (decide (ltb y 0x80))

  high_same : (x : ℕ) → 0x80 ≤ x → Same (x ∷ xs)
  high_same x h b i t =
      let w : Wide x xs = wide x xs h in
      next_made (over b i (encode t)) x xs [] (push x (over b i (encode t))) 0 (step_high (over b i (encode t)) x xs h)
      ∙ wide_run x xs w (shorter w.rest (wide_short x xs w)) b i t
      ∙ ap (map as_bytes)
      (sym (next_made (over b i t) w.code (chars w.rest) [] (push w.code (over b i t)) 0 (step_high (over b i t) w.code (chars w.rest) w.high)))
      ∙ ap (λ (l : List ℕ). map as_bytes (walk spans (over b i t) 0 l)) (sym w.read)

  -- the byte m, or another
  mark : (x m : ℕ) → Same (m ∷ xs) → ((x ≡ m → ⊥) → Same (x ∷ xs)) → Same (x ∷ xs)
  mark x m f g = ⊎_elim (λ e. subst (λ (n : ℕ). Same (n ∷ xs)) (sym (eqb-true x m e)) f) (λ e. g (eqb-false x m e)) (decide (eqb x m))

  any_same : (x : ℕ) → Same (x ∷ xs)
  any_same x =
      ⊎_elim
      (λ l.
      mark x 92 escape_same (λ f₁. mark x 96 tick_same (λ f₂. mark x 42 star_same (λ f₃. mark x 91 link_same (λ f₄. mark x 33 bang_same (λ f₅.
      kept_same xs here x (ltb-true x 0x80 l) (λ w. step_plain w x xs f₁ f₂ f₃ f₄ f₅) (λ w. step_plain w x (chars xs) f₁ f₂ f₃ f₄ f₅)))))))
      (λ l. high_same x (ltb-false x 0x80 l))
      (decide (ltb x 0x80))

end_same : Same []
end_same b i t =
    walk_end spans (over b i (encode t))
    ∙ flush_same b i t
    ∙ ap (map as_bytes) (sym (walk_end spans (over b i t)))
    ∙ ap (λ (l : List ℕ). map as_bytes (walk spans (over b i t) 0 l)) (sym chars_nil)

all_same : (n : ℕ) (bs : List ℕ) → length bs ≤ n → Same bs
all_same zero [] h = end_same
all_same (suc n) [] h = end_same
all_same zero (x ∷ xs) h = absurd (omega arith)
all_same (suc n) (x ∷ xs) h = any_same xs (λ l k. all_same n l (omega arith)) x

-- for all bytes, also those that are no UTF-8
pub spans_bytes : (bs : List ℕ) → spans bs ≡ map as_bytes (spans (chars bs))
spans_bytes bs =
    spans_eq bs ∙ all_same (length bs) bs (omega arith) false false [] ∙ ap (map as_bytes) (sym (spans_eq (chars bs)))

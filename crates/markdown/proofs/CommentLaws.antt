-- The laws of `cleaned`: a comment removed, and the same of bytes as of characters.
-- Assumes nothing.
use Prim.Native.Nat.{ℕ, zero, suc, ◌+◌, ◌≤◌, ◌<◌}
use mathlib.Core.Bool.{Bool, true, false, cond}
use mathlib.Core.Option.{Option, none, some}
use mathlib.Core.List.{List, [], ◌∷◌, ◌++◌}
use mathlib.Core.Logic.{⊎_elim}
use mathlib.Core.Path.{◌≡◌, refl, sym, ap, ◌∙◌}
use borrow.Author.Tests.{ltb-true, ltb-false, eqb-true, ne_eqb}
use native.Mathlib.Omega.{arith}
use lib.Dec.{ltb, eqb}
use lib.ListN.{length, drop, drop_of_length-le}
use lib.Seq.{drop-append_seam}
use Rattle.std.specs.Prelude.{if◌then◌else◌}
use Rattle.text.specs.Words.{case, str, starts_with, starts, index}
use Rattle.text.specs.Utf8.{Scalars, utf8, encode, chars, is_utf8}
use Rattle.text.proofs.Tests.{decide, and_true, starts_split}
use Rattle.text.proofs.Laws.{chars_encode, encode_chars, encode_append, scalars_true, scalars_drop, High, utf8_high}
use Rattle.text.proofs.AsciiLaws.{encode_ascii, starts_chars}
use Rattle.text.specs.Chars.{Ascii}
use Rattle.text.proofs.Utf8.{utf8_1}
use Rattle.markdown.specs.Blocks.{comment, cleaned}
use Rattle.text.specs.Find.{closed}
use Rattle.text.proofs.CloseLaws.{closed_chars, comment_left, closed_part, closed_less}

abbrev pub opening : List ℕ
opening = str "<!--"

abbrev pub closing : List ℕ
closing = str "-->"

cleaned_drop : (n : ℕ) (s : List ℕ) → cleaned n s ≡ cleaned 0 (drop n s)
unfolding cleaned
cleaned_drop zero s = refl
cleaned_drop (suc n) [] = refl
cleaned_drop (suc n) (c ∷ s) = cleaned_drop n s

-- one turn: a comment goes, anything else stays
pub comment_turn : (c : ℕ) (s : List ℕ) → cleaned 0 (c ∷ s) ≡ cond (starts "<!--" (c ∷ s)) (cleaned 0 (closed (c ∷ s))) (c ∷ cleaned 0 s)
unfolding cleaned comment
comment_turn c s = by (starts "<!--" (c ∷ s))
  where
    rest : drop (case (index closing (c ∷ s)) (suc (length s)) (λ e. e + 2)) s ≡ closed (c ∷ s)
    rest = go (index closing (c ∷ s)) (comment_left (c ∷ s))
      where
        go : (o : Option ℕ) → case o [] (λ e. drop (e + 3) (c ∷ s)) ≡ closed (c ∷ s) → drop (case o (suc (length s)) (λ e. e + 2)) s ≡ closed (c ∷ s)
        go none e = drop_of_length-le s {i = suc (length s)} (omega arith) ∙ e
        go (some n) e = let q : n + 3 ≡ suc (n + 2) = omega arith in sym (ap (λ (k : ℕ). drop k (c ∷ s)) q) ∙ e

    by : (t : Bool) → case (if t then some (case (index closing (c ∷ s)) (suc (length s)) (λ e. e + 2)) else none) (c ∷ cleaned 0 s) (λ n. cleaned n s)
        ≡ cond t (cleaned 0 (closed (c ∷ s))) (c ∷ cleaned 0 s)
    by true = cleaned_drop (case (index closing (c ∷ s)) (suc (length s)) (λ e. e + 2)) s ∙ ap (cleaned 0) rest
    by false = refl

pub comment_goes : (c : ℕ) (s : List ℕ) → starts "<!--" (c ∷ s) ≡ true → cleaned 0 (c ∷ s) ≡ cleaned 0 (closed (c ∷ s))
comment_goes c s e = comment_turn c s ∙ rw e

pub other_stays : (c : ℕ) (s : List ℕ) → starts "<!--" (c ∷ s) ≡ false → cleaned 0 (c ∷ s) ≡ c ∷ cleaned 0 s
other_stays c s e = comment_turn c s ∙ rw e

-- ---- bytes and characters
-- a character that is not ASCII starts no literal
pub starts_high : (d c : ℕ) (p s : List ℕ) → d < 0x80 → 0x80 ≤ c → starts_with (d ∷ p) (c ∷ s) ≡ false
starts_high d c p s l h = rw (ne_eqb c d (omega arith))

pub starts_encode : (ps cs : List ℕ) → Ascii ps → Scalars cs → starts_with ps (encode cs) ≡ starts_with ps cs
starts_encode ps cs a h = sym (starts_chars ps (encode cs) a) ∙ ap (starts_with ps) (chars_encode cs h)

cleaned_high : (ys zs : List ℕ) → High ys → cleaned 0 (ys ++ zs) ≡ ys ++ cleaned 0 zs
cleaned_high [] zs h = refl
cleaned_high (y ∷ ys) zs h =
    other_stays y (ys ++ zs) (starts_high 60 y (33 ∷ 45 ∷ 45 ∷ []) (ys ++ zs) (omega arith) h.0)
    ∙ ap (λ (l : List ℕ). y ∷ l) (cleaned_high ys zs h.1)

-- a literal at the front of a text, in its bytes
pub drop_encode : (p s : List ℕ) → Ascii p → starts_with p s ≡ true → drop (length p) (encode s) ≡ encode (drop (length p) s)
drop_encode p s a e =
    ap (drop (length p))
    (ap encode (starts_split p s e) ∙ encode_append p (drop (length p) s) ∙ ap (λ (l : List ℕ). l ++ encode (drop (length p) s)) (encode_ascii p a))
    ∙ drop-append_seam p (encode (drop (length p) s))

ascii_opening : Ascii opening
ascii_opening = (omega arith, (omega arith, (omega arith, (omega arith, tt))))

closed_encode : (cs : List ℕ) → Scalars cs → closed (encode cs) ≡ encode (closed cs)
closed_encode cs h = sym (encode_chars (closed (encode cs))) ∙ ap encode (closed_chars (encode cs) ∙ ap closed (chars_encode cs h))

scalars_closed : (cs : List ℕ) → Scalars cs → Scalars (closed cs)
scalars_closed cs h = let p = closed_part cs in rw p.1 (scalars_drop p.0 cs h)

-- a text's bytes without comments are those of the text without comments
cleaned_encode : (k : ℕ) (cs : List ℕ) → length cs ≤ k → Scalars cs → (cleaned 0 (encode cs) ≡ encode (cleaned 0 cs)) × Scalars (cleaned 0 cs)
unfolding cleaned
cleaned_encode zero [] l h = (refl, tt)
cleaned_encode zero (c ∷ cs) l h = absurd (omega arith)
cleaned_encode (suc k) [] l h = (refl, tt)
cleaned_encode (suc k) (c ∷ cs) l h =
    ⊎_elim
    (λ e.
    let q = eqb-true c 60 (and_true (eqb c 60) (starts_with (33 ∷ 45 ∷ 45 ∷ []) cs) e).0 in
    let u = utf8_1 c (omega arith) in
    let f : starts "<!--" (c ∷ encode cs) ≡ true = (rw u at (starts_encode opening (c ∷ cs) ascii_opening h)) ∙ e in
    let g : closed (c ∷ encode cs) ≡ encode (closed (c ∷ cs)) = rw u at (closed_encode (c ∷ cs) h) in
    let ih = cleaned_encode k (closed (c ∷ cs)) (omega (arith, closed_less c cs)) (scalars_closed (c ∷ cs) h) in (
      ap (cleaned 0) (ap (λ (x : List ℕ). x ++ encode cs) u)
          ∙ comment_goes c (encode cs) f
          ∙ ap (cleaned 0) g
          ∙ ih.0
          ∙ ap encode (sym (comment_goes c cs e)),
      rw (comment_goes c cs e) ih.1,
    ))
    (λ e.
    let ih = cleaned_encode k cs (omega arith) h.1 in
    let m = other_stays c cs e in (
      ⊎_elim
          (λ v.
          let u = utf8_1 c (ltb-true c 0x80 v) in
          let f : starts "<!--" (c ∷ encode cs) ≡ false = (rw u at (starts_encode opening (c ∷ cs) ascii_opening h)) ∙ e in
          ap (cleaned 0) (ap (λ (x : List ℕ). x ++ encode cs) u)
          ∙ other_stays c (encode cs) f
          ∙ ap (λ (x : List ℕ). c ∷ x) ih.0
          ∙ sym (ap encode m ∙ ap (λ (x : List ℕ). x ++ encode (cleaned 0 cs)) u))
          (λ v.
          cleaned_high (utf8 c) (encode cs) (utf8_high c h.0 (ltb-false c 0x80 v))
          ∙ ap (λ (x : List ℕ). utf8 c ++ x) ih.0
          ∙ ap encode (sym m))
          (decide (ltb c 0x80)),
      rw m (h.0, ih.1),
    ))
    (decide (starts "<!--" (c ∷ cs)))

pub chars_cleaned : (bs : List ℕ) → is_utf8 bs ≡ true → (chars (cleaned 0 bs) ≡ cleaned 0 (chars bs)) × Scalars (chars (cleaned 0 bs))
unfolding is_utf8
chars_cleaned bs e =
    let h = scalars_true (chars bs) e in
    let p = cleaned_encode (length (chars bs)) (chars bs) (omega arith) h in
    let q : chars (cleaned 0 bs) ≡ cleaned 0 (chars bs) =
    ap (λ (l : List ℕ). chars (cleaned 0 l)) (sym (encode_chars bs)) ∙ ap chars p.0 ∙ chars_encode (cleaned 0 (chars bs)) p.1
    in (q, rw q p.1)

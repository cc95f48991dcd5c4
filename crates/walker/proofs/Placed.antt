-- What a reading off the front takes: how many bytes, and that those of a text are the last of them.
-- Assumes nothing.
use Prim.Native.Nat.{ℕ, zero, suc, ◌+◌, ◌-◌, ◌≤◌, zero-le}
use native.Mathlib.Omega.{arith}
use native.Mathlib.Nat.{sub_self}
use mathlib.Core.Path.{◌≡◌, refl, sym, ap, subst, ◌∙◌}
use mathlib.Core.Bool.{Bool, true, false, cond}
use mathlib.Core.Logic.{⊎_elim}
use mathlib.Core.List.{List, [], ◌∷◌}
use lib.ListN.{length, take, drop, length-append, length-drop}
use lib.Seq.{drop-drop, length-take-le}
use lib.Dec.{leb, ltb, eqb}
use borrow.Author.Tests.{leb-true}
use Rattle.text.specs.Utf8.{encode, size, chars, is_utf8}
use Rattle.text.proofs.Laws.{encode_chars, size_chars, size_encode}
use Rattle.records.specs.Blocks.{Span, Kind, heading, paragraph, item}
use Rattle.records.specs.Format.{text_form, encode_span, encode_spans, is_marker, bit}
use Rattle.records.specs.Decode.{◌▹◌, u16, u32, part, text_at, span_of, span_at, spans_at, level_at, marker_at, item_at, kind_at, count_at, parsed}
use Rattle.walker.specs.Answers.{marker_of}
use Rattle.walker.specs.Places.{marker_from}
use Rattle.records.proofs.Decoded.{not_failed, only_inv, then_inv, cond_inv}
use Rattle.records.proofs.FormatLaws.{text_some}

-- r is what is left of s after k bytes
pub record After (k : ℕ) (s r : List ℕ) : Type 0 where
  pub left : r ≡ drop k s
  pub fits : k ≤ length s

-- and the last of these are the bytes of a text
pub record Ends (k : ℕ) (s cs r : List ℕ) : Type 0 where
  pub after : After k s r
  pub has : size cs ≤ k
  pub text : take (size cs) (drop (k - size cs) s) ≡ encode cs

module _ {j : ℕ} {s t : List ℕ} (a : After j s t) where
  pub after_length : length s ≡ j + length t
  after_length = let l : j ≤ length s = a.fits in rw (a.left, length-drop) (omega arith)

  pub then_after : {k : ℕ} {r : List ℕ} → After k t r → After (j + k) s r
  then_after {k} b =
      record {
        left = b.left ∙ ap (drop k) a.left ∙ drop-drop k j s;
        fits = let l : k ≤ length t = b.fits in omega (arith, after_length);
      }

  pub then_ends : {k : ℕ} {cs r : List ℕ} → Ends k t cs r → Ends (j + k) s cs r
  then_ends {k} {cs} b =
      let l : size cs ≤ k = b.has in
      let e : j + k - size cs ≡ j + (k - size cs) = omega arith in
      record {
        after = then_after b.after;
        has = omega arith;
        text = rw (e, ← drop-drop (k - size cs) j s, ← a.left) b.text;
      }

module _ {j k : ℕ} {s q r : List ℕ} (e : j ≡ k) (f : q ≡ r) where
  after_moved : After j s q → After k s r
  after_moved a = rw (← e, ← f) a

  ends_moved : {bs cs : List ℕ} → bs ≡ cs → Ends j s bs q → Ends k s cs r
  ends_moved g z = rw (← e, ← f, ← g) z

u32_after : (s : List ℕ) {n : ℕ} {r : List ℕ} → u32 s ≡ parsed n r → After 4 s r
unfolding u32
u32_after [] h = not_failed h
u32_after (a ∷ []) h = not_failed h
u32_after (a ∷ b ∷ []) h = not_failed h
u32_after (a ∷ b ∷ c ∷ []) h = not_failed h
u32_after (a ∷ b ∷ c ∷ d ∷ s) {n} {r} h = let e : r ≡ s = cc in record { left = e; fits = omega arith }

u16_after : (s : List ℕ) {n : ℕ} {r : List ℕ} → u16 s ≡ parsed n r → After 2 s r
unfolding u16
u16_after [] h = not_failed h
u16_after (a ∷ []) h = not_failed h
u16_after (a ∷ b ∷ s) {n} {r} h = let e : r ≡ s = cc in record { left = e; fits = omega arith }

pub one_after : (m : ℕ) (s : List ℕ) → After 1 (m ∷ s) s
one_after m s = record { left = refl; fits = omega arith }

part_ends : (n : ℕ) (s : List ℕ) {t r : List ℕ} → part n s ≡ parsed t r → (size (chars t) ≡ n) × Ends n s (chars t) r
unfolding part
part_ends n s {t} {r} h =
    let (b, p) = only_inv (leb n (length s)) (parsed (take n s) (drop n s)) h in
    let l : n ≤ length s = leb-true n (length s) b in
    let et : take n s ≡ t = cc in
    let er : r ≡ drop n s = cc in
    let en : size (chars t) ≡ n = size_chars t ∙ ap length (sym et) ∙ length-take-le n s l in
    (en, record { after = record { left = er; fits = l }; has = omega arith; text = rw (en, sub_self n, encode_chars t) et })

text_length : (cs : List ℕ) (n : ℕ) → size cs ≡ n → 1 ≤ n → 4 + n ≡ length (text_form (encode cs))
text_length cs n e l = rw ((text_some cs (rw e l)).0, length-append, size_encode cs, e)

text_ends : (s : List ℕ) {cs r : List ℕ} → text_at s ≡ parsed cs r → Ends (length (text_form (encode cs))) s cs r
unfolding text_at
text_ends s {cs} {r} h =
    let (n, q, e₁, h₂) = then_inv (u32 s) _ h in
    let (l, h₃) = only_inv (leb 1 n) _ h₂ in
    let (t, q', e₂, h₄) = then_inv (part n q) _ h₃ in
    let (u, h₅) = only_inv (is_utf8 t) _ h₄ in
    let (en, z) = part_ends n q e₂ in
    let et : chars t ≡ cs = cc in
    let er : q' ≡ r = cc in
    let l₁ : 1 ≤ n = leb-true 1 n l in
    let ec : size cs ≡ n = ap size (sym et) ∙ en in
    ends_moved (text_length cs n ec l₁) er et (then_ends (u32_after s e₁) z)

one_more : {t u : List ℕ} → t ≡ u → 1 + length (text_form (encode t)) ≡ suc (length (text_form (encode u)))
one_more e = rw e (omega arith)

module _ (m : ℕ) (s : List ℕ) {x : Span} {r : List ℕ} where
  span_case : (b : Bool) → cond b (parsed (span_of m []) s) (text_at s ▹ λ t q. parsed (span_of m t) q) ≡ parsed x r
      → Ends (length (encode_span x)) (m ∷ s) x.text r
  unfolding encode_span size
  span_case true h =
      let et : [] ≡ x.text = cc in
      let er : s ≡ r = cc in
      ends_moved (ap (λ (t : List ℕ). suc (length (text_form (encode t)))) et) er et
      (record { after = one_after m s; has = zero-le; text = refl })
  span_case false h =
      let (t, q, e₁, h₁) = then_inv (text_at s) _ h in
      let et : t ≡ x.text = cc in
      let er : q ≡ r = cc in
      ends_moved (one_more et) er et
      (then_ends (one_after m s) (text_ends s e₁))

pub span_ends : (s : List ℕ) {x : Span} {r : List ℕ} → span_at s ≡ parsed x r → Ends (length (encode_span x)) s x.text r
unfolding span_at
span_ends [] h = not_failed h
span_ends (m ∷ s) {x} {r} h =
    let (_, h₁) = only_inv (leb 4 m) _ h in
    let (_, h₂) = only_inv (ltb m 16) _ h₁ in
    span_case m s (ltb m 8) h₂

pub spans_after : (n : ℕ) (s : List ℕ) {xs : List Span} {r : List ℕ} → spans_at n s ≡ parsed xs r → After (length (encode_spans xs)) s r
unfolding spans_at encode_spans
spans_after zero s {xs} {r} h =
    let e : [] ≡ xs = cc in
    let er : r ≡ s = cc in
    after_moved (ap (λ (l : List Span). length (encode_spans l)) e) refl (record { left = er; fits = zero-le })
spans_after (suc n) s {xs} {r} h =
    let (x, q, e₁, h₁) = then_inv (span_at s) _ h in
    let (ys, q', e₂, h₂) = then_inv (spans_at n q) _ h₁ in
    let e : x ∷ ys ≡ xs = cc in
    let er : q' ≡ r = cc in
    after_moved (sym (length-append (encode_span x) (encode_spans ys)) ∙ ap (λ (l : List Span). length (encode_spans l)) e) er
    (then_after (span_ends s e₁).after (spans_after n q e₂))

marker_ends : (d : ℕ) (s : List ℕ) {k : Kind} {r : List ℕ} → marker_at d s ≡ parsed k r → (cs : List ℕ) × (item d cs ≡ k) × Ends (1 + size cs) s cs r
unfolding marker_at
marker_ends d [] h = not_failed h
marker_ends d (n ∷ s) {k} {r} h =
    let (t, q, e₁, h₁) = then_inv (part n s) _ h in
    let (_, h₂) = only_inv (is_marker (chars t)) _ h₁ in
    let (en, z) = part_ends n s e₁ in
    let er : q ≡ r = cc in
    let ek : item d (chars t) ≡ k = cc in
    (chars t, ek, ends_moved (ap (λ (k : ℕ). 1 + k) (sym en)) er refl (then_ends (one_after n s) z))

-- the bytes of a block's map and of its kind's fields; where there is a marker, it stands last
abbrev pub kind_bytes : Kind → ℕ
kind_bytes (heading l) = 2
kind_bytes paragraph = 1
kind_bytes (item d m) = marker_from d + size m

KindEnds : ℕ → List ℕ → Kind → List ℕ → Type 0
KindEnds m s k r = Ends (kind_bytes k) (m ∷ s) (marker_of k) r

module _ (m : ℕ) where
  level_ends : (s : List ℕ) {k : Kind} {r : List ℕ} → level_at s ≡ parsed k r → KindEnds m s k r
  unfolding level_at KindEnds size
  level_ends [] h = not_failed h
  level_ends (l ∷ s) {k} {r} h =
      let (_, h₁) = only_inv (leb 1 l) _ h in
      let (_, h₂) = only_inv (leb l 3) _ h₁ in
      let ek : heading l ≡ k = cc in
      let er : r ≡ s = cc in
      subst (λ (k : Kind). KindEnds m (l ∷ s) k r) ek
      (record { after = record { left = er; fits = omega arith }; has = zero-le; text = refl })

  first_ends : (s : List ℕ) {k : Kind} {r : List ℕ} → marker_at 0 s ≡ parsed k r → KindEnds m s k r
  unfolding KindEnds
  first_ends s {k} {r} h =
      let (cs, ek, z) = marker_ends 0 s h in
      let n : 1 + (1 + size cs) ≡ 2 + size cs = omega arith in
      subst (λ (k : Kind). KindEnds m s k r) ek (ends_moved n refl refl (then_ends (one_after m s) z))

  item_ends : (s : List ℕ) {k : Kind} {r : List ℕ} → item_at s ≡ parsed k r → KindEnds m s k r
  unfolding item_at KindEnds
  item_ends s {k} {r} h =
      let (d, q, e₁, h₁) = then_inv (u16 s) _ h in
      let (l, h₂) = only_inv (leb 1 d) _ h₁ in
      let (cs, ek, z) = marker_ends d q h₂ in
      subst (λ (k : Kind). KindEnds m s k r) ek
      (ends_moved (deep d (size cs) (leb-true 1 d l)) refl refl (then_ends (one_after m s) (then_ends (u16_after s e₁) z)))
    where
      deep : (d n : ℕ) → 1 ≤ d → 1 + (2 + (1 + n)) ≡ marker_from d + n
      deep zero n l = absurd (omega arith)
      deep (suc d) n l = omega arith

  pub kind_ends : (b : ℕ) (s : List ℕ) {k : Kind} {r : List ℕ} → kind_at b s ≡ parsed k r → Ends (kind_bytes k) (m ∷ s) (marker_of k) r
  unfolding kind_at KindEnds size
  kind_ends b s {k} {r} h =
      ⊎_elim (λ i. let ek : paragraph ≡ k = cc i.1 in let er : r ≡ s = cc i.1 in
      subst (λ (k : Kind). KindEnds m s k r) ek (record { after = record { left = er; fits = omega arith }; has = zero-le; text = refl }))
      (λ i. ⊎_elim (λ j. level_ends s j.1)
      (λ j. ⊎_elim (λ o. first_ends s o.1)
      (λ o. let (_, g) = only_inv (eqb b 6) _ o.1 in item_ends s g)
      (cond_inv (eqb b 4) _ _ j.1))
      (cond_inv (eqb b 1) _ _ i.1))
      (cond_inv (eqb b 0) _ _ h)

-- the span count
pub count_after : (b : Bool) (s : List ℕ) {n : ℕ} {r : List ℕ} → count_at b s ≡ parsed n r → After (bit b 4) s r
unfolding count_at
count_after false s {n} {r} h = let e : r ≡ s = cc in record { left = e; fits = zero-le }
count_after true s {n} {r} h =
    let (k, q, e₁, h₁) = then_inv (u32 s) _ h in
    let (_, h₂) = only_inv (leb 1 k) _ h₁ in
    let e : q ≡ r = cc in
    after_moved refl e (u32_after s e₁)

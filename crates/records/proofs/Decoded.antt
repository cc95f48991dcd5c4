-- What decodes is well-formed, and encodes to the bytes that it was read from.
-- Assumes nothing.
use Prim.Native.Nat.{ℕ, zero, suc, ◌+◌, ◌*◌, ◌/◌, ◌%◌, ◌^◌, ◌<◌, ◌≤◌}
use native.Mathlib.Omega.{arith}
use mathlib.Core.Path.{◌≡◌, refl, sym, ap, ◌∙◌, subst, subst₂}
use mathlib.Core.Bool.{Bool, true, false, cond}
use mathlib.Core.Logic.{◌⊎◌, ⊎_elim, inl, inr}
use mathlib.Core.List.{List, [], ◌∷◌, ◌++◌, append_assoc}
use lib.ListN.{length, take, drop, take-append-drop}
use lib.Seq.{length-take-le}
use lib.Dec.{leb, ltb, eqb, lit<}
use native.Mathlib.Nat.{mul-zero, mul-one}
use borrow.Author.Tests.{leb-true, leb-false, ltb-true, ltb-false, eqb-true, le-leb, lt-leb, eq-eqb}
use Rattle.text.specs.Utf8.{Scalars, encode, size, chars, is_utf8}
use Rattle.text.proofs.Laws.{encode_chars, size_chars, utf8_scalars}
use Rattle.records.specs.Blocks.{Span, Kind, Block, item}
use Rattle.records.specs.Format.{le16, le32, non_empty, text_form, span_map, encode_span, encode_spans, encode_kind, encode_count, encode_block}
use Rattle.records.specs.Format.{kind_bits, bit, is_marker, WfSpan, WfSpans, WfKind, WfBlock}
use Rattle.records.specs.Decode.{Bytes, Parse, failed, parsed, ◌▹◌, only, u16, u32, part, text_at, span_of, span_at, spans_at}
use Rattle.records.specs.Decode.{level_at, marker_at, item_at, kind_at, count_at, Head, head_at, block_at}
use Rattle.records.proofs.FormatLaws.{text_some}

module _ {A : Type 0} {a : A} {r : List ℕ} where
  pub not_failed : {B : Type 0} → failed ≡ parsed a r → B
  not_failed h = let z : ◌≡◌ {A = ℕ} 0 1 = cc in absurd (omega arith)

  pub only_inv : (t : Bool) (p : Parse A) → only t p ≡ parsed a r → (t ≡ true) × (p ≡ parsed a r)
  only_inv true p h = (refl, h)
  only_inv false p h = not_failed h

  pub then_inv : {B : Type 0} (p : Parse B) (f : B → List ℕ → Parse A) → p ▹ f ≡ parsed a r
      → (b : B) × (q : List ℕ) × (p ≡ parsed b q) × (f b q ≡ parsed a r)
  then_inv failed f h = not_failed h
  then_inv (parsed b q) f h = (b, q, refl, h)

-- What reading a value off the front shows: the bytes are the value's and then the rest, and the value is well-formed
pub record Read {A : Type 0} (enc : A → List ℕ) (ok : A → Type 0) (s : List ℕ) (a : A) (r : List ℕ) : Type 0 where
  pub same : s ≡ enc a ++ r
  pub good : ok a
  pub left : Bytes r

digits4 : (a b c d n : ℕ) → a < 256 → b < 256 → c < 256 → d < 256 → a + 256 * b + 65536 * c + 16777216 * d ≡ n
    → (a ≡ n % 256) × (b ≡ n / 256 % 256) × (c ≡ n / 65536 % 256) × (d ≡ n / 16777216 % 256) × (n < 2 ^ 32)
digits4 a b c d n ha hb hc hd e = (omega arith, omega arith, omega arith, omega arith, omega arith)

u32_inv : (s : List ℕ) {n : ℕ} {r : List ℕ} → u32 s ≡ parsed n r → Bytes s → Read le32 (λ n. n < 2 ^ 32) s n r
unfolding u32
u32_inv [] h w = not_failed h
u32_inv (a ∷ []) h w = not_failed h
u32_inv (a ∷ b ∷ []) h w = not_failed h
u32_inv (a ∷ b ∷ c ∷ []) h w = not_failed h
u32_inv (a ∷ b ∷ c ∷ d ∷ s) {n} {r} h w =
    let v : a + 256 * b + 65536 * c + 16777216 * d ≡ n = cc in
    let e : s ≡ r = cc in
    let x = digits4 a b c d n w.0 w.1.0 w.1.1.0 w.1.1.1.0 v in
    record { same = cc (x.0, x.1, x.2, x.3); good = x.4; left = rw e at w.1.1.1.1 }

u16_inv : (s : List ℕ) {n : ℕ} {r : List ℕ} → u16 s ≡ parsed n r → Bytes s → Read le16 (λ n. n < 2 ^ 16) s n r
unfolding u16
u16_inv [] h w = not_failed h
u16_inv (a ∷ []) h w = not_failed h
u16_inv (a ∷ b ∷ s) {n} {r} h w =
    let v : a + 256 * b ≡ n = cc in
    let e : s ≡ r = cc in
    let ha : a < 256 = w.0 in
    let hb : b < 256 = w.1.0 in
    let x : a ≡ n % 256 = omega arith in
    let q : n / 256 ≡ b = omega arith in
    let y : b ≡ n / 256 % 256 = rw q (omega arith) in
    record { same = cc; good = omega arith; left = rw e at w.1.1 }

pub bytes_drop : (n : ℕ) (s : List ℕ) → Bytes s → Bytes (drop n s)
bytes_drop zero s w = w
bytes_drop (suc n) [] w = w
bytes_drop (suc n) (a ∷ s) w = bytes_drop n s w.1

part_inv : (n : ℕ) (s : List ℕ) {t r : List ℕ} → part n s ≡ parsed t r → Bytes s → Read (λ t. t) (λ t. length t ≡ n) s t r
unfolding part
part_inv n s {t} {r} h w =
    let i = only_inv (leb n (length s)) (parsed (take n s) (drop n s)) h in
    let p = i.1 in
    let et : take n s ≡ t = cc in
    let er : drop n s ≡ r = cc in
    record { same = rw (← et, ← er, take-append-drop); good = rw (← et) (length-take-le n s (leb-true n (length s) i.0)); left = rw er at (bytes_drop n s w) }

-- the bytes of a part are those of its characters
part_chars : (n : ℕ) (s : List ℕ) {t r : List ℕ} → part n s ≡ parsed t r → Bytes s → Read encode (λ cs. size cs ≡ n) s (chars t) r
part_chars n s {t} {r} h w =
    let x = part_inv n s h w in
    record {
      same = x.same ∙ ap (λ (l : List ℕ). l ++ r) (sym (encode_chars t));
      good = size_chars t ∙ x.good;
      left = x.left;
    }

has_some : (cs : List ℕ) → 1 ≤ size cs → non_empty cs ≡ true
unfolding size
has_some [] h = absurd (omega arith)
has_some (c ∷ cs) h = refl

TextOk : List ℕ → Type 0
TextOk cs = Scalars cs × (size cs < 2 ^ 32) × (1 ≤ size cs)

text_at_inv : (s : List ℕ) {cs r : List ℕ} → text_at s ≡ parsed cs r → Bytes s → Read (λ cs. text_form (encode cs)) TextOk s cs r
unfolding text_at TextOk
text_at_inv s {cs} {r} h w =
    let (n, q, e₁, h₂) = then_inv (u32 s) _ h in
    let (l, h₃) = only_inv (leb 1 n) _ h₂ in
    let (t, q', e₂, h₄) = then_inv (part n q) _ h₃ in
    let (u, h₅) = only_inv (is_utf8 t) _ h₄ in
    let x = u32_inv s e₁ w in
    let y = part_chars n q e₂ x.left in
    let et : chars t ≡ cs = cc in
    let er : q' ≡ r = cc in
    let en : size cs ≡ n = ap size (sym et) ∙ y.good in
    let ln : 1 ≤ n = leb-true 1 n l in
    let small : n < 2 ^ 32 = x.good in
    let some : 1 ≤ size cs = omega arith in
    let sq : s ≡ le32 n ++ (encode (chars t) ++ q') = x.same ∙ ap (λ (l : List ℕ). le32 n ++ l) y.same in
    let sn : s ≡ le32 (size cs) ++ (encode (chars t) ++ q') = sq ∙ ap (λ (k : ℕ). le32 k ++ (encode (chars t) ++ q')) (sym en) in
    let sc : s ≡ le32 (size cs) ++ (encode cs ++ q') = sn ∙ ap (λ (l : List ℕ). le32 (size cs) ++ (encode l ++ q')) et in
    let sm : s ≡ le32 (size cs) ++ (encode cs ++ r) = sc ∙ ap (λ (l : List ℕ). le32 (size cs) ++ (encode cs ++ l)) er in
    record { same = rw (text_some cs some).0 sm; good = (subst Scalars et (utf8_scalars t u), omega arith, some); left = subst Bytes er y.left }

pub moved : {A : Type 0} {enc : A → List ℕ} {ok : A → Type 0} {s : List ℕ} {a b : A} {q r : List ℕ} → parsed a q ≡ parsed b r → Read enc ok s a q → Read enc ok s b r
moved {enc = enc} {ok = ok} {s = s} h x = subst₂ (λ c l. Read enc ok s c l) (cc) (cc) x

bit_of : (d k : ℕ) → d < 2 → bit (eqb d 1) k ≡ k * d
bit_of zero k h = sym (mul-zero k)
bit_of (suc zero) k h = sym (mul-one k)
bit_of (suc (suc d)) k h = absurd (omega arith)

map_of : (m : ℕ) (t : Bool) → m < 16 → leb 8 m ≡ t → m ≡ span_map (eqb (m % 2) 1) (eqb (m / 2 % 2) 1) (eqb (m / 4 % 2) 1) t
map_of m t h e = rw (bit_of (m % 2) 1 (omega arith), bit_of (m / 2 % 2) 2 (omega arith), bit_of (m / 4 % 2) 4 (omega arith), ← e) (go (leb 8 m) refl)
  where
    half : m / 2 / 2 ≡ m / 4
    half = omega arith

    go : (b : Bool) → leb 8 m ≡ b → m ≡ 1 * (m % 2) + 2 * (m / 2 % 2) + 4 * (m / 4 % 2) + bit b 8
    go true e = let l : 8 ≤ m = leb-true 8 m e in let q : m / 4 / 2 ≡ 1 = omega arith in omega (arith, half)
    go false e = let l : m < 8 = leb-false 8 m e in let q : m / 4 / 2 ≡ 0 = omega arith in omega (arith, half)

span_inv : (m : ℕ) (s : List ℕ) (b : Bool) {x : Span} {r : List ℕ} → ltb m 8 ≡ b → 4 ≤ m → m < 16
    → cond b (parsed (span_of m []) s) (text_at s ▹ λ t q. parsed (span_of m t) q) ≡ parsed x r → Bytes s → Read encode_span WfSpan (m ∷ s) x r
unfolding TextOk encode_span size
span_inv m s true e lo hi h w =
    let l : m < 8 = ltb-true m 8 e in
    moved h (record {
      same = ap (λ (k : ℕ). k ∷ s) (map_of m false hi (lt-leb 8 m l));
      good = record { scalars = tt; bounded = lit< tt; shown = eq-eqb (m / 4 % 2) 1 (omega arith) };
      left = w;
    })
span_inv m s false e lo hi h w =
    let l : 8 ≤ m = ltb-false m 8 e in
    let (t, q, e₁, h₂) = then_inv (text_at s) _ h in
    let x = text_at_inv s e₁ w in
    let some : non_empty (encode t) ≡ true = (text_some t x.good.2).1 in
    moved h₂ (record {
      same = ap (λ (l : List ℕ). m ∷ l) x.same ∙ ap (λ (k : ℕ). k ∷ (text_form (encode t) ++ q)) (map_of m (non_empty (encode t)) hi (le-leb 8 m l ∙ sym some));
      good = record { scalars = x.good.0; bounded = x.good.1; shown = rw (has_some t x.good.2) };
      left = x.left;
    })

pub span_at_inv : (s : List ℕ) {x : Span} {r : List ℕ} → span_at s ≡ parsed x r → Bytes s → Read encode_span WfSpan s x r
unfolding span_at
span_at_inv [] h w = not_failed h
span_at_inv (m ∷ s) h w =
    let (lo, h₁) = only_inv (leb 4 m) _ h in
    let (hi, h₂) = only_inv (ltb m 16) _ h₁ in
    span_inv m s (ltb m 8) refl (leb-true 4 m lo) (ltb-true m 16 hi) h₂ w.1

pub spans_at_inv : (n : ℕ) (s : List ℕ) {xs : List Span} {r : List ℕ} → spans_at n s ≡ parsed xs r → Bytes s → Read encode_spans (λ xs. WfSpans xs × (length xs ≡ n)) s xs r
unfolding spans_at encode_spans
spans_at_inv zero s h w = moved h (record { same = refl; good = (tt, refl); left = w })
spans_at_inv (suc n) s h w =
    let (x, q, e₁, h₁) = then_inv (span_at s) _ h in
    let (xs, q', e₂, h₂) = then_inv (spans_at n q) _ h₁ in
    let y = span_at_inv s e₁ w in
    let z = spans_at_inv n q e₂ y.left in
    moved h₂ (record {
      same = y.same ∙ ap (λ (l : List ℕ). encode_span x ++ l) z.same ∙ sym (append_assoc (encode_span x) (encode_spans xs) q');
      good = ((y.good, z.good.0), ap suc z.good.1);
      left = z.left;
    })

pub cond_inv : {A : Type 0} {a : A} {r : List ℕ} (t : Bool) (p q : Parse A) → cond t p q ≡ parsed a r → ((t ≡ true) × (p ≡ parsed a r)) ⊎ ((t ≡ false) × (q ≡ parsed a r))
cond_inv true p q h = inl (refl, h)
cond_inv false p q h = inr (refl, h)

KindOk : ℕ → Kind → Type 0
KindOk m k = WfKind k × (kind_bits k ≡ m)

level_inv : (s : List ℕ) {k : Kind} {r : List ℕ} → level_at s ≡ parsed k r → Bytes s → Read encode_kind (KindOk 1) s k r
unfolding level_at KindOk
level_inv [] h w = not_failed h
level_inv (l ∷ s) h w =
    let (lo, h₁) = only_inv (leb 1 l) _ h in
    let (hi, h₂) = only_inv (leb l 3) _ h₁ in
    moved h₂ (record { same = refl; good = ((leb-true 1 l lo, leb-true l 3 hi), refl); left = w.1 })

-- an item's marker, with the bytes `pre` of its depth before it
marker_inv : (d n : ℕ) (pre s : List ℕ) {k : Kind} {r : List ℕ} → ((t : List ℕ) → (encode_kind (item d t) ≡ pre ++ size t ∷ encode t) × (kind_bits (item d t) ≡ n)) → d < 2 ^ 16
    → marker_at d s ≡ parsed k r → Bytes s → Read encode_kind (KindOk n) (pre ++ s) k r
unfolding marker_at KindOk
marker_inv d n pre [] f small h w = not_failed h
marker_inv d n pre (a ∷ s) f small h w =
    let (t, q, e₁, h₁) = then_inv (part a s) _ h in
    let (u, h₂) = only_inv (is_marker (chars t)) _ h₁ in
    let x = part_chars a s e₁ w.1 in
    let e : a ∷ s ≡ (size (chars t) ∷ encode (chars t)) ++ q = ap (λ (l : List ℕ). a ∷ l) x.same ∙ ap (λ (k : ℕ). k ∷ (encode (chars t) ++ q)) (sym x.good) in
    moved h₂ (record {
      same = ap (λ (l : List ℕ). pre ++ l) e ∙ sym (append_assoc pre (size (chars t) ∷ encode (chars t)) q) ∙ ap (λ (l : List ℕ). l ++ q) (sym (f (chars t)).0);
      good = ((small, u), (f (chars t)).1);
      left = x.left;
    })

item_inv : (s : List ℕ) {k : Kind} {r : List ℕ} → item_at s ≡ parsed k r → Bytes s → Read encode_kind (KindOk 6) s k r
unfolding item_at
item_inv s {k} {r} h w =
    let (d, q, e₁, h₁) = then_inv (u16 s) _ h in
    let (lo, h₂) = only_inv (leb 1 d) _ h₁ in
    let x = u16_inv s e₁ w in
    deep d (leb-true 1 d lo) s q x.same x.good h₂ x.left
  where
    deep : (d : ℕ) → 1 ≤ d → (s q : List ℕ) → s ≡ le16 d ++ q → d < 2 ^ 16 → marker_at d q ≡ parsed k r → Bytes q → Read encode_kind (KindOk 6) s k r
    deep zero l s q e small h w = absurd (omega arith)
    deep (suc d) l s q e small h w = rw e (marker_inv (suc d) 6 (le16 (suc d)) q (λ t. (refl, refl)) small h w)

kind_inv : (m : ℕ) (s : List ℕ) {k : Kind} {r : List ℕ} → kind_at m s ≡ parsed k r → Bytes s → Read encode_kind (KindOk m) s k r
unfolding kind_at KindOk
kind_inv m s {k} {r} h w =
    ⊎_elim (λ i. moved i.1 (record { same = refl; good = (tt, sym (eqb-true m 0 i.0)); left = w }))
    (λ i. ⊎_elim (λ j. is 1 (eqb-true m 1 j.0) (level_inv s j.1 w))
    (λ j. ⊎_elim (λ o. is 4 (eqb-true m 4 o.0) (marker_inv 0 4 [] s (λ t. (refl, refl)) (lit< tt) o.1 w))
    (λ o. let (e, g) = only_inv (eqb m 6) _ o.1 in is 6 (eqb-true m 6 e) (item_inv s g w))
    (cond_inv (eqb m 4) _ _ j.1))
    (cond_inv (eqb m 1) _ _ i.1))
    (cond_inv (eqb m 0) _ _ h)
  where
    is : (n : ℕ) → m ≡ n → Read encode_kind (KindOk n) s k r → Read encode_kind (KindOk m) s k r
    is n e x = rw e x

count_inv : (b : Bool) (s : List ℕ) {n : ℕ} {r : List ℕ} → count_at b s ≡ parsed n r → Bytes s → Read encode_count (λ n. (n < 2 ^ 32) × (leb 1 n ≡ b)) s n r
unfolding count_at
count_inv false s h w = moved h (record { same = refl; good = (lit< tt, refl); left = w })
count_inv true s h w =
    let (n, q, e, h₁) = then_inv (u32 s) _ h in
    let (lo, h₂) = only_inv (leb 1 n) _ h₁ in
    let x = u32_inv s e w in
    moved h₂ (record { same = x.same ∙ ap (λ (l : List ℕ). l ++ q) (some n (leb-true 1 n lo)); good = (x.good, lo); left = x.left })
  where
    some : (n : ℕ) → 1 ≤ n → le32 n ≡ encode_count n
    some zero l = absurd (omega arith)
    some (suc n) l = refl

encode_head : Head → List ℕ
encode_head h = (kind_bits h.kind + bit (leb 1 h.count) 8) ∷ (encode_kind h.kind ++ encode_count h.count)

map_back : (m n : ℕ) (b : Bool) → m < 16 → n ≡ m % 8 → leb 8 m ≡ b → m ≡ n + bit b 8
map_back m n true h e p = let l : 8 ≤ m = leb-true 8 m p in omega arith
map_back m n false h e p = let l : m < 8 = leb-false 8 m p in omega arith

head_inv : (s : List ℕ) {h : Head} {r : List ℕ} → head_at s ≡ parsed h r → Bytes s → Read encode_head (λ h. WfKind h.kind × (h.count < 2 ^ 32)) s h r
unfolding head_at encode_head KindOk
head_inv [] h w = not_failed h
head_inv (m ∷ s) h w =
    let (hi, h₁) = only_inv (ltb m 16) _ h in
    let (k, q, e₁, h₂) = then_inv (kind_at (m % 8) s) _ h₁ in
    let (n, q', e₂, h₃) = then_inv (count_at (leb 8 m) q) _ h₂ in
    let x = kind_inv (m % 8) s e₁ w.1 in
    let y = count_inv (leb 8 m) q e₂ x.left in
    let e : m ≡ kind_bits k + bit (leb 1 n) 8 = map_back m (kind_bits k) (leb 1 n) (ltb-true m 16 hi) x.good.1 (sym y.good.1) in
    moved h₃ (record {
      same = ap (λ (l : List ℕ). m ∷ l) (x.same ∙ ap (λ (l : List ℕ). encode_kind k ++ l) y.same ∙ sym (append_assoc (encode_kind k) (encode_count n) q'))
          ∙ ap (λ (a : ℕ). a ∷ (encode_kind k ++ encode_count n ++ q')) e;
      good = (x.good.0, y.good.0);
      left = y.left;
    })

some_leb : {A : Type 0} (xs : List A) → leb 1 (length xs) ≡ non_empty xs
some_leb [] = refl
some_leb (x ∷ xs) = le-leb 1 (length (x ∷ xs)) (omega arith)

joined : (h : Head) (xs : List Span) (s q r : List ℕ) → length xs ≡ h.count → s ≡ encode_head h ++ q → q ≡ encode_spans xs ++ r
    → s ≡ encode_block (record { kind = h.kind; spans = xs }) ++ r
unfolding encode_head encode_block
joined h xs s q r n e f = rw (← some_leb xs, n, append_assoc (encode_kind h.kind ++ encode_count h.count) (encode_spans xs) r, ← f) e

-- what decodes is a block's record
pub block_inv : (s : List ℕ) {b : Block} {r : List ℕ} → block_at s ≡ parsed b r → Bytes s → Read encode_block WfBlock s b r
unfolding block_at
block_inv s h w =
    let (g, q, e₁, h₁) = then_inv (head_at s) _ h in
    let (xs, q', e₂, h₂) = then_inv (spans_at g.count q) _ h₁ in
    let x = head_inv s e₁ w in
    let y = spans_at_inv g.count q e₂ x.left in
    moved h₂ (record {
      same = joined g xs s q q' y.good.1 x.same y.same;
      good = record { kind = x.good.0; spans = y.good.0; bounded = rw y.good.1 x.good.1 };
      left = y.left;
    })

-- What the walker's answers follow from.
-- Assumes nothing.
use Prim.Native.Nat.{ℕ, zero, suc, ◌+◌, ◌-◌, ◌<◌, ◌≤◌, zero-le}
use native.Mathlib.Omega.{arith}
use mathlib.Core.Path.{◌≡◌, refl, sym, ap, subst, ◌∙◌}
use mathlib.Core.List.{List, [], ◌∷◌}
use lib.ListN.{length, drop, length-drop, drop_of_length-le}
use borrow.Author.Tests.{eq-eqb, ne_eqb}
use Rattle.std.specs.Prelude.{Some, None, Ok, Err, IsErr}
use Rattle.std.specs.Prelude as code
use Rattle.std.specs.Borrow.{Bor}
use Rattle.text.specs.Utf8.{size, chars}
use Rattle.text.specs.Part.{between, Inside}
use Rattle.text.specs.declared.parts.Part.{Part}
use Rattle.records.specs.Blocks.{Span}
use Rattle.records.specs.Format.{encode_span, encode_spans}
use Rattle.records.specs.Decode.{failed, parsed, span_at, spans_at, block_at}
use Rattle.walker.specs.Answers.{Answer, at_end, refused, gives, map, level_of, depth_of, emphasis_of, found_at, block_answer, nth, span_in, span_answer}
use Rattle.walker.specs.Places.{nowhere, range_or_none, marker_from, marker_range, marker_place, span_from, text_range, text_place, first_answer, here_answer}
use Rattle.walker.specs.Numbers.{answered, level_in, depth_in, values_in, emphasis_in, here_values}
use Rattle.walker.specs.declared.cursor.Cursor.{Cursor}
use Rattle.walker.specs.Readers.{left, SpanIs, span_of, text_in, rest, kind_of, marker_placed, Found, BlockIs, NthIs}
use Rattle.walker.specs.declared.blocks.Broken.{Broken}
use Rattle.walker.specs.declared.blocks.Kind as K
use Rattle.walker.specs.declared.blocks.Kind.TheVariants as KV
use Rattle.walker.specs.declared.blocks.Span as S
use Rattle.walker.specs.declared.reader.Whole.{Whole}
use Rattle.walker.proofs.Spans.{rest_next, between_size}
use Rattle.walker.proofs.Placed.{After, after_length, then_after, span_ends, spans_after}
use Rattle.records.proofs.Decoded.{not_failed, then_inv}
use Rattle.records.proofs.DecodeSteps.{nothing_there}
use Rattle.walker.proofs.BlockLaws.{same_left, spans_count}

-- a place in the records is known by its two ends
pub two_ends : {a b c d : ℕ} → a ≡ b → c ≡ d → ◌≡◌ {A = Part} (record { start = a; end = c }) (record { start = b; end = d })
two_ends p q = rw (p, q)

text_range_is : (s : List ℕ) {start end e : ℕ} → Inside s start end → e ≡ end
    → text_range e (chars (between s start end)) ≡ record { start = start; end = end }
text_range_is s {start} {end} {e} w q =
    let n : size (chars (between s start end)) ≡ end - start = between_size s start end w in
    let l : start ≤ end = w.order in
    two_ends (omega arith) q

-- what a span's bytes leave up to the next block
ends_before : (s : List ℕ) {j end next : ℕ} → end ≤ length s → next ≤ length s → After j (drop end s) (drop next s) → next - j ≡ end
ends_before s {j} {end} {next} h k a = omega (arith, after_length a, length-drop end s, length-drop next s)

-- the block at an offset
module _ (s : List ℕ) (at : ℕ) where
  pub found_end : at ≡ length s → found_at s at ≡ at_end
  unfolding found_at
  found_end h = rw (eq-eqb at (length s) h)

  pub found_none : (at ≡ length s → ⊥) → block_at (drop at s) ≡ failed → found_at s at ≡ refused 7
  unfolding found_at
  found_none h e = rw (ne_eqb at (length s) h, e)

  module _ {w : Whole} (f : Found s at w) where
    -- no block stands at the end
    before_end : at ≡ length s → ⊥
    before_end h =
        let l : length s ≤ at = omega arith in
        not_failed (sym (ap block_at (drop_of_length-le s l) ∙ nothing_there) ∙ f.block)

    pub found_is : found_at s at ≡ gives ((record { kind = kind_of s w.block.kind w.marker; spans = f.xs }), w.block.next)
    unfolding found_at
    found_is =
        let b : w.block.next ≤ length s = f.within in
        let l : length s - (length s - w.block.next) ≡ w.block.next = omega arith in
        rw (ne_eqb at (length s) before_end, f.block, length-drop w.block.next s, l)

  level_same : (k : K.Kind) (m : Part) → level_of (kind_of s k m) ≡ level_in k
  level_same (KV.Heading l) m = refl
  level_same KV.Paragraph m = refl
  level_same (KV.Item d) m = refl

  depth_same : (k : K.Kind) (m : Part) → depth_of (kind_of s k m) ≡ depth_in k
  depth_same (KV.Heading l) m = refl
  depth_same KV.Paragraph m = refl
  depth_same (KV.Item d) m = refl

  -- a marker is where the reader found it
  marker_same : (k : K.Kind) (m : Part) → marker_placed s at k m → m ≡ marker_range at (kind_of s k m)
  marker_same (KV.Heading l) m p = p
  marker_same KV.Paragraph m p = p
  marker_same (KV.Item d) m (w, p) =
      let n : size (text_in s m) ≡ m.end - m.start = between_size s m.start m.end w in
      let l : m.start ≤ m.end = w.order in
      let q : m.end ≡ at + marker_from d + size (text_in s m) = omega arith in
      two_ends p q

  -- what the calls say of the reader's answer
  pub block_is : (r : code.Result (code.Option Whole) Broken) → BlockIs s at r → answered (λ w. values_in w.block) r ≡ block_answer s at
  unfolding block_answer
  block_is (Ok (Some w)) f = rw (found_is f, level_same w.block.kind w.marker, depth_same w.block.kind w.marker, spans_count w.block.count (drop w.first s) f.spans)
  block_is (Ok None) h = rw (found_end h)
  block_is (Err e) (h, f) = rw (found_none h f)

  pub first_is : (r : code.Result (code.Option Whole) Broken) → BlockIs s at r → answered (λ w. w.first) r ≡ first_answer s at
  unfolding first_answer
  first_is (Ok (Some w)) f =
      let e : w.block.next - length (encode_spans f.xs) ≡ w.first = ends_before s f.starts f.within (spans_after w.block.count (drop w.first s) f.spans) in
      rw (found_is f, e)
  first_is (Ok None) h = rw (found_end h)
  first_is (Err e) (h, f) = rw (found_none h f)

  abbrev pub marker_in : code.Result (code.Option Whole) Broken → Part
  marker_in (Ok (Some w)) = w.marker
  marker_in (Ok None) = nowhere
  marker_in (Err e) = nowhere

  pub marker_is : (r : code.Result (code.Option Whole) Broken) → BlockIs s at r → marker_in r ≡ marker_place s at
  unfolding marker_place
  marker_is (Ok (Some w)) f = rw (found_is f) (marker_same w.block.kind w.marker f.placed)
  marker_is (Ok None) h = rw (found_end h)
  marker_is (Err e) (h, f) = rw (found_none h f)

-- a span that a cursor over s read: what stands there, and where
pub record Stood (s t : List ℕ) (x : S.Span) : Type 0 where
  pub read : span_at t ≡ parsed (span_of s x) (drop x.next s)
  pub within : Inside s x.text.start x.text.end
  pub next : x.next ≡ x.text.end

pub stood : (s : Bor (List ℕ)) (t : List ℕ) (d : Cursor) {x : S.Span} → SpanIs (span_at t) s d (Ok x) → Stood s.now t x
stood s t d {x} (e, (m, l), (o, f, g)) =
    let k : d.at ≤ length s.now = rw m at l in
    let i : span_at t ≡ parsed (span_of s.now x) (drop d.at s.now) = rw m at e in
    record {
      read = rw g i;
      within = record { order = o; bound = omega arith };
      next = g ∙ sym f;
    }

-- a span by its own offset
pub here_is : (s : Bor (List ℕ)) (at : ℕ) (d : Cursor) (r : code.Result S.Span Broken) → SpanIs (span_at (drop at s.now)) s d r → here_values r ≡ here_answer s.now at
unfolding here_answer
here_is s at d (Ok x) h =
    let v = stood s (drop at s.now) d h in
    let l : x.text.end ≤ length s.now = v.within.bound in
    let n : length s.now - length (drop x.next s.now) ≡ x.next = omega (arith, length-drop x.next s.now, v.next) in
    rw (v.read, n, text_range_is s.now v.within v.next)
here_is s at d (Err e) h = rw h

pub here_past : (s : List ℕ) (at : ℕ) → length s < at → refused 7 ≡ here_answer s at
unfolding here_answer span_at
here_past s at h = let l : length s ≤ at = omega arith in rw (drop_of_length-le s l)

-- Span n, where n spans were passed over
pub record Split (xs : List Span) (n : ℕ) (t q : List ℕ) : Type 0 where
  pub x : Span
  pub from : List ℕ
  pub to : List ℕ
  pub passed : rest (spans_at n t) ≡ parsed tt from
  pub read : span_at from ≡ parsed x to
  pub is : nth xs n ≡ gives x
  pub size : ℕ
  pub before : After size t from
  pub behind : After (length (encode_spans (drop (suc n) xs))) to q

split_moved : {xs ys : List Span} {n : ℕ} {t q r : List ℕ} → xs ≡ ys → q ≡ r → Split xs n t q → Split ys n t r
split_moved e f z = rw (← e, ← f) z

none_after : (t : List ℕ) → After 0 t t
none_after t = record { left = refl; fits = zero-le }

pub split : (m : ℕ) (t : List ℕ) {xs : List Span} {q : List ℕ} → spans_at m t ≡ parsed xs q → (n : ℕ) → n < m → Split xs n t q
unfolding spans_at
split zero t h n l = absurd (omega arith)
split (suc m) t {xs} {q} h zero l =
    let (x, r, e₁, h₁) = then_inv (span_at t) _ h in
    let (ys, r', e₂, h₂) = then_inv (spans_at m r) _ h₁ in
    let e : x ∷ ys ≡ xs = cc in
    let er : r' ≡ q = cc in
    split_moved e er (record { x = x; from = t; to = r; passed = refl; read = e₁; is = refl; size = 0; before = none_after t; behind = spans_after m r e₂ })
split (suc m) t {xs} {q} h (suc n) l =
    let (x, r, e₁, h₁) = then_inv (span_at t) _ h in
    let (ys, r', e₂, h₂) = then_inv (spans_at m r) _ h₁ in
    let e : x ∷ ys ≡ xs = cc in
    let er : r' ≡ q = cc in
    let z = split m r e₂ n (omega arith) in
    split_moved e er (record {
      x = z.x;
      from = z.from;
      to = z.to;
      passed = rest_next t n e₁ ∙ z.passed;
      read = z.read;
      is = z.is;
      size = length (encode_span x) + z.size;
      before = then_after (span_ends t e₁).after z.before;
      behind = z.behind;
    })

pub nth_over : (xs : List Span) (n : ℕ) → length xs ≤ n → nth xs n ≡ at_end
nth_over [] n l = refl
nth_over (x ∷ xs) zero l = absurd (omega arith)
nth_over (x ∷ xs) (suc n) l = nth_over xs n (omega arith)

module _ (s : List ℕ) (at n : ℕ) where
  pub nth_end : at ≡ length s → NthIs s at n (Ok None)
  unfolding span_in text_place
  nth_end h = (rw (found_end s at h), rw (found_end s at h))

  pub nth_none : {e : Broken} → (at ≡ length s → ⊥) × (block_at (drop at s) ≡ failed) → NthIs s at n (Err e)
  unfolding span_in text_place
  nth_none (h, e) = (rw (found_none s at h e), rw (found_none s at h e))

  module _ {w : Whole} (f : Found s at w) where
    abbrev at_nth : Answer Span → Part
    at_nth = range_or_none (λ x. text_range (span_from f.xs w.block.next (suc n)) x.text)

    nth_in : {a : Answer Span} → nth f.xs n ≡ a → (span_in s at n ≡ a) × (text_place s at n ≡ at_nth a)
    unfolding span_in text_place
    nth_in e = (rw (found_is s at f) e, rw (found_is s at f) (ap at_nth e))

    pub nth_past : w.block.count ≤ n → NthIs s at n (Ok None)
    nth_past l =
        nth_in (nth_over f.xs n (rw (spans_count w.block.count (drop w.first s) f.spans) l))

    module _ (l : n < w.block.count) where
      here : Split f.xs n (drop w.first s) (drop w.block.next s)
      here = split w.block.count (drop w.first s) f.spans n l

      -- the spans before it were read with the block
      pub nth_cut : {e : Broken} → rest (spans_at n (drop w.first s)) ≡ failed → NthIs s at n (Err e)
      nth_cut x = not_failed (sym x ∙ here.passed)

      module _ (p : ℕ) (x : rest (spans_at n (drop w.first s)) ≡ parsed tt (drop p s)) where
        there : span_at (drop p s) ≡ parsed here.x here.to
        there =
            let a : parsed tt (drop p s) ≡ parsed tt here.from = sym x ∙ here.passed in
            let b : drop p s ≡ here.from = cc in
            ap span_at b ∙ here.read

        pub nth_wrong : {e : Broken} → span_at (drop p s) ≡ failed → NthIs s at n (Err e)
        nth_wrong y = not_failed (sym y ∙ there)

        pub nth_is : {z : S.Span} → Stood s (drop p s) z → NthIs s at n (Ok (Some z))
        nth_is {z} y =
            let v = y.within in
            let g = y.next in
            let a = sym there ∙ y.read in
            let o : here.x ≡ span_of s z = cc in
            let t : here.to ≡ drop z.next s = cc in
            let j = length (encode_spans (drop (suc n) f.xs)) in
            let b : After j (drop z.next s) (drop w.block.next s) = subst (λ (l : List ℕ). After j l (drop w.block.next s)) t here.behind in
            let m : z.text.end ≤ length s = v.bound in
            let q : w.block.next - j ≡ z.next = ends_before s (omega arith) f.within b in
            let (u, r) = nth_in (here.is ∙ ap gives o) in
            (u, r ∙ text_range_is s v (q ∙ g))

  -- a refusal that was passed on
  pub refused_as : (r : code.Result (code.Option S.Span) Broken) → IsErr r → ((e : Broken) → NthIs s at n (Err e)) → NthIs s at n r
  refused_as (Ok o) h f = cc h
  refused_as (Err e) h f = f e

  -- what the calls say of its answer
  pub span_is : (r : code.Result (code.Option S.Span) Broken) → NthIs s at n r → answered (λ x. emphasis_in x.emphasis) r ≡ span_answer s at n
  unfolding span_answer
  span_is (Ok (Some x)) (e, _) = sym (ap (map emphasis_of) e)
  span_is (Ok None) (e, _) = sym (ap (map emphasis_of) e)
  span_is (Err b) (e, _) = sym (ap (map emphasis_of) e)

-- after n spans that a cursor passed over, up to d
module _ {s : Bor (List ℕ)} (at n : ℕ) {w : Whole} (f : Found s.now at w) (l : n < w.block.count) (d : Cursor)
    (x : (rest (spans_at n (drop w.first s.now)) ≡ parsed tt (left d)) × ((d.bytes ≡ s) × (d.at ≤ length d.bytes.now)) × Unit {0}) where
  passed : rest (spans_at n (drop w.first s.now)) ≡ parsed tt (drop d.at s.now)
  passed = x.0 ∙ ap (parsed tt) (same_left d x.1.0)

  pub then_wrong : {e : Broken} → span_at (left d) ≡ failed → NthIs s.now at n (Err e)
  then_wrong y = nth_wrong s.now at n f l d.at passed (ap span_at (sym (same_left d x.1.0)) ∙ y)

  pub then_is : (d' : Cursor) {z : S.Span} → SpanIs (span_at (left d)) d.bytes d' (Ok z) → NthIs s.now at n (Ok (Some z))
  then_is d' {z} y = nth_is s.now at n f l d.at passed (stood s (drop d.at s.now) d' (rw x.1.0 at y))

-- where no span is answered there is no text
pub text_none : (s : List ℕ) (at n : ℕ) {r : code.Result (code.Option S.Span) Broken} → NthIs s at n r → ((x : S.Span) → r ≡ Ok (Some x) → ⊥)
    → nowhere ≡ text_place s at n
text_none s at n {r} h other = by_case r h other
  where
    by_case : (q : code.Result (code.Option S.Span) Broken) → NthIs s at n q → ((x : S.Span) → q ≡ Ok (Some x) → ⊥) → nowhere ≡ text_place s at n
    by_case (Ok (Some x)) g absent = absurd (absent x refl)
    by_case (Ok None) g absent = sym g.1
    by_case (Err e) g absent = sym g.1

-- a block that is no item has no marker
pub marker_none : (s : List ℕ) (at : ℕ) {w : Whole} → Found s at w → ((d : ℕ) → w.block.kind ≡ KV.Item d → ⊥) → nowhere ≡ marker_place s at
unfolding marker_place
marker_none s at {w} f other = rw (found_is s at f) (by_kind w.block.kind w.marker other)
  where
    by_kind : (k : K.Kind) (m : Part) → ((d : ℕ) → k ≡ KV.Item d → ⊥) → nowhere ≡ marker_range at (kind_of s k m)
    by_kind (KV.Heading l) m absent = refl
    by_kind KV.Paragraph m absent = refl
    by_kind (KV.Item d) m absent = absurd (absent d refl)

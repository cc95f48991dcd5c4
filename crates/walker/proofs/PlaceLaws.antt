-- The places of the definitions hold the texts: what stands at `marker_place` and `text_place` are the bytes of the marker and of the span's text.
-- Assumes nothing.
use Prim.Native.Nat.{ℕ, zero, suc, ◌+◌, ◌-◌, ◌%◌, ◌<◌, ◌≤◌, zero-le}
use native.Mathlib.Omega.{arith}
use mathlib.Core.Path.{◌≡◌, refl, sym, ap, ◌∙◌}
use mathlib.Core.Bool.{Bool, true, false, cond}
use mathlib.Core.List.{List, [], ◌∷◌}
use lib.ListN.{length, drop, length-append, drop_of_length-le}
use lib.Dec.{leb, ltb, eqb}
use borrow.Author.Tests.{leb-true, leb-false, ltb-true, ltb-false}
use Rattle.text.specs.Utf8.{encode, size}
use Rattle.records.specs.Blocks.{Span, Kind, heading, paragraph, item, Block}
use Rattle.records.specs.Format.{encode_span, encode_spans, bit}
use Rattle.records.specs.Decode.{Parse, failed, parsed, span_at, spans_at, kind_at, count_at, head_at, block_at}
use Rattle.walker.specs.Answers.{Answer, at_end, refused, gives, map, placed, found_at, marker_of, text_or_none, marker_answer, nth, nth_of, span_in, text_answer}
use Rattle.walker.specs.Places.{nowhere, range_or_none, marker_from, marker_range, marker_place, span_from, text_range, nth_range, text_place, HereValues, here_values_of, here_answer}
use Rattle.text.specs.Part.{between, Inside}
use Rattle.text.specs.declared.parts.Part.{Part}
use Rattle.records.proofs.Decoded.{not_failed, only_inv, then_inv}
use Rattle.records.proofs.DecodeSteps.{nothing_there}
use Rattle.walker.proofs.Placed.{After, Ends, after_length, then_after, then_ends, kind_bytes, kind_ends, count_after, span_ends}
use Rattle.walker.proofs.BlockLaws.{spans_count}
use Rattle.walker.proofs.WalkerLaws.{split, nth_over}

-- a place inside the records, with the bytes of a text
pub record Holds (s : List ℕ) (r : Part) (cs : List ℕ) : Type 0 where
  pub within : Inside s r.start r.end
  pub bytes : between s r.start r.end ≡ encode cs

holds_none : (s : List ℕ) → Holds s nowhere []
holds_none s = record { within = record { order = zero-le; bound = zero-le }; bytes = refl }

holds_ends : {k : ℕ} {s cs r : List ℕ} (start end : ℕ) → end ≡ k → start + size cs ≡ k → Ends k s cs r → Holds s (record { start = start; end = end }) cs
holds_ends {k} {s} {cs} start end e f z =
    let l : k ≤ length s = z.after.fits in
    let a : end - start ≡ size cs = omega arith in
    let b : start ≡ k - size cs = omega arith in
    record { within = record { order = omega arith; bound = omega arith }; bytes = rw (a, b) z.text }

-- a text with j bytes behind it up to the offset next
holds_text : {k j : ℕ} {s cs r q : List ℕ} (next : ℕ) → next ≡ length s - length q → Ends k s cs r → After j r q → Holds s (text_range (next - j) cs) cs
holds_text {k} {j} {s} {cs} {r} {q} next e z a =
    let m = after_length z.after in
    let l = after_length a in
    let h : size cs ≤ k = z.has in
    let n : next - j ≡ k = omega arith in
    holds_ends (next - j - size cs) (next - j) n (omega arith) z

-- a block that was read: its map byte, the fields of its kind, its count and its spans
record Opened (t : List ℕ) (b : Block) (q : List ℕ) : Type 0 where
  kind : List ℕ
  fields : Ends (kind_bytes b.kind) t (marker_of b.kind) kind
  first : List ℕ
  size : ℕ
  before : After size t first
  count : ℕ
  spans : spans_at count first ≡ parsed b.spans q

opened_moved : {t : List ℕ} {b c : Block} {q r : List ℕ} → b ≡ c → q ≡ r → Opened t b q → Opened t c r
opened_moved e f z = rw (← e, ← f) z

opened : (t : List ℕ) {b : Block} {q : List ℕ} → block_at t ≡ parsed b q → Opened t b q
unfolding block_at head_at
opened [] h = not_failed h
opened (m ∷ t) {b} {q} h =
    let (g, r, e₁, h₁) = then_inv (head_at (m ∷ t)) _ h in
    let (xs, r', e₂, h₂) = then_inv (spans_at g.count r) _ h₁ in
    let (_, g₁) = only_inv (ltb m 16) _ e₁ in
    let (k, u, e₃, g₂) = then_inv (kind_at (m % 8) t) _ g₁ in
    let (n, v, e₄, g₃) = then_inv (count_at (leb 8 m) u) _ g₂ in
    let eb : record { kind = k; spans = xs } ≡ b = cc in
    let eq : r' ≡ q = cc in
    let ev : v ≡ r = cc in
    let z = kind_ends m (m % 8) t e₃ in
    opened_moved eb eq
    (record {
      kind = u;
      fields = z;
      first = v;
      size = kind_bytes k + bit (leb 8 m) 4;
      before = then_after z.after (count_after (leb 8 m) u e₄);
      count = g.count;
      spans = ap (spans_at g.count) ev ∙ e₂;
    })

-- a block that was found: where it stands
record At (s : List ℕ) (at : ℕ) (f : Block × ℕ) : Type 0 where
  q : List ℕ
  inside : After at s (drop at s)
  is : Opened (drop at s) f.0 q
  next : f.1 ≡ length s - length q

placed_inv : (n : ℕ) (p : Parse Block) {f : Block × ℕ} → placed n p ≡ gives f → (q : List ℕ) × (p ≡ parsed f.0 q) × (f.1 ≡ n - length q)
placed_inv n failed h = let z : ◌≡◌ {A = ℕ} 0 1 = cc in absurd (omega arith)
placed_inv n (parsed b q) {f} h =
    let e : (b, n - length q) ≡ f = cc in
    (q, ap (λ (g : Block × ℕ). parsed g.0 q) e, ap (λ (g : Block × ℕ). g.1) (sym e))

found_inv : (s : List ℕ) (at : ℕ) {f : Block × ℕ} → found_at s at ≡ gives f → At s at f
unfolding found_at
found_inv s at {f} h =
    let (q, e, n) = placed_inv (length s) (block_at (drop at s)) (there (eqb at (length s)) h) in
    record { q = q; inside = record { left = refl; fits = within (leb at (length s)) refl e }; is = opened (drop at s) e; next = n }
  where
    there : (b : Bool) → cond b at_end (placed (length s) (block_at (drop at s))) ≡ gives f → placed (length s) (block_at (drop at s)) ≡ gives f
    there true h = let z : ◌≡◌ {A = ℕ} 0 1 = cc in absurd (omega arith)
    there false h = h

    within : (b : Bool) → leb at (length s) ≡ b → {q : List ℕ} → block_at (drop at s) ≡ parsed f.0 q → at ≤ length s
    within true t e = leb-true at (length s) t
    within false t e =
        let l : length s < at = leb-false at (length s) t in
        let m : length s ≤ at = omega arith in
        not_failed (sym (ap block_at (drop_of_length-le s m) ∙ nothing_there) ∙ e)

module _ (s : List ℕ) (at : ℕ) where
  kind_holds : (k : Kind) {r : List ℕ} → Ends (at + kind_bytes k) s (marker_of k) r → Holds s (marker_range at k) (marker_of k)
  kind_holds (heading l) z = holds_none s
  kind_holds paragraph z = holds_none s
  kind_holds (item d m) z = holds_ends (at + marker_from d) (at + marker_from d + size m) (omega arith) (omega arith) z

  marker_of_found : (a : Answer (Block × ℕ)) → found_at s at ≡ a
      → Holds s (range_or_none (λ f. marker_range at f.0.kind) a) (text_or_none (λ f. marker_of f.0.kind) a)
  marker_of_found at_end h = holds_none s
  marker_of_found (refused n) h = holds_none s
  marker_of_found (gives f) h =
      let b = found_inv s at h in
      kind_holds f.0.kind (then_ends b.inside b.is.fields)

  -- a marker's place
  pub marker_holds : {r : Part} → r ≡ marker_place s at → Holds s r (marker_answer s at)
  unfolding marker_place marker_answer
  marker_holds e = rw e (marker_of_found (found_at s at) refl)

  pub marker_inside : {r : Part} → r ≡ marker_place s at → Inside s r.start r.end
  marker_inside e = (marker_holds e).within

  pub marker_bytes : between s (marker_place s at).start (marker_place s at).end ≡ encode (marker_answer s at)
  marker_bytes = (marker_holds refl).bytes

  module _ (n : ℕ) where
    module _ (f : Block × ℕ) (b : At s at f) where
      nth_holds : (t : Bool) → ltb n b.is.count ≡ t → Holds s (nth_range n f) (text_or_none (λ x. x.text) (nth f.0.spans n))
      nth_holds true t =
          let o = b.is in
          let z = split o.count o.first o.spans n (ltb-true n o.count t) in
          let k = then_ends (then_after b.inside (then_after o.before z.before)) (span_ends z.from z.read) in
          rw z.is (holds_text f.1 b.next k z.behind)
      nth_holds false t =
          let o = b.is in
          let l : o.count ≤ n = ltb-false n o.count t in
          let e : nth f.0.spans n ≡ at_end = nth_over f.0.spans n (rw (spans_count o.count o.first o.spans) l) in
          rw e (holds_none s)

    text_of_found : (a : Answer (Block × ℕ)) → found_at s at ≡ a → Holds s (range_or_none (nth_range n) a) (text_or_none (λ x. x.text) (nth_of a n))
    text_of_found at_end h = holds_none s
    text_of_found (refused k) h = holds_none s
    text_of_found (gives f) h = let b = found_inv s at h in nth_holds f b (ltb n b.is.count) refl

    -- a text's place
    pub text_holds : {r : Part} → r ≡ text_place s at n → Holds s r (text_answer s at n)
    unfolding text_place text_answer span_in
    text_holds e = rw e (text_of_found (found_at s at) refl)

    pub text_inside : {r : Part} → r ≡ text_place s at n → Inside s r.start r.end
    text_inside e = (text_holds e).within

    pub text_bytes : between s (text_place s at n).start (text_place s at n).end ≡ encode (text_answer s at n)
    text_bytes = (text_holds refl).bytes

-- the bytes of the spans from n on, where span n is x
from_nth : (xs : List Span) (n : ℕ) {x : Span} → nth xs n ≡ gives x
    → length (encode_spans (drop n xs)) ≡ length (encode_span x) + length (encode_spans (drop (suc n) xs))
unfolding encode_spans
from_nth [] n e = let z : ◌≡◌ {A = ℕ} 0 1 = cc in absurd (omega arith)
from_nth (y ∷ xs) zero {x} e =
    let p : y ≡ x = cc in
    length-append (encode_span y) (encode_spans xs) ∙ ap (λ (x : Span). length (encode_span x) + length (encode_spans xs)) p
from_nth (y ∷ xs) (suc n) e = from_nth xs n e

nth_under : (xs : List Span) (n : ℕ) {x : Span} → nth xs n ≡ gives x → n < length xs
nth_under xs n {x} e = under (ltb n (length xs)) refl
  where
    under : (t : Bool) → ltb n (length xs) ≡ t → n < length xs
    under true t = ltb-true n (length xs) t
    under false t =
        let h : nth xs n ≡ at_end = nth_over xs n (ltb-false n (length xs) t) in
        let z : ◌≡◌ {A = ℕ} 0 1 = cc in
        absurd (omega arith)

-- a span that stands at k, with j bytes behind it up to the offset next
here_read : {k j : ℕ} {s from to q : List ℕ} {x : Span} (next : ℕ) → next ≡ length s - length q → After k s from → span_at from ≡ parsed x to → After j to q
    → (m : ℕ) → m ≡ length (encode_span x) + j → here_answer s (next - m) ≡ gives (here_values_of x (next - j))
unfolding here_answer
here_read {k} {j} {s} {from} {to} {q} {x} next e b p a m f =
    let l₁ = after_length b in
    let l₂ = after_length (span_ends from p).after in
    let l₃ = after_length a in
    let n : next - m ≡ k = omega arith in
    let o : length s - length to ≡ next - j = omega arith in
    rw (n, ← b.left, p, o)

-- Going through the spans in turn gives those of the block: at the offset of span n stands span n, and it gives the offset of the next.
-- The first offset is `first_answer`'s by definition.
pub listed : (s : List ℕ) (at : ℕ) {f : Block × ℕ} → found_at s at ≡ gives f → (n : ℕ) {x : Span} → nth f.0.spans n ≡ gives x
    → here_answer s (span_from f.0.spans f.1 n) ≡ gives (here_values_of x (span_from f.0.spans f.1 (suc n)))
listed s at {f} h n {x} e =
    let a = found_inv s at h in
    let o = a.is in
    let l : n < o.count = rw (spans_count o.count o.first o.spans) at (nth_under f.0.spans n e) in
    let z = split o.count o.first o.spans n l in
    let p : z.x ≡ x = cc z.is in
    here_read f.1 a.next (then_after a.inside (then_after o.before z.before)) (z.read ∙ ap (λ (x : Span). parsed x z.to) p) z.behind
    (length (encode_spans (drop n f.0.spans))) (from_nth f.0.spans n e)

-- a span by its own offset: its text does not end before it starts
pub here_ordered : (s : List ℕ) (at : ℕ) {v : HereValues} → gives v ≡ here_answer s at → v.text.start ≤ v.text.end
unfolding here_answer
here_ordered s at {v} h = ordered (span_at (drop at s)) h
  where
    ordered : (p : Parse Span) → ◌≡◌ {A = Answer HereValues} (gives v) (map (λ f. here_values_of f.0 f.1) (placed (length s) p)) → v.text.start ≤ v.text.end
    ordered failed h = let z : ◌≡◌ {A = ℕ} 0 1 = cc in absurd (omega arith)
    ordered (parsed x q) h =
        let p : v ≡ here_values_of x (length s - length q) = cc in
        rw p (omega arith)

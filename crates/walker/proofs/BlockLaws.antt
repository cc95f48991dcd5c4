-- What the reader of a whole block follows from: what stands before its spans, and where these end.
-- Assumes nothing.
use Prim.Native.Nat.{ℕ, zero, suc, ◌+◌, ◌-◌, ◌%◌, ◌<◌, ◌≤◌}
use native.Mathlib.Omega.{arith}
use mathlib.Core.Path.{◌≡◌, sym, ap, ◌∙◌}
use mathlib.Core.List.{List, [], ◌∷◌}
use lib.ListN.{length, drop, length-drop}
use lib.Dec.{leb}
use borrow.Author.Tests.{lt-ltb}
use Rattle.std.specs.Prelude.{Ok}
use Rattle.std.specs.Borrow.{Bor}
use Rattle.text.specs.Utf8.{size}
use Rattle.text.specs.Part.{Inside}
use Rattle.text.specs.declared.parts.Part.{Part}
use Rattle.records.specs.Blocks.{Span, Kind}
use Rattle.records.specs.Decode.{Parse, failed, parsed, span_at, spans_at, kind_at, count_at, head_at, block_at}
use Rattle.walker.specs.Readers.{left, rest, EndIs, FieldsIs, CountIs, kind_of, text_in, marker_ended, marker_placed, Found}
use Rattle.walker.specs.declared.cursor.Cursor.{Cursor}
use Rattle.walker.specs.declared.blocks.Kind as K
use Rattle.walker.specs.declared.blocks.Kind.TheVariants as KV
use Rattle.walker.specs.declared.reader.Fields.{Fields}
use Rattle.records.proofs.Decoded.{not_failed, then_inv}
use Rattle.walker.proofs.Spans.{between_size}
use Rattle.walker.proofs.Placed.{after_length, kind_ends}

rest_parsed : {A : Type 0} (p : Parse A) {q : List ℕ} → rest p ≡ parsed tt q → (a : A) × (p ≡ parsed a q)
rest_parsed failed e = not_failed e
rest_parsed (parsed a q) e = (a, cc)

-- a marker, which is the last field of its kind, stands where the record's form says
module _ (s : List ℕ) (at b : ℕ) (h : at + 1 ≤ length s) {next : ℕ} (l : next ≤ length s) where
  kind_stands : (k : K.Kind) (m : Part) → kind_at b (drop (at + 1) s) ≡ parsed (kind_of s k m) (drop next s) → marker_ended next k m → marker_placed s at k m
  kind_stands (KV.Heading n) m p e = e
  kind_stands KV.Paragraph m p e = e
  kind_stands (KV.Item d) m p e =
      let (o, f) = e in
      let w : Inside s m.start m.end = record { order = o; bound = rw f l } in
      let n : size (text_in s m) ≡ m.end - m.start = between_size s m.start m.end w in
      let a = after_length (kind_ends 0 b (drop (at + 1) s) p).after in
      (w, omega (arith, length-drop (at + 1) s, length-drop next s))

block_whole : (t : List ℕ) {m n : ℕ} {u v w q : List ℕ} {k : Kind} {xs : List Span} → t ≡ m ∷ u → m < 16 → kind_at (m % 8) u ≡ parsed k v
    → count_at (leb 8 m) v ≡ parsed n w → spans_at n w ≡ parsed xs q → block_at t ≡ parsed (record { kind = k; spans = xs }) q
unfolding block_at head_at
block_whole t {m} h l k c p = rw (h, lt-ltb m 16 l, k, c, p)

pub same_left : {s : Bor (List ℕ)} (c : Cursor) → c.bytes ≡ s → left c ≡ drop c.at s.now
same_left c e = rw e

-- a cursor goes from an offset to d, e, f and g over the map byte, the kind's fields, the span count and the spans
pub whole : (s : Bor (List ℕ)) (at : ℕ) (d e f g : Cursor) {m n : ℕ} {k : Fields} {u : Unit {0}}
    → (drop at s.now ≡ m ∷ left d) × ((d.bytes ≡ s) × (d.at ≤ length d.bytes.now)) × (d.at ≡ at + 1) → m < 16
    → FieldsIs (kind_at (m % 8) (left d)) d.bytes e (Ok k) → CountIs (count_at (leb 8 m) (left e)) e.bytes f (Ok n) → EndIs (spans_at n (left f)) f.bytes g (Ok u)
    → Found s.now at (record { block = record { kind = k.kind; count = n; next = g.at }; marker = k.marker; first = f.at })
whole s at d e f g {m} {n} {k} {u} h l x y z =
    let at_d : d.bytes ≡ s = h.1.0 in
    let at_e : e.bytes ≡ s = x.1.0 ∙ at_d in
    let at_f : f.bytes ≡ s = y.1.0 ∙ at_e in
    let at_g : g.bytes ≡ s = z.1.0 ∙ at_f in
    let (xs, p) = rest_parsed (spans_at n (left f)) z.0 in
    let q : spans_at n (drop f.at s.now) ≡ parsed xs (drop g.at s.now) = ap (spans_at n) (sym (same_left f at_f)) ∙ p ∙ ap (parsed xs) (same_left g at_g) in
    let r : kind_at (m % 8) (drop d.at s.now) ≡ parsed (kind_of s.now k.kind k.marker) (drop e.at s.now) = rw (at_d, at_e) at x.0 in
    let v : e.at ≤ length s.now = rw at_e at x.1.1 in
    let w : at + 1 ≤ length s.now = rw (h.2, at_d) at h.1.1 in
    let o : kind_at (m % 8) (drop (at + 1) s.now) ≡ parsed (kind_of s.now k.kind k.marker) (drop e.at s.now) = rw h.2 at r in
    record {
      xs = xs;
      spans = q;
      block = block_whole (drop at s.now) (rw at_d at h.0) l r (rw (at_e, at_f) at y.0) q;
      placed = kind_stands s.now at (m % 8) w v k.kind k.marker o x.2;
      starts = rw at_f at y.1.1;
      within = rw at_g at z.1.1;
    }

pub spans_count : (n : ℕ) (t : List ℕ) {xs : List Span} {q : List ℕ} → spans_at n t ≡ parsed xs q → length xs ≡ n
unfolding spans_at
spans_count zero t {xs} h = let e : [] ≡ xs = cc in rw (← e)
spans_count (suc n) t {xs} h =
    let (x, r, e₁, h₁) = then_inv (span_at t) _ h in
    let (ys, r', e₂, h₂) = then_inv (spans_at n r) _ h₁ in
    let e : x ∷ ys ≡ xs = cc in
    ap length (sym e) ∙ ap suc (spans_count n r e₂)

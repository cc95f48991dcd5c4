-- Stores of block records: a block whose head follows its spans, and an item's record that grows.
-- Assumes nothing.
use Prim.Native.Nat.{ℕ, zero, suc, ◌+◌, ◌≤◌}
use mathlib.Core.Bool.{true}
use mathlib.Core.List.{List, [], ◌∷◌, ◌++◌, append_assoc}
use mathlib.Core.Path.{◌≡◌, refl, sym, ap, ◌∙◌}
use mathlib.Core.Logic.{⊎_elim}
use borrow.Author.Tests.{eqb-true, eqb-false}
use lib.Dec.{eqb}
use native.Mathlib.Nat.{add-zero}
use native.Mathlib.Omega.{arith}
use lib.ListN.{length, length-append}
use lib.Seq.{sets}
use Rattle.text.specs.Words.{all}
use Rattle.text.specs.Chars.{is_digit, Ascii}
use Rattle.text.specs.Utf8.{utf8, size, encode, chars}
use Rattle.text.proofs.Tests.{decide, on, and_true, within_true}
use Rattle.text.proofs.AsciiLaws.{encode_ascii, ascii_append}
use Rattle.text.proofs.Laws.{size_encode}
use Rattle.markdown.specs.Shape.{mark}
use Rattle.records.specs.Blocks.{Span, item, Block, Item}
use Rattle.records.specs.Format.{bit, non_empty, le16, le32, kind_bits, encode_kind, encode_count, encode_span, encode_spans, encode_block}
use Rattle.records.proofs.Stores.{sets_append, gap}
use Rattle.spans.specs.Spans.{spans}
use Rattle.spans.specs.Line.{line_spans}
use Rattle.spans.proofs.LineLaws.{line_is}
use Rattle.spans.specs.declared.Written.{Written}
use Rattle.markdown.specs.State.{counted, SpansPut, plain_after, item_after, span_start, continued_after, continued_out, space_bytes}
use Rattle.std.specs.Prelude.{Some, None}
use Rattle.markdown.specs.declared.writer.OpenItem.{OpenItem}
use Rattle.markdown.specs.declared.writer.State.{State}

-- ---- the spans of a block
module _ (out₀ out₁ : List ℕ) (head map fields : ℕ) where
  no_spans : (ss : List Span) (out₂ : List ℕ) → length ss ≡ 0 → out₁ ≡ sets out₀ (fields + 4) (encode_spans ss) → out₂ ≡ sets out₁ head (map ∷ [])
      → (out₂ ≡ sets (sets out₀ fields (counted ss)) head ((map + bit (non_empty ss) 8) ∷ [])) × (fields ≡ fields + length (counted ss))
  unfolding encode_spans
  no_spans [] out₂ z e f = (f ∙ rw (e, add-zero map), omega arith)
  no_spans (s ∷ ss) out₂ z e f = absurd (omega arith)

  some_spans : (ss : List Span) (out₂ out₃ : List ℕ) → (length ss ≡ 0 → ⊥) → out₁ ≡ sets out₀ (fields + 4) (encode_spans ss)
      → out₂ ≡ sets out₁ fields (le32 (length ss)) → out₃ ≡ sets out₂ head ((map + 8) ∷ [])
      → (out₃ ≡ sets (sets out₀ fields (counted ss)) head ((map + bit (non_empty ss) 8) ∷ []))
      × (fields + 4 + length (encode_spans ss) ≡ fields + length (counted ss))
  some_spans [] out₂ out₃ z e f g = absurd (z refl)
  some_spans (s ∷ ss) out₂ out₃ z e f g =
      let h : out₂ ≡ sets out₀ fields (counted (s ∷ ss)) = f ∙ rw e (gap out₀ fields (fields + 4) (le32 (suc (length ss))) (encode_spans (s ∷ ss)) refl) in (
        g ∙ ap (λ (l : List ℕ). sets l head ((map + 8) ∷ [])) h,
        omega (arith, length-append (le32 (suc (length ss))) (encode_spans (s ∷ ss))),
      )

module _
    (text out₀ out₁ : List ℕ)
    (head map fields : ℕ)
    (w : Written)
    (f : fields ≤ 549755813888)
    (l : length text ≤ 1048576)
    (next : w.next ≡ fields + 4 + length (encode_spans (line_spans text (fields + 4))))
    (count : w.count ≡ length (line_spans text (fields + 4)))
    (stored : out₁ ≡ sets out₀ (fields + 4) (encode_spans (line_spans text (fields + 4))))
  where
    here : line_spans text (fields + 4) ≡ spans (chars text)
    here = line_is text (fields + 4) l (omega arith)

    pub put_none : (out₂ : List ℕ) → w.count ≡ 0 → out₂ ≡ sets out₁ head (map ∷ [])
        → SpansPut text out₀ out₂ head map fields (record { next = fields; count = 0 })
    put_none out₂ z e =
        let p = no_spans out₀ out₁ head map fields (spans (chars text)) out₂ (sym (count ∙ ap length here) ∙ z) (rw here at stored) e in
        record { stored = p.0; next = p.1; count = sym z ∙ count ∙ ap length here }

    pub put_some : (out₂ out₃ : List ℕ) → (w.count ≡ 0 → ⊥) → out₂ ≡ sets out₁ fields (le32 w.count) → out₃ ≡ sets out₂ head ((map + 8) ∷ [])
        → SpansPut text out₀ out₃ head map fields w
    put_some out₂ out₃ z e g =
        let n : w.count ≡ length (spans (chars text)) = count ∙ ap length here in
        let p = some_spans out₀ out₁ head map fields (spans (chars text)) out₂ out₃ (λ q. z (n ∙ q)) (rw here at stored) (rw n at e) g in
        record { stored = p.0; next = next ∙ rw here p.1; count = n }

-- ---- a block
pub block_length : (b : Block) → length (encode_block b) ≡ 1 + (length (encode_kind b.kind) + length (counted b.spans))
unfolding encode_block
block_length b =
    omega (
      arith,
      length-append (encode_kind b.kind ++ encode_count (length b.spans)) (encode_spans b.spans),
      length-append (encode_kind b.kind) (encode_count (length b.spans)),
      length-append (encode_count (length b.spans)) (encode_spans b.spans),
    )

pub block_stored : (b : Block) (out₀ out₁ out₂ : List ℕ) (at fields : ℕ) → out₁ ≡ sets out₀ (at + 1) (encode_kind b.kind)
    → at + 1 + length (encode_kind b.kind) ≡ fields
    → out₂ ≡ sets (sets out₁ fields (counted b.spans)) at ((kind_bits b.kind + bit (non_empty b.spans) 8) ∷ [])
    → out₂ ≡ sets out₀ at (encode_block b)
unfolding encode_block
block_stored b out₀ out₁ out₂ at fields e f g =
    let K = encode_kind b.kind in
    let m = kind_bits b.kind + bit (non_empty b.spans) 8 in
    g
    ∙ ap (λ (l : List ℕ). sets l at (m ∷ []))
    (ap (λ (l : List ℕ). sets l fields (counted b.spans)) e
    ∙ ap (λ (n : ℕ). sets (sets out₀ (at + 1) K) n (counted b.spans)) (sym f)
    ∙ sym (sets_append out₀ (at + 1) K (counted b.spans)))
    ∙ gap out₀ at (at + 1) (m ∷ []) (K ++ counted b.spans) refl
    ∙ ap (λ (l : List ℕ). sets out₀ at (m ∷ l)) (sym (append_assoc K (encode_count (length b.spans)) (encode_spans b.spans)))

pub at_block : (b : Block) (at fields next : ℕ) → at + 1 + length (encode_kind b.kind) ≡ fields → next ≡ fields + length (counted b.spans)
    → next ≡ at + length (encode_block b)
at_block b at fields next e f = omega (arith, block_length b)

pub plain_state : (s : State) (b : Block) (n : ℕ) → n ≡ s.at + length (encode_block b)
    → ◌≡◌ {A = State} (record { at = n; item = None; text = s.text }) (plain_after s b)
plain_state s b n e = rw e

-- ---- an item
-- three runs of stores, one behind the other
pub three_runs : (at : ℕ) (h t u o o₁ o₂ o₃ : List ℕ) → o₁ ≡ sets o at h → o₂ ≡ sets o₁ (at + length h) t → o₃ ≡ sets o₂ (at + length h + length t) u
    → o₃ ≡ sets o at (h ++ (t ++ u))
three_runs at h t u o o₁ o₂ o₃ e f g =
    let p : sets o at (h ++ (t ++ u)) ≡ sets o₁ (at + length h) (t ++ u) = sets_append o at h (t ++ u) ∙ ap (λ (l : List ℕ). sets l (at + length h) (t ++ u)) (sym e) in
    let q : sets o₁ (at + length h) (t ++ u) ≡ sets o₂ (at + length h + length t) u = sets_append o₁ (at + length h) t u ∙ ap (λ (l : List ℕ). sets l (at + length h + length t) u) (sym f) in
    g ∙ sym (p ∙ q)

digits_ascii : (ds : List ℕ) → all is_digit ds ≡ true → Ascii ds
digits_ascii [] e = tt
digits_ascii (d ∷ ds) e =
    let p = and_true (is_digit d) (all is_digit ds) e in
    let q = within_true 48 57 d p.0 in
    (omega arith, digits_ascii ds p.1)

pub mark_none : (ds : List ℕ) → length ds ≡ 0 → size (mark ds) ∷ encode (mark ds) ≡ 3 ∷ 226 ∷ 128 ∷ 162 ∷ []
unfolding size utf8
mark_none [] e = refl
mark_none (d ∷ ds) e = absurd (omega arith)

pub mark_some : (ds : List ℕ) → all is_digit ds ≡ true → (length ds ≡ 0 → ⊥)
    → size (mark ds) ∷ encode (mark ds) ≡ (length ds + 1) ∷ (ds ++ (46 ∷ []))
mark_some [] a e = absurd (e refl)
mark_some (d ∷ ds) a e =
    let x = (d ∷ ds) ++ (46 ∷ []) in
    let p : encode x ≡ x = encode_ascii x (ascii_append (d ∷ ds) (46 ∷ []) (digits_ascii (d ∷ ds) a) (omega arith, tt)) in
    let n : size x ≡ length (d ∷ ds) + 1 = sym (size_encode x) ∙ ap length p ∙ length-append (d ∷ ds) (46 ∷ []) in
    rw (n, p)

pub kind_deep : (depth : ℕ) (m : List ℕ) → (depth ≡ 0 → ⊥) → encode_kind (item depth m) ≡ le16 depth ++ (size m ∷ encode m)
kind_deep zero m e = absurd (e refl)
kind_deep (suc d) m e = refl

-- a marker, as it is stored
abbrev pub marker_bytes : List ℕ → List ℕ
marker_bytes ds = size (mark ds) ∷ encode (mark ds)

module _ (ds : List ℕ) (at : ℕ) (o o₁ : List ℕ) where
  pub marker_none : length ds ≡ 0 → o₁ ≡ sets o at (3 ∷ 226 ∷ 128 ∷ 162 ∷ []) → (at + 4 ≡ at + length (marker_bytes ds)) × (o₁ ≡ sets o at (marker_bytes ds))
  marker_none z e =
      let q = mark_none ds z in
      (ap (λ (n : ℕ). at + n) (sym (ap length q)), e ∙ ap (sets o at) (sym q))

  pub marker_some : (o₂ o₃ : List ℕ) → all is_digit ds ≡ true → (length ds ≡ 0 → ⊥) → o₁ ≡ sets o at ((length ds + 1) ∷ []) → o₂ ≡ sets o₁ (at + 1) ds
      → o₃ ≡ sets o₂ (at + 1 + length ds) (46 ∷ []) → (at + 2 + length ds ≡ at + length (marker_bytes ds)) × (o₃ ≡ sets o at (marker_bytes ds))
  marker_some o₂ o₃ a z e f g =
      let q = mark_some ds a z in
      (omega (arith, ap length q, length-append ds (46 ∷ [])), three_runs at ((length ds + 1) ∷ []) ds (46 ∷ []) o o₁ o₂ o₃ e f g ∙ ap (sets o at) (sym q))

pub marker_short : (ds : List ℕ) → length ds ≤ 9 → all is_digit ds ≡ true → length (marker_bytes ds) ≤ 11
marker_short ds h a =
    ⊎_elim
    (λ z. omega (arith, ap length (mark_none ds (eqb-true (length ds) 0 z))))
    (λ z. omega (arith, ap length (mark_some ds a (eqb-false (length ds) 0 z)), length-append ds (46 ∷ [])))
    (decide (eqb (length ds) 0))

module _ (ds : List ℕ) (at depth r : ℕ) (o o₁ : List ℕ) where
  pub fields_flat : depth ≡ 0 → (r ≡ at + length (marker_bytes ds)) × (o₁ ≡ sets o at (marker_bytes ds))
      → (r ≡ at + length (encode_kind (item depth (mark ds)))) × (o₁ ≡ sets o at (encode_kind (item depth (mark ds))))
  fields_flat z e = rw z e

  pub fields_deep : (o₂ : List ℕ) → (depth ≡ 0 → ⊥) → o₁ ≡ sets o at (le16 depth)
      → (r ≡ at + 2 + length (marker_bytes ds)) × (o₂ ≡ sets o₁ (at + 2) (marker_bytes ds))
      → (r ≡ at + length (encode_kind (item depth (mark ds)))) × (o₂ ≡ sets o at (encode_kind (item depth (mark ds))))
  fields_deep o₂ z f e =
      let q = kind_deep depth (mark ds) z in (
        omega (arith, e.0, ap length q, length-append (le16 depth) (marker_bytes ds)),
        e.1
            ∙ ap (λ (l : List ℕ). sets l (at + 2) (marker_bytes ds)) f
            ∙ sym (sets_append o at (le16 depth) (marker_bytes ds))
            ∙ ap (sets o at) (sym q),
      )

pub kind_short : (ds : List ℕ) (depth : ℕ) → length ds ≤ 9 → all is_digit ds ≡ true → length (encode_kind (item depth (mark ds))) ≤ 13
kind_short ds zero h a = omega (arith, marker_short ds h a)
kind_short ds (suc d) h a = omega (arith, marker_short ds h a, length-append (le16 (suc d)) (marker_bytes ds))

-- an item's map byte without the bit of its span count
pub bits_top : (depth : ℕ) → depth ≡ 0 → (m : List ℕ) → 4 ≡ kind_bits (item depth m)
bits_top zero e m = refl
bits_top (suc d) e m = absurd (omega arith)

pub bits_deep : (depth : ℕ) → (depth ≡ 0 → ⊥) → (m : List ℕ) → 6 ≡ kind_bits (item depth m)
bits_deep zero n m = absurd (n refl)
bits_deep (suc d) n m = refl

pub bits_low : (depth : ℕ) (m : List ℕ) → kind_bits (item depth m) ≤ 6
bits_low zero m = omega arith
bits_low (suc d) m = omega arith

pub item_state : (s : State) (depth n m f k : ℕ) (mk : List ℕ) (ss : List Span) → n ≡ s.at + length (encode_block (Item depth mk ss))
    → m ≡ kind_bits (item depth mk) → f ≡ s.at + 1 + length (encode_kind (item depth mk)) → k ≡ length ss
    → ◌≡◌ {A = State} (record { at = n; item = Some (record { head = s.at; map = m; fields = f; count = k }); text = s.text }) (item_after s depth mk ss)
item_state s depth n m f k mk ss e g h i = rw (e, g, h, i)

-- an item that goes on
module _
    (s : State)
    (last : OpenItem)
    (text out o₁ o₂ o₃ o₄ : List ℕ)
    (start : ℕ)
    (w : Written)
    (e : start ≡ span_start s.at last)
    (low : start ≤ 549755813888)
    (l : length text ≤ 1048576)
    (next : w.next ≡ start + 6 + length (encode_spans (line_spans text (start + 6))))
    (count : w.count ≡ length (line_spans text (start + 6)))
    (f : o₁ ≡ sets out start space_bytes)
    (g : o₂ ≡ sets o₁ (start + 6) (encode_spans (line_spans text (start + 6))))
    (h : o₃ ≡ sets o₂ last.fields (le32 (last.count + 1 + w.count)))
    (i : o₄ ≡ sets o₃ last.head ((last.map + 8) ∷ []))
  where
    these : line_spans text (start + 6) ≡ spans (chars text)
    these = line_is text (start + 6) l (omega arith)

    many : w.count ≡ length (spans (chars text))
    many = count ∙ ap length these

    pub continue_state : ◌≡◌ {A = State}
        (record { at = w.next; item = Some (record { head = last.head; map = last.map; fields = last.fields; count = last.count + 1 + w.count }); text = s.text })
        (continued_after s last (spans (chars text)))
    continue_state =
        let p : w.next ≡ span_start s.at last + 6 + length (encode_spans (spans (chars text))) = next ∙ rw (these, e) in
        rw (p, many)

    pub continue_out : o₄ ≡ continued_out s last (spans (chars text)) out
    unfolding encode_span size utf8
    continue_out =
        let p : o₂ ≡ sets out start (space_bytes ++ encode_spans (spans (chars text))) =
        g ∙ rw (these, f) (sym (sets_append out start space_bytes (encode_spans (spans (chars text)))))
        in
        let q : o₃ ≡ sets (sets out (span_start s.at last) (space_bytes ++ encode_spans (spans (chars text)))) last.fields (le32 (last.count + 1 + length (spans (chars text)))) =
        h ∙ rw (many, p, e)
        in
        i ∙ ap (λ (x : List ℕ). sets x last.head ((last.map + 8) ∷ [])) q

pub start_low : (at : ℕ) (i : OpenItem) → i.fields ≤ at → span_start at i ≤ at + 4
start_low at i f = on (λ (n : ℕ). n ≤ at + 4) (eqb i.count 0) (λ _. omega arith) (λ _. omega arith)

-- The steps of each kind of line: a heading or another line that starts with `#`, an item, a row, any other text.
-- Assumes nothing.
use Prim.Native.Nat.{ℕ, ◌+◌, ◌*◌, ◌-◌, ◌≤◌, ◌<◌}
use mathlib.Core.Bool.{Bool, true, false, cond, ◌&&◌, and-true as and_true_right}
use mathlib.Core.Option.{none, some}
use mathlib.Core.List.{List, [], ◌∷◌, ◌++◌}
use mathlib.Core.Logic.{⊎_elim}
use mathlib.Core.Path.{◌≡◌, refl, sym, ap, ◌∙◌, subst}
use borrow.Author.Tests.{eq-eqb, eqb-true, eqb-false}
use native.Mathlib.Omega.{arith}
use lib.Dec.{eqb}
use lib.ListN.{length, get_or}
use lib.Seq.{sets, length-sets}
use Rattle.std.specs.Prelude.{if◌then◌else◌}
use Rattle.text.specs.Words.{is_empty}
use Rattle.text.specs.Utf8.{chars}
use Rattle.text.proofs.Tests.{decide, on, and_true, and_false}
use Rattle.text.proofs.Laws.{size_chars}
use Rattle.records.specs.Blocks.{Span, heading as headed, Block, Heading, Paragraph, Item}
use Rattle.records.specs.Format.{encode_block, encode_spans}
use Rattle.spans.specs.Spans.{spans}
use Rattle.spans.proofs.Bounds.{spans_small}
use Rattle.markdown.specs.Blocks.{Reader, reader, flush, is_rule, heading, row, continued, continuation, paragraph, added, plain_space, read_text}
use Rattle.text.specs.Part.{between}
use Rattle.markdown.specs.Parts.{text_of}
use Rattle.markdown.specs.Cells.{RowIs, RowMade}
use Rattle.markdown.specs.Shape.{part_text, Trimmed, Titled, mark, MarkerAt}
use Rattle.markdown.specs.State.{plain_after, item_after, span_start, continued_after, continued_out, ItemAt, LastIs, Holds, Safe}
use Rattle.markdown.specs.State.{grown, Given, Steps, ends, starts_with_text, SafeItem, SafeLast, item_continued, continues}
use Rattle.text.specs.declared.Part.{Part}
use Rattle.markdown.specs.declared.shape.Title.{Title}
use Rattle.markdown.specs.declared.shape.Marker.{Marker}
use Rattle.std.specs.Prelude.{Some, None}
use Rattle.std.specs.Prelude as code
use Rattle.markdown.specs.declared.writer.OpenItem.{OpenItem}
use Rattle.markdown.specs.declared.writer.State.{State}
use Rattle.markdown.proofs.PartLaws.{part_length}
use Rattle.markdown.proofs.RunLaws.{empty_chars, not_empty}
use Rattle.markdown.proofs.StoreLaws.{start_low, kind_short}
use Rattle.markdown.proofs.StateLaws.{moved_safe, safe_inside, text_length, text_none, given_small, block_small, plain_step, steps_then, holds_continued, spans_length, part_inside}
use Rattle.markdown.proofs.StateLaws.{steps_as, then_plain, then_item}
use Rattle.markdown.proofs.ShapeLaws.{text_rule, text_row, text_other}
use Rattle.markdown.proofs.ParagraphLaws.{stored_text}

-- ---- a line that starts with `#`
module _
    (md work out out₁ line : List ℕ)
    (s p r : State)
    (copied : Bool)
    (from to : ℕ)
    (g : Given md work s from to)
    (t : line ≡ text_of md work copied from to)
    (a : Steps md work work out out₁ s p 393221 0 ends)
  where
    pub title_small : (h : Title) → Titled line h → length (part_text line h.text) ≤ 65536
    title_small h v =
        omega (arith, part_length line h.text.start h.text.end v.inside.order v.inside.bound, v.inside.bound, (given_small md work s copied from to line g t).0)

    pub title_step : (h : Title) (out₂ : List ℕ) → Titled line h → r ≡ plain_after p (Heading h.level (spans (chars (part_text line h.text))))
        → out₂ ≡ sets out₁ p.at (encode_block (Heading h.level (spans (chars (part_text line h.text)))))
        → Steps md work work out out₂ s r 800000 (to - from) (heading (chars (text_of md work copied from to)))
    title_step h out₂ v e f =
        let b = Heading h.level (spans (chars (part_text line h.text))) in
        steps_as md work work out out₂ s r 800000 0 800000 (to - from) (added b) (heading (chars (text_of md work copied from to))) (omega arith) (omega arith)
        (λ q. ap (λ (l : List ℕ). heading (chars l) q) (sym t) ∙ v.reads q)
        (then_plain md work out out₁ out₂ s p r a b (λ more bs. refl) e f (omega (arith, block_small (headed h.level) (part_text line h.text), title_small h v)))

    pub opened_step : (work₁ : List ℕ) → ((q : Reader) → heading (chars line) q ≡ reader (flush q) (chars line))
        → Steps md work work₁ out₁ out₁ p r 0 (to - from) (starts_with_text (chars (text_of md work copied from to)))
        → Steps md work work₁ out out₁ s r 800000 (to - from) (heading (chars (text_of md work copied from to)))
    opened_step work₁ v b =
        let T = chars (text_of md work copied from to) in
        steps_as md work work₁ out out₁ s r 393221 (to - from) 800000 (to - from) (λ q. reader (flush q) T) (heading T) (omega arith) (omega arith)
        (λ q. ap (λ (l : List ℕ). heading (chars l) q) (sym t) ∙ v q ∙ ap (λ (l : List ℕ). reader (flush q) (chars l)) t)
        (steps_then md work work work₁ out out₁ out₁ s p r 393221 0 0 (to - from) 393221 ends (starts_with_text T) (omega arith) a b)

-- ---- an item
module _ (line : List ℕ) (m : Marker) (l : length line ≤ 65536) (v : MarkerAt line m) where
  abbrev text : List ℕ
  text = part_text line m.text

  abbrev digits : List ℕ
  digits = part_text line m.digits

  pub item_small : (length text ≤ 65536) × (length digits ≤ 9)
  item_small =
      let i = v.inside in
      let d = v.digits in
      (omega (arith, part_length line m.text.start m.text.end i.order i.bound, i.bound), omega (arith, part_length line m.digits.start m.digits.end d.order d.bound, v.few))

  pub item_line : (md work out out₁ out₂ : List ℕ) (s p r : State) → Steps md work work out out₁ s p 393221 0 ends
      → r ≡ item_after p m.depth (mark digits) (spans (chars text))
      → out₂ ≡ sets out₁ p.at (encode_block (Item m.depth (mark digits) (spans (chars text))))
      → Steps md work work out out₂ s r 800000 0 (added (Item m.depth (mark digits) (spans (chars text))))
  item_line md work out out₁ out₂ s p r a e f =
      then_item md work out out₁ out₂ s p r a m.depth (mark digits) text
      (kind_short digits m.depth item_small.1 v.ascii) item_small.0 e f

-- ---- a row
-- the buffer changes while no paragraph is open
moved_step : (md work work₁ out : List ℕ) (s : State) → Safe md work s → length work₁ ≡ length work → s.text.part.start ≡ s.text.part.end → Steps md work work₁ out out s s 0 0 (λ q. q)
moved_step md work work₁ out s u e z =
    record {
      holds = λ out₀ q v.
          record {
            stored = v.stored;
            end = v.end;
            last = v.last;
            paragraph = v.paragraph ∙ text_none md work s.text.copied s.text.part.start s.text.part.end z ∙ sym (text_none md work₁ s.text.copied s.text.part.start s.text.part.end z);
          };
      safe = moved_safe md work work₁ s u e;
      grows = omega arith;
      short = omega arith;
    }

module _
    (md work work₁ : List ℕ)
    (copied : Bool)
    (from to : ℕ)
    (order : from ≤ to)
    (bound : to ≤ length md)
    (room : 6 * length md ≤ length work)
    (f : work₁ ≡ sets work (length md) (text_of md work copied from to))
  where
    abbrev T : List ℕ
    T = text_of md work copied from to

    abbrev n : ℕ
    n = length md

    pub row_size : length work₁ ≡ length work
    row_size = ap length f ∙ length-sets work n T

    pub row_part : between work₁ n (n + (to - from)) ≡ T
    row_part =
        let m = text_length md work copied from to (part_inside md work copied from to order bound room) in
        ap (λ (i : ℕ). between work₁ n (n + i)) (sym m)
        ∙ ap (λ (x : List ℕ). between x n (n + length T)) f
        ∙ stored_text md work T n (omega (arith, m))

    pub row_made : (work₂ : List ℕ) (e : ℕ) (t : Part) → RowIs work₁ work₂ n (n + (to - from)) (n + n) e → length work₂ ≡ length work₁ → Trimmed work₂ (n + n) e t
        → RowMade md work work₂ (record { copied = copied; part = record { start = from; end = to } }) t
    row_made work₂ e t v l w =
        record {
          text = w.text ∙ v.text ∙ ap (λ (x : List ℕ). row (chars x)) row_part;
          order = w.order;
          long = omega (arith, w.low, w.high, v.high);
          bound = omega (arith, w.high, v.high, l, row_size);
        }

pub row_small : (md work work₁ : List ℕ) (copied : Bool) (from to : ℕ) (t : Part) → RowMade md work work₁ (record { copied = copied; part = record { start = from; end = to } }) t
    → length (between work₁ t.start t.end) ≤ 4 * (to - from)
row_small md work work₁ copied from to t v = omega (arith, part_length work₁ t.start t.end v.order v.bound, v.long)

-- the row becomes a paragraph
pub row_text : (md work work₁ out out₁ out₂ : List ℕ) (s p r : State) (copied : Bool) (from to : ℕ) (t : Part) → Given md work s from to
    → RowMade md work work₁ (record { copied = copied; part = record { start = from; end = to } }) t → length work₁ ≡ length work → Steps md work work out out₁ s p 393221 0 ends
    → r ≡ plain_after p (Paragraph (spans (chars (between work₁ t.start t.end))))
    → out₂ ≡ sets out₁ p.at (encode_block (Paragraph (spans (chars (between work₁ t.start t.end)))))
    → Steps md work work₁ out out₂ s r 2000000 0 (added (Paragraph (spans (row (chars (text_of md work copied from to))))))
row_text md work work₁ out out₁ out₂ s p r copied from to t g v l a h i =
    let b = Paragraph (spans (chars (between work₁ t.start t.end))) in
    let z : p.text.part.start ≡ p.text.part.end = omega (arith, a.short, a.safe.order) in
    let c = moved_step md work work₁ out₁ p a.safe l z in
    let y = block_small b.kind (between work₁ t.start t.end) in
    let x = row_small md work work₁ copied from to t v in
    let k : length (encode_block b) ≤ 1600000 = omega (arith, g.bound, g.safe.small) in
    rw (← v.text)
    (steps_then md work work₁ work₁ out out₁ out₂ s p r 393221 1600000 0 0 2000000 ends (λ q. reader (b ∷ q.blocks) q.paragraph) (omega arith)
    (steps_then md work work work₁ out out₁ out₁ s p p 393221 0 0 0 393221 ends (λ q. q) (omega arith) a c)
    (plain_step md work₁ out₁ p c.safe 0 1600000 c.short b out₂ r (λ more bs. refl) h i k))

-- ---- an indented line
-- it continues an item, unless a paragraph is open
abbrev wrapped : List ℕ → Reader → Reader
wrapped text r = if is_empty r.paragraph then continuation text r else paragraph text r

continued_some : (bs : List Block) (i : OpenItem) (more : List Span) → ItemAt bs i → (cs : List Block) × (continued more bs ≡ some cs)
continued_some bs i more w = (Item w.depth w.marker (w.spans ++ (plain_space ∷ more)) ∷ w.before, ap (continued more) w.is)

-- the offsets of an item that goes on
item_safe : (at : ℕ) (i : OpenItem) (more : List Span) → SafeItem i at → SafeItem (item_continued i more) (span_start at i + 6 + length (encode_spans more))
item_safe at i more u =
    let m = spans_length more in
    record {
      head = u.head;
      fields = on (λ (n : ℕ). i.fields ≤ n + 6 + length (encode_spans more)) (eqb i.count 0) (λ _. omega arith) (λ _. omega (arith, u.fields));
      count = on (λ (n : ℕ). i.count + 1 + length more ≤ n + 6 + length (encode_spans more)) (eqb i.count 0) (λ e. omega (arith, eqb-true i.count 0 e)) (λ _. omega (arith, u.count));
      map = u.map;
    }

-- an item goes on under an indented line where no paragraph is open
module _ (s : State) (i : Bool) where
  continues_some : (last : OpenItem) → Some last ≡ continues s i → (i ≡ true) × ((s.text.part.start ≡ s.text.part.end) × (s.item ≡ Some last))
  continues_some last e = go (i && eqb s.text.part.start s.text.part.end) refl e
    where
      go : (t : Bool) → i && eqb s.text.part.start s.text.part.end ≡ t → Some last ≡ (if t then s.item else None) → (i ≡ true) × ((s.text.part.start ≡ s.text.part.end) × (s.item ≡ Some last))
      go true p q = let c = and_true i (eqb s.text.part.start s.text.part.end) p in (c.0, (eqb-true _ _ c.1, sym q))
      go false p q = cc

  continues_none : i ≡ true → None ≡ continues s i → s.text.part.start ≡ s.text.part.end → s.item ≡ None
  continues_none e q h = sym (q ∙ rw (e, eq-eqb s.text.part.start s.text.part.end h))

module _ (md work : List ℕ) (s : State) (copied : Bool) (from to : ℕ) (g : Given md work s from to) where
  continue_text : (last : OpenItem) (out out₁ text : List ℕ) (r : State) → text ≡ text_of md work copied from to → s.text.part.start ≡ s.text.part.end → s.item ≡ Some last
      → r ≡ continued_after s last (spans (chars text)) → out₁ ≡ continued_out s last (spans (chars text)) out
      → Steps md work work out out₁ s r 400000 (grown s + (to - from)) (wrapped (chars (text_of md work copied from to)))
  unfolding continuation
  continue_text last out out₁ text r t z i e f =
      let more = spans (chars text) in
      let u = g.safe in
      let l = (given_small md work s copied from to text g t).0 in
      let k = spans_small (chars text) in
      let x = size_chars text in
      let c = subst (λ (a : code.Option OpenItem). SafeLast a s.at) i u.last in
      let y = start_low s.at last c.fields in
      rw (e, ← t)
      (record {
        holds = λ out₀ q v.
            let p : q.paragraph ≡ [] = v.paragraph ∙ text_none md work s.text.copied s.text.part.start s.text.part.end z in
            let w = continued_some q.blocks last more (subst (λ (a : code.Option OpenItem). LastIs a q.blocks) i v.last) in
            let h = holds_continued md work out₀ out q s v last more out₁ w.0 i f w.1 in
            rw (p, w.1) (rw p at h);
        safe = record { small = u.small; room = u.room; order = u.order; place = u.place; last = item_safe s.at last more c };
        grows = omega arith;
        short = omega arith;
      })

  wrapped_text : (work₁ out : List ℕ) (r : State) → (s.text.part.start ≡ s.text.part.end → s.item ≡ None)
      → Steps md work work₁ out out s r 0 (grown s + (to - from)) (paragraph (chars (text_of md work copied from to)))
      → Steps md work work₁ out out s r 400000 (grown s + (to - from)) (wrapped (chars (text_of md work copied from to)))
  unfolding continuation
  wrapped_text work₁ out r b a =
      let T = chars (text_of md work copied from to) in
      record {
        holds = λ out₀ q v. subst (λ (x : Reader). Holds md work₁ out₀ out x r) (sym (same out₀ q v)) (a.holds out₀ q v);
        safe = a.safe;
        grows = omega (arith, a.grows);
        short = a.short;
      }
    where
      both : {A : Type 0} (t : Bool) (x y : A) → x ≡ y → cond t x y ≡ y
      both true x y e = e
      both false x y e = refl

      same : (out₀ : List ℕ) (q : Reader) → Holds md work out₀ out q s
          → wrapped (chars (text_of md work copied from to)) q ≡ paragraph (chars (text_of md work copied from to)) q
      same out₀ q v =
          ⊎_elim
          (λ e.
          let i = b (eqb-true _ _ e) in
          let w : (more : List Span) → continued more q.blocks ≡ none = subst (λ (a : code.Option OpenItem). LastIs a q.blocks) i v.last in
          both (is_empty q.paragraph) (continuation (chars (text_of md work copied from to)) q) (paragraph (chars (text_of md work copied from to)) q)
          (rw (w (spans (chars (text_of md work copied from to))))))
          (λ e.
          let n = eqb-false s.text.part.start s.text.part.end e in
          let P = text_of md work s.text.copied s.text.part.start s.text.part.end in
          let l = text_length md work s.text.copied s.text.part.start s.text.part.end (safe_inside md work s g.safe) in
          let z : is_empty q.paragraph ≡ false = ap is_empty v.paragraph ∙ empty_chars P ∙ not_empty P (omega (arith, g.safe.order)) in
          rw z)
          (decide (eqb s.text.part.start s.text.part.end))

  -- ---- a line that neither starts with `#` nor has a list marker
  module _ (line : List ℕ) (t : line ≡ text_of md work copied from to) (i : Bool) (some : from < to) where
    abbrev after : Reader → Reader
    after q = read_text q i (chars (text_of md work copied from to))

    as_line : (q : Reader) (x : Reader) → read_text q i (chars line) ≡ x → after q ≡ x
    as_line q x e = ap (λ (l : List ℕ). read_text q i (chars l)) (sym t) ∙ e

    filled : 0 < length line
    filled = omega (arith, (given_small md work s copied from to line g t).1)

    pub rule_step : (out out₁ : List ℕ) (r : State) → is_rule (chars line) ≡ true → Steps md work work out out₁ s r 393221 0 ends
        → Steps md work work out out₁ s r 2000000 (grown s + (to - from)) after
    rule_step out out₁ r e a =
        steps_as md work work out out₁ s r 393221 0 2000000 (grown s + (to - from)) ends after (omega arith) (omega arith)
        (λ q. as_line q (ends q) (text_rule line i q e)) a

    module _ (n : is_rule (chars line) ≡ false) where
      pub row_step : (work₁ out out₁ : List ℕ) (r : State) → get_or line 0 0 ≡ 124
          → Steps md work work₁ out out₁ s r 2000000 0 (added (Paragraph (spans (row (chars (text_of md work copied from to))))))
          → Steps md work work₁ out out₁ s r 2000000 (grown s + (to - from)) after
      row_step work₁ out out₁ r e a =
          steps_as md work work₁ out out₁ s r 2000000 0 2000000 (grown s + (to - from)) _ after (omega arith) (omega arith)
          (λ q. as_line q _ (text_row line i q filled n e) ∙ ap (λ (l : List ℕ). added (Paragraph (spans (row (chars l)))) q) t) a

      module _ (o : get_or line 0 0 ≡ 124 → ⊥) where
        other : (q : Reader) → after q ≡ (if is_empty q.paragraph && i then continuation (chars (text_of md work copied from to)) q else paragraph (chars (text_of md work copied from to)) q)
        other q =
            as_line q _ (text_other line i q filled n o)
            ∙ ap (λ (l : List ℕ). if is_empty q.paragraph && i then continuation (chars l) q else paragraph (chars l) q) t

        wraps : i ≡ true → (q : Reader) → after q ≡ wrapped (chars (text_of md work copied from to)) q
        wraps e q = other q ∙ rw (e, and_true_right (is_empty q.paragraph))

        joins : i ≡ false → (q : Reader) → after q ≡ paragraph (chars (text_of md work copied from to)) q
        joins e q = other q ∙ rw (e, and_false (is_empty q.paragraph) false refl)

        pub continue_step : (last : OpenItem) (out out₁ : List ℕ) (r : State) → Some last ≡ continues s i
            → r ≡ continued_after s last (spans (chars line)) → out₁ ≡ continued_out s last (spans (chars line)) out
            → Steps md work work out out₁ s r 2000000 (grown s + (to - from)) after
        continue_step last out out₁ r b e f =
            let c = continues_some s i last b in
            steps_as md work work out out₁ s r 400000 (grown s + (to - from)) 2000000 (grown s + (to - from)) (wrapped (chars (text_of md work copied from to))) after
            (omega arith) (omega arith) (wraps c.0)
            (continue_text last out out₁ line r t c.1.0 c.1.1 e f)

        pub add_step : (work₁ out : List ℕ) (r : State) → None ≡ continues s i
            → Steps md work work₁ out out s r 0 (grown s + (to - from)) (paragraph (chars (text_of md work copied from to)))
            → Steps md work work₁ out out s r 2000000 (grown s + (to - from)) after
        add_step work₁ out r b a =
            ⊎_elim
            (λ e.
            steps_as md work work₁ out out s r 400000 (grown s + (to - from)) 2000000 (grown s + (to - from)) (wrapped (chars (text_of md work copied from to))) after
            (omega arith) (omega arith) (wraps e)
            (wrapped_text work₁ out r (continues_none s i e b) a))
            (λ e.
            steps_as md work work₁ out out s r 0 (grown s + (to - from)) 2000000 (grown s + (to - from)) (paragraph (chars (text_of md work copied from to))) after
            (omega arith) (omega arith) (joins e) a)
            (decide i)

-- the last item is where its record is
pub last_safe : (md work : List ℕ) (s : State) (i : Bool) (last : OpenItem) → Safe md work s → Some last ≡ continues s i → SafeItem last s.at
last_safe md work s i last u e = subst (λ (a : code.Option OpenItem). SafeLast a s.at) (continues_some s i last e).1.1 u.last

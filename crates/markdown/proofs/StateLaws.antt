-- The laws of the reader's state: blocks that are added, an item that goes on, a paragraph that ends.
-- Assumes nothing.
use Prim.Native.Nat.{ℕ, zero, suc, ◌+◌, ◌*◌, ◌-◌, ◌≤◌}
use mathlib.Core.Bool.{Bool, true, false}
use mathlib.Core.Option.{none, some}
use mathlib.Core.List.{List, [], ◌∷◌, ◌++◌, reverse}
use mathlib.Core.Path.{◌≡◌, refl, sym, ap, ◌∙◌, subst}
use native.Mathlib.Nat.{zero-add}
use native.Mathlib.Omega.{arith}
use lib.ListN.{length, length-append}
use lib.Seq.{sets}
use Rattle.text.specs.Part.{Inside}
use Rattle.text.specs.Words.{is_empty}
use Rattle.text.specs.Utf8.{chars}
use Rattle.text.proofs.Laws.{chars_nil, size_chars}
use Rattle.records.specs.Blocks.{Span, Kind, item, Block, Paragraph, Item}
use Rattle.records.specs.Format.{encode_kind, encode_count, encode_span, encode_spans, encode_block, encode_blocks}
use Rattle.records.proofs.Stores.{sets_append}
use Rattle.spans.specs.Spans.{spans}
use Rattle.spans.proofs.Bounds.{spans_small}
use Rattle.markdown.specs.Blocks.{Reader, reader, flush, added, continued, plain_space}
use Rattle.markdown.specs.Parts.{source, lent, text_of}
use Rattle.markdown.specs.State.{counted, plain_after, item_after, continued_after, continued_out, ItemAt, LastIs, Holds, Placed, Safe, Given, Steps, ends}
use Rattle.std.specs.Prelude.{Some, None}
use Rattle.std.specs.Prelude as code
use Rattle.markdown.specs.declared.lines.Text.{Text}
use Rattle.markdown.specs.declared.writer.OpenItem.{OpenItem}
use Rattle.markdown.specs.declared.writer.State.{State}
use Rattle.markdown.proofs.PartLaws.{part_none, part_length}
use Rattle.markdown.proofs.RunLaws.{empty_chars, not_empty}
use Rattle.markdown.proofs.StoreLaws.{block_length, bits_low}
use Rattle.markdown.proofs.GrowLaws.{blocks_last, grow}

-- the paragraph is put elsewhere
abbrev pub placed : State → Text → State
placed s text = record { at = s.at; item = s.item; text = text }

-- the paragraph is closed
abbrev closed : State → State
closed s = placed s (lent 0 0)

-- ---- offsets
pub safe_inside : (md work : List ℕ) (s : State) → Safe md work s → Inside (source s.text.copied md work) s.text.part.start s.text.part.end
safe_inside md work s v = go s.text.copied v.place
  where
    go : (c : Bool) → Placed c (length md) s.text.part.start s.text.part.end → Inside (source c md work) s.text.part.start s.text.part.end
    go true p = record { order = v.order; bound = omega (arith, v.room, p.1) }
    go false p = record { order = v.order; bound = p }

pub safe_long : (md work : List ℕ) (s : State) → Safe md work s → s.text.part.end - s.text.part.start ≤ length md
safe_long md work s v = go s.text.copied v.place
  where
    go : (c : Bool) → Placed c (length md) s.text.part.start s.text.part.end → s.text.part.end - s.text.part.start ≤ length md
    go true p = omega (arith, p.0, p.1)
    go false p = omega arith

pub part_inside : (md work : List ℕ) (copied : Bool) (from to : ℕ) → from ≤ to → to ≤ length md → 6 * length md ≤ length work → Inside (source copied md work) from to
part_inside md work true from to o b m = record { order = o; bound = omega (arith, b, m) }
part_inside md work false from to o b m = record { order = o; bound = b }

pub given_inside : (md work : List ℕ) (s : State) (copied : Bool) (from to : ℕ) → Given md work s from to → Inside (source copied md work) from to
given_inside md work s copied from to v = part_inside md work copied from to v.order v.bound v.safe.room

pub text_length : (md work : List ℕ) (copied : Bool) (from to : ℕ) → Inside (source copied md work) from to → length (text_of md work copied from to) ≡ to - from
unfolding text_of
text_length md work copied from to v = part_length (source copied md work) from to v.order v.bound

pub text_none : (md work : List ℕ) (copied : Bool) (from to : ℕ) → from ≡ to → chars (text_of md work copied from to) ≡ []
unfolding text_of
text_none md work copied from to e = rw (e, part_none (source copied md work) to) chars_nil

-- ---- how long a record is
pub count_small : (n : ℕ) → length (encode_count n) ≤ 4
count_small zero = omega arith
count_small (suc n) = omega arith

counted_small : (text : List ℕ) → length (counted (spans (chars text))) ≤ 4 + 6 * length text
counted_small text =
    let n = length-append (encode_count (length (spans (chars text)))) (encode_spans (spans (chars text))) in
    let c : length (encode_count (length (spans (chars text)))) ≤ 4 = count_small (length (spans (chars text))) in
    omega (arith, spans_small (chars text), size_chars text)

pub block_small : (k : Kind) (text : List ℕ) → length (encode_block (record { kind = k; spans = spans (chars text) })) ≤ 5 + length (encode_kind k) + 6 * length text
block_small k text = omega (arith, block_length (record { kind = k; spans = spans (chars text) }), counted_small text)

-- each span has a map byte
pub spans_length : (ss : List Span) → length ss ≤ length (encode_spans ss)
unfolding encode_spans encode_span
spans_length [] = omega arith
spans_length (x ∷ ss) = let ih = spans_length ss in omega (arith, length-append (encode_span x) (encode_spans ss))

-- ---- a block is added
module _ (md work out₀ out : List ℕ) (q : Reader) (s : State) (v : Holds md work out₀ out q s) where
  abbrev E : List ℕ
  E = encode_blocks (reverse q.blocks)

  stored_next : (b : Block) (out₁ : List ℕ) → out₁ ≡ sets out s.at (encode_block b) → out₁ ≡ sets out₀ 0 (encode_blocks (reverse (b ∷ q.blocks)))
  stored_next b out₁ e =
      let n : 0 + length E ≡ s.at = omega (arith, v.end) in
      e
      ∙ ap (λ (l : List ℕ). sets l s.at (encode_block b)) v.stored
      ∙ ap (λ (i : ℕ). sets (sets out₀ 0 E) i (encode_block b)) (sym n)
      ∙ sym (sets_append out₀ 0 E (encode_block b))
      ∙ ap (sets out₀ 0) (sym (blocks_last b q.blocks))

  end_next : (b : Block) → s.at + length (encode_block b) ≡ length (encode_blocks (reverse (b ∷ q.blocks)))
  end_next b = omega (arith, v.end, ap length (blocks_last b q.blocks), length-append E (encode_block b))

  pub holds_plain : (b : Block) (out₁ : List ℕ) → ((more : List Span) → continued more (b ∷ q.blocks) ≡ none) → out₁ ≡ sets out s.at (encode_block b)
      → Holds md work out₀ out₁ (reader (b ∷ q.blocks) q.paragraph) (plain_after s b)
  holds_plain b out₁ n e = record { stored = stored_next b out₁ e; end = end_next b; last = n; paragraph = v.paragraph }

  pub holds_item : (depth : ℕ) (mk : List ℕ) (ss : List Span) (out₁ : List ℕ) → out₁ ≡ sets out s.at (encode_block (Item depth mk ss))
      → Holds md work out₀ out₁ (reader (Item depth mk ss ∷ q.blocks) q.paragraph) (item_after s depth mk ss)
  holds_item depth mk ss out₁ e =
      record {
        stored = stored_next (Item depth mk ss) out₁ e;
        end = end_next (Item depth mk ss);
        last = record { depth = depth; marker = mk; spans = ss; before = q.blocks; is = refl; head = v.end; map = refl; fields = refl; count = refl };
        paragraph = v.paragraph;
      }

  -- the last item goes on
  pub holds_continued : (last : OpenItem) (more : List Span) (out₁ : List ℕ) (bs : List Block) → s.item ≡ Some last → out₁ ≡ continued_out s last more out
      → continued more q.blocks ≡ some bs → Holds md work out₀ out₁ (reader bs q.paragraph) (continued_after s last more)
  holds_continued last more out₁ bs i e f =
      let w : ItemAt q.blocks last = subst (λ (t : code.Option OpenItem). LastIs t q.blocks) i v.last in
      let b = Item w.depth w.marker w.spans in
      let b' = Item w.depth w.marker (w.spans ++ (plain_space ∷ more)) in
      let E₀ = encode_blocks (reverse w.before) in
      let p : encode_blocks (reverse q.blocks) ≡ E₀ ++ encode_block b = ap (λ (l : List Block). encode_blocks (reverse l)) w.is ∙ blocks_last b w.before in
      let n : 0 + length E₀ ≡ last.head = omega (arith, w.head) in
      let o : out ≡ sets (sets out₀ 0 E₀) last.head (encode_block b) =
      v.stored ∙ ap (sets out₀ 0) p ∙ sets_append out₀ 0 E₀ (encode_block b) ∙ ap (λ (j : ℕ). sets (sets out₀ 0 E₀) j (encode_block b)) n
      in
      let a : s.at ≡ last.head + length (encode_block b) = omega (arith, v.end, ap length p, length-append E₀ (encode_block b)) in
      let g = grow (sets out₀ 0 E₀) w.depth w.marker more s last w.map w.fields w.spans w.count a out o in
      let r : bs ≡ b' ∷ w.before = same bs (b' ∷ w.before) (sym f ∙ ap (continued more) w.is) in
      let m = length-append w.spans (plain_space ∷ more) in
      record {
        stored =
            e
            ∙ g.0
            ∙ ap (λ (j : ℕ). sets (sets out₀ 0 E₀) j (encode_block b')) (sym n)
            ∙ sym (sets_append out₀ 0 E₀ (encode_block b'))
            ∙ ap (sets out₀ 0) (sym (blocks_last b' w.before) ∙ ap (λ (l : List Block). encode_blocks (reverse l)) (sym r));
        end =
            g.1 ∙ sym (ap (λ (l : List Block). length (encode_blocks (reverse l))) r ∙ ap length (blocks_last b' w.before) ∙ length-append E₀ (encode_block b')
            ∙ ap (λ (j : ℕ). j + length (encode_block b')) (sym (zero-add (length E₀)) ∙ n));
        last =
            record {
              depth = w.depth;
              marker = w.marker;
              spans = w.spans ++ (plain_space ∷ more);
              before = w.before;
              is = r;
              head = w.head;
              map = w.map;
              fields = w.fields;
              count = omega (arith, w.count);
            };
        paragraph = v.paragraph;
      }
    where
      same : (xs ys : List Block) → some xs ≡ some ys → xs ≡ ys
      same xs ys h = cc

  -- ---- the paragraph ends
  pub holds_none : s.text.part.start ≡ s.text.part.end → Holds md work out₀ out (reader (flush q) []) s
  unfolding flush
  holds_none e =
      let p = text_none md work s.text.copied s.text.part.start s.text.part.end e in
      let z : q.paragraph ≡ [] = v.paragraph ∙ p in
      rw z (record { stored = v.stored; end = v.end; last = v.last; paragraph = sym p })

  pub holds_some : (out₁ : List ℕ) → Safe md work s → (s.text.part.start ≡ s.text.part.end → ⊥)
      → out₁ ≡ sets out s.at (encode_block (Paragraph (spans (chars (text_of md work s.text.copied s.text.part.start s.text.part.end)))))
      → Holds md work out₀ out₁ (reader (flush q) []) (closed (plain_after s (Paragraph (spans (chars (text_of md work s.text.copied s.text.part.start s.text.part.end))))))
  unfolding flush
  holds_some out₁ u n e =
      let T = text_of md work s.text.copied s.text.part.start s.text.part.end in
      let l = text_length md work s.text.copied s.text.part.start s.text.part.end (safe_inside md work s u) in
      let z : is_empty q.paragraph ≡ false = ap is_empty v.paragraph ∙ empty_chars T ∙ not_empty T (omega (arith, u.order)) in
      rw (z, v.paragraph)
      (record {
        stored = stored_next (Paragraph (spans (chars T))) out₁ e;
        end = end_next (Paragraph (spans (chars T)));
        last = λ more. refl;
        paragraph = sym (text_none md work false 0 0 refl);
      })

-- ---- steps
pub moved_safe : (md work work₁ : List ℕ) (s : State) → Safe md work s → length work₁ ≡ length work → Safe md work₁ s
moved_safe md work work₁ s u e =
    record { small = u.small; room = omega (arith, u.room); order = u.order; place = u.place; last = u.last }

module _ (md work out : List ℕ) (s : State) (u : Safe md work s) where
  pub flush_none : s.text.part.start ≡ s.text.part.end → Steps md work work out out s s 393221 0 ends
  flush_none e =
      record { holds = λ out₀ q v. holds_none md work out₀ out q s v e; safe = u; grows = omega arith; short = omega arith }

  pub flush_some : (out₁ : List ℕ) (p : State) → (s.text.part.start ≡ s.text.part.end → ⊥)
      → p ≡ plain_after s (Paragraph (spans (chars (text_of md work s.text.copied s.text.part.start s.text.part.end))))
      → out₁ ≡ sets out s.at (encode_block (Paragraph (spans (chars (text_of md work s.text.copied s.text.part.start s.text.part.end)))))
      → Steps md work work out out₁ s (closed p) 393221 0 ends
  flush_some out₁ p n e f =
      let T = text_of md work s.text.copied s.text.part.start s.text.part.end in
      let l = text_length md work s.text.copied s.text.part.start s.text.part.end (safe_inside md work s u) in
      let b = block_small (Paragraph []).kind T in
      let k = safe_long md work s u in
      let m = u.small in
      rw e
      (record {
        holds = λ out₀ q v. holds_some md work out₀ out q s v out₁ u n f;
        safe =
            record {
              small = m;
              room = u.room;
              order = omega arith;
              place = omega arith;
              last = tt;
            };
        grows = omega arith;
        short = omega arith;
      })

  module _ (long cost : ℕ) (h : s.text.part.end - s.text.part.start ≤ long) where
    pub plain_step : (b : Block) (out₁ : List ℕ) (r : State) → ((more : List Span) (bs : List Block) → continued more (b ∷ bs) ≡ none)
        → r ≡ plain_after s b → out₁ ≡ sets out s.at (encode_block b) → length (encode_block b) ≤ cost
        → Steps md work work out out₁ s r cost long (λ q. reader (b ∷ q.blocks) q.paragraph)
    plain_step b out₁ r n e f l =
        rw e
        (record {
          holds = λ out₀ q v. holds_plain md work out₀ out q s v b out₁ (λ more. n more q.blocks) f;
          safe =
              record {
                small = u.small;
                room = u.room;
                order = u.order;
                place = u.place;
                last = tt;
              };
          grows = omega arith;
          short = h;
        })

    pub item_step : (depth : ℕ) (mk : List ℕ) (text out₁ : List ℕ) (r : State) → length (encode_kind (item depth mk)) ≤ 13 → length text ≤ 65536
        → r ≡ item_after s depth mk (spans (chars text)) → out₁ ≡ sets out s.at (encode_block (Item depth mk (spans (chars text))))
        → 400000 ≤ cost → Steps md work work out out₁ s r cost long (λ q. reader (Item depth mk (spans (chars text)) ∷ q.blocks) q.paragraph)
    item_step depth mk text out₁ r k l e f z =
        let ss = spans (chars text) in
        let n = block_small (item depth mk) text in
        let m = block_length (Item depth mk ss) in
        let t = length-append (encode_count (length ss)) (encode_spans ss) in
        rw e
        (record {
          holds = λ out₀ q v. holds_item md work out₀ out q s v depth mk ss out₁ f;
          safe =
              record {
                small = u.small;
                room = u.room;
                order = u.order;
                place = u.place;
                last = record { head = omega arith; fields = omega arith; count = omega (arith, spans_length ss); map = bits_low depth mk };
              };
          grows = omega arith;
          short = h;
        })

-- one step after another
pub steps_then : (md w₀ w₁ w₂ o₁ o₂ o₃ : List ℕ) (s p r : State) (c₁ c₂ l₁ l₂ cost : ℕ) (f g : Reader → Reader) → c₁ + c₂ ≤ cost
    → Steps md w₀ w₁ o₁ o₂ s p c₁ l₁ f → Steps md w₁ w₂ o₂ o₃ p r c₂ l₂ g → Steps md w₀ w₂ o₁ o₃ s r cost l₂ (λ q. g (f q))
steps_then md w₀ w₁ w₂ o₁ o₂ o₃ s p r c₁ c₂ l₁ l₂ cost f g h a b =
    record {
      holds = λ out₀ q v. b.holds out₀ (f q) (a.holds out₀ q v);
      safe = b.safe;
      grows = omega (arith, a.grows, b.grows);
      short = b.short;
    }

-- a step in other words
pub steps_as : (md w₀ w₁ o₁ o₂ : List ℕ) (s r : State) (c₁ l₁ c₂ l₂ : ℕ) (f g : Reader → Reader) → c₁ ≤ c₂ → l₁ ≤ l₂ → ((q : Reader) → g q ≡ f q)
    → Steps md w₀ w₁ o₁ o₂ s r c₁ l₁ f → Steps md w₀ w₁ o₁ o₂ s r c₂ l₂ g
steps_as md w₀ w₁ o₁ o₂ s r c₁ l₁ c₂ l₂ f g c l e a =
    record {
      holds = λ out₀ q v. subst (λ (x : Reader). Holds md w₁ out₀ o₂ x r) (sym (e q)) (a.holds out₀ q v);
      safe = a.safe;
      grows = omega (arith, a.grows);
      short = omega (arith, a.short);
    }

-- a block after the paragraph that it ends
module _ (md work out out₁ out₂ : List ℕ) (s p r : State) (a : Steps md work work out out₁ s p 393221 0 ends) where
  pub then_plain : (b : Block) → ((more : List Span) (bs : List Block) → continued more (b ∷ bs) ≡ none) → r ≡ plain_after p b
      → out₂ ≡ sets out₁ p.at (encode_block b) → length (encode_block b) ≤ 400000 → Steps md work work out out₂ s r 800000 0 (added b)
  then_plain b n e f l =
      steps_then md work work work out out₁ out₂ s p r 393221 400000 0 0 800000 ends (λ q. reader (b ∷ q.blocks) q.paragraph) (omega arith) a
      (plain_step md work out₁ p a.safe 0 400000 a.short b out₂ r n e f l)

  pub then_item : (depth : ℕ) (mk text : List ℕ) → length (encode_kind (item depth mk)) ≤ 13 → length text ≤ 65536
      → r ≡ item_after p depth mk (spans (chars text)) → out₂ ≡ sets out₁ p.at (encode_block (Item depth mk (spans (chars text))))
      → Steps md work work out out₂ s r 800000 0 (added (Item depth mk (spans (chars text))))
  then_item depth mk text k l e f =
      steps_then md work work work out out₁ out₂ s p r 393221 400000 0 0 800000 ends (λ q. reader (Item depth mk (spans (chars text)) ∷ q.blocks) q.paragraph) (omega arith) a
      (item_step md work out₁ p a.safe 0 400000 a.short depth mk text out₂ r k l e f (omega arith))

-- ---- the same of a text that was lent
pub given_small : (md work : List ℕ) (s : State) (copied : Bool) (from to : ℕ) (text : List ℕ) → Given md work s from to
    → text ≡ text_of md work copied from to → (length text ≤ 65536) × (length text ≡ to - from)
given_small md work s copied from to text g t =
    let n = text_length md work copied from to (given_inside md work s copied from to g) in
    (omega (arith, ap length t, g.bound, g.safe.small), ap length t ∙ n)

pub safe_small : (md work : List ℕ) (s : State) (text : List ℕ) → Safe md work s → text ≡ text_of md work s.text.copied s.text.part.start s.text.part.end → length text ≤ 65536
safe_small md work s text u t =
    let n = text_length md work s.text.copied s.text.part.start s.text.part.end (safe_inside md work s u) in
    omega (arith, ap length t, safe_long md work s u, u.small)

pub flush_text : (md work out out₁ text : List ℕ) (s p : State) → Safe md work s → text ≡ text_of md work s.text.copied s.text.part.start s.text.part.end → (s.text.part.start ≡ s.text.part.end → ⊥)
    → p ≡ plain_after s (Paragraph (spans (chars text))) → out₁ ≡ sets out s.at (encode_block (Paragraph (spans (chars text))))
    → Steps md work work out out₁ s (closed p) 393221 0 ends
flush_text md work out out₁ text s p u t n e f =
    flush_some md work out s u out₁ p n (e ∙ ap (λ (x : List ℕ). plain_after s (Paragraph (spans (chars x)))) t)
    (f ∙ ap (λ (x : List ℕ). sets out s.at (encode_block (Paragraph (spans (chars x))))) t)

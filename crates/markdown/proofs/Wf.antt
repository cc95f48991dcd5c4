-- Every block that is read from a Markdown text of at most 65,536 bytes has a record, so the records give back the blocks.
-- The reader's invariant, with n bytes of lines to come: its blocks have records and each has room for spans of n bytes more, and its
-- paragraph with those n bytes is no longer than the text.
-- Assumes nothing.
use Prim.Native.Nat.{ℕ, ◌+◌, ◌*◌, ◌≤◌, min}
use native.Mathlib.Omega.{arith}
use mathlib.Core.Path.{◌≡◌, refl, ap, ◌∙◌, subst}
use mathlib.Core.Bool.{Bool, true, ◌&&◌}
use mathlib.Core.Logic.{inl}
use mathlib.Core.List.{List, [], ◌∷◌, ◌++◌, reverse_aux}
use mathlib.Core.Option.{none, some}
use borrow.Author.Tests.{ltb-false}
use lib.Dec.{leb, ltb}
use lib.ListN.{length, length-append}
use Rattle.text.specs.Words.{case, str, is, is_empty, starts, take_while, drop_while}
use Rattle.text.specs.Chars.{is_space}
use Rattle.text.specs.Utf8.{Scalars, utf8, size, decode}
use Rattle.text.specs.Trim.{trim}
use Rattle.text.specs.Outcome.{Outcome, refused, wrote}
use Rattle.text.proofs.Tests.{on, by_case}
use Rattle.text.proofs.Laws.{size_append, size_encode, scalars_append, decode_iff}
use Rattle.records.specs.Blocks.{Span, Kind, heading as headed, paragraph as plain, item, Block, Item}
use Rattle.records.specs.Format.{encode_blocks, WfSpan, WfSpans, WfKind, WfBlocks}
use Rattle.records.specs.Decode.{parsed, decode_blocks}
use Rattle.records.proofs.RoundTrip.{records_give_back}
use Rattle.spans.specs.Spans.{spans}
use Rattle.spans.proofs.Bounds.{spans_few}
use Rattle.spans.proofs.Wf.{spans_wf}
use Rattle.markdown.specs.Blocks.{is_rule, list_marker, cleaned, lines, row, Reader, reader, flush, added, heading, joined, paragraph, plain_space, with_spans, continued}
use Rattle.markdown.specs.Blocks.{continuation, read_text, read_line, read_lines, blocks}
use Rattle.markdown.specs.Calls.{recorded, with_buffers, blocks_call}
use Rattle.markdown.proofs.FitLaws.{Fits, wider, while_fits, trim_fits, hash_first, cleaned_fits, row_fits, total, AllScalars, lines_held, Known, KnownIn, line_known}

-- ---- spans
wf_append : (xs ys : List Span) → WfSpans xs → WfSpans ys → WfSpans (xs ++ ys)
wf_append [] ys p q = q
wf_append (x ∷ xs) ys p q = (p.0, wf_append xs ys p.1 q)

space_scalars : Scalars (str " ")
space_scalars = (inl (omega arith), tt)

space_size : size (str " ") ≡ 1
unfolding size utf8
space_size = refl

space_wf : WfSpan plain_space
space_wf = record { scalars = space_scalars; bounded = omega (arith, space_size); shown = refl }

-- ---- the reader, with n to come: at most 65,537, the text's bytes and one for the last line's end. The longest text of a block is a row,
-- with at most 16 bytes for one of its line
record Good (n : ℕ) (b : Block) : Type 0 where
  shape : WfKind b.kind
  sound : WfSpans b.spans
  few : length b.spans + 2 * n ≤ 4000000

abbrev AllGood : ℕ → List Block → Type 0
AllGood n [] = Unit {0}
AllGood n (b ∷ bs) = Good n b × AllGood n bs

record Inv (n : ℕ) (r : Reader) : Type 0 where
  good : AllGood n r.blocks
  text : Scalars r.paragraph
  small : size r.paragraph + n ≤ 65537

fewer : (n m : ℕ) (bs : List Block) → m ≤ n → AllGood n bs → AllGood m bs
fewer n m [] l h = tt
fewer n m (b ∷ bs) l h = (record { shape = h.0.shape; sound = h.0.sound; few = omega (arith, h.0.few) }, fewer n m bs l h.1)

-- a block with the spans of a text; a row is the longest
made : (n : ℕ) (k : Kind) (t : List ℕ) → WfKind k → Fits 1048592 t → n ≤ 65537 → Good n (record { kind = k; spans = spans t })
made n k t w f l =
    record { shape = w; sound = spans_wf t f.scalars (omega (arith, f.small)); few = omega (arith, spans_few t, f.small) }

flush_good : (n m : ℕ) (r : Reader) → m ≤ n → Inv n r → AllGood m (flush r)
unfolding flush
flush_good n m r l h =
    let rest = fewer n m r.blocks l h.good in
    on (AllGood m) (is_empty r.paragraph) (λ _. rest)
    (λ _. (made m plain r.paragraph tt (record { scalars = h.text; small = omega (arith, h.small) }) (omega (arith, h.small)), rest))

joined_fits : (p t : List ℕ) → Scalars p → Scalars t → Fits (size p + 1 + size t) (joined p t)
unfolding size
joined_fits [] t h g = record { scalars = g; small = omega arith }
joined_fits (c ∷ p) t h g =
    record {
      scalars = scalars_append ((c ∷ p) ++ str " ") t (scalars_append (c ∷ p) (str " ") h space_scalars) g;
      small = omega (arith, size_append ((c ∷ p) ++ str " ") t, size_append (c ∷ p) (str " "), space_size);
    }

-- ---- the item above with more spans, from a line of k bytes with one for its end
module _ (n k : ℕ) (more : List Span) (sound : WfSpans more) (few : length more + 1 ≤ 2 * k) (bs cs : List Block) (others : AllGood (k + n) bs) where
  item_good : (kind : Kind) (ss : List Span) → Good (k + n) (record { kind = kind; spans = ss })
      → case (with_spans kind ss more) none (λ c. some (c ∷ bs)) ≡ some cs → AllGood n cs
  item_good (headed level) ss g e = let z : ◌≡◌ {A = ℕ} 0 1 = cc in absurd (omega arith)
  item_good plain ss g e = let z : ◌≡◌ {A = ℕ} 0 1 = cc in absurd (omega arith)
  item_good (item d m) ss g e =
      let q : Item d m (ss ++ (plain_space ∷ more)) ∷ bs ≡ cs = cc in
      subst (AllGood n) q (
        record {
          shape = g.shape;
          sound = wf_append ss (plain_space ∷ more) g.sound (space_wf, sound);
          few = omega (arith, length-append ss (plain_space ∷ more), g.few);
        },
        fewer (k + n) n bs (omega arith) others,
      )

continued_good : (n k : ℕ) (more : List Span) → WfSpans more → length more + 1 ≤ 2 * k → (bs cs : List Block) → AllGood (k + n) bs → continued more bs ≡ some cs → AllGood n cs
continued_good n k more w f [] cs h e = let z : ◌≡◌ {A = ℕ} 0 1 = cc in absurd (omega arith)
continued_good n k more w f (b ∷ bs) cs h e = item_good n k more w f bs cs h.1 b.kind b.spans h.0 e

-- ---- one line l, with n to come after it
module _ (n : ℕ) (l : List ℕ) (r : Reader) (h : Inv (1 + size l + n) r) where
  flushed : AllGood n (flush r)
  flushed = flush_good (1 + size l + n) n r (omega arith) h

  older : AllGood n r.blocks
  older = fewer (1 + size l + n) n r.blocks (omega arith) h.good

  ended : Inv n (reader (flush r) [])
  unfolding size
  ended = record { good = flushed; text = tt; small = omega (arith, h.small) }

  added_inv : (k : Kind) (t : List ℕ) → WfKind k → Fits 1048592 t → Inv n (added (record { kind = k; spans = spans t }) r)
  unfolding size
  added_inv k t w f = record { good = (made n k t w f (omega (arith, h.small)), flushed); text = tt; small = omega (arith, h.small) }

  module _ (t : List ℕ) (f : Fits (size l) t) where
    heading_inv : starts "#" t ≡ true → Inv n (heading t r)
    unfolding heading
    heading_inv e =
        let level = length (take_while (is "#") t) in
        let title = drop_while (is "#") t in
        let some = hash_first t e in
        on (Inv n) (starts " " title && leb level 6)
        (λ _.
        added_inv (headed (min level 3)) (trim title) (omega arith, omega arith)
        (wider (size l) 1048592 (trim title) (omega (arith, h.small)) (trim_fits (size l) is_space title (while_fits (size l) (is "#") t f))))
        (λ _. record { good = flushed; text = f.scalars; small = omega (arith, f.small, h.small) })

    paragraph_inv : Inv n (paragraph t r)
    unfolding paragraph
    paragraph_inv =
        let j = joined_fits r.paragraph t h.text f.scalars in
        record { good = older; text = j.scalars; small = omega (arith, j.small, f.small, h.small) }

    continuation_inv : Inv n (continuation t r)
    unfolding continuation size
    continuation_inv =
        by_case (Inv n) (continued (spans t) r.blocks) (λ _. paragraph_inv)
        (λ bs e.
        record {
          good = continued_good n (1 + size l) (spans t) (spans_wf t f.scalars (omega (arith, f.small, h.small))) (omega (arith, spans_few t, f.small)) r.blocks bs h.good e;
          text = tt;
          small = omega (arith, h.small);
        })

    text_inv : (indented : Bool) → Inv n (read_text r indented t)
    unfolding read_text
    text_inv indented =
        on (Inv n) (is_rule t) (λ _. ended)
        (λ _. on (Inv n) (starts "|" t)
        (λ _. added_inv plain (row t) tt (wider (16 * size l) 1048592 (row t) (omega (arith, h.small)) (row_fits (size l) t f)))
        (λ _. on (Inv n) (is_empty r.paragraph && indented) (λ _. continuation_inv) (λ _. paragraph_inv)))

  line_inv : Scalars l → Inv n (read_line r l)
  unfolding read_line
  line_inv s =
      let f = trim_fits (size l) is_space l (record { scalars = s; small = omega arith }) in
      on (Inv n) (is_empty (trim l)) (λ _. ended)
      (λ _. on (Inv n) (starts "#" (trim l)) (λ e. heading_inv (trim l) f e)
      (λ _. by_case (Inv n) (list_marker l) (λ _. text_inv (trim l) f (starts " " l))
      (λ m e.
      let k : Known (size l) m = subst (KnownIn (size l)) e (line_known l s) in
      added_inv (item m.depth m.marker) m.item (omega (arith, k.depth, h.small), k.marker)
      (wider (size l) 1048592 m.item (omega (arith, h.small)) k.item))))

-- ---- all lines
lines_inv : (ls : List (List ℕ)) (r : Reader) → AllScalars ls → Inv (total ls) r → Inv 0 (read_lines r ls)
unfolding read_lines
lines_inv [] r a h = h
lines_inv (l ∷ ls) r a h = lines_inv ls (read_line r l) a.1 (line_inv (total ls) l r h a.0)

reverse_wf : (bs cs : List Block) → AllGood 0 bs → WfBlocks cs → WfBlocks (reverse_aux bs cs)
reverse_wf [] cs h w = w
reverse_wf (b ∷ bs) cs h w =
    reverse_wf bs (b ∷ cs) h.1 (record { kind = h.0.shape; spans = h.0.sound; bounded = omega (arith, h.0.few) }, w)

module _ (m : List ℕ) (scalars : Scalars m) (short : size m ≤ 65536) where
  read_inv : Inv 0 (read_lines (reader [] []) (lines (cleaned 0 m)))
  unfolding size
  read_inv =
      let c = cleaned_fits 0 m scalars in
      let g = lines_held (cleaned 0 m) c.scalars in
      lines_inv (lines (cleaned 0 m)) (reader [] []) g.scalars
      (record { good = tt; text = tt; small = omega (arith, c.small, g.small) })

  -- the blocks of a Markdown text have records
  pub blocks_wf : WfBlocks (blocks m)
  unfolding blocks
  blocks_wf =
      let r = read_lines (reader [] []) (lines (cleaned 0 m)) in
      reverse_wf (flush r) [] (flush_good 0 0 r (omega arith) read_inv) tt

  -- and the records give back the blocks
  pub blocks_decode : decode_blocks (encode_blocks (blocks m)) ≡ parsed (blocks m) []
  blocks_decode = records_give_back (blocks m) blocks_wf

-- ---- the call: what it wrote are the records of the blocks of the characters that the bytes stand for
abbrev Gives : List ℕ → Outcome → Type 0
Gives md (refused n) = Unit {0}
Gives md (wrote rs) = (cs : List ℕ) × (decode md ≡ some cs) × (rs ≡ encode_blocks (blocks cs)) × WfBlocks (blocks cs)

gives : (md : List ℕ) (work result : ℕ) → Gives md (blocks_call md work result)
unfolding blocks_call with_buffers recorded
gives md work result =
    on (Gives md) (ltb 65536 (length md)) (λ _. tt)
    (λ s. by_case (Gives md) (decode md) (λ _. tt)
    (λ cs e.
    let d = (decode_iff md cs).0 e in
    let short : size cs ≤ 65536 = omega (arith, ltb-false 65536 (length md) s, size_encode cs, ap length d.1) in
    on (Gives md) (ltb work (6 * length md)) (λ _. tt)
    (λ _. on (Gives md) (ltb result (length (encode_blocks (blocks cs)))) (λ _. tt) (λ _. (cs, e, refl, blocks_wf cs d.0 short)))))

module _ (md : List ℕ) (work result : ℕ) (records : List ℕ) (e : blocks_call md work result ≡ wrote records) where
  pub call_wf : (cs : List ℕ) × (decode md ≡ some cs) × (records ≡ encode_blocks (blocks cs)) × WfBlocks (blocks cs)
  call_wf = subst (Gives md) e (gives md work result)

  -- they decode to those blocks, with nothing left
  pub call_decodes : (cs : List ℕ) × (decode md ≡ some cs) × (decode_blocks records ≡ parsed (blocks cs) [])
  call_decodes = decoded call_wf
    where
      decoded : ((cs : List ℕ) × (decode md ≡ some cs) × (records ≡ encode_blocks (blocks cs)) × WfBlocks (blocks cs))
          → (cs : List ℕ) × (decode md ≡ some cs) × (decode_blocks records ≡ parsed (blocks cs) [])
      decoded (cs, d, q, w) = (cs, d, ap decode_blocks q ∙ records_give_back (blocks cs) w)

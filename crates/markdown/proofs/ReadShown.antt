-- What the reader shows of the lines it has read: its blocks and the open paragraph, one after the other (document 02, U11, for a whole
-- reading).
-- Assumes nothing.
use Prim.Native.Nat.{ℕ, min}
use native.Mathlib.Omega.{arith}
use mathlib.Core.Path.{◌≡◌, refl, sym, ap, ◌∙◌, subst}
use mathlib.Core.Bool.{Bool, false, ◌&&◌}
use mathlib.Core.Option.{none, some}
use mathlib.Core.List.Sublistᴰ
use mathlib.Core.List.{List, [], ◌∷◌, ◌++◌, reverse_aux, append_assoc, append-nil, Sublistᴰ}
use lib.Dec.{leb}
use lib.ListN.{length}
use Rattle.text.specs.Words.{case, str, is, is_empty, starts, take_while, drop_while}
use Rattle.text.specs.Chars.{is_space}
use Rattle.text.specs.Trim.{trim}
use Rattle.text.proofs.Tests.{on, by_case, true_false}
use Rattle.records.specs.Blocks.{Span, Kind, heading as headed, paragraph as plain, item, Block, Item, joined as span_text}
use Rattle.records.proofs.FormatLaws.{joined_append}
use Rattle.spans.specs.Spans.{spans}
use Rattle.spans.proofs.ShownLaws.{spans_from}
use Rattle.markdown.specs.Blocks.{is_rule, list_marker, cleaned, lines, row, Reader, reader, flush, added, heading, joined, paragraph, plain_space, with_spans, continued}
use Rattle.markdown.specs.Blocks.{continuation, read_text, read_line, read_lines, blocks}
use Rattle.markdown.specs.Shown.{marker, shown, instead, Shows}
use Rattle.markdown.proofs.Sublists.{front_sublist, while_sublist, trim_sublist, cleaned_sublist, more_lines, all_lines, lines_sublist}
use Rattle.markdown.proofs.ShowsLaws.{shows_none, shows_append, shows_less, shows_more, shows_part, shows_instead, row_shows, MarkerShows, list_shows}

module _ (marked : Bool) where
  -- a block, and blocks of which the last stands first
  abbrev entry : Block → List ℕ
  entry b = marker b.kind marked ++ span_text b.spans

  abbrev back : List Block → List ℕ
  back [] = []
  back (b ∷ bs) = back bs ++ entry b

  back_shown : (bs cs : List Block) → back bs ++ shown marked cs ≡ shown marked (reverse_aux bs cs)
  back_shown [] cs = refl
  back_shown (b ∷ bs) cs =
      append_assoc (back bs) (entry b) (shown marked cs) ∙ back_shown bs (b ∷ cs)

  -- what the reader holds
  abbrev held : Reader → List ℕ
  held r = back r.blocks ++ r.paragraph

  flush_sublist : (r : Reader) → Sublistᴰ (back (flush r)) (held r)
  unfolding flush
  flush_sublist r =
      on (λ (bs : List Block). Sublistᴰ (back bs) (held r)) (is_empty r.paragraph) (λ _. front_sublist (back r.blocks) r.paragraph)
      (λ _. Sublistᴰ.append (Sublistᴰ.refl (back r.blocks)) (spans_from r.paragraph))

  -- ---- one line. What the reader holds is shown of the text s before it; between s and the line stands a gap, of which a space is shown where
  -- the reader holds something for the line to go on with
  abbrev Space : List ℕ → Type 0
  Space gap = Shows marked (str " ") gap

  module _ (r : Reader) (s gap line : List ℕ) (h : Shows marked (held r) s)
      (in_paragraph : is_empty r.paragraph ≡ false → Space gap) (in_item : (b : Block) (bs : List Block) → r.blocks ≡ b ∷ bs → Space gap) where
    abbrev Done : Reader → Type 0
    Done q = Shows marked (held q) (s ++ (gap ++ line))

    -- the paragraph is ended, and a paragraph or a block of the line is begun
    ended : (t : List ℕ) → Shows marked t line → Shows marked (back (flush r) ++ t) (s ++ (gap ++ line))
    ended t p = shows_append marked (shows_less marked (flush_sublist r) h) (shows_append marked (shows_none marked gap) p)

    closed : Done (reader (flush r) [])
    closed = ended [] (shows_none marked line)

    added_done : (k : Kind) (ss : List Span) → Shows marked (marker k marked ++ span_text ss) line → Done (added (record { kind = k; spans = ss }) r)
    added_done k ss p =
        let new = marker k marked ++ span_text ss in
        subst (λ (l : List ℕ). Shows marked l (s ++ (gap ++ line))) (sym (append-nil (back (flush r) ++ new))) (ended new p)

    -- the spans of a text that the line shows
    spans_shows : (t : List ℕ) → Shows marked t line → Shows marked (span_text (spans t)) line
    spans_shows t p = shows_less marked (spans_from t) p

    -- the blocks so far
    older : Shows marked (back r.blocks) s
    older = shows_less marked (front_sublist (back r.blocks) r.paragraph) h

    module _ (t : List ℕ) (part : Sublistᴰ t line) where
      line_shows : Shows marked t line
      line_shows = shows_part marked part

      heading_done : Done (heading t r)
      unfolding heading
      heading_done =
          let title = drop_while (is "#") t in
          let inside = Sublistᴰ.trans (trim_sublist is_space title) (Sublistᴰ.trans (while_sublist (is "#") t) part) in
          let level = length (take_while (is "#") t) in
          on Done (starts " " title && leb level 6)
          (λ _. added_done (headed (min level 3)) (spans (trim title)) (spans_shows (trim title) (shows_part marked inside))) (λ _. ended t line_shows)

      paragraph_done : Done (paragraph t r)
      unfolding paragraph
      paragraph_done = go r.paragraph refl
        where
          go : (p : List ℕ) → r.paragraph ≡ p → Shows marked (back r.blocks ++ joined p t) (s ++ (gap ++ line))
          go [] e = shows_append marked older (shows_append marked (shows_none marked gap) line_shows)
          go (c ∷ p) e =
              let q = r.paragraph in
              let split : held r ++ (str " " ++ t) ≡ back r.blocks ++ ((c ∷ p) ++ str " " ++ t) =
              append_assoc (back r.blocks) q (str " " ++ t)
              ∙ ap (λ (l : List ℕ). back r.blocks ++ l) (sym (append_assoc q (str " ") t) ∙ ap (λ (l : List ℕ). l ++ str " " ++ t) e) in
              subst (λ (l : List ℕ). Shows marked l (s ++ (gap ++ line))) split
              (shows_append marked h (shows_append marked (in_paragraph (ap is_empty e)) line_shows))

      -- the item above with the spans of the line
      module _ (bs cs : List Block) where
        item_done : (kind : Kind) (ss : List Span) → Shows marked (back (record { kind = kind; spans = ss } ∷ bs)) s → Space gap
            → case (with_spans kind ss (spans t)) none (λ c. some (c ∷ bs)) ≡ some cs → Done (reader cs [])
        item_done (headed level) ss p g e = let z : ◌≡◌ {A = ℕ} 0 1 = cc in absurd (omega arith)
        item_done plain ss p g e = let z : ◌≡◌ {A = ℕ} 0 1 = cc in absurd (omega arith)
        item_done (item d m) ss p g e =
            let q : Item d m (ss ++ (plain_space ∷ spans t)) ∷ bs ≡ cs = cc in
            let lead = marker (item d m) marked in
            let more = str " " ++ span_text (spans t) in
            let split : (back bs ++ (lead ++ span_text ss)) ++ more ≡ back (Item d m (ss ++ (plain_space ∷ spans t)) ∷ bs) ++ [] =
            append_assoc (back bs) (lead ++ span_text ss) more
            ∙ ap (λ (l : List ℕ). back bs ++ l) (append_assoc lead (span_text ss) more ∙ ap (λ (l : List ℕ). lead ++ l) (sym (joined_append ss (plain_space ∷ spans t))))
            ∙ sym (append-nil _) in
            subst (λ (bs : List Block). Done (reader bs [])) q
            (subst (λ (l : List ℕ). Shows marked l (s ++ (gap ++ line))) split (shows_append marked p (shows_append marked g (spans_shows t line_shows))))

      continued_done : (bs cs : List Block) → r.blocks ≡ bs → continued (spans t) bs ≡ some cs → Done (reader cs [])
      continued_done [] cs f e = let z : ◌≡◌ {A = ℕ} 0 1 = cc in absurd (omega arith)
      continued_done (b ∷ bs) cs f e =
          item_done bs cs b.kind b.spans (subst (λ (l : List Block). Shows marked (back l) s) f older) (in_item b bs f) e

      continuation_done : Done (continuation t r)
      unfolding continuation
      continuation_done =
          by_case Done (continued (spans t) r.blocks) (λ _. paragraph_done) (λ bs e. continued_done r.blocks bs refl e)

      text_done : (indented : Bool) → Done (read_text r indented t)
      unfolding read_text
      text_done indented =
          on Done (is_rule t) (λ _. closed)
          (λ _. on Done (starts "|" t) (λ _. added_done plain (spans (row t)) (spans_shows (row t) (shows_more marked part (row_shows marked t))))
          (λ _. on Done (is_empty r.paragraph && indented) (λ _. continuation_done) (λ _. paragraph_done)))

    line_done : Done (read_line r line)
    unfolding read_line
    line_done =
        let trimmed = trim_sublist is_space line in
        on Done (is_empty (trim line)) (λ _. closed)
        (λ _. on Done (starts "#" (trim line)) (λ _. heading_done (trim line) trimmed)
        (λ _. by_case Done (list_marker line) (λ _. text_done (trim line) trimmed (starts " " line))
        (λ m e.
        let shows : Shows marked (marker (item m.depth m.marker) marked ++ m.item) line =
        subst (MarkerShows marked line) e (list_shows marked line) in
        let lead = marker (item m.depth m.marker) marked in
        added_done (item m.depth m.marker) (spans m.item) (shows_less marked (Sublistᴰ.append (Sublistᴰ.refl lead) (spans_from m.item)) shows))))

  -- ---- all lines
  space_shows : Space (10 ∷ [])
  unfolding instead
  space_shows = shows_instead marked 10

  more_done : (ls : List (List ℕ)) (r : Reader) (s : List ℕ) → Shows marked (held r) s → Shows marked (held (read_lines r ls)) (s ++ more_lines ls)
  unfolding read_lines
  more_done [] r s h = subst (Shows marked (held r)) (sym (append-nil s)) h
  more_done (l ∷ ls) r s h =
      let read = line_done r s (10 ∷ []) l h (λ _. space_shows) (λ b bs e. space_shows) in
      subst (Shows marked (held (read_lines (read_line r l) ls))) (append_assoc s ((10 ∷ []) ++ l) (more_lines ls))
      (more_done ls (read_line r l) (s ++ ((10 ∷ []) ++ l)) read)

  all_done : (ls : List (List ℕ)) → Shows marked (held (read_lines (reader [] []) ls)) (all_lines ls)
  unfolding read_lines
  all_done [] = shows_none marked []
  all_done (l ∷ ls) =
      more_done ls (read_line (reader [] []) l) l
      (line_done (reader [] []) [] [] l (shows_none marked []) (λ e. true_false e) (λ b bs e. let z : ◌≡◌ {A = ℕ} 0 1 = cc in absurd (omega arith)))

  pub blocks_shown : (markdown : List ℕ) → Shows marked (shown marked (blocks markdown)) markdown
  unfolding blocks
  blocks_shown markdown =
      let text = cleaned 0 markdown in
      let read = read_lines (reader [] []) (lines text) in
      let parts = Sublistᴰ.trans (lines_sublist text) (cleaned_sublist 0 markdown) in
      subst (λ (l : List ℕ). Shows marked l markdown) (sym (append-nil (back (flush read))) ∙ back_shown (flush read) [])
      (shows_less marked (flush_sublist read) (shows_more marked parts (all_done (lines text))))

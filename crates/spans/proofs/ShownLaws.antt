-- What one turn and the whole walk show of a line's characters: the pending text, then characters of what was read, in their order; and
-- each span that is not code has text (document 02, U11).
-- Assumes nothing.
use mathlib.Core.Path.{◌≡◌, refl, sym, ap, ◌∙◌, subst}
use Prim.Native.Nat.{ℕ, zero, suc, ◌+◌, ◌≤◌}
use native.Mathlib.Omega.{arith}
use mathlib.Core.Bool.{Bool, true, false, not, ◌&&◌, true≢false}
use mathlib.Core.List.Sublistᴰ
use mathlib.Core.List.{List, [], ◌∷◌, ◌++◌, map, reverse, reverse-cons, append_assoc, append-nil, Sublistᴰ}
use lib.ListN.{length, take, drop, get_or, length-reverse, take-append-drop}
use borrow.Author.Tests.{eqb-false, ne_eqb}
use Rattle.text.specs.Words.{is, matches, any, is_empty, starts, find}
use Rattle.text.proofs.Tests.{on, by_case, and_true, or_neither}
use Rattle.records.specs.Blocks.{Span, joined}
use Rattle.records.proofs.FormatLaws.{joined_append}
use Rattle.spans.specs.Spans.{Walk, at, push, cleared, span, flush, link, Step, made, label, kept, code_step, star_step, link_step, image_step, step, carry, walk, spans}
use Rattle.spans.specs.Turn.{Turn, turn, linked, turned}
use Rattle.spans.specs.Shown.{HasText, Every}
use Rattle.spans.proofs.SpanLaws.{shorter_drop, shorter_take, flushed, not_empty, walk_end, walk_next, after, spans_eq}
use Rattle.spans.proofs.LinkLaws.{LinkIs, link_is}

-- ---- joined texts, and what holds of every span

joined_carry : (w : Walk) (ss : List Span) → joined (map (carry w) ss) ≡ joined ss
joined_carry w [] = refl
joined_carry w (s ∷ ss) = ap (λ (l : List ℕ). s.text ++ l) (joined_carry w ss)

every_append : (P : Span → Type 0) (xs ys : List Span) → Every P xs → Every P ys → Every P (xs ++ ys)
every_append P [] ys p q = q
every_append P (x ∷ xs) ys p q = (p.0, every_append P xs ys p.1 q)

every_carry : (w : Walk) (ss : List Span) → Every HasText ss → Every HasText (map (carry w) ss)
every_carry w [] h = tt
every_carry w (s ∷ ss) h = (h.0, every_carry w ss h.1)

-- a shorter front part is in a longer one
take_sublist : (s : List ℕ) (m n : ℕ) → m ≤ n → Sublistᴰ (take m s) (take n s)
take_sublist s zero n h = Sublistᴰ.nil-sublist (take n s)
take_sublist s (suc m) zero h = absurd (omega arith)
take_sublist [] (suc m) (suc n) h = Sublistᴰ.slnil
take_sublist (c ∷ s) (suc m) (suc n) h = Sublistᴰ.cons-cons refl (take_sublist s m n (omega arith))

-- pending text is shown whole, and makes a span only where there is some
flush_joined : (w : Walk) → joined (flush w) ≡ reverse w.text
flush_joined w =
    flushed (λ ss. joined ss ≡ reverse w.text) w (λ e. sym (ap reverse e)) (λ c t e. append-nil (reverse w.text))

flush_texts : (w : Walk) → Every HasText (flush w)
flush_texts w =
    flushed (Every HasText) w (λ _. tt) (λ c t e. (λ _ f. omega (arith, length-reverse w.text, ap length e, ap length f), tt))

-- ---- a turn at c with s after it: the pending text, then characters of c and of what the turn took after it
record Shows (w : Walk) (c : ℕ) (s : List ℕ) (t : Turn) : Type 0 where
  new : List ℕ
  same : joined t.spans ++ reverse t.walk.text ≡ reverse w.text ++ new
  from : Sublistᴰ new (c ∷ take t.more s)
  texts : Every HasText t.spans

-- the walk over s: the pending text, then characters of s
pub record Shown (w : Walk) (s : List ℕ) (ss : List Span) : Type 0 where
  pub new : List ℕ
  pub same : joined ss ≡ reverse w.text ++ new
  pub from : Sublistᴰ new s
  pub texts : Every HasText ss

module _ (w : Walk) (c : ℕ) (s : List ℕ) where
  kept_shows : Shows w c s (turn [] (push c w) 0)
  kept_shows = record { new = c ∷ []; same = reverse-cons c w.text; from = Sublistᴰ.refl (c ∷ []); texts = tt }

  toggle_shows : (n : ℕ) (b i : Bool) → Shows w c s (turn (flush w) (at b i []) n)
  toggle_shows n b i = record {
    new = [];
    same = ap (λ (l : List ℕ). l ++ []) (flush_joined w);
    from = Sublistᴰ.nil-sublist (c ∷ take n s);
    texts = flush_texts w;
  }

  -- the pending text, ended, and then spans of what follows
  ended_shows : (ss : List Span) (n : ℕ) → Sublistᴰ (joined ss) (take n s) → Every HasText ss → Shows w c s (turn (flush w ++ ss) (cleared w) n)
  ended_shows ss n p q = record {
    new = joined ss;
    same = append-nil (joined (flush w ++ ss)) ∙ joined_append (flush w) ss ∙ ap (λ (l : List ℕ). l ++ joined ss) (flush_joined w);
    from = Sublistᴰ.cons p;
    texts = every_append HasText (flush w) ss (flush_texts w) q;
  }

  dropped_shows : (n : ℕ) → Shows w c s (turn [] w n)
  dropped_shows n = record { new = []; same = sym (append-nil (reverse w.text)); from = Sublistᴰ.nil-sublist (c ∷ take n s); texts = tt }

  linked_shows : (ls : List Span) (n : ℕ) → Sublistᴰ (joined ls) (take n s) → Every HasText ls → Shows w c s (linked w ls n)
  unfolding linked
  linked_shows [] n p q = dropped_shows n
  linked_shows (l ∷ ls) n p q = ended_shows (l ∷ ls) n p q

  module _ (inner : List ℕ → List Span) (labels : (l : List ℕ) → length l ≤ length s → Shown (at false false []) l (inner l)) where
    abbrev Fine : Step → Type 0
    Fine x = Shows w c s (turned inner w s x)

    kept_fine : Fine (kept w c)
    unfolding turned
    kept_fine = kept_shows

    code_fine : Fine (code_step w c s)
    unfolding code_step turned
    code_fine =
        by_case Fine (find "`" s) (λ _. kept_shows)
        (λ n e. ended_shows (span true w (take n s) ∷ []) (n + 1)
        (rw (append-nil (take n s)) (take_sublist s n (n + 1) (omega arith)))
        (λ f _. true≢false f, tt))

    star_fine : Fine (star_step w s)
    unfolding star_step turned
    star_fine = on Fine (starts "*" s) (λ _. toggle_shows 1 (not w.bold) w.italic) (λ _. toggle_shows 0 w.bold (not w.italic))

    label_fine : (p : ℕ × ℕ) → LinkIs s p → Fine (label p.0 (p.1 + 1))
    unfolding turned
    label_fine p h =
        let l : List ℕ = take p.0 s in
        let k = labels l (shorter_take p.0 s) in
        linked_shows (map (carry w) (inner l)) (p.1 + 1)
        (rw (joined_carry w (inner l), k.same) (Sublistᴰ.trans k.from (take_sublist s p.0 (p.1 + 1) (omega (arith, h.order)))))
        (every_carry w (inner l) k.texts)

    link_fine : Fine (link_step w c s)
    unfolding link_step
    link_fine = by_case Fine (link s) (λ _. kept_fine) (λ p e. label_fine p (link_is s p e))

    image_fine : Fine (image_step w c s)
    unfolding image_step turned
    image_fine = by_case Fine (link (drop 1 s)) (λ _. kept_shows) (λ p e. dropped_shows (p.1 + 2))

    escape_fine : 1 ≤ length s → Fine (made [] (push (get_or s 0 0) w) 1)
    unfolding turned
    escape_fine h =
        record { new = get_or s 0 0 ∷ []; same = reverse-cons (get_or s 0 0) w.text; from = Sublistᴰ.cons (first s h); texts = tt }
      where
        first : (s : List ℕ) → 1 ≤ length s → Sublistᴰ (get_or s 0 0 ∷ []) (take 1 s)
        first [] h = absurd (omega arith)
        first (d ∷ s) h = Sublistᴰ.refl (d ∷ [])

    step_fine : Fine (step w c s)
    unfolding step
    step_fine =
        on Fine (is "\\" c && not (is_empty s)) (λ e. escape_fine (not_empty s (and_true (is "\\" c) (not (is_empty s)) e).1))
        (λ _. on Fine (is "`" c) (λ _. code_fine)
        (λ _. on Fine (is "*" c) (λ _. star_fine)
        (λ _. on Fine (is "[" c) (λ _. link_fine)
        (λ _. on Fine (is "!" c && starts "[" s) (λ _. image_fine) (λ _. kept_fine)))))

walk_end_shown : (w : Walk) → Shown w [] (walk spans w 0 [])
walk_end_shown w =
    rw (walk_end spans w)
    (record { new = []; same = flush_joined w ∙ sym (append-nil (reverse w.text)); from = Sublistᴰ.nil-sublist []; texts = flush_texts w })

walk_shown : (n : ℕ) (s : List ℕ) → length s ≤ n → (w : Walk) → Shown w s (walk spans w 0 s)
walk_shown zero [] h w = walk_end_shown w
walk_shown (suc n) [] h w = walk_end_shown w
walk_shown zero (c ∷ s) h w = absurd (omega arith)
walk_shown (suc n) (c ∷ s) h w =
    let t : Turn = turned spans w s (step w c s) in
    let a : Shows w c s t = step_fine w c s spans (λ l k. rw (spans_eq l) (walk_shown n l (omega arith) (at false false []))) in
    let rest : List Span = walk spans t.walk 0 (drop t.more s) in
    let b : Shown t.walk (drop t.more s) rest = walk_shown n (drop t.more s) (omega (arith, shorter_drop t.more s)) t.walk in
    rw (walk_next spans w c s) (record {
      new = a.new ++ b.new;
      same = joined_append t.spans rest
          ∙ ap (λ (l : List ℕ). joined t.spans ++ l) b.same
          ∙ sym (append_assoc (joined t.spans) (reverse t.walk.text) b.new)
          ∙ ap (λ (l : List ℕ). l ++ b.new) a.same
          ∙ append_assoc (reverse w.text) a.new b.new;
      from = subst (λ (l : List ℕ). Sublistᴰ (a.new ++ b.new) (c ∷ l)) (take-append-drop t.more s) (Sublistᴰ.append a.from b.from);
      texts = every_append HasText t.spans rest a.texts b.texts;
    })

pub line_shown : (line : List ℕ) → Shown (at false false []) line (spans line)
line_shown line = rw (spans_eq line) (walk_shown (length line) line (omega arith) (at false false []))

pub spans_from : (line : List ℕ) → Sublistᴰ (joined (spans line)) line
spans_from line = let shown = line_shown line in rw shown.same shown.from

-- ---- a line without marks

-- a character that is no mark is text
pub step_plain : (w : Walk) (c : ℕ) (s : List ℕ) → (c ≡ 92 → ⊥) → (c ≡ 96 → ⊥) → (c ≡ 42 → ⊥) → (c ≡ 91 → ⊥) → (c ≡ 33 → ⊥) → step w c s ≡ kept w c
unfolding step
step_plain w c s f₁ f₂ f₃ f₄ f₅ = rw (ne_eqb c 92 f₁, ne_eqb c 96 f₂, ne_eqb c 42 f₃, ne_eqb c 91 f₄, ne_eqb c 33 f₅)

step_unmarked : (w : Walk) (c : ℕ) (s : List ℕ) → matches "\\*[!`" c ≡ false → step w c s ≡ kept w c
step_unmarked w c s e =
    let a = or_neither (is "\\" c) (matches "*[!`" c) e in
    let b = or_neither (is "*" c) (matches "[!`" c) a.1 in
    let d = or_neither (is "[" c) (matches "!`" c) b.1 in
    let f = or_neither (is "!" c) (matches "`" c) d.1 in
    let g = or_neither (is "`" c) false f.1 in
    step_plain w c s (eqb-false c 92 a.0) (eqb-false c 96 g.0) (eqb-false c 42 b.0) (eqb-false c 91 d.0) (eqb-false c 33 f.0)

pub walk_unmarked : (s : List ℕ) → any (matches "\\*[!`") s ≡ false → (w : Walk) → joined (walk spans w 0 s) ≡ reverse w.text ++ s
unfolding turned
walk_unmarked [] h w = ap joined (walk_end spans w) ∙ flush_joined w ∙ sym (append-nil (reverse w.text))
walk_unmarked (c ∷ s) h w =
    let p = or_neither (matches "\\*[!`" c) (any (matches "\\*[!`") s) h in
    ap joined (walk_next spans w c s ∙ ap (λ (x : Step). after spans s (turned spans w s x)) (step_unmarked w c s p.0))
    ∙ walk_unmarked s p.1 (push c w)
    ∙ ap (λ (l : List ℕ). l ++ s) (reverse-cons c w.text)
    ∙ append_assoc (reverse w.text) (c ∷ []) s

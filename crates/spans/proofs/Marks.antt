-- The turn of the walk at each mark, by what stands after it.
-- Assumes nothing.
use mathlib.Core.Path.{◌≡◌, refl, sym, ap, ◌∙◌, subst}
use Prim.Native.Nat.{ℕ, ◌+◌, ◌≤◌, ◌<◌}
use native.Mathlib.Numerals.{add-one}
use mathlib.Core.Bool.{Bool, true, false, not, ◌||◌, and-true as and_true_right}
use mathlib.Core.Logic.{⊎_elim}
use native.Mathlib.Omega.{arith}
use mathlib.Core.Option.{none, some}
use mathlib.Core.List.{List, [], ◌∷◌, ◌++◌, map}
use lib.ListN.{length, take, drop, get_or, drop_of_length-le, get_or-eq_default}
use lib.Seq.{drop-cons, drop-drop}
use lib.Dec.{eqb, ltb}
use borrow.Author.Tests.{eq-eqb, ne_eqb, eqb-true, ltb-true, ltb-false}
use Rattle.text.specs.Words.{index, starts_with}
use Rattle.text.proofs.Tests.{decide, false_true, or_neither}
use Rattle.text.proofs.Lists.{drop_next}
use Rattle.spans.specs.Spans.{push, at, flush, link, Step, made, label, kept, code_step, star_step, link_step, image_step, step, carry, spans}
use Rattle.spans.specs.Turn.{Turn, turn, linked, turned}
use Rattle.spans.specs.State.{code_span, walk_of, turn_at, TextAt, BangAt, PlainIs, PlainTo}
use Rattle.spans.specs.declared.State.{State}

-- one byte stands at an offset
pub starts_byte : (line : List ℕ) (j b : ℕ) → 0 < b → starts_with (b ∷ []) (drop j line) ≡ eqb (get_or line j 0) b
starts_byte line j b h =
    ⊎_elim
    (λ l. rw (drop_next line j (ltb-true j (length line) l)) (and_true_right (eqb (get_or line j 0) b)))
    (λ l. let m = ltb-false j (length line) l in rw (drop_of_length-le line m, get_or-eq_default line 0 m, ne_eqb 0 b (omega arith)))
    (decide (ltb j (length line)))

-- ---- the turn of the walk at a byte that is known, by what stands after it

abbrev stood : List ℕ → State → List ℕ
stood line w = drop (w.i + 1) line

-- a byte that is text
abbrev pub pushed : State → List ℕ → ℕ → ℕ → Turn
pushed w text c more = turn [] (push c (walk_of w text)) more

module _ (line : List ℕ) (w : State) (text : List ℕ) where
  at_mark : (m : ℕ) → get_or line w.i 0 ≡ m → turn_at line w text ≡ turned spans (walk_of w text) (stood line w) (step (walk_of w text) m (stood line w))
  unfolding turn_at
  at_mark m e = rw e

  at_step : (m : ℕ) (x : Step) → get_or line w.i 0 ≡ m → step (walk_of w text) m (stood line w) ≡ x → turn_at line w text ≡ turned spans (walk_of w text) (stood line w) x
  at_step m x e f = at_mark m e ∙ ap (turned spans (walk_of w text) (stood line w)) f

  ahead : w.i + 1 < length line → stood line w ≡ get_or line (w.i + 1) 0 ∷ drop (w.i + 1 + 1) line
  ahead h = drop-cons line (w.i + 1) 0 h ∙ ap (λ (n : ℕ). get_or line (w.i + 1) 0 ∷ drop n line) (sym (add-one (w.i + 1)))

  last : length line ≤ w.i + 1 → stood line w ≡ []
  last h = drop_of_length-le line h

  pub escape_next : get_or line w.i 0 ≡ 92 → w.i + 1 < length line → turn_at line w text ≡ pushed w text (get_or line (w.i + 1) 0) 1
  unfolding step turned
  escape_next e h = at_step 92 (made [] (push (get_or line (w.i + 1) 0) (walk_of w text)) 1) e (rw (ahead h))

  pub escape_last : get_or line w.i 0 ≡ 92 → length line ≤ w.i + 1 → turn_at line w text ≡ pushed w text 92 0
  unfolding step turned
  escape_last e h = at_step 92 (kept (walk_of w text) 92) e (rw (last h))

  pub star_two : get_or line w.i 0 ≡ 42 → get_or line (w.i + 1) 0 ≡ 42 → turn_at line w text ≡ turn (flush (walk_of w text)) (at (not w.bold) w.italic []) 1
  unfolding step star_step turned
  star_two e f =
      at_step 42 (made (flush (walk_of w text)) (at (not w.bold) w.italic []) 1) e
      (rw (starts_byte line (w.i + 1) 42 (omega arith), eq-eqb (get_or line (w.i + 1) 0) 42 f))

  pub star_one : get_or line w.i 0 ≡ 42 → (get_or line (w.i + 1) 0 ≡ 42 → ⊥) → turn_at line w text ≡ turn (flush (walk_of w text)) (at w.bold (not w.italic) []) 0
  unfolding step star_step turned
  star_one e f =
      at_step 42 (made (flush (walk_of w text)) (at w.bold (not w.italic) []) 0) e
      (rw (starts_byte line (w.i + 1) 42 (omega arith), ne_eqb (get_or line (w.i + 1) 0) 42 f))

  pub tick_none : get_or line w.i 0 ≡ 96 → index (96 ∷ []) (stood line w) ≡ none → turn_at line w text ≡ pushed w text 96 0
  unfolding step code_step turned
  tick_none e h = at_step 96 (kept (walk_of w text) 96) e (rw h)

  pub tick_some : (k : ℕ) → get_or line w.i 0 ≡ 96 → index (96 ∷ []) (stood line w) ≡ some k
      → turn_at line w text ≡ turn (flush (walk_of w text) ++ (code_span w (take k (stood line w)) ∷ [])) (at w.bold w.italic []) (k + 1)
  unfolding step code_step turned
  tick_some k e h =
      at_step 96 (made (flush (walk_of w text) ++ (code_span w (take k (stood line w)) ∷ [])) (at w.bold w.italic []) (k + 1)) e (rw h)

  module _ (b : BangAt line w.i) where
    bracketed : starts_with (91 ∷ []) (stood line w) ≡ true
    bracketed = starts_byte line (w.i + 1) 91 (omega arith) ∙ eq-eqb (get_or line (w.i + 1) 0) 91 b.bracket

    pub bang_none : link (drop (w.i + 1 + 1) line) ≡ none → turn_at line w text ≡ pushed w text 33 0
    unfolding step image_step turned
    bang_none g = at_step 33 (kept (walk_of w text) 33) b.bang (rw (bracketed, drop-drop 1 (w.i + 1) line, g))

    pub bang_some : (p : ℕ × ℕ) → link (drop (w.i + 1 + 1) line) ≡ some p → turn_at line w text ≡ turn [] (walk_of w text) (p.1 + 2)
    unfolding step image_step turned
    bang_some p g = at_step 33 (made [] (walk_of w text) (p.1 + 2)) b.bang (rw (bracketed, drop-drop 1 (w.i + 1) line, g))

  pub open_none : get_or line w.i 0 ≡ 91 → link (stood line w) ≡ none → turn_at line w text ≡ pushed w text 91 0
  unfolding step link_step turned
  open_none e g = at_step 91 (kept (walk_of w text) 91) e (rw g)

  pub open_some : (p : ℕ × ℕ) → get_or line w.i 0 ≡ 91 → link (stood line w) ≡ some p
      → turn_at line w text ≡ linked (walk_of w text) (map (carry (walk_of w text)) (spans (take p.0 (stood line w)))) (p.1 + 1)
  unfolding step link_step turned
  open_some p e g = at_step 91 (label p.0 (p.1 + 1)) e (rw g)

  pub text_turn : TextAt line w.i → turn_at line w text ≡ pushed w text (get_or line w.i 0) 0
  unfolding turned
  text_turn f = at_step (get_or line w.i 0) (kept (walk_of w text) (get_or line w.i 0)) refl (f (walk_of w text))

-- ---- whether a byte is text
module _ (line : List ℕ) (i : ℕ) where
  pub bang_plain : get_or line i 0 ≡ 33 → PlainIs line i (not (eqb (get_or line (i + 1) 0) 91))
  unfolding step
  bang_plain e = by (eqb (get_or line (i + 1) 0) 91) refl
    where
      by : (t : Bool) → eqb (get_or line (i + 1) 0) 91 ≡ t → PlainIs line i (not t)
      by true q = λ _ _ _ _. record { bang = e; bracket = eqb-true _ _ q }
      by false q = λ w. rw (e, starts_byte line (i + 1) 91 (omega arith), q)

  abbrev c : ℕ
  c = get_or line i 0

  pub other_plain : (c ≡ 33 → ⊥) → PlainIs line i (not (eqb c 92 || eqb c 96 || eqb c 42 || eqb c 91))
  unfolding step
  other_plain n = by (eqb c 92 || eqb c 96 || eqb c 42 || eqb c 91) refl
    where
      by : (t : Bool) → eqb c 92 || eqb c 96 || eqb c 42 || eqb c 91 ≡ t → PlainIs line i (not t)
      by true q = λ f₁ f₂ f₃ f₄. false_true (rw (ne_eqb c 92 f₁, ne_eqb c 96 f₂, ne_eqb c 42 f₃, ne_eqb c 91 f₄) at q)
      by false q =
          let p₃ = or_neither (eqb c 92 || eqb c 96 || eqb c 42) (eqb c 91) q in
          let p₂ = or_neither (eqb c 92 || eqb c 96) (eqb c 42) p₃.0 in
          let p₁ = or_neither (eqb c 92) (eqb c 96) p₂.0 in
          λ w. rw (p₁.0, p₁.1, p₂.1, p₃.1, ne_eqb c 33 n)

-- the first byte and the others
pub plain_all : (line : List ℕ) (i e : ℕ) → TextAt line i → PlainTo line (i + 1) e → (k : ℕ) → i ≤ k → k < e → TextAt line k
plain_all line i e t v k a b = ⊎_elim
    (λ l. v.text k (omega (arith, ltb-true i k l)) b)
    (λ l. let q : i ≡ k = omega (arith, ltb-false i k l) in subst (TextAt line) q t)
    (decide (ltb i k))

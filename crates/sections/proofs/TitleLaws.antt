-- One turn of the loop over the spans of a block: the title starts with the text of the span, and what is left of both is compared next.
-- Assumes nothing.
use Prim.Native.Nat.{ℕ, suc, ◌+◌, ◌<◌, ◌≤◌, zero-le}
use native.Mathlib.Omega.{arith}
use native.Mathlib.Numerals.{add-one}
use mathlib.Core.Path.{◌≡◌, refl, sym, ap, ◌∙◌}
use mathlib.Core.Bool.{Bool, true, false}
use mathlib.Core.Logic.{⊎_elim}
use mathlib.Core.List.{List, [], ◌∷◌, ◌++◌}
use lib.ListN.{length, drop, length-append, length-drop, drop_of_length-le}
use lib.Seq.{drop-drop}
use lib.Dec.{eqb}
use borrow.Author.Tests.{eqb-true, eq-eqb}
use Rattle.std.specs.Prelude.{Some, None, Ok, Err}
use Rattle.std.specs.Prelude as code
use Rattle.text.specs.Words.{same, starts_with}
use Rattle.text.specs.Part.{between, Inside}
use Rattle.text.specs.Utf8.{encode}
use Rattle.text.proofs.Laws.{encode_append}
use Rattle.text.proofs.Tests.{decide, test_iff, same_true, starts_split, starts_self, true_false}
use Rattle.records.specs.Blocks.{Span, joined}
use Rattle.walker.specs.Answers.{found_at, block_answer, count_of}
use Rattle.walker.specs.Places.{HereValues, first_answer, here_answer}
use Rattle.walker.specs.Numbers.{emphasis_in, first_values, here_values}
use Rattle.walker.specs.declared.blocks.Broken.{Broken}
use Rattle.walker.specs.declared.blocks.Span as S
use Rattle.walker.proofs.SpanSteps.{SpanHere, AtSpan, at_first, where_first, first_there, no_other, this_span, at_next}
use Rattle.sections.specs.Readers.{has_text}

-- ---- a text that is the same as two others joined
same_behind : (p q r : List ℕ) → same (p ++ q) (p ++ r) ≡ same q r
same_behind [] q r = refl
same_behind (d ∷ p) q r = rw (eq-eqb d d refl) (same_behind p q r)

module _ (p q t : List ℕ) where
  same_not : starts_with p t ≡ false → same (p ++ q) t ≡ false
  same_not e =
      ⊎_elim (λ h. true_false (sym (starts_self p q) ∙ ap (starts_with p) (same_true (p ++ q) t h) ∙ e)) (λ h. h) (decide (same (p ++ q) t))

  same_on : starts_with p t ≡ true → same q (drop (length p) t) ≡ same (p ++ q) t
  same_on e = sym (same_behind p q (drop (length p) t)) ∙ ap (same (p ++ q)) (sym (starts_split p t e))

same_none : (t : List ℕ) (k : ℕ) → k ≤ length t → eqb k (length t) ≡ same [] (drop k t)
same_none t k l = test_iff (eqb k (length t)) (same [] (drop k t)) there back
  where
    there : eqb k (length t) ≡ true → same [] (drop k t) ≡ true
    there e = let n : k ≡ length t = eqb-true k (length t) e in let m : length t ≤ k = omega arith in rw (drop_of_length-le t m)

    back : same [] (drop k t) ≡ true → eqb k (length t) ≡ true
    back e = let d : [] ≡ drop k t = same_true [] (drop k t) e in eq-eqb k (length t) (omega (arith, ap length d, length-drop k t))

-- ---- the loop: where the next span stands, and what is left to compare
pub record Meets (s : List ℕ) (at : ℕ) (title : List ℕ) (count here met n : ℕ) : Type 0 where
  pub span : AtSpan s at count here n
  pub most : met ≤ length title
  pub left : same (encode (joined (drop n span.f.0.spans))) (drop met title) ≡ has_text title (found_at s at)

module _ (s : List ℕ) (at : ℕ) (title : List ℕ) where
  -- before the first turn
  pub meets_first : {count first : ℕ} {o : code.Option ℕ} → count ≡ count_of (block_answer s at) → o ≡ Some first → first_values (Ok o) ≡ first_answer s at
      → Meets s at title count first 0 0
  meets_first h e g = let w = at_first s at h e g in record { span = w; most = zero-le; left = rw w.found refl }

  -- where no first span is answered there is no text
  pub no_title : (r : code.Result (code.Option ℕ) Broken) → first_values r ≡ first_answer s at
      → where_first r (has_text title (found_at s at)) false ≡ has_text title (found_at s at)
  no_title r g = first_there s at (has_text title) false refl (λ k. refl) r g

  module _ {count here met n : ℕ} (w : Meets s at title count here met n) where
    -- all spans were met
    pub meets_all : count ≤ n → eqb met (length title) ≡ has_text title (found_at s at)
    meets_all l =
        let m : length w.span.f.0.spans ≤ n = rw w.span.counted l in
        let e : drop n w.span.f.0.spans ≡ [] = drop_of_length-le w.span.f.0.spans m in
        same_none title met w.most ∙ ap (λ (l : List Span). same (encode (joined l)) (drop met title)) (sym e) ∙ w.left

    module _ (l : n < count) where
      -- a span stands there
      pub meets_span : {b : Broken} → here_values (Err b) ≡ here_answer s here → false ≡ has_text title (found_at s at)
      meets_span g = absurd (no_other s at w.span l g)

      module _ (v : S.Span) (g : here_values (Ok v) ≡ here_answer s here) where
        abbrev values : HereValues
        values = record { emphasis = emphasis_in v.emphasis; text = v.text; next = v.next }

        this : SpanHere s w.span.f n values
        this = this_span s at w.span l v g

        -- what is left, with the span's text in front
        abbrev piece : List ℕ
        piece = encode this.x.text

        abbrev behind : List ℕ
        behind = encode (joined (drop (suc n) w.span.f.0.spans))

        in_front : same (piece ++ behind) (drop met title) ≡ has_text title (found_at s at)
        in_front =
            ap (λ (l : List ℕ). same l (drop met title)) (sym (encode_append this.x.text (joined (drop (suc n) w.span.f.0.spans))))
            ∙ ap (λ (l : List Span). same (encode (joined l)) (drop met title)) (sym this.rest)
            ∙ w.left

        meets_within : Inside s v.text.start v.text.end
        meets_within = this.holds.within

        module _ {p : List ℕ} (b : p ≡ between s v.text.start v.text.end) {t : Bool} (u : t ≡ starts_with p (drop met title)) where
          piece_is : piece ≡ p
          piece_is = sym this.holds.bytes ∙ sym b

          starts : starts_with piece (drop met title) ≡ t
          starts = ap (λ (l : List ℕ). starts_with l (drop met title)) piece_is ∙ sym u

          -- the title goes on otherwise
          meets_other : t ≡ false → false ≡ has_text title (found_at s at)
          meets_other f = sym (same_not piece behind (drop met title) (starts ∙ f)) ∙ in_front

          -- the title goes on with this text
          module _ (f : t ≡ true) where
            meets_most : met + length p ≤ length title
            meets_most =
                let m : met ≤ length title = w.most in
                let q : length (drop met title) ≡ length (piece ++ drop (length piece) (drop met title)) = ap length (starts_split piece (drop met title) (starts ∙ f)) in
                omega (arith, ap length piece_is, q, length-append piece (drop (length piece) (drop met title)), length-drop met title)

            meets_next : Meets s at title count v.next (met + length p) (n + 1)
            unfolding at_next
            meets_next =
                record {
                  span = at_next s at w.span l v g;
                  most = meets_most;
                  left = rw (add-one n, ← piece_is, ← drop-drop (length piece) met title) (same_on piece behind (drop met title) (starts ∙ f) ∙ in_front);
                }

-- one turn, at a span with this text
pub record Turn (s : List ℕ) (at : ℕ) (title : List ℕ) (count met n : ℕ) (v : S.Span) (p : List ℕ) : Type 0 where
  pub other : {t : Bool} → t ≡ starts_with p (drop met title) → t ≡ false → false ≡ has_text title (found_at s at)
  pub most : {t : Bool} → t ≡ starts_with p (drop met title) → t ≡ true → met + length p ≤ length title
  pub again : {t : Bool} → t ≡ starts_with p (drop met title) → t ≡ true → Meets s at title count v.next (met + length p) (n + 1)

module _ (s : List ℕ) (at : ℕ) (title : List ℕ) {count here met n : ℕ} (w : Meets s at title count here met n) (l : n < count)
    (v : S.Span) (g : here_values (Ok v) ≡ here_answer s here) where
  pub text_within : Inside s v.text.start v.text.end
  text_within = meets_within s at title w l v g

  pub turn : {p : List ℕ} → p ≡ between s v.text.start v.text.end → Turn s at title count met n v p
  turn b =
      record {
        other = λ u f. meets_other s at title w l v g b u f;
        most = λ u f. meets_most s at title w l v g b u f;
        again = λ u f. meets_next s at title w l v g b u f;
      }

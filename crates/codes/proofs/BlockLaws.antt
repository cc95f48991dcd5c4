-- One turn of the loop over the spans of a block: what is known of the texts before it is known of them and the text of the span.
-- Assumes nothing.
use Prim.Native.Nat.{ℕ, ◌+◌, ◌<◌, ◌≤◌}
use native.Mathlib.Numerals.{add-one}
use mathlib.Core.Path.{◌≡◌, refl, sym, ap, subst, ◌∙◌}
use mathlib.Core.List.{List, [], ◌∷◌, ◌++◌, reverse, append_assoc, append-nil}
use lib.ListN.{length, drop, drop_of_length-le}
use Rattle.std.proofs.lemmas.List.{reverse-append}
use Rattle.std.specs.Prelude.{Some, None, Ok, Err}
use Rattle.std.specs.Prelude as code
use Rattle.text.specs.Part.{between, Inside}
use Rattle.text.specs.Utf8.{encode}
use Rattle.text.proofs.Laws.{encode_append}
use Rattle.records.specs.Blocks.{Span, joined}
use Rattle.walker.specs.Answers.{found_at, block_answer, count_of}
use Rattle.walker.specs.Places.{first_answer, here_answer}
use Rattle.walker.specs.Numbers.{first_values, here_values}
use Rattle.walker.specs.declared.blocks.Broken.{Broken}
use Rattle.walker.specs.declared.blocks.Span as S
use Rattle.walker.proofs.SpanSteps.{AtSpan, at_first, where_first, first_there, no_other, this_span, at_next}
use Rattle.codes.specs.Search.{text_of}
use Rattle.codes.specs.Readers.{text_at, HasMasks, IsScan, Further, Scanned}
use Rattle.codes.specs.declared.scan.Scan.{Scan}

-- the loop: where the next span stands, and what is known of the texts before it, r, behind which the others are left
pub record Reads (s : List ℕ) (at count here n : ℕ) (masks : List ℕ) (scan : Scan) : Type 0 where
  pub span : AtSpan s at count here n
  pub r : List ℕ
  pub left : reverse (encode (joined (drop n span.f.0.spans))) ++ r ≡ reverse (text_of span.f.0)
  pub known : (codes : List (List ℕ)) → HasMasks codes masks → IsScan codes r scan

-- where no first span is answered there is no text
pub no_text : (s : List ℕ) (at : ℕ) (r : code.Result (code.Option ℕ) Broken) → first_values r ≡ first_answer s at
    → where_first r (text_at (found_at s at)) [] ≡ text_at (found_at s at)
no_text s at r g = first_there s at text_at [] refl (λ k. refl) r g

pub scanned_none : (s : List ℕ) (at : ℕ) (masks : List ℕ) {scan : Scan} → ((codes : List (List ℕ)) → IsScan codes [] scan) → [] ≡ text_at (found_at s at)
    → Scanned s at masks scan
scanned_none s at masks {scan} none e codes m = subst (λ (t : List ℕ). IsScan codes (reverse t) scan) e (none codes)

module _ (s : List ℕ) (at : ℕ) {masks : List ℕ} {scan : Scan} where
  module _ (none : (codes : List (List ℕ)) → IsScan codes [] scan) where
    pub reads_first : {count first : ℕ} {o : code.Option ℕ} → count ≡ count_of (block_answer s at) → o ≡ Some first → first_values (Ok o) ≡ first_answer s at
        → Reads s at count first 0 masks scan
    reads_first h e g = record { span = at_first s at h e g; r = []; left = append-nil (reverse (text_of (at_first s at h e g).f.0)); known = λ codes m. none codes }

  module _ {count here n : ℕ} (w : Reads s at count here n masks scan) where
    pub reads_all : count ≤ n → Scanned s at masks scan
    reads_all l codes m =
        let k : length w.span.f.0.spans ≤ n = rw w.span.counted l in
        let e : drop n w.span.f.0.spans ≡ [] = drop_of_length-le w.span.f.0.spans k in
        let r : w.r ≡ reverse (text_of w.span.f.0) = ap (λ (xs : List Span). reverse (encode (joined xs)) ++ w.r) (sym e) ∙ w.left in
        let t : text_of w.span.f.0 ≡ text_at (found_at s at) = ap text_at (sym w.span.found) in
        subst (λ (t : List ℕ). IsScan codes t scan) (r ∙ ap reverse t) (w.known codes m)

    module _ (l : n < count) where
      pub reads_span : {b : Broken} → here_values (Err b) ≡ here_answer s here → Scanned s at masks scan
      reads_span g = absurd (no_other s at w.span l g)

      module _ (v : S.Span) (g : here_values (Ok v) ≡ here_answer s here) where
        pub within : Inside s v.text.start v.text.end
        within = (this_span s at w.span l v g).holds.within

        pub reads_next : {p : List ℕ} {new : Scan} → p ≡ between s v.text.start v.text.end
            → Further (reverse p) masks scan new
            → Reads s at count v.next (n + 1) masks new
        unfolding at_next
        reads_next {p} {new} b read =
            let this = this_span s at w.span l v g in
            let others = encode (joined (drop (n + 1) w.span.f.0.spans)) in
            let text : encode this.x.text ≡ p = sym this.holds.bytes ∙ sym b in
            let spans : drop n w.span.f.0.spans ≡ this.x ∷ drop (n + 1) w.span.f.0.spans = rw (add-one n) this.rest in
            let all : encode (joined (drop n w.span.f.0.spans)) ≡ p ++ others
            = ap (λ (xs : List Span). encode (joined xs)) spans
            ∙ encode_append this.x.text (joined (drop (n + 1) w.span.f.0.spans))
            ∙ ap (λ (t : List ℕ). t ++ others) text in
            let turned : reverse (encode (joined (drop n w.span.f.0.spans))) ≡ reverse others ++ reverse p = ap reverse all ∙ reverse-append p others in
            record {
              span = at_next s at w.span l v g;
              r = reverse p ++ w.r;
              left = sym (append_assoc (reverse others) (reverse p) w.r) ∙ ap (λ (t : List ℕ). t ++ w.r) (sym turned) ∙ w.left;
              known = λ codes m. read codes w.r m (w.known codes m);
            }

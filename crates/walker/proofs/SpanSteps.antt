-- Going through the spans of a block, each by its own offset: where the first one stands, and what `here_at` answers where span n stands.
-- Assumes nothing.
use Prim.Native.Nat.{ℕ, zero, suc, ◌+◌, ◌<◌}
use native.Mathlib.Omega.{arith}
use native.Mathlib.Numerals.{add-one}
use mathlib.Core.Path.{◌≡◌, refl, sym, ap, ◌∙◌}
use mathlib.Core.List.{List, [], ◌∷◌}
use lib.ListN.{length, drop}
use Rattle.records.specs.Blocks.{Span, Block}
use Rattle.walker.specs.Answers.{Answer, at_end, refused, gives, map, emphasis_of, nth, found_at, span_in, block_answer, count_of, text_answer}
use Rattle.walker.specs.Places.{span_from, text_place, HereValues, here_values_of, first_answer, here_answer}
use Rattle.walker.specs.Numbers.{emphasis_in, first_values, here_values}
use Rattle.std.specs.Prelude.{Some, None, Ok, Err}
use Rattle.std.specs.Prelude as code
use Rattle.walker.specs.declared.blocks.Broken.{Broken}
use Rattle.walker.specs.declared.blocks.Span as S
use Rattle.walker.proofs.PlaceLaws.{Holds, text_holds, listed}

record Nth (xs : List Span) (n : ℕ) : Type 0 where
  x : Span
  is : nth xs n ≡ gives x
  rest : drop n xs ≡ x ∷ drop (suc n) xs

nth_is : (xs : List Span) (n : ℕ) → n < length xs → Nth xs n
nth_is [] n l = absurd (omega arith)
nth_is (x ∷ xs) zero l = record { x = x; is = refl; rest = refl }
nth_is (x ∷ xs) (suc n) l = let y = nth_is xs n (omega arith) in record { x = y.x; is = y.is; rest = y.rest }

-- span n of a block that was found, by the values that stand at its offset
pub record SpanHere (s : List ℕ) (f : Block × ℕ) (n : ℕ) (v : HereValues) : Type 0 where
  pub x : Span
  pub rest : drop n f.0.spans ≡ x ∷ drop (suc n) f.0.spans
  pub emphasis : v.emphasis ≡ emphasis_of x
  pub holds : Holds s v.text x.text
  pub follows : v.next ≡ span_from f.0.spans f.1 (suc n)

module _ (s : List ℕ) (at : ℕ) {f : Block × ℕ} (e : found_at s at ≡ gives f) (n : ℕ) (l : n < length f.0.spans) where
  this : Nth f.0.spans n
  this = nth_is f.0.spans n l

  abbrev values : HereValues
  values = here_values_of this.x (span_from f.0.spans f.1 (suc n))

  its_place : values.text ≡ text_place s at n
  unfolding text_place
  its_place = rw (e, this.is)

  its_text : text_answer s at n ≡ this.x.text
  unfolding text_answer span_in
  its_text = rw (e, this.is)

  span_here : SpanHere s f n values
  span_here = record { x = this.x; rest = this.rest; emphasis = refl; holds = rw its_text at (text_holds s at n its_place); follows = refl }

  -- by the case of `here_at`'s answer, where the span's offset was come to
  module _ {here : ℕ} (h : here ≡ span_from f.0.spans f.1 n) where
    answers : (r : code.Result S.Span Broken) → here_values r ≡ here_answer s here → here_values r ≡ gives values
    answers r g = g ∙ ap (here_answer s) h ∙ listed s at e n this.is

    pub never_bad : {b : Broken} → here_values (Err b) ≡ here_answer s here → ⊥
    never_bad {b} g =
        let p = answers (Err b) g in
        let z : ◌≡◌ {A = ℕ} 0 1 = cc in
        absurd (omega arith)

    pub span_shown : {x : S.Span} → here_values (Ok x) ≡ here_answer s here
        → SpanHere s f n (record { emphasis = emphasis_in x.emphasis; text = x.text; next = x.next })
    span_shown {x} g =
        let p = answers (Ok x) g in
        let q : record { emphasis = emphasis_in x.emphasis; text = x.text; next = x.next } ≡ values = cc in
        rw q span_here

-- ---- a loop over the spans of a block that has this span count: the block, and where its span n stands
pub record AtSpan (s : List ℕ) (at count here n : ℕ) : Type 0 where
  pub f : Block × ℕ
  pub found : found_at s at ≡ gives f
  pub counted : length f.0.spans ≡ count
  pub stands : here ≡ span_from f.0.spans f.1 n

-- a where a first span is answered, and z where none is
abbrev pub where_first : {A : Type 0} → code.Result (code.Option ℕ) Broken → A → A → A
where_first (Ok (Some v)) a z = a
where_first (Ok None) a z = z
where_first (Err e) a z = z

module _ (s : List ℕ) (at : ℕ) where
  first_of : {count first : ℕ} → count ≡ count_of (block_answer s at) → (a : Answer (Block × ℕ)) → found_at s at ≡ a
      → gives first ≡ map (λ f. span_from f.0.spans f.1 0) a → AtSpan s at count first 0
  unfolding block_answer
  first_of h at_end e g = let z : ◌≡◌ {A = ℕ} 0 1 = cc in absurd (omega arith)
  first_of h (refused k) e g = let z : ◌≡◌ {A = ℕ} 0 1 = cc in absurd (omega arith)
  first_of h (gives f) e g = record { f = f; found = e; counted = sym (rw e at h); stands = cc }

  -- before the first turn
  pub at_first : {count first : ℕ} {o : code.Option ℕ} → count ≡ count_of (block_answer s at) → o ≡ Some first → first_values (Ok o) ≡ first_answer s at
      → AtSpan s at count first 0
  unfolding first_answer
  at_first h e g = first_of h (found_at s at) refl (sym (ap (λ (o : code.Option ℕ). first_values (Ok o)) e) ∙ g)

  -- where none is there is no block
  module _ {A : Type 0} (g : Answer (Block × ℕ) → A) (z : A) (ends : g at_end ≡ z) (bad : (k : ℕ) → g (refused k) ≡ z) where
    no_block : (a : Answer (Block × ℕ)) → ((v : ℕ) → gives v ≡ map (λ f. span_from f.0.spans f.1 0) a → ⊥) → z ≡ g a
    no_block at_end h = sym ends
    no_block (refused k) h = sym (bad k)
    no_block (gives f) h = absurd (h _ refl)

    pub first_there : (r : code.Result (code.Option ℕ) Broken) → first_values r ≡ first_answer s at → where_first r (g (found_at s at)) z ≡ g (found_at s at)
    unfolding first_answer
    first_there (Ok (Some v)) h = refl
    first_there (Ok None) h = no_block (found_at s at) (λ v i. let z : ◌≡◌ {A = ℕ} 0 1 = cc in absurd (omega arith))
    first_there (Err e) h = no_block (found_at s at) (λ v i. let z : ◌≡◌ {A = ℕ} 0 1 = cc in absurd (omega arith))

  module _ {count here n : ℕ} (w : AtSpan s at count here n) (l : n < count) where
    under : n < length w.f.0.spans
    under = rw w.counted l

    -- a span stands there
    pub no_other : {b : Broken} → here_values (Err b) ≡ here_answer s here → ⊥
    no_other g = never_bad s at w.found n under w.stands g

    module _ (x : S.Span) (g : here_values (Ok x) ≡ here_answer s here) where
      pub this_span : SpanHere s w.f n (record { emphasis = emphasis_in x.emphasis; text = x.text; next = x.next })
      this_span = span_shown s at w.found n under w.stands g

      unfoldable pub at_next : AtSpan s at count x.next (n + 1)
      at_next = record { f = w.f; found = w.found; counted = w.counted; stands = rw (add-one n) this_span.follows }

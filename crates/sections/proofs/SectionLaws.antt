-- The sections of a list of blocks, one block at a time; where the first one with a title stands in the list; when there is none.
-- Assumes nothing.
use Prim.Native.Nat.{ℕ}
use native.Mathlib.Omega.{arith}
use mathlib.Core.Path.{◌≡◌, refl, sym, ap, ◌∙◌}
use mathlib.Core.Bool.{Bool, true, false, cond}
use mathlib.Core.Logic.{◌↔◌, ⊎_elim}
use mathlib.Core.List.Memᴰ
use mathlib.Core.List.{List, [], ◌∷◌, ◌++◌, Memᴰ}
use mathlib.Core.Option.{none, some}
use Rattle.text.specs.Words.{same, case}
use Rattle.text.specs.Utf8.{encode}
use Rattle.text.proofs.Tests.{decide, and_true, true_false, same_true, same_self}
use Rattle.records.specs.Blocks.{Span, Kind, heading, paragraph, item, Block, Heading, joined}
use Rattle.walker.specs.Answers.{level_of}
use Rattle.sections.specs.Sections.{is_heading, closes, titled, until, headed, unheaded, sections, first_with, section_of, NoHeading}

pub not_none : {A B : Type 0} {a : A} → none ≡ some a → B
not_none e = let z : ◌≡◌ {A = ℕ} 0 1 = cc in absurd (omega arith)

-- a heading has a level
level_of_heading : (k : Kind) → case (level_of k) false (λ l. true) ≡ true → (l : ℕ) × (k ≡ heading l)
level_of_heading (heading l) e = (l, refl)
level_of_heading paragraph e = true_false (sym e)
level_of_heading (item d m) e = true_false (sym e)

titled_heading : (title : List ℕ) (b : Block) → titled title b ≡ true → (l : ℕ) × (b.kind ≡ heading l) × (encode (joined b.spans) ≡ title)
titled_heading title b e =
    let (h, t) = and_true (is_heading b) (same (encode (joined b.spans)) title) e in
    let (l, k) = level_of_heading b.kind h in
    (l, k, same_true (encode (joined b.spans)) title t)

heading_titled : (title : List ℕ) (l : ℕ) (xs : List Span) → encode (joined xs) ≡ title → titled title (Heading l xs) ≡ true
heading_titled title l xs e = rw e (same_self title)

-- ---- until
module _ (p : Block → Bool) (b : Block) (bs : List Block) where
  pub until_stop : p b ≡ true → until p (b ∷ bs) ≡ []
  unfolding until
  until_stop e = rw e

  pub until_more : p b ≡ false → until p (b ∷ bs) ≡ b ∷ until p bs
  unfolding until
  until_more e = rw e

until_split : (p : Block → Bool) (bs : List Block) → (cs : List Block) × (bs ≡ until p bs ++ cs)
unfolding until
until_split p [] = ([], refl)
until_split p (b ∷ bs) = by (p b) (until_split p bs)
  where
    by : (t : Bool) → (cs : List Block) × (bs ≡ until p bs ++ cs) → (cs : List Block) × (b ∷ bs ≡ cond t [] (b ∷ until p bs) ++ cs)
    by true h = (b ∷ bs, refl)
    by false h = (h.0, ap (λ (l : List Block). b ∷ l) h.1)

-- ---- the first section with a title
module _ (title : List ℕ) where
  -- the section without a heading is none of them
  skipped : (bs : List Block) (xs : List (List Block)) → first_with title (unheaded (until is_heading bs) ++ xs) ≡ first_with title xs
  unfolding until first_with
  skipped [] xs = refl
  skipped (b ∷ bs) xs = by (is_heading b) refl
    where
      by : (t : Bool) → is_heading b ≡ t → first_with title (unheaded (cond t [] (b ∷ until is_heading bs)) ++ xs) ≡ first_with title xs
      by true e = refl
      by false e = rw e

  only_headed : (bs : List Block) → section_of title bs ≡ first_with title (headed bs)
  unfolding section_of sections
  only_headed bs = skipped bs (headed bs)

  pub section_none : section_of title [] ≡ none
  unfolding headed first_with
  section_none = only_headed []

  module _ (b : Block) (bs : List Block) where
    pub section_past : titled title b ≡ false → section_of title (b ∷ bs) ≡ section_of title bs
    unfolding headed first_with
    section_past e = only_headed (b ∷ bs) ∙ by b.kind refl ∙ sym (only_headed bs)
      where
        by : (k : Kind) → b.kind ≡ k → first_with title (case (level_of k) (headed bs) (λ l. (b ∷ until (closes l) bs) ∷ headed bs)) ≡ first_with title (headed bs)
        by (heading l) p = rw e
        by paragraph p = refl
        by (item d m) p = refl

    pub section_here : {l : ℕ} → b.kind ≡ heading l → titled title b ≡ true → section_of title (b ∷ bs) ≡ some (b ∷ until (closes l) bs)
    unfolding headed first_with
    section_here {l} k e =
        only_headed (b ∷ bs)
        ∙ ap (λ (k : Kind). first_with title (case (level_of k) (headed bs) (λ l. (b ∷ until (closes l) bs) ∷ headed bs))) k
        ∙ rw e

  -- where it stands
  pub section_split : (bs : List Block) {x : List Block} → section_of title bs ≡ some x → (cs : List Block) × (bs ≡ until (titled title) bs ++ (x ++ cs))
  section_split [] e = not_none (sym section_none ∙ e)
  section_split (b ∷ bs) {x} e = ⊎_elim here (λ t. past t (section_split bs (sym (section_past b bs t) ∙ e))) (decide (titled title b))
    where
      here : titled title b ≡ true → (cs : List Block) × (b ∷ bs ≡ until (titled title) (b ∷ bs) ++ (x ++ cs))
      here t =
          let (l, k, _) = titled_heading title b t in
          let (cs, p) = until_split (closes l) bs in
          let q : some (b ∷ until (closes l) bs) ≡ some x = sym (section_here b bs k t) ∙ e in
          let r : b ∷ until (closes l) bs ≡ x = cc in
          (cs, rw (until_stop (titled title) b bs t, ← r) (ap (λ (l : List Block). b ∷ l) p))

      past : titled title b ≡ false → (cs : List Block) × (bs ≡ until (titled title) bs ++ (x ++ cs)) → (cs : List Block) × (b ∷ bs ≡ until (titled title) (b ∷ bs) ++ (x ++ cs))
      past t (cs, p) = (cs, rw (until_more (titled title) b bs t) (ap (λ (l : List Block). b ∷ l) p))

-- ---- when there is none
module _ (title : List ℕ) where
  none_past : (b : Block) (bs : List Block) → NoHeading title (b ∷ bs) → NoHeading title bs
  none_past b bs h l xs m e = h l xs (Memᴰ.tail m) e

  none_here : (b : Block) (bs : List Block) → NoHeading title (b ∷ bs) → titled title b ≡ true → ⊥
  none_here b bs h t =
      let (l, k, e) = titled_heading title b t in
      h l b.spans (Memᴰ.head (ap (λ (k : Kind). record { kind = k; spans = b.spans }) (sym k))) e

  none_if : (bs : List Block) → NoHeading title bs → section_of title bs ≡ none
  none_if [] h = section_none title
  none_if (b ∷ bs) h =
      ⊎_elim (λ t. absurd (none_here b bs h t)) (λ t. section_past title b bs t ∙ none_if bs (none_past b bs h)) (decide (titled title b))

  if_none : (bs : List Block) → section_of title bs ≡ none → NoHeading title bs
  if_none [] e l xs m t = Memᴰ.not-nil m
  if_none (b ∷ bs) e l xs m t = ⊎_elim here (λ u. past u (λ n. if_none bs (sym (section_past title b bs u) ∙ e) l xs n t)) (decide (titled title b))
    where
      here : titled title b ≡ true → ⊥
      here u = let (l, k, _) = titled_heading title b u in not_none (sym e ∙ section_here title b bs k u)

      past : titled title b ≡ false → (Memᴰ (Heading l xs) bs → ⊥) → ⊥
      past u later = ⊎_elim (λ p. true_false (sym (heading_titled title l xs t) ∙ ap (titled title) p ∙ u)) later (Memᴰ.cases_cons m)

  -- there is no section with a title exactly if no heading has that text
  pub none_iff : (bs : List Block) → (section_of title bs ≡ none) ↔ NoHeading title bs
  none_iff bs = (if_none bs, none_if bs)

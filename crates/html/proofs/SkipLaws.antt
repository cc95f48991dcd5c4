-- The cases of `element`, `inside` and `words`, by the code's enums.
-- Assumes nothing.
use Prim.Native.Nat.{ℕ, ◌+◌}
use native.Mathlib.Omega.{arith}
use mathlib.Core.Path.{◌≡◌, refl, sym, ap, ◌∙◌, subst}
use mathlib.Core.Bool.{Bool, true, false, not, ◌&&◌, ◌||◌}
use mathlib.Core.Option.{some, none}
use mathlib.Core.List.{List, [], ◌∷◌}
use lib.ListN.{length, take, drop}
use Rattle.std.specs.Prelude.{if◌then◌else◌}
use Rattle.std.specs.Prelude as code
use Rattle.std.specs.Prelude.{nat_eq}
use Rattle.std.specs.Option.{MatchOption, is_some, unwrap_or}
use Rattle.std.specs.Cmp.Lexicographic.{pointwise}
use Rattle.std.specs.Borrow.{Bor}
use Rattle.text.specs.Words.{str, same, starts}
use Rattle.text.specs.Utf8.{chars}
use Rattle.text.proofs.Tests.{same_self}
use Rattle.text.proofs.AsciiLaws.{starts_chars, drop_chars}
use Rattle.html.specs.State.{State, with_skip, tag_of, text}
use Rattle.html.specs.Page.{name_of, listed, shown, skipped, element, inside, words}
use Rattle.html.specs.Struct.{skip_name, skipped_name, tag_means}
use Rattle.html.specs.Names.{says}
use Rattle.html.specs.declared.Skipped.{Skipped as SkippedTag}
use Rattle.html.specs.declared.Skipped.TheVariants.{Script, Style}
use Rattle.html.specs.declared.Tag.{Tag}
use Rattle.html.specs.declared.Tag.TheVariants.{List as Lists, Skipped, Writes}
use Rattle.html.proofs.NameLaws.{Is, script, style, neither, is_of, is_skipped, says_means, name_chars}

shows : (t : Tag) → ((k : SkippedTag) → t ≡ Skipped k → ⊥) → is_skipped t ≡ false
shows (Lists k) g = refl
shows (Skipped k) g = absurd (g k refl)
shows (Writes s) g = refl

module _ (n : List ℕ) (c : State) (t : Tag) (q : t ≡ says n) where
  is : Is n t
  is = subst (Is n) (sym q) (is_of n)

  named : (k : SkippedTag) → t ≡ Skipped k → n ≡ skipped_name k
  named k e = by is
    where
      by : Is n t → n ≡ skipped_name k
      by (script a f) = a ∙ ap skipped_name (let g : Script ≡ k = cc in g)
      by (style a f) = a ∙ ap skipped_name (let g : Style ≡ k = cc in g)
      by (neither a b f) = let y : true ≡ false = sym (ap is_skipped e) ∙ f in cc

  -- nothing is skipped
  module _ (z : c.skip ≡ none) where
    -- the test of `shown`
    shown_is : (closing b : Bool) → (not closing && (same (str "script") n || same (str "style") n)) ≡ b
        → (if b then some (with_skip (some n) c) else listed (tag_of n) closing c) ≡ element closing n c
    unfolding element shown
    shown_is closing b h = rw (z, h)

    listed_is : (closing : Bool) → (not closing && (same (str "script") n || same (str "style") n)) ≡ false → listed (tag_means t) closing c ≡ element closing n c
    listed_is closing h = ap (λ x. listed x closing c) (ap tag_means q ∙ says_means n) ∙ shown_is closing false h

    pub element_closes : (closing : Bool) → closing ≡ true → listed (tag_means t) closing c ≡ element closing n c
    element_closes closing h = listed_is closing (rw h)

    pub element_tag : (closing : Bool) → ((k : SkippedTag) → t ≡ Skipped k → ⊥) → listed (tag_means t) closing c ≡ element closing n c
    element_tag true g = element_closes true refl
    element_tag false g = listed_is false (by is)
      where
        h : is_skipped t ≡ false
        h = shows t g

        by : Is n t → (same (str "script") n || same (str "style") n) ≡ false
        by (script e f) = let y : true ≡ false = sym (ap is_skipped f) ∙ h in cc
        by (style e f) = let y : true ≡ false = sym (ap is_skipped f) ∙ h in cc
        by (neither a b f) = rw (a, b)

    pub element_skips : (k : SkippedTag) → t ≡ Skipped k → some (with_skip (some (skipped_name k)) c) ≡ element false n c
    element_skips k e = ap (λ o. some (with_skip (some o) c)) (sym (named k e)) ∙ shown_is false true (two k (named k e))
      where
        two : (k : SkippedTag) → n ≡ skipped_name k → (same (str "script") n || same (str "style") n) ≡ true
        two Script e = rw e
        two Style e = rw e

  -- one of the two is skipped
  module _ (k : SkippedTag) (z : c.skip ≡ some (skipped_name k)) where
    skipped_is : (closing b : Bool) → (closing && same (skipped_name k) n) ≡ b → some (if b then with_skip none c else c) ≡ element closing n c
    unfolding element skipped
    skipped_is closing b h = rw (z, h)

    pub element_hides : some c ≡ element false n c
    element_hides = skipped_is false false refl

    pub element_stays : (closing : Bool) → (t ≡ Skipped k → ⊥) → some c ≡ element closing n c
    element_stays false f = element_hides
    element_stays true f = skipped_is true false (other k f is)
      where
        other : (k : SkippedTag) → (t ≡ Skipped k → ⊥) → Is n t → same (skipped_name k) n ≡ false
        other Script f (script a e) = absurd (f e)
        other Script f (style a e) = rw a
        other Script f (neither a b e) = a
        other Style f (script a e) = rw a
        other Style f (style a e) = absurd (f e)
        other Style f (neither a b e) = b

    pub element_ends : t ≡ Skipped k → some (with_skip none c) ≡ element true n c
    element_ends e = skipped_is true true (rw (← named k e) (same_self n))

-- ---- `inside`, on bytes
slash : (bs : List ℕ) → starts "/" bs ≡ pointwise nat_eq (take 1 bs) (47 ∷ [])
slash [] = refl
slash (b ∷ bs) = refl

-- what is left behind a `/`, and whether there is one
abbrev Rest : Bor (List ℕ) → code.Option (Bor (List ℕ)) → Type 0
Rest inner r =
    MatchOption r (pointwise nat_eq (take 1 inner.now) (47 ∷ []) ≡ false)
    (λ x. (pointwise nat_eq (take 1 inner.now) (47 ∷ []) ≡ true) × (x.now ≡ drop 1 inner.now) × (length x.now + 1 ≡ length inner.now))

pub inside_is : (inner : Bor (List ℕ)) (c : State) (r : code.Option (Bor (List ℕ))) → Rest inner r
    → element (is_some r) (name_of (unwrap_or r inner).now) c ≡ inside (chars inner.now) c
unfolding inside
inside_is inner c code.None h =
    rw (starts_chars (47 ∷ []) inner.now (omega arith, tt) ∙ slash inner.now ∙ h) (ap (λ (l : List ℕ). element false l c) (sym (name_chars inner.now)))
inside_is inner c (code.Some x) h =
    let e = slash inner.now ∙ h.0 in
    rw (starts_chars (47 ∷ []) inner.now (omega arith, tt) ∙ e)
    (ap (λ (l : List ℕ). element true (name_of l) c) h.1
    ∙ ap (λ (l : List ℕ). element true l c) (sym (name_chars (drop 1 inner.now)) ∙ ap name_of (drop_chars (47 ∷ []) inner.now (omega arith, tt) e)))

-- ---- `words`
pub words_shown : (raw : List ℕ) (c : State) (k : code.Option SkippedTag) → c.skip ≡ skip_name k → k ≡ code.None → text raw c ≡ words raw c
unfolding words
words_shown raw c k e z = rw (e, z)

pub words_skipped : (raw : List ℕ) (c : State) (k : SkippedTag) → c.skip ≡ some (skipped_name k) → c ≡ words raw c
unfolding words
words_skipped raw c k e = rw e

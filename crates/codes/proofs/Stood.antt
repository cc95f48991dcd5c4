-- The bits of a whole text: that of a code's last byte says whether the text contains the code.
-- Assumes nothing.
use Rattle.std.proofs.Common.{◌≡◌, ℕ, List, [], ◌∷◌, ◌++◌, length, zero, suc, ◌<◌, ◌≤◌, refl, sym, ap, ◌∙◌, arith, get_or, take, reverse, append_assoc, subst₂}
use mathlib.Core.Bool.{true}
use lib.Seq.{take-length}
use borrow.Author.Tests.{lt-ltb}
use Rattle.std.proofs.lemmas.List.{reverse-append, reverse-reverse}
use Rattle.std.proofs.Math.Seq.{take-suc}
use Rattle.text.specs.Words.{is_empty, starts_with}
use Rattle.text.proofs.Tests.{test_iff}
use Rattle.codes.specs.Search.{contains}
use Rattle.codes.specs.Readers.{ends, stood}
use Rattle.codes.proofs.SearchLaws.{contains_none, contains_more}
use Rattle.codes.proofs.Containing.{Occurs, contains_iff}

-- ---- the front parts of a code, from their last bytes on
front_more : (code : List ℕ) (j : ℕ) → j < length code → reverse (take (suc j) code) ≡ get_or code j 0 ∷ reverse (take j code)
front_more code j l = ap reverse (take-suc code j 0 l) ∙ reverse-append (take j code) (get_or code j 0 ∷ [])

ends_is : (code : List ℕ) (n : ℕ) (r : List ℕ) → n ≤ length code → ends code n r ≡ starts_with (reverse (take n code)) r
unfolding ends
ends_is code zero r l = refl
ends_is code (suc j) [] l = rw (front_more code j (omega arith)) refl
ends_is code (suc j) (b ∷ r) l = rw (front_more code j (omega arith), lt-ltb j (length code) (omega arith), ends_is code j r (omega arith)) refl

module _ (code : List ℕ) (j : ℕ) (size : length code ≡ suc j) where
  all_of : take (suc j) code ≡ code
  all_of = ap (λ (n : ℕ). take n code) (sym size) ∙ take-length code

  last_first : reverse code ≡ get_or code j 0 ∷ reverse (take j code)
  last_first = ap reverse (sym all_of) ∙ front_more code j (omega (arith, size))

  stood_in : (r : List ℕ) → stood code j r ≡ contains (reverse code) r
  unfolding stood
  stood_in [] = sym (contains_none (reverse code) ∙ ap is_empty last_first)
  stood_in (b ∷ r) =
      let here : ends code (suc j) (b ∷ r) ≡ starts_with (reverse code) (b ∷ r)
      = ends_is code (suc j) (b ∷ r) (omega (arith, size)) ∙ ap (λ (c : List ℕ). starts_with (reverse c) (b ∷ r)) all_of in
      rw (here, stood_in r) (sym (contains_more (reverse code) b r))

-- ---- a code and a text, both from their last bytes on
turned : (code text : List ℕ) → Occurs code text → Occurs (reverse code) (reverse text)
turned code text w =
    record {
      before = reverse w.behind;
      behind = reverse w.before;
      is = ap reverse w.is ∙ reverse-append w.before (code ++ w.behind) ∙ ap (λ (l : List ℕ). l ++ reverse w.before) (reverse-append code w.behind)
          ∙ append_assoc (reverse w.behind) (reverse code) (reverse w.before);
    }

pub stood_is : (code text : List ℕ) (j : ℕ) → length code ≡ suc j → stood code j (reverse text) ≡ contains code text
stood_is code text j size = stood_in code j size (reverse text) ∙ test_iff (contains (reverse code) (reverse text)) (contains code text) there back
  where
    there : contains (reverse code) (reverse text) ≡ true → contains code text ≡ true
    there e =
        let w = turned (reverse code) (reverse text) ((contains_iff (reverse code) (reverse text)).0 e) in
        (contains_iff code text).1 (subst₂ Occurs (reverse-reverse code) (reverse-reverse text) w)

    back : contains code text ≡ true → contains (reverse code) (reverse text) ≡ true
    back e = (contains_iff (reverse code) (reverse text)).1 (turned code text ((contains_iff code text).0 e))

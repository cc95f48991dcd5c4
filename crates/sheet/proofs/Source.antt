-- What a sheet's text is in the page: the references in it, and its single spaces.
-- Assumes nothing.
use Rattle.std.proofs.Common.{◌≡◌, refl, sym, ◌∙◌, ap, ℕ, true, false, List, [], ◌∷◌, ◌++◌, append_assoc, eqb}
use Rattle.std.proofs.Common.{arith}
use Rattle.std.proofs.lemmas.Bool.Decides.{nat_tests}
use mathlib.Core.Bool.{or-true}
use borrow.Author.Tests.{not-true}
use Rattle.text.specs.Words.{str, is, all, index}
use Rattle.text.specs.Chars.{is_space}
use Rattle.text.specs.Utf8.{utf8, size}
use Rattle.text.proofs.Tests.{and_true}
use Rattle.reference.specs.Unescape.{names, named, reference, unescaped, unescape}
use Rattle.sheet.specs.Tree.{Kind}
use Rattle.sheet.specs.Grammar as G
use Rattle.sheet.specs.Grammar.{Char, Many, stop, more, Text, none_of, singles, fits, concat}
use Rattle.sheet.proofs.Facts.{inked}
use Rattle.sheet.proofs.Conditions.{Shown, a_shown}
use Rattle.sheet.proofs.AllChars.{all_append}
use Rattle.sheet.proofs.TextOut.{singly}
use Rattle.sheet.proofs.RunOut.{Raw}

-- a character that stands for itself
unescape_own : (c : ℕ) (u : List ℕ) → Shown c → unescape 0 (c ∷ u) ≡ c ∷ unescape 0 u
unfolding unescape unescaped
unescape_own c u h = rw (not-true (eqb c 38) h.no_reference)

-- a text's source, with r after it

pub record Source (s t r : List ℕ) : Type 0 where
  pub raw : List ℕ
  pub is_raw : s ≡ raw ++ r
  pub source : Raw raw t

-- p stands for q
record Stands (p q : List ℕ) : Type 0 where
  untagged : (u : List ℕ) → none_of (is "<") u ≡ true → none_of (is "<") (p ++ u) ≡ true
  replaced : (u : List ℕ) → unescape 0 (p ++ u) ≡ q ++ unescape 0 u

source_by : {m t r : List ℕ} (p q : List ℕ) → Stands p q → Source m t r → Source (p ++ m) (q ++ t) r
source_by {r = r} p q h z =
    record {
      raw = p ++ z.raw;
      is_raw = ap (λ (m : List ℕ). p ++ m) z.is_raw ∙ sym (append_assoc p z.raw r);
      source = record {
        no_tag = h.untagged z.raw z.source.no_tag;
        means = h.replaced z.raw ∙ ap (λ (t : List ℕ). q ++ t) z.source.means;
        means_nl =
            ap (unescape 0) (append_assoc p z.raw (10 ∷ []))
            ∙ h.replaced (z.raw ++ (10 ∷ []))
            ∙ ap (λ (t : List ℕ). q ++ t) z.source.means_nl
            ∙ sym (append_assoc q _ (10 ∷ []));
      };
    }

stands_lt : Stands (str "&lt;") (str "<")
unfolding unescape unescaped reference named names index size utf8
stands_lt = record { untagged = λ u e. e; replaced = λ u. refl }

stands_amp : Stands (str "&amp;") (str "&")
unfolding unescape unescaped reference named names index size utf8
stands_amp = record { untagged = λ u e. e; replaced = λ u. refl }

stands_gt : Stands (str "&gt;") (str ">")
unfolding unescape unescaped reference named names index size utf8
stands_gt = record { untagged = λ u e. e; replaced = λ u. refl }

stands_quot : Stands (str "&quot;") (str "\"")
unfolding unescape unescaped reference named names index size utf8
stands_quot = record { untagged = λ u e. e; replaced = λ u. refl }

stands_blank : Stands (str " ") (str " ")
unfolding unescape unescaped
stands_blank = record { untagged = λ u e. e; replaced = λ u. refl }

stands_own : (c : ℕ) → Shown c → Stands (c ∷ []) (c ∷ [])
stands_own c h = record { untagged = λ u e. rw h.no_tag e; replaced = λ u. unescape_own c u h }

source_more : {s q m t r : List ℕ} → Char s q m → Source m t r → Source s (q ++ t) r
source_more G.&lt z = source_by (str "&lt;") (str "<") stands_lt z
source_more G.&amp z = source_by (str "&amp;") (str "&") stands_amp z
source_more G.&gt z = source_by (str "&gt;") (str ">") stands_gt z
source_more G.&quot z = source_by (str "&quot;") (str "\"") stands_quot z
source_more G.blank z = source_by (str " ") (str " ") stands_blank z
source_more (G.own c h) z = source_by (c ∷ []) (c ∷ []) (stands_own c (a_shown c h)) z

source_of : {s r : List ℕ} {qs : List (List ℕ)} → Many Char s qs r → Source s (concat qs) r
unfolding unescape unescaped
source_of stop = record { raw = []; is_raw = refl; source = record { no_tag = refl; means = refl; means_nl = refl } }
source_of (more c t) = source_more c (source_of t)

-- its spaces

inked_char : {s q m : List ℕ} → Char s q m → all inked q ≡ true
unfolding is_space
inked_char G.&lt = refl
inked_char G.&amp = refl
inked_char G.&gt = refl
inked_char G.&quot = refl
inked_char G.blank = refl
inked_char (G.own c h) = rw ((a_shown c h).no_space, or-true)

pub inked_text : {s r : List ℕ} {qs : List (List ℕ)} → Many Char s qs r → all inked (concat qs) ≡ true
inked_text stop = refl
inked_text (more {x = q} {xs = qs} c m) = all_append inked q (concat qs) (inked_char c) (inked_text m)

singly_after : (x : ℕ) (t : List ℕ) → singles (x ∷ t) ≡ true → all inked t ≡ true → singly (eqb x 32) t ≡ true
unfolding singly singles
singly_after x [] s v = refl
singly_after x (y ∷ t) s v = let i = singly_after y t in grind (arith, nat_tests)

singly_of : (t : List ℕ) → singles t ≡ true → all inked t ≡ true → singly false t ≡ true
unfolding singly
singly_of [] s v = refl
singly_of (y ∷ t) s v = let i = singly_after y t in grind (arith, nat_tests)

-- what a run's text is known to be
pub record Known (s t r : List ℕ) : Type 0 where
  pub from : Source s t r
  pub is_singly : singly false t ≡ true

pub known : (k : Kind) {s t r : List ℕ} → Text s t r → fits k t ≡ true → Known s t r
unfolding fits
known k (G.text {qs = qs} m) f = record { from = source_of m; is_singly = singly_of (concat qs) (and_true (singles (concat qs)) _ f).0 (inked_text m) }

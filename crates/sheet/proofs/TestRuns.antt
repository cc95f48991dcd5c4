-- Runs, and the runs of a line.
-- Assumes nothing.
use Rattle.std.proofs.Common.{◌≡◌, refl, sym, ◌∙◌, ap, ℕ, Bool, true, false, not, ◌&&◌, List, [], ◌∷◌, eqb, Bor, Option as Maybe, Some, None, is_some, unwrap_or}
use Rattle.std.proofs.Math.Option.{none, some}
use Rattle.text.specs.Chars.{is_letter}
use Rattle.text.specs.Utf8.{chars}
use Rattle.records.specs.Format.{non_empty}
use Rattle.sheet.specs.Reading.{◌<|>◌, strip}
use Rattle.sheet.specs.Tree as T
use Rattle.sheet.specs.Tree.{run}
use Rattle.sheet.specs.Grammar.{after, first_is, last_is, no_blank, fits}
use Rattle.sheet.specs.Reader.{Answer, text, opening, kind, one_run}
use Rattle.sheet.specs.Says.{Says}
use Rattle.sheet.specs.Keeps.{last_of, edges_of, of_edges, gist, Scanned, kind_of, IsKind, coded, suits}
use Rattle.sheet.specs.declared.reading.Read.{Read}
use Rattle.sheet.specs.declared.passage.Gist.{Gist}
use Rattle.sheet.specs.declared.kind.Kind.{Kind}
use Rattle.sheet.specs.declared.kind.Kind.TheVariants.{Plain, Strong, Em, Both, Code}
use Rattle.sheet.proofs.ReadingLaws.{alt_assoc}

-- ---- the kind of a run
module _ (page : Bor (List ℕ)) where
  abbrev s : List ℕ
  s = chars page.now

  kinds : kind s ≡ ((((opening T.both s <|> opening T.strong s) <|> opening T.em s) <|> opening T.code s) <|> opening T.plain s)
  unfolding kind
  kinds =
      sym (
      alt_assoc ((opening T.both s <|> opening T.strong s) <|> opening T.em s) (opening T.code s) (opening T.plain s)
      ∙ alt_assoc (opening T.both s <|> opening T.strong s) (opening T.em s) (opening T.code s <|> opening T.plain s)
      ∙ alt_assoc (opening T.both s) (opening T.strong s) (opening T.em s <|> opening T.code s <|> opening T.plain s)
      )

  plain_else : (o : Answer T.Kind) (q : Maybe (Read Kind)) → Says IsKind o q → {r : Read Kind} → r ≡ unwrap_or q (record { value = Plain; rest = page }) →
      (o <|> opening T.plain s) ≡ some (kind_of r.value, chars r.rest.now)
  plain_else none None h e = rw e
  plain_else (some x) (Some v) h e = rw (e, h.rest) (ap (λ (k : T.Kind). some (k, chars v.rest.now)) h.value)
  plain_else none (Some v) h e = absurd h
  plain_else (some x) None h e = absurd h

  pub kind_is : (q : Maybe (Read Kind)) → Says IsKind (((opening T.both s <|> opening T.strong s) <|> opening T.em s) <|> opening T.code s) q → {r : Read Kind} →
      r ≡ unwrap_or q (record { value = Plain; rest = page }) → kind s ≡ some (kind_of r.value, chars r.rest.now)
  kind_is q h e = kinds ∙ plain_else (((opening T.both s <|> opening T.strong s) <|> opening T.em s) <|> opening T.code s) q h e

-- ---- the code's kinds and the tree's
pub coded_kind : (k : Kind) → k ≡ coded (kind_of k)
coded_kind Plain = refl
coded_kind Strong = refl
coded_kind Em = refl
coded_kind Both = refl
coded_kind Code = refl

pub kind_coded : (k : T.Kind) → k ≡ kind_of (coded k)
kind_coded T.plain = refl
kind_coded T.strong = refl
kind_coded T.em = refl
kind_coded T.both = refl
kind_coded T.code = refl

-- ---- the test of a run's text
pub last_blank : (t : List ℕ) → last_is no_blank t ≡ of_edges (λ e. not (eqb e.last 32)) (edges_of t)
unfolding last_is
last_blank [] = refl
last_blank (a ∷ t) = last_blank_of a t
  where
    last_blank_of : (a : ℕ) (t : List ℕ) → last_is no_blank (a ∷ t) ≡ not (eqb (last_of a t) 32)
    last_blank_of a [] = refl
    last_blank_of a (b ∷ t) = last_blank_of b t

pub first_letter_of : (t : List ℕ) → first_is is_letter t ≡ of_edges (λ e. is_letter e.first) (edges_of t)
unfolding first_is
first_letter_of [] = refl
first_letter_of (a ∷ t) = refl

edged_is : (t : List ℕ) → first_is no_blank t && last_is no_blank t ≡ of_edges (λ e. not (eqb e.first 32) && not (eqb e.last 32)) (edges_of t)
unfolding first_is
edged_is [] = refl
edged_is (a ∷ t) = ap (λ (x : Bool). not (eqb a 32) && x) (last_blank (a ∷ t))

some_edges : (t : List ℕ) → non_empty t ≡ is_some (edges_of t)
some_edges [] = refl
some_edges (a ∷ t) = refl

pub suits_fits : (k : T.Kind) (t : List ℕ) → fits k t ≡ suits k (gist t)
unfolding fits gist
suits_fits T.plain t = rw (some_edges t)
suits_fits T.strong t = rw (edged_is t)
suits_fits T.em t = rw (edged_is t)
suits_fits T.both t = rw (edged_is t)
suits_fits T.code t = rw (edged_is t)

-- ---- one run
module _ (s : List ℕ) (o : Read Kind) (e : kind s ≡ some (kind_of o.value, chars o.rest.now)) (p : Read Gist) (z : Scanned (chars o.rest.now) p) where
  abbrev k : T.Kind
  k = kind_of o.value

  pub t : List ℕ
  t = (text (chars o.rest.now)).0

  fits_it : fits k t ≡ suits k p.value
  unfolding t
  fits_it = suits_fits k t ∙ ap (suits k) (sym z.value)

  pub run_1 : suits k p.value ≡ false → one_run s ≡ none
  unfolding one_run t
  run_1 h = rw (e, fits_it, h)

  module _ (h : suits k p.value ≡ true) where
    pub run_2 : strip (after k) (chars p.rest.now) ≡ none → one_run s ≡ none
    unfolding one_run t
    run_2 f = rw (e, fits_it, h, z.rest, f)

    pub run_3 : {r : List ℕ} → strip (after k) (chars p.rest.now) ≡ some r → one_run s ≡ some (run k t, r)
    unfolding one_run t
    run_3 f = rw (e, fits_it, h, z.rest, f)

    pub run_text : p.value ≡ gist t
    unfolding t
    run_text = z.value

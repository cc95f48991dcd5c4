-- The laws of `Shows`, and what a row of a table and a list marker show of their line (document 02, U11, for a whole reading).
-- Assumes nothing.
use Prim.Native.Nat.{ℕ, zero, suc, ◌/◌, ◌≤◌}
use native.Mathlib.Omega.{arith}
use mathlib.Core.Path.{◌≡◌, refl, sym, ap, ◌∙◌, subst}
use mathlib.Core.Bool.{Bool, true, false, ◌&&◌, ◌||◌}
use mathlib.Core.Option.{Option, none, some}
use mathlib.Core.List
use mathlib.Core.List.{List, [], ◌∷◌, ◌++◌, append_assoc, Sublistᴰ}
use mathlib.Core.List.Sublist
use mathlib.Core.List.{Sublist, nil-sublist}
use borrow.Author.Tests.{eqb-true, eqb-false}
use lib.Dec.{eqb}
use lib.ListN.{length, drop, length-drop}
use Rattle.text.specs.Words.{str, is, starts, starts_with, take_while, drop_while, trim_matches}
use Rattle.text.specs.Chars.{within, is_digit, is_space}
use Rattle.text.specs.Utf8.{size}
use Rattle.text.specs.Trim.{trim}
use Rattle.text.proofs.Tests.{on, and_true, or_elim, starts_split}
use Rattle.text.proofs.RunLaws.{run_split}
use Rattle.records.specs.Blocks.{item}
use Rattle.markdown.specs.Blocks.{Marked, marker_at, list_marker, row}
use Rattle.markdown.specs.Cells.{cells}
use Rattle.markdown.specs.Shown.{marker, instead, Rewritten, ends, stays, rewrites, Shows}
use Rattle.markdown.proofs.CellLaws.{dot, replaced, cells_spaced, cells_bar, cells_kept}
use Rattle.markdown.proofs.Sublists.{front_sublist, while_sublist, trim_sublist}

module _ (marked : Bool) where
  -- ---- a text rewritten
  all_stays : (s : List ℕ) → Rewritten marked s s
  all_stays [] = ends
  all_stays (c ∷ s) = stays (all_stays s)

  rewritten_append : {s t x y : List ℕ} → Rewritten marked s t → Rewritten marked x y → Rewritten marked (s ++ x) (t ++ y)
  rewritten_append ends q = q
  rewritten_append (stays p) q = stays (rewritten_append p q)
  rewritten_append {x = x} {y = y} (rewrites {c = c} {s = s} {t = t} p) q =
      subst (Rewritten marked (c ∷ (s ++ x))) (sym (append_assoc (instead marked c) t y)) (rewrites (rewritten_append p q))

  -- a longer text rewritten at the same characters
  record Wider (s t : List ℕ) : Type 0 where
    longer : List ℕ
    rewritten : Rewritten marked s longer
    inside : Sublist t longer

  wider : {x s t : List ℕ} → Sublistᴰ x s → Rewritten marked x t → Wider s t
  wider List.Sublistᴰ.slnil ends = record { longer = []; rewritten = ends; inside = nil-sublist [] }
  wider (List.Sublistᴰ.cons {a = a} d) p =
      let w = wider d p in record { longer = a ∷ w.longer; rewritten = stays w.rewritten; inside = Sublist.cons a w.inside }
  wider (List.Sublistᴰ.cons-cons {b = b} e d) (stays {t = t} p) =
      let w = wider d p in record {
        longer = b ∷ w.longer;
        rewritten = stays w.rewritten;
        inside = subst (λ (c : ℕ). Sublist (c ∷ t) (b ∷ w.longer)) (sym e) (Sublist.append (Sublist.refl (b ∷ [])) w.inside);
      }
  wider (List.Sublistᴰ.cons-cons {b = b} e d) (rewrites {t = t} p) =
      let w = wider d p in record {
        longer = instead marked b ++ w.longer;
        rewritten = rewrites w.rewritten;
        inside = subst (λ (c : ℕ). Sublist (instead marked c ++ t) (instead marked b ++ w.longer)) (sym e)
            (Sublist.append (Sublist.refl (instead marked b)) w.inside);
      }

  -- ---- what is shown of a text
  shows_all : (s : List ℕ) → Shows marked s s
  shows_all s = record { written = s; rewritten = all_stays s; from = Sublist.refl s }

  pub shows_none : (s : List ℕ) → Shows marked [] s
  shows_none s = record { written = s; rewritten = all_stays s; from = nil-sublist s }

  pub shows_append : {a b s t : List ℕ} → Shows marked a s → Shows marked b t → Shows marked (a ++ b) (s ++ t)
  shows_append p q = record {
    written = p.written ++ q.written;
    rewritten = rewritten_append p.rewritten q.rewritten;
    from = Sublist.append p.from q.from;
  }

  -- less is shown, or of more
  pub shows_less : {a b s : List ℕ} → Sublistᴰ a b → Shows marked b s → Shows marked a s
  shows_less d p = record { written = p.written; rewritten = p.rewritten; from = Sublist.trans (∣ d ∣₁) p.from }

  pub shows_more : {a s t : List ℕ} → Sublistᴰ s t → Shows marked a s → Shows marked a t
  shows_more d p =
      let w = wider d p.rewritten in
      record { written = w.longer; rewritten = w.rewritten; from = Sublist.trans p.from w.inside }

  pub shows_part : {a s : List ℕ} → Sublistᴰ a s → Shows marked a s
  shows_part {s = s} d = shows_less d (shows_all s)

  pub shows_instead : (c : ℕ) → Shows marked (instead marked c) (c ∷ [])
  shows_instead c = record { written = instead marked c ++ []; rewritten = rewrites ends; from = ∣ front_sublist (instead marked c) [] ∣₁ }

  -- ---- a row
  dot_shows : Shows marked dot (str " | ")
  unfolding instead
  dot_shows = shows_append (shows_none (str " ")) (shows_append (shows_instead 124) (shows_none (str " ")))

  cells_shows : (k : ℕ) (s : List ℕ) → length s ≤ k → Shows marked (cells dot 0 s) s
  unfolding cells instead
  cells_shows zero [] l = shows_none []
  cells_shows (suc k) [] l = shows_none []
  cells_shows zero (c ∷ s) l = absurd (omega arith)
  cells_shows (suc k) (c ∷ s) l =
      go (cells_shows k (drop 2 s) (omega (arith, length-drop 2 s))) (cells_shows k s (omega arith)) (starts " | " (c ∷ s)) refl (eqb c 124) refl
    where
      go : Shows marked (cells dot 0 (drop 2 s)) (drop 2 s) → Shows marked (cells dot 0 s) s
          → (t : Bool) → starts " | " (c ∷ s) ≡ t → (u : Bool) → eqb c 124 ≡ u → Shows marked (cells dot 0 (c ∷ s)) (c ∷ s)
      go past next true e u f =
          rw (cells_spaced dot c s e)
          (subst (Shows marked (dot ++ cells dot 0 (drop 2 s))) (sym (starts_split (str " | ") (c ∷ s) e)) (shows_append dot_shows past))
      go past next false e true f =
          let bar = eqb-true c 124 f in
          rw (cells_bar dot c s e bar) (shows_append (subst (λ (x : ℕ). Shows marked dot (x ∷ [])) (sym bar) (shows_instead 124)) next)
      go past next false e false f = rw (cells_kept dot c s e (eqb-false c 124 f)) (shows_append (shows_all (c ∷ [])) next)

  pub row_shows : (s : List ℕ) → Shows marked (row s) s
  unfolding row
  row_shows s =
      let inner = trim_matches (is "|") s in
      shows_less (trim_sublist is_space _)
      (rw (replaced 0 inner) (shows_more (trim_sublist (is "|") s) (cells_shows (length inner) inner (omega arith))))

  -- ---- a list marker, and the item behind it
  abbrev pub MarkerShows : List ℕ → Option Marked → Type 0
  MarkerShows s none = Unit {0}
  MarkerShows s (some m) = Shows marked (marker (item m.depth m.marker) marked ++ m.item) s

  -- the marker, or nothing of it
  marker_sublist : (b : Bool) (depth : ℕ) (m : List ℕ) → Sublistᴰ (marker (item depth m) b) m
  marker_sublist true depth m = List.Sublistᴰ.refl m
  marker_sublist false depth m = front_sublist [] m

  -- a sign and a space: the bullet stands for the sign
  sign_shows : (depth c : ℕ) → instead true c ≡ str "•" → Shows marked (marker (item depth (str "•")) marked) (c ∷ [])
  sign_shows depth c e = go marked refl
    where
      go : (b : Bool) → b ≡ marked → Shows marked (marker (item depth (str "•")) b) (c ∷ [])
      go true m = subst (λ (l : List ℕ). Shows marked l (c ∷ [])) (ap (λ (x : Bool). instead x c) (sym m) ∙ e) (shows_instead c)
      go false m = shows_none (c ∷ [])

  bullet_shows : (depth c : ℕ) (s : List ℕ) → instead true c ≡ str "•" → starts_with (c ∷ 32 ∷ []) s ≡ true
      → Shows marked (marker (item depth (str "•")) marked ++ trim (drop 2 s)) s
  bullet_shows depth c s e f =
      subst (Shows marked (marker (item depth (str "•")) marked ++ trim (drop 2 s))) (sym (starts_split (c ∷ 32 ∷ []) s f))
      (shows_append (shows_more (front_sublist (c ∷ []) (32 ∷ [])) (sign_shows depth c e)) (shows_part (trim_sublist is_space (drop 2 s))))

  -- digits and a full stop stand there themselves
  ordinal_shows : (depth : ℕ) (s : List ℕ) → starts ". " (drop_while is_digit s) ≡ true
      → Shows marked (marker (item depth (take_while is_digit s ++ str ".")) marked ++ trim (drop 2 (drop_while is_digit s))) s
  ordinal_shows depth s e =
      let digits = take_while is_digit s in
      let tail = drop_while is_digit s in
      let whole : (digits ++ str ". ") ++ drop 2 tail ≡ s =
      append_assoc digits (str ". ") (drop 2 tail) ∙ ap (λ (l : List ℕ). digits ++ l) (sym (starts_split (str ". ") tail e)) ∙ run_split is_digit s in
      let stop : Sublistᴰ (digits ++ str ".") (digits ++ str ". ") = List.Sublistᴰ.append (List.Sublistᴰ.refl digits) (front_sublist (str ".") (str " ")) in
      let lead = List.Sublistᴰ.trans (marker_sublist marked depth (digits ++ str ".")) stop in
      shows_part (subst (Sublistᴰ (marker (item depth (digits ++ str ".")) marked ++ trim (drop 2 tail))) whole
      (List.Sublistᴰ.append lead (trim_sublist is_space (drop 2 tail))))

  marker_shows : (indent : ℕ) (s : List ℕ) → MarkerShows s (marker_at indent s)
  unfolding marker_at instead
  marker_shows indent s =
      let digits = take_while is_digit s in
      let tail = drop_while is_digit s in
      on (MarkerShows s) (starts "- " s || starts "* " s || starts "+ " s)
      (λ e.
      or_elim (starts "- " s || starts "* " s) (starts "+ " s)
      (or_elim (starts "- " s) (starts "* " s) (bullet_shows (indent / 2) 45 s refl) (bullet_shows (indent / 2) 42 s refl))
      (bullet_shows (indent / 2) 43 s refl) e)
      (λ _. on (MarkerShows s) (starts ". " tail && within 1 9 (length digits))
      (λ e. ordinal_shows (indent / 2) s (and_true (starts ". " tail) (within 1 9 (length digits)) e).0) (λ _. tt))

  pub list_shows : (line : List ℕ) → MarkerShows line (list_marker line)
  unfolding list_marker
  list_shows line = more (list_marker line) (marker_shows (size (take_while is_space line)) (drop_while is_space line))
    where
      more : (o : Option Marked) → MarkerShows (drop_while is_space line) o → MarkerShows line o
      more none h = tt
      more (some m) h = shows_more (while_sublist is_space line) h

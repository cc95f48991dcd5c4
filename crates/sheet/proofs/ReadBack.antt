-- Reading a written line gives its runs' spans. Between two texts stand k stars: k / 2 turns of bold, then k % 2 turns of italic, and only
-- where two runs with italic touch does that not end the one and begin the other.
-- Assumes nothing.
use Rattle.std.proofs.Common.{◌≡◌, refl, sym, ◌∙◌, ap, subst, ℕ, suc, arith, add-one, Bool, true, false, cond, not, ◌&&◌, ◌⊎◌, inl, inr, List, [], ◌∷◌, ◌++◌, map}
use Rattle.std.proofs.Common.{reverse, append-nil, append_assoc, length}
use Rattle.std.proofs.lemmas.Bool.Decides.{nat_tests}
use Rattle.std.proofs.Math.Option.{some}
use mathlib.Core.List.{reverse_aux, reverse-reverse}
use lib.ListN.{length-reverse}
use lib.Seq.{take-append_seam, append_snoc}
use borrow.Author.Tests.{not-true}
use Rattle.text.specs.Words.{starts, index, find}
use Rattle.text.proofs.Tests.{and_true, true_false}
use Rattle.html.specs.State.{special}
use Rattle.records.specs.Blocks.{Span}
use Rattle.spans.specs.Spans as S
use Rattle.spans.specs.Spans.{Walk, at, push, cleared, flush, kept, code_step, star_step, step, walk, spans_at, spans}
use Rattle.sheet.specs.Tree.{Kind, plain, strong, em, both, code, Run, run}
use Rattle.sheet.specs.Grammar.{none_of, fits, touch, apart}
use Rattle.sheet.specs.Written.{span, escaped, sign, written_run, written_runs}
use Rattle.sheet.proofs.Facts.{ordinary}
use Rattle.sheet.proofs.Conditions.{filled, code_text}
use Rattle.markdown.proofs.RunLaws.{not_empty}

-- ---- texts
-- an ordinary character is kept
step_kept : (w : Walk) (b : ℕ) (s : List ℕ) → special b ≡ false → step w b s ≡ kept w b
unfolding step
step_kept w b s e = let o = ordinary b e in rw (o.no_backslash, o.no_tick, o.no_star, o.no_bracket, o.no_bang)

no_escape : (u : List ℕ) → none_of special u ≡ true → escaped u ≡ u
unfolding escaped
no_escape [] e = refl
no_escape (b ∷ u) e =
    let h : special b ≡ false = grind (arith, nat_tests) in
    let i = no_escape u (grind (arith, nat_tests)) in
    rw (h, i)

-- what a text that is not empty starts with is no star
no_star : (b : ℕ) (u s : List ℕ) → starts "*" (escaped (b ∷ u) ++ s) ≡ false
unfolding escaped
no_star b u s = let o = ordinary b in grind (arith, nat_tests)

unfoldable pub all_fit : List Run → Bool
all_fit [] = true
all_fit (run k t ∷ rs) = fits k t && all_fit rs

written_code : (u s : List ℕ) → fits code u ≡ true → written_run (run code u) ++ s ≡ 96 ∷ (u ++ (96 ∷ s))
written_code u s e = rw (no_escape u (code_text u e)) (ap (λ (x : List ℕ). 96 ∷ x) (append_snoc u 96 s))

-- ---- the walk at a run: the emphasis in it, and the stars that end it
abbrev in_run : Kind → List ℕ → Walk
in_run plain t = at false false t
in_run strong t = at true false t
in_run em t = at false true t
in_run both t = at true true t
in_run code t = at false false []

abbrev at_rest : Walk
at_rest = at false false []

abbrev closer : Kind → List ℕ
closer plain = sign plain
closer strong = sign strong
closer em = sign em
closer both = sign both
closer code = []

abbrev bolder : Walk → Walk
bolder w = at (not w.bold) w.italic []

abbrev slanted : Walk → Walk
slanted w = at w.bold (not w.italic) []

abbrev pushed : List ℕ → Walk → Walk
pushed t w = at w.bold w.italic (reverse_aux t w.text)

-- a run that is not code is read character by character
record Plain (l : Kind) (b : ℕ) (u : List ℕ) : Type 0 where
  signed : sign l ≡ closer l
  state : pushed (b ∷ u) (in_run l []) ≡ in_run l (reverse (b ∷ u))
  said : (in_run l (reverse (b ∷ u))).text ≡ reverse (b ∷ u)
  spanned : S.span false (in_run l (reverse (b ∷ u))) (b ∷ u) ≡ span (run l (b ∷ u))

plain_or_code : (l : Kind) (b : ℕ) (u : List ℕ) → Plain l b u ⊎ (l ≡ code)
plain_or_code plain b u = inl (record { signed = refl; state = refl; said = refl; spanned = refl })
plain_or_code strong b u = inl (record { signed = refl; state = refl; said = refl; spanned = refl })
plain_or_code em b u = inl (record { signed = refl; state = refl; said = refl; spanned = refl })
plain_or_code both b u = inl (record { signed = refl; state = refl; said = refl; spanned = refl })
plain_or_code code b u = inr refl

flushed : (w : Walk) (b : ℕ) (u : List ℕ) → w.text ≡ reverse (b ∷ u) → flush w ≡ S.span false w (b ∷ u) ∷ []
unfolding flush
flushed w b u e =
    rw (e, not_empty (reverse (b ∷ u)) (omega (arith, length-reverse (b ∷ u))), reverse-reverse (b ∷ u))

rested : (l : List Span) → flush at_rest ++ l ≡ l
unfolding flush
rested l = refl

module _ (inner : List ℕ → List Span) where
  walk_kept : (w : Walk) (b : ℕ) (s : List ℕ) → special b ≡ false → walk inner w 0 (b ∷ s) ≡ walk inner (push b w) 0 s
  unfolding walk
  walk_kept w b s e = rw (step_kept w b s e)

  walk_escape : (w : Walk) (b : ℕ) (s : List ℕ) → walk inner w 0 (92 ∷ b ∷ s) ≡ walk inner (push b w) 0 s
  unfolding walk step
  walk_escape w b s = refl

  -- the text of a run
  walk_text : (t : List ℕ) (w : Walk) (s : List ℕ) → walk inner w 0 (escaped t ++ s) ≡ walk inner (pushed t w) 0 s
  unfolding escaped
  walk_text [] w s = refl
  walk_text (b ∷ t) w s = go (special b) refl (walk_text t (push b w) s)
    where
      go : (x : Bool) → special b ≡ x → walk inner (push b w) 0 (escaped t ++ s) ≡ walk inner (pushed t (push b w)) 0 s
          → walk inner w 0 ((cond x (92 ∷ b ∷ []) (b ∷ []) ++ escaped t) ++ s) ≡ walk inner (pushed (b ∷ t) w) 0 s
      go true e ih = walk_escape w b (escaped t ++ s) ∙ ih
      go false e ih = walk_kept w b (escaped t ++ s) e ∙ ih

  -- ---- stars
  walk_two : (w : Walk) (s : List ℕ) → walk inner w 0 (42 ∷ 42 ∷ s) ≡ flush w ++ walk inner (bolder w) 0 s
  unfolding walk step star_step
  walk_two w s = refl

  walk_one : (w : Walk) (s : List ℕ) → starts "*" s ≡ false → walk inner w 0 (42 ∷ s) ≡ flush w ++ walk inner (slanted w) 0 s
  unfolding walk step star_step
  walk_one w s e = rw e

  walk_three : (w : Walk) (s : List ℕ) → starts "*" s ≡ false → walk inner w 0 (42 ∷ 42 ∷ 42 ∷ s) ≡ flush w ++ walk inner (slanted (bolder w)) 0 s
  unfolding flush
  walk_three w s b = walk_two w (42 ∷ s) ∙ ap (λ (l : List Span). flush w ++ l) (walk_one (bolder w) s b)

  walk_four : (w : Walk) (s : List ℕ) → walk inner w 0 (42 ∷ 42 ∷ 42 ∷ 42 ∷ s) ≡ flush w ++ walk inner (bolder (bolder w)) 0 s
  unfolding flush
  walk_four w s = walk_two w (42 ∷ 42 ∷ s) ∙ ap (λ (l : List Span). flush w ++ l) (walk_two (bolder w) s)

  walk_five : (w : Walk) (s : List ℕ) → starts "*" s ≡ false
      → walk inner w 0 (42 ∷ 42 ∷ 42 ∷ 42 ∷ 42 ∷ s) ≡ flush w ++ walk inner (slanted (bolder (bolder w))) 0 s
  unfolding flush
  walk_five w s b = walk_two w (42 ∷ 42 ∷ 42 ∷ s) ∙ ap (λ (l : List Span). flush w ++ l) (walk_three (bolder w) s b)

  -- from one run into the next, where that is no code: what was pending is flushed
  opens : (k l : Kind) (t s : List ℕ) → touch k l ≡ false → starts "*" s ≡ false → sign l ≡ closer l
      → walk inner (in_run k t) 0 (closer k ++ (sign l ++ s)) ≡ flush (in_run k t) ++ walk inner (in_run l []) 0 s
  unfolding flush
  opens plain plain t s h b n = true_false h
  opens plain strong t s h b n = walk_two (in_run plain t) s
  opens plain em t s h b n = walk_one (in_run plain t) s b
  opens plain both t s h b n = walk_three (in_run plain t) s b
  opens strong plain t s h b n = walk_two (in_run strong t) s
  opens strong strong t s h b n = walk_four (in_run strong t) s
  opens strong em t s h b n = walk_three (in_run strong t) s b
  opens strong both t s h b n = walk_five (in_run strong t) s b
  opens em plain t s h b n = walk_one (in_run em t) s b
  opens em strong t s h b n = walk_three (in_run em t) s b
  opens em em t s h b n = true_false h
  opens em both t s h b n = true_false h
  opens both plain t s h b n = walk_three (in_run both t) s b
  opens both strong t s h b n = walk_five (in_run both t) s b
  opens both em t s h b n = true_false h
  opens both both t s h b n = true_false h
  opens code plain t s h b n = refl
  opens code strong t s h b n = walk_two at_rest s
  opens code em t s h b n = walk_one at_rest s b
  opens code both t s h b n = walk_three at_rest s b
  opens k code t s h b n = let z : ◌≡◌ {A = ℕ} 0 1 = cc in absurd (omega arith)

  -- ---- code
  find_tick : (u s : List ℕ) → none_of special u ≡ true → find "`" (u ++ (96 ∷ s)) ≡ some (length u)
  unfolding index
  find_tick [] s e = refl
  find_tick (b ∷ u) s e =
      let f = and_true (not (special b)) (none_of special u) e in
      rw ((ordinary b (not-true (special b) f.0)).no_tick, find_tick u s f.1)

  skip : (w : Walk) (u : List ℕ) (b : ℕ) (s : List ℕ) → walk inner w (suc (length u)) (u ++ (b ∷ s)) ≡ walk inner w 0 s
  unfolding walk
  skip w [] b s = refl
  skip w (c ∷ u) b s = skip w u b s

  walk_code : (w : Walk) (u s : List ℕ) → none_of special u ≡ true
      → walk inner w 0 (96 ∷ (u ++ (96 ∷ s))) ≡ (flush w ++ (S.span true w u ∷ [])) ++ walk inner (cleared w) 0 s
  unfolding walk step code_step
  walk_code w u s e =
      rw (find_tick u s e, take-append_seam u (96 ∷ s), add-one)
      (ap (λ (l : List Span). (flush w ++ (S.span true w u ∷ [])) ++ l) (skip (cleared w) u 96 s))

  -- from one run into code
  into_code : (k : Kind) (t u s : List ℕ) → none_of special u ≡ true
      → walk inner (in_run k t) 0 (closer k ++ (96 ∷ (u ++ (96 ∷ s)))) ≡ flush (in_run k t) ++ (span (run code u) ∷ walk inner at_rest 0 s)
  unfolding flush
  into_code plain t u s e =
      walk_code (in_run plain t) u s e ∙ append_snoc (flush (in_run plain t)) (span (run code u)) (walk inner at_rest 0 s)
  into_code strong t u s e =
      opens strong plain t (96 ∷ (u ++ (96 ∷ s))) refl refl refl ∙ ap (λ (l : List Span). flush (in_run strong t) ++ l) (walk_code at_rest u s e)
  into_code em t u s e =
      opens em plain t (96 ∷ (u ++ (96 ∷ s))) refl refl refl ∙ ap (λ (l : List Span). flush (in_run em t) ++ l) (walk_code at_rest u s e)
  into_code both t u s e =
      opens both plain t (96 ∷ (u ++ (96 ∷ s))) refl refl refl ∙ ap (λ (l : List Span). flush (in_run both t) ++ l) (walk_code at_rest u s e)
  into_code code t u s e = walk_code at_rest u s e

  -- ---- runs
  -- from one run into another, through its text
  into : (k l : Kind) (t : List ℕ) (b : ℕ) (u s : List ℕ) → touch k l ≡ false → Plain l b u
      → walk inner (in_run k t) 0 (closer k ++ (written_run (run l (b ∷ u)) ++ s)) ≡ flush (in_run k t) ++ walk inner (in_run l (reverse (b ∷ u))) 0 (closer l ++ s)
  into k l t b u s h p =
      ap (λ (x : List ℕ). walk inner (in_run k t) 0 (closer k ++ x))
      (append_assoc (sign l) (escaped (b ∷ u) ++ sign l) s ∙ ap (λ (x : List ℕ). sign l ++ x) (append_assoc (escaped (b ∷ u)) (sign l) s))
      ∙ opens k l t (escaped (b ∷ u) ++ (sign l ++ s)) h (no_star b u (sign l ++ s)) p.signed
      ∙ ap (λ (x : List Span). flush (in_run k t) ++ x)
      (walk_text (b ∷ u) (in_run l []) (sign l ++ s) ∙ ap (λ (w : Walk). walk inner w 0 (sign l ++ s)) p.state ∙ ap (λ (x : List ℕ). walk inner (in_run l (reverse (b ∷ u))) 0 (x ++ s)) p.signed)

  -- a run, and then what the rest gives
  one_more : (k l : Kind) (acc : List ℕ) (b : ℕ) (u s : List ℕ) (out : List Span) → touch k l ≡ false → Plain l b u
      → walk inner (in_run l (reverse (b ∷ u))) 0 (closer l ++ s) ≡ flush (in_run l (reverse (b ∷ u))) ++ out
      → walk inner (in_run k acc) 0 (closer k ++ (written_run (run l (b ∷ u)) ++ s)) ≡ flush (in_run k acc) ++ (span (run l (b ∷ u)) ∷ out)
  one_more k l acc b u s out h p ih =
      into k l acc b u s h p
      ∙ ap (λ (x : List Span). flush (in_run k acc) ++ x)
      (ih ∙ ap (λ (x : List Span). x ++ out) (flushed (in_run l (reverse (b ∷ u))) b u p.said) ∙ ap (λ (x : Span). x ∷ out) p.spanned)

  one_code : (k : Kind) (acc u s : List ℕ) (out : List Span) → fits code u ≡ true → walk inner at_rest 0 s ≡ flush at_rest ++ out
      → walk inner (in_run k acc) 0 (closer k ++ (written_run (run code u) ++ s)) ≡ flush (in_run k acc) ++ (span (run code u) ∷ out)
  one_code k acc u s out f ih =
      ap (λ (x : List ℕ). walk inner (in_run k acc) 0 (closer k ++ x)) (written_code u s f)
      ∙ into_code k acc u s (code_text u f)
      ∙ ap (λ (x : List Span). flush (in_run k acc) ++ (span (run code u) ∷ x)) (ih ∙ rested out)

  last : (k : Kind) (acc : List ℕ) → walk inner (in_run k acc) 0 (closer k ++ []) ≡ flush (in_run k acc) ++ []
  unfolding walk step star_step flush
  last plain acc = sym (append-nil (flush (in_run plain acc)))
  last strong acc = refl
  last em acc = refl
  last both acc = refl
  last code acc = refl

  runs_read : (k : Kind) (t acc : List ℕ) (rs : List Run) → apart (run k t ∷ rs) ≡ true → all_fit rs ≡ true
      → walk inner (in_run k acc) 0 (closer k ++ written_runs rs) ≡ flush (in_run k acc) ++ map span rs
  unfolding apart all_fit written_runs
  runs_read k t acc [] a f = last k acc
  runs_read k t acc (run l [] ∷ rs) a f = filled l (and_true (fits l []) (all_fit rs) f).0
  runs_read k t acc (run l (b ∷ u) ∷ rs) a f =
      let h = and_true (not (touch k l)) (apart (run l (b ∷ u) ∷ rs)) a in
      let g = and_true (fits l (b ∷ u)) (all_fit rs) f in
      go (not-true (touch k l) h.0) g.0 (λ (acc : List ℕ). runs_read l (b ∷ u) acc rs h.1 g.1) (plain_or_code l b u)
    where
      go : touch k l ≡ false → fits l (b ∷ u) ≡ true
          → ((acc : List ℕ) → walk inner (in_run l acc) 0 (closer l ++ written_runs rs) ≡ flush (in_run l acc) ++ map span rs)
          → Plain l b u ⊎ (l ≡ code)
          → walk inner (in_run k acc) 0 (closer k ++ (written_run (run l (b ∷ u)) ++ written_runs rs)) ≡ flush (in_run k acc) ++ (span (run l (b ∷ u)) ∷ map span rs)
      go h f ih (inl p) = one_more k l acc b u (written_runs rs) (map span rs) h p (ih (reverse (b ∷ u)))
      go h f ih (inr e) =
          ap (λ (l : Kind). walk inner (in_run k acc) 0 (closer k ++ (written_run (run l (b ∷ u)) ++ written_runs rs))) e
          ∙ one_code k acc (b ∷ u) (written_runs rs) (map span rs) (subst (λ (l : Kind). fits l (b ∷ u) ≡ true) e f)
          (subst (λ (l : Kind). walk inner (in_run l []) 0 (closer l ++ written_runs rs) ≡ flush (in_run l []) ++ map span rs) e (ih []))
          ∙ ap (λ (l : Kind). flush (in_run k acc) ++ (span (run l (b ∷ u)) ∷ map span rs)) (sym e)

from_start : (rs : List Run) → apart rs ≡ true → apart (run code [] ∷ rs) ≡ true
unfolding apart
from_start [] a = refl
from_start (run l u ∷ rs) a = a

-- a line that is written is read as its runs
pub line_read : (rs : List Run) → apart rs ≡ true → all_fit rs ≡ true → spans (written_runs rs) ≡ map span rs
unfolding spans spans_at flush
line_read rs a f = runs_read (spans_at (length (written_runs rs))) code [] [] rs (from_start rs a) f

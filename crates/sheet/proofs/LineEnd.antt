-- How a line ends, and what the converter's `newline` and `block` make of that.
-- Assumes nothing.
use Rattle.std.proofs.Common.{◌≡◌, refl, sym, ◌∙◌, ap, subst, ℕ, Bool, true, false, not, cond, List, [], ◌∷◌, ◌++◌, append-nil, eqb}
use Rattle.std.proofs.Common.{arith}
use Rattle.std.proofs.lemmas.Bool.Decides.{nat_tests}
use mathlib.Core.List.{reverse_aux, reverse_aux-append}
use borrow.Author.Tests.{not-true}
use Rattle.text.specs.Words.{str, is, all, drop_while}
use Rattle.text.specs.Chars.{is_space}
use Rattle.text.proofs.Tests.{and_true, false_true}
use Rattle.html.specs.State.{line_start, block, newline}
use Rattle.html.specs.Page.{loop}
use Rattle.sheet.specs.Tree.{plain, strong, em, both, code, Run, run}
use Rattle.sheet.specs.Grammar as G
use Rattle.sheet.specs.Grammar.{NL, Many, stop, more, IsRun, is_run, Line, last_is, no_blank, last_no_blank}
use Rattle.sheet.specs.Written.{escaped, written_run, written_runs}
use Rattle.sheet.proofs.Facts.{inked}
use Rattle.sheet.proofs.Conditions.{neat_of}
use Rattle.sheet.proofs.Turns.{Low}
use Rattle.sheet.proofs.Tags.{st}
use Rattle.sheet.proofs.TextOut.{begins, inline, line_start_is, shielded, held, not_newline}
use Rattle.sheet.proofs.RunOut.{Tail, wrapped, nl_loop}
use Rattle.sheet.proofs.Source.{inked_text}
use Rattle.sheet.proofs.LineOut.{line_out}

abbrev pub space_first : List ℕ → Bool
space_first [] = false
space_first (a ∷ v) = is_space a

pub solid_drop : (s : List ℕ) → space_first s ≡ false → drop_while is_space s ≡ s
unfolding drop_while
solid_drop [] e = refl
solid_drop (a ∷ s) e = rw e

-- the output v ends a line's text
pub record Ended (v : List ℕ) : Type 0 where
  pub no_space : begins 32 v ≡ false
  pub is_inline : inline v ≡ true
  pub solid : space_first v ≡ false

last_char : (x : ℕ) (o : List ℕ) → eqb x 32 ≡ false → inked x ≡ true → Ended (reverse_aux (shielded x ++ []) o)
unfolding begins inline
last_char x o e v = record { no_space = grind (arith, nat_tests); is_inline = let n = not_newline x in grind (arith, nat_tests); solid = grind (arith, nat_tests) }

text_ended : (t o : List ℕ) → all inked t ≡ true → last_is no_blank t ≡ true → Ended (reverse_aux (escaped t) o)
unfolding last_is escaped
text_ended [] o v f = false_true f
text_ended (x ∷ []) o v f = last_char x o (not-true (eqb x 32) f) (and_true (inked x) true v).0
text_ended (x ∷ y ∷ t) o v f =
    subst Ended (sym (reverse_aux-append (shielded x) (escaped (y ∷ t)) o))
    (text_ended (y ∷ t) (reverse_aux (shielded x) o) (and_true (inked x) (all inked (y ∷ t)) v).1 f)

star_ended : (w : List ℕ) → Ended (42 ∷ w)
unfolding begins inline is_space
star_ended w = record { no_space = refl; is_inline = refl; solid = refl }

tick_ended : (w : List ℕ) → Ended (96 ∷ w)
unfolding begins inline is_space
tick_ended w = record { no_space = refl; is_inline = refl; solid = refl }

run_ended : {s m : List ℕ} {x : Run} → IsRun s x m → last_no_blank (x ∷ []) ≡ true → (o : List ℕ) → Ended (reverse_aux (written_run x) o)
unfolding last_no_blank
run_ended (is_run {t = t} plain (G.text m) g) f o = subst (λ (x : List ℕ). Ended (reverse_aux x o)) (sym (append-nil (escaped t))) (text_ended t o (inked_text m) f)
run_ended (is_run {t = t} strong T g) f o = subst Ended (wrapped (str "**") t o) (star_ended _)
run_ended (is_run {t = t} em T g) f o = subst Ended (wrapped (str "*") t o) (star_ended _)
run_ended (is_run {t = t} both T g) f o = subst Ended (wrapped (str "***") t o) (star_ended _)
run_ended (is_run {t = t} code T g) f o = subst Ended (wrapped (str "`") t o) (tick_ended _)

ended_step : {s m : List ℕ} (x : Run) (rs : List Run) → IsRun s x m → (last_no_blank rs ≡ true → (o : List ℕ) → Ended (reverse_aux (written_runs rs) o)) →
    last_no_blank (x ∷ rs) ≡ true → (o : List ℕ) → Ended (reverse_aux (written_runs (x ∷ rs)) o)
unfolding last_no_blank written_runs
ended_step (run k t) [] h ih f o = subst (λ (x : List ℕ). Ended (reverse_aux x o)) (sym (append-nil (written_run (run k t)))) (run_ended h f o)
ended_step (run k t) (run l u ∷ rs) h ih f o = subst Ended (sym (reverse_aux-append (written_run (run k t)) (written_runs (run l u ∷ rs)) o)) (ih f (reverse_aux (written_run (run k t)) o))

pub runs_ended : {s r : List ℕ} {rs : List Run} → Many IsRun s rs r → last_no_blank rs ≡ true → (o : List ℕ) → Ended (reverse_aux (written_runs rs) o)
unfolding last_no_blank
runs_ended stop f o = false_true f
runs_ended (more {x = x} {xs = rs} h ms) f o = ended_step x rs h (λ f o. runs_ended ms f o) f o

-- a line, whole: from a state with nothing pending to one with nothing pending
pub record LineDone (l : List ℕ) (s : List ℕ) (rs : List Run) (r o : List ℕ) : Type 0 where
  pub eq : Low (reverse_aux (written_runs rs) o) → loop 0 s (st l o false) ≡ loop 0 r (st l (reverse_aux (written_runs rs) o) false)
  pub ended : Ended (reverse_aux (written_runs rs) o)

pub line_done : (l : List ℕ) {s r : List ℕ} {rs : List Run} → Line s rs r → Tail r → (o : List ℕ) → LineDone l s rs r o
line_done l {r = r} {rs = rs} (G.line m f) z o =
    let n = neat_of rs f in
    let d = runs_ended m n.last o in
    record { eq = λ h. line_out l m n.parted n.first z o h ∙ ap (loop 0 r) (held l (reverse_aux (written_runs rs) o) d.no_space); ended = d }

-- at the start of a line
abbrev pub nlx : List ℕ → List ℕ
nlx x = cond (inline x) (10 ∷ x) x

clean : (x : List ℕ) → begins 32 x ≡ false → drop_while (is " ") x ≡ x
unfolding drop_while begins
clean [] e = refl
clean (a ∷ x) e = rw e

no_newline : (a : ℕ) (v : List ℕ) → Ended (a ∷ v) → eqb a 10 ≡ false
unfolding inline begins
no_newline a v h = not-true (eqb a 10) h.is_inline

not_empty : {A : Type 0} → Ended [] → A
unfolding inline
not_empty h = false_true h.is_inline

module _ (l : List ℕ) where
  pub newline_st : (x : List ℕ) (b : Bool) → begins 32 x ≡ false → newline (st l x b) ≡ st l (nlx x) false
  unfolding newline
  newline_st x b e = rw (clean x e, line_start_is x) (grind (arith, nat_tests))

  pub block_ended : (v : List ℕ) (b : Bool) → Ended v → block (st l v b) ≡ st l (10 ∷ 10 ∷ v) false
  unfolding block
  block_ended [] b h = not_empty h
  block_ended (a ∷ v) b h = rw (clean (a ∷ v) h.no_space, no_newline a v h)

  pub block_newline : (v : List ℕ) (b : Bool) → Ended v → block (st l (10 ∷ v) b) ≡ st l (10 ∷ 10 ∷ v) false
  unfolding block begins
  block_newline [] b h = not_empty h
  block_newline (a ∷ v) b h = rw (clean (10 ∷ a ∷ v) refl) (rw (no_newline a v h))

pub inline_nlx : (v : List ℕ) → Ended v → nlx v ≡ 10 ∷ v
inline_nlx v h = rw h.is_inline

pub start_nlx : (v : List ℕ) → nlx (10 ∷ v) ≡ 10 ∷ v
unfolding inline begins
start_nlx v = refl

pub start_again : (x : List ℕ) → nlx (nlx x) ≡ nlx x
unfolding inline begins
start_again x = grind (arith, nat_tests)

pub start_space : (v : List ℕ) → begins 32 (10 ∷ v) ≡ false
unfolding begins
start_space v = refl

pub nothing_begins : begins 32 [] ≡ false
unfolding begins
nothing_begins = refl

pub clean_nlx : (x : List ℕ) → begins 32 x ≡ false → begins 32 (nlx x) ≡ false
clean_nlx x e = let s = start_space x in grind (arith, nat_tests)

-- NL? before a tag: only what is pending may change
pub nl_out : (l o : List ℕ) (b : Bool) {s r r' : List ℕ} → NL s r → r ≡ 60 ∷ r' → (b' : Bool) × (Low o → loop 0 s (st l o b) ≡ loop 0 r (st l o b'))
nl_out l o b G.no_nl e = (b, λ h. refl)
nl_out l o b {r' = r'} (G.nl {s}) e = (
  not (line_start o),
  λ h. ap (λ (r : List ℕ). loop 0 (10 ∷ r) (st l o b)) e ∙ nl_loop l o r' b h ∙ ap (λ (r : List ℕ). loop 0 r (st l o (not (line_start o)))) (sym e),
)

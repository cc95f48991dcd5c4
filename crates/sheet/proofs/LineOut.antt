-- Converting a line of the grammar writes its runs.
-- Assumes nothing.
use Rattle.std.proofs.Common.{◌≡◌, refl, sym, ◌∙◌, ap, subst, ℕ, arith, Bool, true, false, not, cond, inl, List, [], ◌∷◌, ◌++◌, append-nil, eqb}
use mathlib.Core.Bool.{and-false}
use mathlib.Core.List.{reverse_aux, reverse_aux-append}
use Rattle.text.specs.Words.{str}
use Rattle.text.specs.Chars.{is_space, is_letter}
use Rattle.text.proofs.Tests.{and_true, false_true}
use Rattle.html.specs.State.{State, spaced, opens, ends_with_digit, escape, put, blank, next, put_all}
use Rattle.html.specs.Page.{loop}
use Rattle.sheet.specs.Tree.{Kind, plain, strong, em, both, code, Run, run}
use Rattle.sheet.specs.Grammar.{Many, stop, more, Text, IsRun, is_run, first_is, last_is, no_blank, fits, touch, apart, first_letter, before, after}
use Rattle.sheet.specs.Written.{escaped, written_run, written_runs}
use Rattle.sheet.proofs.Facts.{Letter, a_letter, letter_is_not, letter_space, letter_special, letter_leading}
use Rattle.sheet.proofs.Conditions.{InTags, ends_of}
use Rattle.sheet.proofs.Turns.{Low, low_front}
use Rattle.sheet.proofs.Tags.{st}
use Rattle.sheet.proofs.TextOut.{begins, inline, singly, hold, held, hold_spaced, put_text}
use Rattle.sheet.proofs.RunOut.{Tail, tag, Ready, text_out, run_plain, ran, wrapped, run_strong, run_em, run_code, run_both}
use Rattle.sheet.proofs.Source.{Known, known}

-- where a plain run ends, a tag stands, or the line ends
at_tag : {m r : List ℕ} {rs : List Run} (t : List ℕ) → Many IsRun m rs r → apart (run plain t ∷ rs) ≡ true → Tail r → Tail m
unfolding apart
at_tag t stop a z = z
at_tag t (more (is_run plain T f) rs) a z = false_true a
at_tag t (more (is_run strong T f) rs) a z = tag _
at_tag t (more (is_run em T f) rs) a z = tag _
at_tag t (more (is_run both T f) rs) a z = tag _
at_tag t (more (is_run code T f) rs) a z = tag _

-- v ends in a mark
record Marked (v : List ℕ) : Type 0 where
  is_inline : inline v ≡ true
  no_digit : ends_with_digit v ≡ false
  no_blank_end : begins 32 v ≡ false

abbrev AfterRun : Kind → List ℕ → Type 0
AfterRun plain v = Unit {0}
AfterRun strong v = Marked v
AfterRun em v = Marked v
AfterRun both v = Marked v
AfterRun code v = Marked v

marked : (k : Kind) (v : List ℕ) → not (touch k plain) ≡ true → AfterRun k v → Marked v
marked plain v h a = false_true h
marked strong v h a = a
marked em v h a = a
marked both v h a = a
marked code v h a = a

star_mark : (w : List ℕ) → Marked (42 ∷ w)
unfolding inline begins ends_with_digit
star_mark w = record { is_inline = refl; no_digit = refl; no_blank_end = refl }

tick_mark : (w : List ℕ) → Marked (96 ∷ w)
unfolding inline begins ends_with_digit
tick_mark w = record { is_inline = refl; no_digit = refl; no_blank_end = refl }

after_run : (k : Kind) (t v : List ℕ) → AfterRun k (reverse_aux (written_run (run k t)) v)
after_run plain t v = tt
after_run strong t v = subst Marked (wrapped (str "**") t v) (star_mark _)
after_run em t v = subst Marked (wrapped (str "*") t v) (star_mark _)
after_run both t v = subst Marked (wrapped (str "***") t v) (star_mark _)
after_run code t v = subst Marked (wrapped (str "`") t v) (tick_mark _)

-- from s to r, writing w after v
abbrev Writes : List ℕ → List ℕ → State → List ℕ → List ℕ → List ℕ → Type 0
Writes l s c r w v = Low (reverse_aux w v) → loop 0 s c ≡ loop 0 r (hold l (reverse_aux w v))

-- a run in tags
module _ (l o : List ℕ) (b : Bool) (v : List ℕ) (h : Ready l (st l o b) v) (s t m : List ℕ) where
  wrapped_out : (ot ct sg : List ℕ) (q : Known s t (ct ++ m)) →
      (Low (ran sg t v) → loop 0 (ot ++ (q.from.raw ++ (ct ++ m))) (st l o b) ≡ loop 0 m (hold l (ran sg t v))) →
      Writes l (ot ++ s) (st l o b) m (sg ++ (escaped t ++ sg)) v
  wrapped_out ot ct sg q f =
      subst (λ (s : List ℕ). Writes l (ot ++ s) (st l o b) m (sg ++ (escaped t ++ sg)) v) (sym q.from.is_raw)
      (subst (λ (x : List ℕ). Low x → loop 0 (ot ++ (q.from.raw ++ (ct ++ m))) (st l o b) ≡ loop 0 m (hold l x)) (wrapped sg t v) f)

  tags_out : (k : Kind) → InTags k → Known s t (after k ++ m) → last_is no_blank t ≡ true → Writes l (before k ++ s) (st l o b) m (written_run (run k t)) v
  tags_out plain n q f = absurd n
  tags_out strong n q f = wrapped_out (str "<strong>") (str "</strong>") (str "**") q (run_strong l o b v q.from.raw t m h q.from.source q.is_singly f)
  tags_out em n q f = wrapped_out (str "<em>") (str "</em>") (str "*") q (run_em l o b v q.from.raw t m h q.from.source q.is_singly f)
  tags_out both n q f = wrapped_out (str "<strong><em>") (str "</em></strong>") (str "***") q (run_both l o b v q.from.raw t m h q.from.source q.is_singly f)
  tags_out code n q f = wrapped_out (str "<code>") (str "</code>") (str "`") q (run_code l o b v q.from.raw t m h q.from.source q.is_singly f)

-- a plain run, by what its text does
plain_out : (l s : List ℕ) (c : State) (t v m : List ℕ) (q : Known s t m) →
    (Low (reverse_aux (escaped t) v) → loop 0 (q.from.raw ++ m) c ≡ loop 0 m (hold l (reverse_aux (escaped t) v))) → Writes l s c m (written_run (run plain t)) v
plain_out l s c t v m q f =
    subst (λ (s : List ℕ). Writes l s c m (escaped t ++ []) v) (sym q.from.is_raw)
    (subst (λ (w : List ℕ). Low (reverse_aux w v) → loop 0 (q.from.raw ++ m) c ≡ loop 0 m (hold l (reverse_aux w v))) (sym (append-nil (escaped t))) f)

-- a run and the runs after it
module _ (l : List ℕ) where
  joins : (s m r : List ℕ) (c : State) (x : Run) (rs : List Run) (v : List ℕ) → Writes l s c m (written_run x) v
      → Writes l m (hold l (reverse_aux (written_run x) v)) r (written_runs rs) (reverse_aux (written_run x) v) → Writes l s c r (written_runs (x ∷ rs)) v
  unfolding written_runs
  joins s m r c x rs v f g =
      subst (λ (y : List ℕ). Low y → loop 0 s c ≡ loop 0 r (hold l y)) (sym (reverse_aux-append (written_run x) (written_runs rs) v))
      (λ h. f (low_front (written_runs rs) (reverse_aux (written_run x) v) h) ∙ g h)

  -- a run after another one
  run_out : (s t m : List ℕ) (k : Kind) → Text s t (after k ++ m) → fits k t ≡ true → (k₀ : Kind) (v : List ℕ) → not (touch k₀ k) ≡ true → AfterRun k₀ v → (k ≡ plain → Tail m)
      → Writes l (before k ++ s) (hold l v) m (written_run (run k t)) v
  run_out s t m plain T f k₀ v n a z =
      let q = known plain T f in
      let g = marked k₀ v n a in
      plain_out l s (hold l v) t v m q (λ h. run_plain l q.from.raw t v (z refl) q.from.source h g.is_inline (rw g.no_blank_end q.is_singly) g.no_digit)
  run_out s t m strong T f k₀ v n a z = tags_out l _ _ v (hold_spaced l v) s t m strong tt (known strong T f) (ends_of strong t tt f)
  run_out s t m em T f k₀ v n a z = tags_out l _ _ v (hold_spaced l v) s t m em tt (known em T f) (ends_of em t tt f)
  run_out s t m both T f k₀ v n a z = tags_out l _ _ v (hold_spaced l v) s t m both tt (known both T f) (ends_of both t tt f)
  run_out s t m code T f k₀ v n a z = tags_out l _ _ v (hold_spaced l v) s t m code tt (known code T f) (ends_of code t tt f)

  runs_out : {s r : List ℕ} {rs : List Run} → Many IsRun s rs r → Tail r → (k : Kind) (t₀ v : List ℕ) → apart (run k t₀ ∷ rs) ≡ true → AfterRun k v → Writes l s (hold l v) r (written_runs rs) v
  unfolding apart written_runs
  runs_out stop z k t₀ v a g = λ h. refl
  runs_out {r = r} (more {m = m} {xs = rs} (is_run {s = s} {t = t} j T f) ms) z k t₀ v a g =
      let i = and_true (not (touch k j)) (apart (run j t ∷ rs)) a in
      let w = reverse_aux (written_run (run j t)) v in
      joins (before j ++ s) m r (hold l v) (run j t) rs v
      (run_out s t m j T f k v i.0 g (λ e. at_tag t ms (subst (λ (j : Kind). apart (run j t ∷ rs) ≡ true) e i.1) z))
      (runs_out ms z j t w i.1 (after_run j t v))

-- a line, from a state in which nothing is pending

module _ (x : ℕ) (h : Letter x) where
  -- at the start of a line a letter is written as it is
  next_letter : (l o : List ℕ) → next true x (st l o false) ≡ (false, st l (x ∷ o) false)
  unfolding next blank spaced put escape opens
  next_letter l o = simp (letter_space x h, letter_special x h, letter_leading x h, letter_is_not x h 46 (inl (omega arith)), and-false)

  escaped_letter : (t o : List ℕ) → reverse_aux (escaped t) (x ∷ o) ≡ reverse_aux (escaped (x ∷ t)) o
  unfolding escaped
  escaped_letter t o = simp (letter_special x h)

  letter_held : (l o : List ℕ) → st l (x ∷ o) false ≡ hold l (x ∷ o)
  unfolding begins
  letter_held l o = sym (held l (x ∷ o) (letter_is_not x h 32 (inl (omega arith))))

  letter_inline : (o : List ℕ) → inline (x ∷ o) ≡ true
  unfolding inline begins
  letter_inline o = ap not (letter_is_not x h 10 (inl (omega arith)))

  after_letter : (t o : List ℕ) → singly false (x ∷ t) ≡ true → singly (begins 32 (x ∷ o)) t ≡ true
  unfolding singly begins
  after_letter t o w = (and_true (cond (eqb x 32) true (not (is_space x))) (singly (eqb x 32) t) w).1

  put_letter : (l t o : List ℕ) → singly false (x ∷ t) ≡ true → put_all true (x ∷ t) (st l o false) ≡ hold l (reverse_aux (escaped (x ∷ t)) o)
  unfolding put_all
  put_letter l t o w =
      ap (λ (n : Bool × State). put_all n.0 t n.1) (next_letter l o)
      ∙ ap (put_all false t) (letter_held l o)
      ∙ put_text l t false (x ∷ o) (letter_inline o) (after_letter t o w) refl
      ∙ ap (hold l) (escaped_letter t o)

module _ (l : List ℕ) where
  ready : (o : List ℕ) → Ready l (st l o false) o
  unfolding spaced
  ready o = refl

  put_first : (t o : List ℕ) → singly false t ≡ true → first_is is_letter t ≡ true → put_all true t (st l o false) ≡ hold l (reverse_aux (escaped t) o)
  unfolding first_is
  put_first [] o w f = false_true f
  put_first (x ∷ t) o w f = put_letter x (a_letter x f) l t o w

  first_out : (s t m : List ℕ) (k : Kind) → Text s t (after k ++ m) → fits k t ≡ true → first_is is_letter t ≡ true → (o : List ℕ) → (k ≡ plain → Tail m)
      → Writes l (before k ++ s) (st l o false) m (written_run (run k t)) o
  first_out s t m plain T f g o z =
      let q = known plain T f in
      plain_out l s (st l o false) t o m q (λ h. text_out l q.from.raw t o (reverse_aux (escaped t) o) false (z refl) q.from.source (low_front (escaped t) o h) h (put_first t o q.is_singly g))
  first_out s t m strong T f g o z = tags_out l o false o (ready o) s t m strong tt (known strong T f) (ends_of strong t tt f)
  first_out s t m em T f g o z = tags_out l o false o (ready o) s t m em tt (known em T f) (ends_of em t tt f)
  first_out s t m both T f g o z = tags_out l o false o (ready o) s t m both tt (known both T f) (ends_of both t tt f)
  first_out s t m code T f g o z = tags_out l o false o (ready o) s t m code tt (known code T f) (ends_of code t tt f)

  pub line_out : {s r : List ℕ} {rs : List Run} → Many IsRun s rs r → apart rs ≡ true → first_letter rs ≡ true → Tail r → (o : List ℕ) → Writes l s (st l o false) r (written_runs rs) o
  unfolding first_letter
  line_out stop a f z o = false_true f
  line_out {r = r} (more {m = m} {xs = rs} (is_run {s = s} {t = t} k T g) ms) a f z o =
      joins l (before k ++ s) m r (st l o false) (run k t) rs o
      (first_out s t m k T g f o (λ e. at_tag t ms (subst (λ (k : Kind). apart (run k t ∷ rs) ≡ true) e a) z))
      (runs_out l ms z k t (reverse_aux (written_run (run k t)) o) a (after_run k t o))

-- Converting a run, its tags and its text, writes its written form.
-- Assumes nothing.
use Rattle.std.proofs.Common.{◌≡◌, refl, sym, ◌∙◌, ap, subst, ℕ, Bool, true, false, not, List, [], ◌∷◌, ◌++◌}
use Rattle.std.proofs.Common.{arith}
use Rattle.std.proofs.lemmas.Bool.Decides.{nat_tests}
use mathlib.Core.List.{reverse_aux, reverse_aux-append}
use Prim.Native.String.{String}
use lib.Seq.{append_snoc}
use Rattle.text.specs.Words.{str, is}
use Rattle.text.specs.Chars.{is_space}
use Rattle.reference.specs.Unescape.{unescape, unescaped}
use Rattle.html.specs.State.{State, push_str, line_start, spaced, marks, ends_with_digit, blank, paused, next, put_all, text}
use Rattle.html.specs.Page.{words, loop}
use Rattle.sheet.specs.Grammar.{none_of, last_is, no_blank}
use Rattle.sheet.specs.Written.{escaped}
use Rattle.sheet.proofs.Turns.{Low, low_tail, low_front, loop_text}
use Rattle.sheet.proofs.Tags.{st, loop_strong, loop_strong/, loop_em, loop_em/, loop_code, loop_code/}
use Rattle.sheet.proofs.TextOut.{begins, inline, singly, hold, low_hold, held, hold_spaced, put_text, no_blank_end, put_nl}

-- u is the source of the text t
pub record Raw (u t : List ℕ) : Type 0 where
  pub no_tag : none_of (is "<") u ≡ true
  pub means : unescape 0 u ≡ t
  pub means_nl : unescape 0 (u ++ (10 ∷ [])) ≡ t ++ (10 ∷ [])

-- what follows a line: a tag, or NL and a tag
pub data Tail : List ℕ → Type 0 where
  tag : (s : List ℕ) → Tail (60 ∷ s)
  nl_tag : (s : List ℕ) → Tail (10 ∷ 60 ∷ s)

no_tag_nl : (u : List ℕ) → none_of (is "<") u ≡ true → none_of (is "<") (u ++ (10 ∷ [])) ≡ true
no_tag_nl [] e = refl
no_tag_nl (a ∷ u) e = let i = no_tag_nl u in grind (arith, nat_tests)

-- byte 10 changes only what is pending
nl_put : (l o : List ℕ) (b : Bool) → put_all true (10 ∷ []) (st l o b) ≡ words (10 ∷ []) (st l o b)
unfolding words text unescape unescaped
nl_put l o b = refl

pub nl_words : (l o : List ℕ) (b : Bool) → words (10 ∷ []) (st l o b) ≡ st l o (not (line_start o))
unfolding words text unescape unescaped put_all next blank paused is_space
nl_words l o b = refl

pub nl_raw : none_of (is "<") (10 ∷ []) ≡ true
nl_raw = refl

-- text before a tag, that takes the state c to d
to_tag : (u s : List ℕ) (c d : State) → none_of (is "<") u ≡ true → Low c.out → Low d.out → words u c ≡ d → loop 0 (u ++ (60 ∷ s)) c ≡ loop 0 (60 ∷ s) d
to_tag u s c d n lc ld e = loop_text u s c n lc (subst (λ (d : State). Low d.out) (sym e) ld) ∙ ap (loop 0 (60 ∷ s)) e

pub nl_loop : (l o s : List ℕ) (b : Bool) → Low o → loop 0 (10 ∷ 60 ∷ s) (st l o b) ≡ loop 0 (60 ∷ s) (st l o (not (line_start o)))
nl_loop l o s b h = to_tag (10 ∷ []) s (st l o b) (st l o (not (line_start o))) nl_raw h h (nl_words l o b)

said : (l u t o v : List ℕ) (b : Bool) → unescape 0 u ≡ t → put_all true t (st l o b) ≡ hold l v → words u (st l o b) ≡ hold l v
unfolding words text
said l u t o v b m e = ap (λ (t : List ℕ). put_all true t (st l o b)) m ∙ e

said_nl : (l u t o v : List ℕ) (b : Bool) → unescape 0 (u ++ (10 ∷ [])) ≡ t ++ (10 ∷ []) → put_all true t (st l o b) ≡ hold l v → words (u ++ (10 ∷ [])) (st l o b) ≡ words (10 ∷ []) (hold l v)
unfolding words text
said_nl l u t o v b m e =
    ap (λ (t : List ℕ). put_all true t (st l o b)) m ∙ put_nl true t (st l o b) refl ∙ ap (put_all true (10 ∷ [])) e ∙ nl_put l _ _

-- the text of a run, from a state whose text gives the output v
pub text_out : (l u t o v : List ℕ) (b : Bool) {r : List ℕ} → Tail r → Raw u t → Low o → Low v → put_all true t (st l o b) ≡ hold l v → loop 0 (u ++ r) (st l o b) ≡ loop 0 r (hold l v)
text_out l u t o v b (tag s) r lo lv e = to_tag u s (st l o b) (hold l v) r.no_tag lo (low_hold l v lv) (said l u t o v b r.means e)
text_out l u t o v b (nl_tag s) r lo lv e =
    let d = hold l v in
    let d' = st l d.out (not (line_start d.out)) in
    ap (λ (x : List ℕ). loop 0 x (st l o b)) (sym (append_snoc u 10 (60 ∷ s)))
    ∙ to_tag (u ++ (10 ∷ [])) s (st l o b) d' (no_tag_nl u r.no_tag) lo (low_hold l v lv) (said_nl l u t o v b r.means_nl e ∙ nl_words l d.out d.space)
    ∙ sym (nl_loop l d.out s d.space (low_hold l v lv))

-- a plain run
pub run_plain : (l u t v : List ℕ) {r : List ℕ} → Tail r → Raw u t → Low (reverse_aux (escaped t) v) → inline v ≡ true → singly (begins 32 v) t ≡ true →
    ends_with_digit v ≡ false → loop 0 (u ++ r) (hold l v) ≡ loop 0 r (hold l (reverse_aux (escaped t) v))
run_plain l u t v z r h i w d = text_out l u t _ _ _ z r (low_hold l v (low_front (escaped t) v h)) h (put_text l t true v i w d)

-- marks

-- a state in which a tag that writes can open: what is pending is written
abbrev pub Ready : List ℕ → State → List ℕ → Type 0
Ready l c v = spaced c ≡ st l v false

low_ready : (l o : List ℕ) (b : Bool) (v : List ℕ) → Ready l (st l o b) v → Low v → Low o
unfolding spaced
low_ready l o true v e h = low_tail 32 o (subst (λ (c : State). Low c.out) (sym e) h)
low_ready l o false v e h = subst (λ (c : State). Low c.out) (sym e) h

open_marks : (l v : List ℕ) (m : String) (c : State) → Ready l c v → begins 32 (reverse_aux (str m) v) ≡ false → marks (str m) false c ≡ hold l (reverse_aux (str m) v)
unfolding marks
open_marks l v m c h e = ap (push_str (str m)) h ∙ sym (held l (reverse_aux (str m) v) e)

close_marks : (l v : List ℕ) (m : String) → begins 32 v ≡ false → begins 32 (reverse_aux (str m) v) ≡ false → marks (str m) true (hold l v) ≡ hold l (reverse_aux (str m) v)
unfolding marks
close_marks l v m d e = ap (push_str (str m)) (held l v d) ∙ sym (held l (reverse_aux (str m) v) e)

-- the output v with the run t in m after it
abbrev pub ran : List ℕ → List ℕ → List ℕ → List ℕ
ran m t v = reverse_aux m (reverse_aux (escaped t) (reverse_aux m v))

pub wrapped : (m t v : List ℕ) → ran m t v ≡ reverse_aux (m ++ (escaped t ++ m)) v
wrapped m t v = sym (reverse_aux-append m (escaped t ++ m) v ∙ reverse_aux-append (escaped t) m (reverse_aux m v))

-- a run in tags that write m, from a state c
module _ (l m ot ct : List ℕ) (c : State) (v : List ℕ)
    (opened : (s : List ℕ) → Low (reverse_aux m v) → loop 0 (ot ++ s) c ≡ loop 0 s (hold l (reverse_aux m v)))
    (closed : (v s : List ℕ) → begins 32 v ≡ false → Low (reverse_aux m v) → loop 0 (60 ∷ (ct ++ s)) (hold l v) ≡ loop 0 s (hold l (reverse_aux m v)))
    (is_inline : inline (reverse_aux m v) ≡ true) (no_digit : ends_with_digit (reverse_aux m v) ≡ false) (no_space : begins 32 (reverse_aux m v) ≡ false) where
  run_in : (u t s : List ℕ) → Raw u t → singly false t ≡ true → last_is no_blank t ≡ true → Low (ran m t v) → loop 0 (ot ++ (u ++ (60 ∷ (ct ++ s)))) c ≡ loop 0 s (hold l (ran m t v))
  run_in u t s r w f h =
      let h' = low_front m (reverse_aux (escaped t) (reverse_aux m v)) h in
      opened (u ++ (60 ∷ (ct ++ s))) (low_front (escaped t) (reverse_aux m v) h')
      ∙ run_plain l u t (reverse_aux m v) (tag (ct ++ s)) r h' is_inline (rw no_space w) no_digit
      ∙ closed (reverse_aux (escaped t) (reverse_aux m v)) s (no_blank_end t (reverse_aux m v) f) h

module _ (l o : List ℕ) (b : Bool) (v u t s : List ℕ) (h : Ready l (st l o b) v) (r : Raw u t) (w : singly false t ≡ true) (f : last_is no_blank t ≡ true) where
  pub run_strong : Low (ran (str "**") t v) → loop 0 (str "<strong>" ++ (u ++ (str "</strong>" ++ s))) (st l o b) ≡ loop 0 s (hold l (ran (str "**") t v))
  unfolding begins inline ends_with_digit
  run_strong =
      run_in l (str "**") (str "<strong>") (str "/strong>") (st l o b) v
      (λ s k. loop_strong l o b s (low_ready l o b v h (low_front (str "**") v k)) ∙ ap (loop 0 s) (open_marks l v "**" (st l o b) h refl))
      (λ v s d k. loop_strong/ l _ _ s (low_hold l v (low_front (str "**") v k)) ∙ ap (loop 0 s) (close_marks l v "**" d refl))
      refl refl refl u t s r w f

  pub run_em : Low (ran (str "*") t v) → loop 0 (str "<em>" ++ (u ++ (str "</em>" ++ s))) (st l o b) ≡ loop 0 s (hold l (ran (str "*") t v))
  unfolding begins inline ends_with_digit
  run_em =
      run_in l (str "*") (str "<em>") (str "/em>") (st l o b) v
      (λ s k. loop_em l o b s (low_ready l o b v h (low_front (str "*") v k)) ∙ ap (loop 0 s) (open_marks l v "*" (st l o b) h refl))
      (λ v s d k. loop_em/ l _ _ s (low_hold l v (low_front (str "*") v k)) ∙ ap (loop 0 s) (close_marks l v "*" d refl))
      refl refl refl u t s r w f

  pub run_code : Low (ran (str "`") t v) → loop 0 (str "<code>" ++ (u ++ (str "</code>" ++ s))) (st l o b) ≡ loop 0 s (hold l (ran (str "`") t v))
  unfolding begins inline ends_with_digit
  run_code =
      run_in l (str "`") (str "<code>") (str "/code>") (st l o b) v
      (λ s k. loop_code l o b s (low_ready l o b v h (low_front (str "`") v k)) ∙ ap (loop 0 s) (open_marks l v "`" (st l o b) h refl))
      (λ v s d k. loop_code/ l _ _ s (low_hold l v (low_front (str "`") v k)) ∙ ap (loop 0 s) (close_marks l v "`" d refl))
      refl refl refl u t s r w f

  pub run_both : Low (ran (str "***") t v) → loop 0 (str "<strong><em>" ++ (u ++ (str "</em></strong>" ++ s))) (st l o b) ≡ loop 0 s (hold l (ran (str "***") t v))
  unfolding begins inline ends_with_digit
  run_both =
      run_in l (str "***") (str "<strong><em>") (str "/em></strong>") (st l o b) v
      (λ s k.
      loop_strong l o b (str "<em>" ++ s) (low_ready l o b v h (low_front (str "***") v k))
      ∙ ap (loop 0 (str "<em>" ++ s)) (open_marks l v "**" (st l o b) h refl)
      ∙ loop_em l _ _ s (low_hold l (42 ∷ 42 ∷ v) (low_tail 42 (42 ∷ 42 ∷ v) k))
      ∙ ap (loop 0 s) (open_marks l (42 ∷ 42 ∷ v) "*" (hold l (42 ∷ 42 ∷ v)) (hold_spaced l (42 ∷ 42 ∷ v)) refl))
      (λ v s d k.
      loop_em/ l _ _ (str "</strong>" ++ s) (low_hold l v (low_front (str "***") v k))
      ∙ ap (loop 0 (str "</strong>" ++ s)) (close_marks l v "*" d refl)
      ∙ loop_strong/ l _ _ s (low_hold l (42 ∷ v) (low_front (str "**") (42 ∷ v) k))
      ∙ ap (loop 0 s) (close_marks l (42 ∷ v) "**" refl refl))
      refl refl refl u t s r w f

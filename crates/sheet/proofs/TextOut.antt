-- Converting a run's text writes it escaped; its last space is held back.
-- Assumes nothing.
use Rattle.std.proofs.Common.{◌≡◌, refl, sym, ◌∙◌, ap, subst, ℕ, Bool, true, false, not, ◌&&◌, cond, List, [], ◌∷◌, ◌++◌, eqb-true, eqb}
use Rattle.std.proofs.Common.{arith}
use Rattle.std.proofs.lemmas.Bool.Decides.{nat_tests}
use mathlib.Core.Bool.{and-false, or-false, and-true as and_true_right}
use mathlib.Core.List.{reverse_aux, tail, reverse_aux-append}
use borrow.Author.Tests.{not-true}
use Rattle.text.specs.Words.{is_empty}
use Rattle.text.specs.Chars.{is_space}
use Rattle.text.proofs.Tests.{and_true, false_true}
use Rattle.html.specs.State.{State, line_start, spaced, special, opens, ends_with_digit, escape, put, blank, paused, next, put_all}
use Rattle.sheet.specs.Grammar.{last_is, no_blank}
use Rattle.sheet.specs.Written.{escaped}
use Rattle.sheet.proofs.Facts.{no_space}
use Rattle.sheet.proofs.Turns.{Low, low_tail}
use Rattle.sheet.proofs.Tags.{st}

-- b stands first
unfoldable pub begins : ℕ → List ℕ → Bool
begins b [] = false
begins b (a ∷ s) = eqb a b

-- v does not end a line
unfoldable pub inline : List ℕ → Bool
inline v = not (is_empty v) && not (begins 10 v)

pub line_start_is : (v : List ℕ) → line_start v ≡ not (inline v)
unfolding line_start inline begins
line_start_is [] = refl
line_start_is (a ∷ v) = grind (arith, nat_tests)

-- single spaces and characters that are none; p: a space stands before
unfoldable pub singly : Bool → List ℕ → Bool
singly p [] = true
singly p (x ∷ t) = cond (eqb x 32) (not p) (not (is_space x)) && singly (eqb x 32) t

-- a character with its escape
abbrev pub shielded : ℕ → List ℕ
shielded x = cond (special x) (92 ∷ x ∷ []) (x ∷ [])

pub not_blank : (x : ℕ) → is_space x ≡ false → eqb x 32 ≡ false
unfolding is_space
not_blank x s = no_space x 32 refl s

pub not_newline : (x : ℕ) → is_space x ≡ false → eqb x 10 ≡ false
unfolding is_space
not_newline x s = no_space x 10 refl s

module _ (l : List ℕ) where
  -- the state that stands for the output v, whose last space is held back
  abbrev pub hold : List ℕ → State
  hold v = st l (cond (begins 32 v) (tail v) v) (begins 32 v)

  pub low_hold : (v : List ℕ) → Low v → Low (hold v).out
  low_hold [] h = grind (arith, nat_tests)
  low_hold (a ∷ v) h = let t = low_tail a v in grind (arith, nat_tests)

  pub hold_spaced : (v : List ℕ) → spaced (hold v) ≡ st l v false
  unfolding spaced begins
  hold_spaced [] = refl
  hold_spaced (a ∷ v) = grind (arith, nat_tests)

  -- what does not end in a space is there as it is
  pub held : (v : List ℕ) → begins 32 v ≡ false → hold v ≡ st l v false
  held v e = rw e

  hold_blank : (v : List ℕ) → hold (32 ∷ v) ≡ st l v true
  unfolding begins
  hold_blank v = refl

  -- a space is held back
  next_blank : (f : Bool) (v : List ℕ) → inline v ≡ true → begins 32 v ≡ false → next f 32 (hold v) ≡ (f, hold (32 ∷ v))
  unfolding next blank paused is_space
  next_blank f v i e = ap (next f 32) (held v e) ∙ rw (line_start_is v, i) (ap (λ (c : State). (f, c)) (sym (hold_blank v)))

  put_inline : (f : Bool) (x : ℕ) (v : List ℕ) → inline v ≡ true → (f && ends_with_digit v) ≡ false → put f x (st l v false) ≡ st l (reverse_aux (shielded x) v) false
  unfolding put escape opens
  put_inline f x v i d = simp (line_start_is v, i, d, or-false, and_true_right)

  pushed : (x : ℕ) (v : List ℕ) → eqb x 32 ≡ false → begins 32 (reverse_aux (shielded x) v) ≡ false
  unfolding begins
  pushed x v e = grind (arith, nat_tests)

  next_shown : (f : Bool) (x : ℕ) (v : List ℕ) → inline v ≡ true → is_space x ≡ false → (f && ends_with_digit v) ≡ false → next f x (hold v) ≡ (false, hold (reverse_aux (shielded x) v))
  unfolding next blank
  next_shown f x v i s d =
      rw s (ap (λ (c : State). (false, c)) (ap (put f x) (hold_spaced v) ∙ put_inline f x v i d ∙ sym (held _ (pushed x v (not_blank x s)))))

  inline_pushed : (x : ℕ) (v : List ℕ) → eqb x 10 ≡ false → inline (reverse_aux (shielded x) v) ≡ true
  unfolding inline begins
  inline_pushed x v e = grind (arith, nat_tests)

  no_first : (f : Bool) (v : List ℕ) → (f && ends_with_digit (32 ∷ v)) ≡ false
  unfolding ends_with_digit
  no_first f v = and-false f

  inline_blank : (v : List ℕ) → inline (32 ∷ v) ≡ true
  unfolding inline begins
  inline_blank v = refl

  after_blank : (v t : List ℕ) → singly true t ≡ true → singly (begins 32 (32 ∷ v)) t ≡ true
  unfolding begins
  after_blank v t h = h

  escaped_blank : (t v : List ℕ) → reverse_aux (escaped t) (32 ∷ v) ≡ reverse_aux (escaped (32 ∷ t)) v
  unfolding escaped special
  escaped_blank t v = refl

  escaped_shown : (x : ℕ) (t v : List ℕ) → reverse_aux (escaped t) (reverse_aux (shielded x) v) ≡ reverse_aux (escaped (x ∷ t)) v
  unfolding escaped
  escaped_shown x t v = sym (reverse_aux-append (shielded x) (escaped t) v)

  -- what is to be shown of the rest of a text
  abbrev pub Puts : List ℕ → Bool → List ℕ → Type 0
  Puts t f v = inline v ≡ true → singly (begins 32 v) t ≡ true → (f && ends_with_digit v) ≡ false → put_all f t (hold v) ≡ hold (reverse_aux (escaped t) v)

  put_blank : (f : Bool) (t v : List ℕ) → Puts t f (32 ∷ v) → inline v ≡ true → begins 32 v ≡ false → singly true t ≡ true → put_all f (32 ∷ t) (hold v) ≡ hold (reverse_aux (escaped (32 ∷ t)) v)
  unfolding put_all
  put_blank f t v ih i e w =
      ap (λ (n : Bool × State). put_all n.0 t n.1) (next_blank f v i e)
      ∙ ih (inline_blank v) (after_blank v t w) (no_first f v)
      ∙ ap hold (escaped_blank t v)

  put_shown : (f : Bool) (x : ℕ) (t v : List ℕ) → Puts t false (reverse_aux (shielded x) v) → inline v ≡ true → is_space x ≡ false → (f && ends_with_digit v) ≡ false → singly false t ≡ true
      → put_all f (x ∷ t) (hold v) ≡ hold (reverse_aux (escaped (x ∷ t)) v)
  unfolding put_all
  put_shown f x t v ih i s d w =
      ap (λ (n : Bool × State). put_all n.0 t n.1) (next_shown f x v i s d)
      ∙ ih (inline_pushed x v (not_newline x s)) (rw (pushed x v (not_blank x s)) w) refl
      ∙ ap hold (escaped_shown x t v)

  -- a text
  pub put_text : (t : List ℕ) (f : Bool) (v : List ℕ) → Puts t f v
  unfolding put_all singly escaped
  put_text [] f v i w d = refl
  put_text (x ∷ t) f v i w d = go (eqb x 32) refl (λ f v. put_text t f v) (and_true (cond (eqb x 32) (not (begins 32 v)) (not (is_space x))) (singly (eqb x 32) t) w)
    where
      go : (b : Bool) → eqb x 32 ≡ b → ((f : Bool) (v : List ℕ) → Puts t f v) → (cond (eqb x 32) (not (begins 32 v)) (not (is_space x)) ≡ true) ×
          (singly (eqb x 32) t ≡ true) → put_all f (x ∷ t) (hold v) ≡ hold (reverse_aux (escaped (x ∷ t)) v)
      go true e ih h =
          let n : not (begins 32 v) ≡ true = ap (λ (b : Bool). cond b (not (begins 32 v)) (not (is_space x))) (sym e) ∙ h.0 in
          let w' : singly true t ≡ true = ap (λ (b : Bool). singly b t) (sym e) ∙ h.1 in
          subst (λ (x : ℕ). put_all f (x ∷ t) (hold v) ≡ hold (reverse_aux (escaped (x ∷ t)) v)) (sym (eqb-true x 32 e)) (put_blank f t v (ih f (32 ∷ v)) i (not-true (begins 32 v) n) w')
      go false e ih h =
          let n : not (is_space x) ≡ true = ap (λ (b : Bool). cond b (not (begins 32 v)) (not (is_space x))) (sym e) ∙ h.0 in
          let w' : singly false t ≡ true = ap (λ (b : Bool). singly b t) (sym e) ∙ h.1 in
          put_shown f x t v (ih false (reverse_aux (shielded x) v)) i (not-true (is_space x) n) d w'

-- a text that does not end in a space
pub no_blank_end : (t v : List ℕ) → last_is no_blank t ≡ true → begins 32 (reverse_aux (escaped t) v) ≡ false
unfolding last_is escaped begins
no_blank_end [] v e = false_true e
no_blank_end (x ∷ []) v e = grind (arith, nat_tests)
no_blank_end (x ∷ y ∷ t) v e =
    ap (begins 32) (reverse_aux-append (shielded x) (escaped (y ∷ t)) v)
    ∙ no_blank_end (y ∷ t) (reverse_aux (shielded x) v) e

-- byte 10 after a text: what is pending may change, and nothing else

same_pre : (f : Bool) (x : ℕ) (c : State) → c.pre ≡ false → (next f x c).1.pre ≡ false
unfolding next paused put spaced
same_pre f x c e = grind (arith, nat_tests)

nl_first : (f : Bool) (c : State) → c.pre ≡ false → put_all f (10 ∷ []) c ≡ put_all true (10 ∷ []) c
unfolding put_all next blank is_space
nl_first f c e = rw e

pub put_nl : (f : Bool) (t : List ℕ) (c : State) → c.pre ≡ false → put_all f (t ++ (10 ∷ [])) c ≡ put_all true (10 ∷ []) (put_all f t c)
unfolding put_all
put_nl f [] c e = nl_first f c e
put_nl f (x ∷ t) c e = put_nl (next f x c).0 t (next f x c).1 (same_pre f x c e)

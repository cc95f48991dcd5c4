-- Text, character by character: which are escaped, what one more does to the state, and the turn of the loop over a text.
-- Assumes nothing.
use Prim.Native.Nat.{ℕ, ◌+◌, ◌-◌, ◌*◌, ◌≤◌, ◌<◌}
use native.Mathlib.Omega.{arith}
use native.Mathlib.Numerals.{add-one}
use mathlib.Core.Path.{◌≡◌, refl, sym, ap, ◌∙◌, subst}
use mathlib.Core.Bool.{Bool, true, false, not, ◌&&◌, ◌||◌, or-false, and_comm}
use mathlib.Core.Logic.{inl, ⊎_elim}
use mathlib.Core.Option.{Option, none, some}
use mathlib.Core.List.{List, [], ◌∷◌, ◌++◌, reverse_aux}
use lib.Dec.{eqb, ltb}
use lib.ListN.{length, get_or, take, drop, length-drop}
use lib.Seq.{take-suc, take_all, drop-drop}
use borrow.Author.Tests.{eq-eqb, ne_eqb, eqb-true, ltb-true, lt-ltb, eqb-false, not-true, not-false}
use Rattle.std.specs.Prelude.{Some, None, if◌then◌else◌}
use Rattle.text.specs.Words.{str, drop_while}
use Rattle.text.specs.Chars.{within, is_space}
use Rattle.text.specs.Trim.{trim_start, start_of}
use Rattle.text.specs.Utf8.{Scalars, utf8, size, chars, code_at}
use Rattle.text.proofs.Tests.{decide, on, false_true, or_elim, or_neither, and_true, and_false}
use Rattle.text.proofs.Utf8.{utf8_1}
use Rattle.text.proofs.Laws.{turn_is, utf8_size, advance_end, advance_ascii, scalars_drop}
use Rattle.text.proofs.TrimLaws.{space_ascii, start_space, start_other, start_le, drop_start, chars_start}
use Rattle.text.proofs.Lists.{same_last}
use Rattle.reference.specs.Unescape.{reference, unescape}
use Rattle.reference.specs.Answers.{answer}
use Rattle.reference.specs.declared.Replacement.{Replacement}
use Rattle.reference.proofs.Laws.{left_at, replaced_at, read_is, unescape_nil, unescape_other, unescape_size, at_and}
use Rattle.html.specs.State.{State, with_out, line_start, special, opens, ends_with_digit, escape, put, spaced, blank, paused, next, put_all, text}
use Rattle.html.specs.Struct.{out_of, with_space, pending}
use Rattle.html.specs.Pen.{pen_state, plain, Unescaped, Behind, Inking}
use Rattle.html.specs.declared.words.Pen.{Pen}
use Rattle.html.specs.declared.words.Piece.{Piece}
use Rattle.html.proofs.OutLaws.{size_out}
use Rattle.html.proofs.StepLaws.{spaced_lists, spaced_with}

-- ---- which characters are escaped
pub escape_special : (first : Bool) (x : ℕ) (o : List ℕ) → special x ≡ true → true ≡ escape first x o
unfolding escape
escape_special first x o e = rw e

module _ (first : Bool) (x : ℕ) (o : List ℕ) (e : special x ≡ false) where
  opens_dot : opens x ≡ true → eqb x 46 ≡ false
  unfolding opens
  opens_dot h =
      let n : (c : ℕ) → (c ≡ 46 → ⊥) → eqb x c ≡ true → eqb x 46 ≡ false = λ c k t. ne_eqb x 46 (λ q. k (sym (eqb-true x c t) ∙ q)) in
      or_elim (eqb x 35) _ (n 35 (λ q. absurd (omega arith)))
      (or_elim (eqb x 45) _ (n 45 (λ q. absurd (omega arith)))
      (or_elim (eqb x 43) _ (n 43 (λ q. absurd (omega arith)))
      (or_elim (eqb x 62) _ (n 62 (λ q. absurd (omega arith)))
      (or_elim (eqb x 124) false (n 124 (λ q. absurd (omega arith))) (λ z. let y : ◌≡◌ {A = ℕ} 0 1 = cc in absurd (omega arith)))))) h

  shape : (l f d : Bool) → l ≡ l && true || f && d && false
  shape true f d = refl
  shape false true true = refl
  shape false true false = refl
  shape false false d = refl

  pub escape_opens : opens x ≡ true → line_start o ≡ escape first x o
  unfolding escape opens
  escape_opens h = rw (e, opens_dot h, h) (shape (line_start o) first (ends_with_digit o))

  module _ (h : opens x ≡ false) where
    rest_is : (t : Bool) → eqb x 46 ≡ t → escape first x o ≡ first && ends_with_digit o && t
    unfolding escape opens
    rest_is t q = rw (e, h, q) (no (line_start o))
      where
        no : (l : Bool) → l && false || first && ends_with_digit o && t ≡ first && ends_with_digit o && t
        no true = refl
        no false = refl

    off : (f d : Bool) → false ≡ f && d && false
    off true true = refl
    off true false = refl
    off false d = refl

    pub escape_other : (x ≡ 46 → ⊥) → false ≡ escape first x o
    escape_other n = off first (ends_with_digit o) ∙ sym (rest_is false (ne_eqb x 46 n))

    yes : (d : Bool) → d ≡ true && d && true
    yes true = refl
    yes false = refl

    pub escape_first : x ≡ 46 → first ≡ true → ends_with_digit o ≡ escape first x o
    escape_first q f = yes (ends_with_digit o) ∙ sym (rest_is true (eq-eqb x 46 q) ∙ rw f)

    pub escape_later : x ≡ 46 → first ≡ false → false ≡ escape first x o
    escape_later q f = sym (rest_is true (eq-eqb x 46 q) ∙ rw f)

-- ---- a character written
module _ (first : Bool) (x : ℕ) (s : State) (o : List ℕ) (sp : Bool) where
  pub write_plain : escape first x (with_space sp o) && not s.pre ≡ false → with_out (x ∷ with_space sp o) false s ≡ put first x (spaced (with_out o sp s))
  unfolding put
  write_plain e = sym (ap (put first x) (spaced_with s o sp) ∙ rw e)

  pub write_escaped : escape first x (with_space sp o) && not s.pre ≡ true → with_out (x ∷ 92 ∷ with_space sp o) false s ≡ put first x (spaced (with_out o sp s))
  unfolding put
  write_escaped e = sym (ap (put first x) (spaced_with s o sp) ∙ rw e)

unescaped_pre : (t p : Bool) → p ≡ true → t && not p ≡ false
unescaped_pre true p e = rw e
unescaped_pre false p e = refl

pub tested : (t r p q : Bool) → q ≡ p → r ≡ t → t && not q ≡ not p && r
tested t r p q e f = rw (e, f) (and_comm t (not p))

escaped_out : (t u p : Bool) → p ≡ false → u ≡ t → t && not p ≡ u
escaped_out true u p e f = rw e (sym f)
escaped_out false u p e f = sym f

-- ---- how much that adds
weight : State → ℕ
weight c = size c.out + pending c.space

pub pending_most : (b : Bool) → pending b ≤ 1
pending_most true = omega arith
pending_most false = omega arith

spaced_weight : (c : State) → weight (spaced c) ≤ weight c
unfolding weight spaced size
spaced_weight c = go c.space refl
  where
    go : (t : Bool) → c.space ≡ t → weight (if t then with_out (32 ∷ c.out) false c else c) ≤ size c.out + pending t
    go true e = omega (arith, ap length (utf8_1 32 (omega arith)))
    go false e = rw e (omega arith)

put_weight : (first : Bool) (x : ℕ) (c : State) → weight (put first x c) ≤ weight c + 1 + length (utf8 x)
unfolding weight put size
put_weight first x c = go (escape first x c.out && not c.pre)
  where
    go : (t : Bool) → size (reverse_aux (if t then str "\\" ++ (x ∷ []) else x ∷ []) c.out) + pending c.space ≤ size c.out + pending c.space + 1 + length (utf8 x)
    go true = omega (arith, ap length (utf8_1 92 (omega arith)))
    go false = omega arith

-- ---- the turn of the loop over a text
pen_weight : (s : State) (p : Pen) (w : List ℕ) → weight (pen_state s p w) ≡ p.len + pending p.space
unfolding weight pen_state
pen_weight s p w = rw (size_out p.len w)

pen_pre : (s : State) (p : Pen) (w : List ℕ) → (pen_state s p w).pre ≡ s.pre
unfolding pen_state
pen_pre s p w = refl

module _ (raw : List ℕ) (s t : State) (most : ℕ) (out : List ℕ) (p : Pen) (i : ℕ) (k : Inking raw s t most out p i) (u : Piece) (v : Unescaped raw i u) where
  pub some_size : 1 ≤ length (utf8 u.code)
  some_size = (utf8_size u.code).0

  pub ink_room : p.len + 1 + length (utf8 u.code) ≤ most
  ink_room = omega (arith, k.room, some_size, v.size, v.bound)

  step : (f : Bool) (c : State) → next p.first u.code (pen_state s p out) ≡ (f, c)
      → put_all f (unescape 0 (chars (drop u.next raw))) c ≡ t
  unfolding put_all
  step f c e =
      sym (ap (λ (l : List ℕ). put_all p.first l (pen_state s p out)) v.is ∙ ap (λ (n : Bool × State). put_all n.0 (unescape 0 (chars (drop u.next raw))) n.1) e)
      ∙ k.same

  pub ink_pause : (r : Pen) → blank s.pre u.code ≡ true → pen_state s r out ≡ paused (pen_state s p out) → r.first ≡ p.first → Inking raw s t most out r u.next
  unfolding next blank paused pen_state
  ink_pause r b e f =
      let z : r.len ≡ p.len = sym (size_out r.len out) ∙ ap (λ (c : State). size c.out) e ∙ size_out p.len out in
      record {
        same = rw (e, f) (step p.first (paused (pen_state s p out)) (rw b));
        valid = v.valid;
        bound = v.bound;
        room = omega (arith, k.room, some_size, v.size, v.bound, pending_most r.space);
      }

  pub ink_write : (r : Pen) (out' : List ℕ) → blank s.pre u.code ≡ false → pen_state s r out' ≡ put p.first u.code (spaced (pen_state s p out)) → r.first ≡ false
      → Inking raw s t most out' r u.next
  unfolding next blank
  ink_write r out' b e f =
      let w = ap weight e in
      let a = spaced_weight (pen_state s p out) in
      let c = put_weight p.first u.code (spaced (pen_state s p out)) in
      let d = pen_weight s p out in
      let g = pen_weight s r out' in
      record {
        same = rw (e, f) (step false (put p.first u.code (spaced (pen_state s p out))) (rw (pen_pre s p out, b)));
        valid = v.valid;
        bound = v.bound;
        room = omega (arith, k.room, some_size, v.size, v.bound);
      }

-- ---- spaces after a space
start_nil : [] ≡ trim_start []
unfolding drop_while
start_nil = refl

module _ (f : Bool) (c : State) (still : paused c ≡ c) (out : c.pre ≡ false) where
  next_blank : (x : ℕ) → blank c.pre x ≡ true → next f x c ≡ (f, c)
  unfolding next
  next_blank x e = rw e (ap (λ (d : State). (f, d)) still)

  skip_one : (x : ℕ) (xs : List ℕ) → is_space x ≡ true → put_all f (unescape 0 (x ∷ xs)) c ≡ put_all f (unescape 0 xs) c
  unfolding put_all is_space blank
  skip_one x xs e =
      ap (λ (l : List ℕ). put_all f l c) (unescape_other x xs (ne_eqb x 38 (λ z. false_true (sym (ap is_space z) ∙ e))))
      ∙ ap (λ (n : Bool × State). put_all n.0 (unescape 0 xs) n.1) (next_blank x (rw (out, e)))

  pub skip_blanks : (xs : List ℕ) → put_all f (unescape 0 xs) c ≡ put_all f (unescape 0 (trim_start xs)) c
  skip_blanks [] = ap (λ (l : List ℕ). put_all f (unescape 0 l) c) start_nil
  skip_blanks (x ∷ xs) =
      ⊎_elim
      (λ e. skip_one x xs e ∙ skip_blanks xs ∙ ap (λ (l : List ℕ). put_all f (unescape 0 l) c) (sym (start_space x xs e)))
      (λ e. ap (λ (l : List ℕ). put_all f (unescape 0 l) c) (sym (start_other x xs e)))
      (decide (is_space x))

start_scalars : (xs : List ℕ) → Scalars xs → Scalars (trim_start xs)
start_scalars [] h = subst Scalars start_nil h
start_scalars (x ∷ xs) h =
    ⊎_elim (λ e. rw (start_space x xs e) (start_scalars xs h.1)) (λ e. rw (start_other x xs e) h) (decide (is_space x))

pub blanks_off : (raw : List ℕ) (i k : ℕ) → i ≤ length raw → k ≡ start_of (take (length raw - i) (drop i raw))
    → (chars (drop (i + k) raw) ≡ trim_start (chars (drop i raw))) × ((i ≤ i + k) × (i + k ≤ length raw))
blanks_off raw i k l e =
    let w : take (length raw - i) (drop i raw) ≡ drop i raw = take_all (length raw - i) (drop i raw) (omega (arith, length-drop i raw)) in
    let q : k ≡ start_of (drop i raw) = e ∙ ap start_of w in (
      ap chars (sym (drop-drop k i raw) ∙ ap (λ (n : ℕ). drop n (drop i raw)) q ∙ drop_start (drop i raw)) ∙ chars_start (drop i raw),
      (omega arith, omega (arith, start_le (drop i raw), length-drop i raw)),
    )

pub blank_out : (pre : Bool) (x : ℕ) → blank pre x ≡ true → pre ≡ false
unfolding blank
blank_out true x e = sym e
blank_out false x e = refl

pub ink_blanks : (raw : List ℕ) (s t : State) (most : ℕ) (out : List ℕ) (p r : Pen) (i j : ℕ) → Inking raw s t most out r i → s.pre ≡ false → pen_state s r out ≡ paused (pen_state s p out)
    → chars (drop j raw) ≡ trim_start (chars (drop i raw)) → i ≤ j → j ≤ length raw → Inking raw s t most out r j
unfolding paused pen_state
ink_blanks raw s t most out p r i j k b e d l m =
    record {
      same =
          ap (λ (x : List ℕ). put_all r.first (unescape 0 x) (pen_state s r out)) d
          ∙ sym (skip_blanks r.first (pen_state s r out) (ap paused e ∙ sym e) b (chars (drop i raw)))
          ∙ k.same;
      valid = rw d (start_scalars (chars (drop i raw)) k.valid);
      bound = m;
      room = omega (arith, k.room);
    }

pub ink_done : (raw : List ℕ) (s t : State) (most : ℕ) (out : List ℕ) (p : Pen) (i : ℕ) → Inking raw s t most out p i → length raw ≤ i → pen_state s p out ≡ t
unfolding put_all
ink_done raw s t most out p i k h = sym (rw (advance_end raw i h, unescape_nil)) ∙ k.same

-- ---- the character at an offset
is_left : (o : Option (ℕ × ℕ)) → answer o ≡ None → o ≡ none
is_left none e = refl
is_left (some p) e = cc

is_replaced : (o : Option (ℕ × ℕ)) (r : Replacement) → answer o ≡ Some r → o ≡ some (r.code, r.len)
is_replaced none r e = cc
is_replaced (some p) r e =
    let f : record { code = p.0; len = p.1 } ≡ r = cc in
    rw (← f)

abbrev pub piece : ℕ → ℕ → Piece
piece c n = record { code = c; next = n }

module _ (s : List ℕ) (i : ℕ) (l : i < length s) (h : Scalars (chars (drop i s))) where
  module _ (a : get_or s i 0 ≡ 38) where
    and_tail : Scalars (chars (drop (i + 1) s))
    and_tail = (subst Scalars (at_and s i l a) h).1

    pub piece_left : answer (reference (chars (drop (i + 1) s))) ≡ None → Unescaped s i (piece 38 (i + 1))
    piece_left q =
        let o = is_left (reference (chars (drop (i + 1) s))) q in
        record {
          is = left_at s i l a o;
          scalar = inl (omega arith);
          size = omega (arith, ap length (utf8_1 38 (omega arith)));
          bound = omega arith;
          valid = and_tail;
        }

    module _ (r : Replacement) (q : answer (reference (chars (drop (i + 1) s))) ≡ Some r) where
      o : reference (chars (drop (i + 1) s)) ≡ some (r.code, r.len)
      o = is_replaced (reference (chars (drop (i + 1) s))) r q

      pub piece_replaced : Unescaped s i (piece r.code (i + 1 + r.len))
      piece_replaced =
          let d = read_is s (i + 1) r.code r.len o in
          record {
            is = replaced_at s i l a r.code r.len o;
            scalar = d.scalar;
            size = omega (arith, (utf8_size r.code).1, d.low);
            bound = d.bound;
            valid = subst Scalars d.rest (scalars_drop r.len (chars (drop (i + 1) s)) and_tail);
          }

      pub replaced_bound : i + 1 + r.len ≤ length s
      replaced_bound = (read_is s (i + 1) r.code r.len o).bound

  -- another character
  not_and : (get_or s i 0 ≡ 38 → ⊥) → (code_at s i ≡ 38 → ⊥)
  not_and n q =
      let t = turn_is s i l in
      let w = ap length (ap utf8 q ∙ utf8_1 38 (omega arith)) in
      let f : take (i + 1) s ≡ take i s ++ (38 ∷ []) =
      ap (λ (k : ℕ). take (i + k) s) (sym w) ∙ t.front ∙ ap (λ (x : List ℕ). take i s ++ x) (ap utf8 q ∙ utf8_1 38 (omega arith)) in
      n (same_last (take i s) (take i s) (get_or s i 0) 38 (sym (rw (add-one i) (take-suc s i 0 l)) ∙ f))

  pub piece_other : (c n : ℕ) → (get_or s i 0 ≡ 38 → ⊥) → c ≡ code_at s i → n ≡ length (utf8 c) → Unescaped s i (piece c (i + n))
  piece_other c n k e f =
      let t = turn_is s i l in
      let q : chars (drop i s) ≡ c ∷ chars (drop (i + n) s) = rw (f, e) t.rest in
      let v = subst Scalars q h in
      record {
        is = ap (unescape 0) q ∙ unescape_other c (chars (drop (i + n) s)) (ne_eqb c 38 (λ z. not_and k (sym e ∙ z)));
        scalar = v.0;
        size = omega arith;
        bound = rw (f, e) t.bound;
        valid = v.1;
      }

-- ---- how much a text adds, and that it leaves the lists as they are
pause_most : (c : State) (b : Bool) → weight (with_out c.out b c) ≤ weight c + 1
unfolding weight
pause_most c b = omega (arith, pending_most b)

next_weight : (first : Bool) (x : ℕ) (c : State) → weight (next first x c).1 ≤ weight c + 2 * length (utf8 x)
unfolding next paused
next_weight first x c =
    let a = (utf8_size x).0 in
    on (λ (n : Bool × State). weight n.1 ≤ weight c + 2 * length (utf8 x)) (blank c.pre x)
    (λ _. omega (arith, pause_most c (not (line_start c.out))))
    (λ _. omega (arith, put_weight first x (spaced c), spaced_weight c))

put_all_weight : (first : Bool) (xs : List ℕ) (c : State) → weight (put_all first xs c) ≤ weight c + 2 * size xs
unfolding put_all size
put_all_weight first [] c = omega arith
put_all_weight first (x ∷ xs) c = omega (arith, put_all_weight (next first x c).0 xs (next first x c).1, next_weight first x c)

next_lists : (first : Bool) (x : ℕ) (c : State) → (next first x c).1.lists ≡ c.lists
unfolding next paused put
next_lists first x c = on (λ (n : Bool × State). n.1.lists ≡ c.lists) (blank c.pre x) (λ _. refl) (λ _. spaced_lists c)

put_all_lists : (first : Bool) (xs : List ℕ) (c : State) → (put_all first xs c).lists ≡ c.lists
unfolding put_all
put_all_lists first [] c = refl
put_all_lists first (x ∷ xs) c = put_all_lists (next first x c).0 xs (next first x c).1 ∙ next_lists first x c

pub text_size : (raw : List ℕ) (c : State) → size (text raw c).out ≤ size c.out + 1 + 2 * size raw
unfolding text weight
text_size raw c =
    omega (arith, put_all_weight true (unescape 0 raw) c, unescape_size 0 raw, pending_most c.space)

pub text_lists : (raw : List ℕ) (c : State) → (text raw c).lists ≡ c.lists
unfolding text
text_lists raw c = put_all_lists true (unescape 0 raw) c

-- ---- behind a character that is written
start_cons : (x : ℕ) (o : List ℕ) → (x ≡ 10 → ⊥) → line_start (x ∷ o) ≡ false
unfolding line_start
start_cons x o h = rw (ne_eqb x 10 h)

start_space_more : (sp : Bool) (o : List ℕ) → line_start o ≡ false → line_start (with_space sp o) ≡ false
start_space_more true o e = start_cons 32 o (λ q. omega arith)
start_space_more false o e = e

put_start : (first : Bool) (x : ℕ) (c : State) → (x ≡ 10 → ⊥) → line_start (put first x c).out ≡ false
unfolding put
put_start first x c h = go (escape first x c.out && not c.pre)
  where
    go : (t : Bool) → line_start (reverse_aux (if t then str "\\" ++ (x ∷ []) else x ∷ []) c.out) ≡ false
    go true = start_cons x (92 ∷ c.out) h
    go false = start_cons x c.out h

pub behind_put : (pre : Bool) (x : ℕ) (first : Bool) (s d : State) (r : Pen) (out : List ℕ) → blank pre x ≡ false → pen_state s r out ≡ put first x d → r.first ≡ false → Behind pre r out
unfolding pen_state blank is_space
behind_put pre x first s d r out b e f = (
  f,
  λ q.
      let n : is_space x ≡ false = rw q at b in
      ap (λ (c : State). line_start c.out) e ∙ put_start first x d (λ z. false_true (sym n ∙ ap is_space z)),
)

pub behind_pause : (pre : Bool) (s : State) (p r : Pen) (out : List ℕ) → Behind pre p out → pen_state s r out ≡ paused (pen_state s p out) → r.first ≡ p.first → Behind pre r out
unfolding pen_state paused
behind_pause pre s p r out k e f = (f ∙ k.0, λ q. ap (λ (c : State). line_start c.out) e ∙ k.1 q)

-- ---- ASCII characters that are written as they are there
module _ (b : ℕ) (pre : Bool) where
  abbrev Other : Bool
  Other = within 9 13 b || eqb b 32 || special b

  other_space : special b ≡ false → b < 0x80 → is_space b ≡ Other
  other_space e a = space_ascii b a ∙ sym (rw e (or-false (within 9 13 b || eqb b 32)))

  module _ (h : plain pre b ≡ true) where
    parts : (ltb b 0x80 && not (eqb b 38) ≡ true) × (pre || not Other ≡ true)
    unfolding plain
    parts = and_true (ltb b 0x80 && not (eqb b 38)) (pre || not Other) h

    pub plain_ascii : b < 0x80
    plain_ascii = ltb-true b 0x80 (and_true (ltb b 0x80) (not (eqb b 38)) parts.0).0

    pub plain_not_and : b ≡ 38 → ⊥
    plain_not_and = eqb-false b 38 (not-true (eqb b 38) (and_true (ltb b 0x80) (not (eqb b 38)) parts.0).1)

    plain_outside : pre ≡ false → (special b ≡ false) × (is_space b ≡ false)
    plain_outside q =
        let n = not-true Other (rw q at parts.1) in
        let e = (or_neither (within 9 13 b || eqb b 32) (special b) n).1 in
        (e, other_space e plain_ascii ∙ n)

    pub plain_not_blank : blank pre b ≡ false
    unfolding blank
    plain_not_blank = ⊎_elim (λ q. rw q) (λ q. and_false (not pre) (is_space b) (plain_outside q).1) (decide pre)

    pub plain_write : (s : State) → s.pre ≡ pre → (p : Pen) (out : List ℕ) → Behind pre p out
        → with_out (b ∷ with_space p.space (out_of p.len out)) false s ≡ put p.first b (spaced (pen_state s p out))
    unfolding pen_state escape
    plain_write s q p out k =
        let o = with_space p.space (out_of p.len out) in
        write_plain p.first b s (out_of p.len out) p.space
        (⊎_elim
        (λ z. unescaped_pre (escape p.first b o) s.pre (q ∙ z))
        (λ z. rw ((plain_outside z).0, start_space_more p.space (out_of p.len out) (k.1 z), k.0))
        (decide pre))

  -- ---- and the others: a space, or one that is escaped
  module _ (h : plain pre b ≡ false) (a : b < 0x80) (n : b ≡ 38 → ⊥) where
    pub other_outside : (pre ≡ false) × (Other ≡ true)
    unfolding plain
    other_outside =
        let e : pre || not Other ≡ false = rw (lt-ltb b 0x80 a, ne_eqb b 38 n) at h in
        let p = or_neither pre (not Other) e in
        (p.0, not-false Other p.1)

    pub other_blank : special b ≡ false → blank pre b ≡ true
    unfolding blank
    other_blank e = rw (other_outside.0, other_space e a, other_outside.1)

-- ---- characters above ASCII
module _ (c : ℕ) (h : 0x80 ≤ c) where
  high_not_special : special c ≡ false
  unfolding special
  high_not_special = simp (ne_eqb c 92 (omega arith), ne_eqb c 42 (omega arith), ne_eqb c 96 (omega arith), ne_eqb c 91 (omega arith), ne_eqb c 33 (omega arith))

  high_not_opens : opens c ≡ false
  unfolding opens
  high_not_opens = simp (ne_eqb c 35 (omega arith), ne_eqb c 45 (omega arith), ne_eqb c 43 (omega arith), ne_eqb c 62 (omega arith), ne_eqb c 124 (omega arith))

  pub high_write : (first : Bool) (s : State) (o : List ℕ) (sp : Bool) → with_out (c ∷ with_space sp o) false s ≡ put first c (spaced (with_out o sp s))
  high_write first s o sp =
      let e : escape first c (with_space sp o) ≡ false = sym (escape_other first c (with_space sp o) high_not_special high_not_opens (λ q. omega arith)) in
      write_plain first c s o sp (rw e)

pub piece_ascii : (s : List ℕ) (i : ℕ) → i < length s → Scalars (chars (drop i s)) → get_or s i 0 < 0x80 → (get_or s i 0 ≡ 38 → ⊥) → Unescaped s i (piece (get_or s i 0) (i + 1))
piece_ascii s i l h a n =
    let q = advance_ascii s i l a in
    let v = subst Scalars q h in
    record {
      is = ap (unescape 0) q ∙ unescape_other (get_or s i 0) (chars (drop (i + 1) s)) (ne_eqb (get_or s i 0) 38 n);
      scalar = v.0;
      size = omega (arith, ap length (utf8_1 (get_or s i 0) a));
      bound = omega arith;
      valid = v.1;
    }

-- ---- characters that are escaped wherever they stand
module _ (b : ℕ) (h : special b ≡ true) where
  one_of : (P : ℕ → Type 0) → P 92 → P 42 → P 96 → P 91 → P 33 → P b
  unfolding special
  one_of P p q r s t =
      let n : (k : ℕ) → P k → eqb b k ≡ true → P b = λ k x e. subst P (sym (eqb-true b k e)) x in
      or_elim (eqb b 92) _ (n 92 p) (or_elim (eqb b 42) _ (n 42 q) (or_elim (eqb b 96) _ (n 96 r) (or_elim (eqb b 91) _ (n 91 s) (or_elim (eqb b 33) false (n 33 t) false_true)))) h

  pub special_not_blank : (pre : Bool) → blank pre b ≡ false
  unfolding blank is_space
  special_not_blank pre = and_false (not pre) (is_space b) (one_of (λ k. is_space k ≡ false) refl refl refl refl refl)

  special_write : (first : Bool) (s : State) (o : List ℕ) (sp : Bool) → s.pre ≡ false
      → with_out (b ∷ 92 ∷ with_space sp o) false s ≡ put first b (spaced (with_out o sp s))
  special_write first s o sp e = write_escaped first b s o sp (escaped_out _ true s.pre e (escape_special first b (with_space sp o) h))

-- ---- an ASCII character that is written as it is, and another one behind a backslash
module _ (s : State) (p q : Pen) (w v : List ℕ) (e : pen_state s q v ≡ with_out (92 ∷ with_space p.space (out_of p.len w)) false s) where
  bare_out : out_of q.len v ≡ 92 ∷ with_space p.space (out_of p.len w)
  unfolding pen_state
  bare_out = ap (λ (c : State). c.out) e

  pub bare_len : q.len ≡ p.len + pending p.space + 1
  unfolding size
  bare_len = sym (size_out q.len v) ∙ ap size bare_out ∙ go p.space
    where
      go : (sp : Bool) → size (92 ∷ with_space sp (out_of p.len w)) ≡ p.len + pending sp + 1
      go true = omega (arith, size_out p.len w, ap length (utf8_1 92 (omega arith)), ap length (utf8_1 32 (omega arith)))
      go false = omega (arith, size_out p.len w, ap length (utf8_1 92 (omega arith)))

  pub special_two : (b : ℕ) → special b ≡ true → s.pre ≡ false → (r : Pen) (u : List ℕ) → pen_state s r u ≡ with_out (b ∷ with_space q.space (out_of q.len v)) false s
      → pen_state s r u ≡ put p.first b (spaced (pen_state s p w))
  unfolding pen_state
  special_two b h n r u f =
      f
      ∙ ap (λ (t : Bool). with_out (b ∷ with_space t (out_of q.len v)) false s) (ap (λ (c : State). c.space) e)
      ∙ ap (λ (o : List ℕ). with_out (b ∷ o) false s) bare_out
      ∙ special_write b h p.first s (out_of p.len w) p.space n

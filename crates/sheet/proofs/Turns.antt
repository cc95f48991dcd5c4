-- The converter's loop, turn by turn, while the output is below its limit of 16,000 bytes.
-- Assumes nothing.
use Rattle.std.proofs.Common.{◌≡◌, refl, sym, ◌∙◌, ap, subst, ℕ, suc, ◌+◌, ◌-◌, ◌≤◌, ◌<◌, arith, suc-add, zero-add, true, List, [], ◌∷◌, ◌++◌}
use Rattle.std.proofs.Common.{lt-ltb, eqb, length, take, drop}
use Rattle.std.proofs.lemmas.Bool.Decides.{nat_tests}
use Rattle.std.proofs.Math.Option.{Option, none, some}
use mathlib.Core.List.{reverse_aux}
use lib.Seq.{take-append_seam, drop-append_seam}
use Rattle.text.specs.Words.{case, is, index, find}
use Rattle.text.specs.Utf8.{size}
use Rattle.text.specs.Trim.{trim}
use Rattle.reference.specs.Unescape.{unescape}
use Rattle.html.specs.State.{State, text, put_all}
use Rattle.html.specs.Page.{Turn, read, refused, words, comment, a_tag, markup, turn, tag_read, inside, on_turn, loop}
use Rattle.html.proofs.TurnLaws.{Reads, turn_reads}
use Rattle.sheet.specs.Grammar.{none_of}

-- the loop goes on
unfoldable pub Low : List ℕ → Type 0
Low v = size v < 16000

pub low_tail : (a : ℕ) (v : List ℕ) → Low (a ∷ v) → Low v
unfolding Low size
low_tail a v h = omega arith

-- what was there before is shorter
pub low_front : (w v : List ℕ) → Low (reverse_aux w v) → Low v
low_front [] v h = h
low_front (a ∷ w) v h = low_tail a v (low_front w (a ∷ v) h)

pub loop_turn : (x : ℕ) (s : List ℕ) (c : State) → Low c.out → loop 0 (x ∷ s) c ≡ on_turn (turn (x ∷ s) c) (λ n d. loop (n - 1) s d)
unfolding loop Low
loop_turn x s c h = rw (lt-ltb (size c.out) 16000 h)

-- text before a tag

pub find_first : (b : ℕ) (u s : List ℕ) → eqb b b ≡ true → none_of (λ a. eqb a b) u ≡ true → index (b ∷ []) (u ++ (b ∷ s)) ≡ some (length u)
unfolding index
find_first b [] s r e = rw r
find_first b (a ∷ u) s r e = let i = find_first b u s r in grind (arith, nat_tests)

turn_text : (u s : List ℕ) (c : State) → none_of (is "<") u ≡ true → turn (u ++ (60 ∷ s)) c ≡ markup (length u) (60 ∷ s) (words u c)
unfolding turn
turn_text u s c e = rw (find_first 60 u s refl e, take-append_seam u (60 ∷ s), drop-append_seam u (60 ∷ s))

-- n characters more
abbrev moved : ℕ → Turn → Turn
moved n refused = refused
moved n (read m d) = read (n + m) d

reads : {m n : ℕ} (c : State) → m ≡ n → read m c ≡ read n c
reads c e = ap (λ (n : ℕ). read n c) e

comment_moved : (n : ℕ) (s : List ℕ) (c : State) → comment n s c ≡ moved n (comment 0 s c)
unfolding comment
comment_moved n s c = go (find "-->" (drop 4 s))
  where
    go : (o : Option ℕ) → case o (read (n + length s) c) (λ end. read (n + 4 + end + 3) c) ≡ moved n (case o (read (0 + length s) c) (λ end. read (0 + 4 + end + 3) c))
    go none = reads c (omega arith)
    go (some e) = reads c (omega arith)

tag_moved : (n k m : ℕ) (o : Option State) → n ≡ k + m → tag_read n o ≡ moved k (tag_read m o)
tag_moved n k m none e = refl
tag_moved n k m (some d) e = reads d e

a_tag_moved : (n : ℕ) (s : List ℕ) (c : State) → a_tag n s c ≡ moved n (a_tag 0 s c)
unfolding a_tag
a_tag_moved n s c = go (find ">" s)
  where
    f : ℕ → Option State
    f e = inside (trim (drop 1 (take e s))) c

    go : (o : Option ℕ) → case o (read (n + length s) c) (λ end. tag_read (n + end + 1) (f end)) ≡ moved n (case o (read (0 + length s) c) (λ end. tag_read (0 + end + 1) (f end)))
    go none = reads c (omega arith)
    go (some e) = tag_moved (n + e + 1) n (0 + e + 1) (f e) (omega arith)

markup_moved : (n : ℕ) (s : List ℕ) (c : State) → markup n s c ≡ moved n (markup 0 s c)
unfolding markup
markup_moved n s c = rw (comment_moved n s c, a_tag_moved n s c) (grind (arith, nat_tests))

pub loop_past : (n : ℕ) (u s : List ℕ) (c : State) → loop (length u + n) (u ++ s) c ≡ loop n s c
unfolding loop
loop_past n [] s c = rw zero-add
loop_past n (a ∷ u) s c = rw (suc-add (length u) n) (loop_past n u s c)

loop_skip : (n : ℕ) (x : ℕ) (u s : List ℕ) (c : State) → 1 ≤ n → loop (length (x ∷ u) + n - 1) (u ++ (60 ∷ s)) c ≡ loop (n - 1) s c
unfolding loop
loop_skip n x u s c h =
    ap (λ (k : ℕ). loop k (u ++ (60 ∷ s)) c) (e (length u))
    ∙ loop_past (suc (n - 1)) u (60 ∷ s) c
  where
    e : (m : ℕ) → suc m + n - 1 ≡ m + suc (n - 1)
    e m = omega arith

words_nil : (c : State) → words [] c ≡ c
unfolding words text unescape put_all
words_nil c = go c.skip
  where
    go : (o : Option (List ℕ)) → case o c (λ _. c) ≡ c
    go none = refl
    go (some x) = refl

pub turn_tag : (s : List ℕ) (c : State) → turn (60 ∷ s) c ≡ markup 0 (60 ∷ s) c
turn_tag s c = turn_text [] s c refl ∙ ap (markup 0 (60 ∷ s)) (words_nil c)

go_on : (x : ℕ) (u s : List ℕ) (t : Turn) → Reads t → on_turn (moved (length (x ∷ u)) t) (λ n d. loop (n - 1) (u ++ (60 ∷ s)) d) ≡ on_turn t (λ n d. loop (n - 1) s d)
go_on x u s refused h = refl
go_on x u s (read n d) h = loop_skip n x u s d h

pub loop_text : (u s : List ℕ) (c : State) → none_of (is "<") u ≡ true → Low c.out → Low (words u c).out → loop 0 (u ++ (60 ∷ s)) c ≡ loop 0 (60 ∷ s) (words u c)
loop_text [] s c e h k = ap (loop 0 (60 ∷ s)) (sym (words_nil c))
loop_text (x ∷ u) s c e h k =
    loop_turn x (u ++ (60 ∷ s)) c h
    ∙ ap (λ (t : Turn). on_turn t (λ n d. loop (n - 1) (u ++ (60 ∷ s)) d)) (turn_text (x ∷ u) s c e ∙ markup_moved (length (x ∷ u)) (60 ∷ s) (words (x ∷ u) c))
    ∙ go_on x u s (markup 0 (60 ∷ s) (words (x ∷ u) c)) (subst Reads (turn_tag s (words (x ∷ u) c)) (turn_reads (60 ∷ s) (words (x ∷ u) c) (omega arith)))
    ∙ ap (λ (t : Turn). on_turn t (λ n d. loop (n - 1) s d)) (sym (turn_tag s (words (x ∷ u) c)))
    ∙ sym (loop_turn 60 s (words (x ∷ u) c) k)

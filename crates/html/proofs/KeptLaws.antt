-- No step takes more from the output than the spaces at its end, and an item adds to what is left: so the output bounds the items that were begun.
-- Assumes nothing.
use Prim.Native.Nat.{ℕ, zero, suc, ◌+◌, ◌≤◌}
use native.Mathlib.Omega.{arith}
use mathlib.Core.Path.{◌≡◌, ap, ◌∙◌}
use mathlib.Core.Bool.{Bool, true, false, ◌&&◌, ◌||◌, not}
use mathlib.Core.List.{List, [], ◌∷◌, ◌++◌, reverse_aux, reverse_aux-append}
use lib.Dec.{eqb}
use lib.ListN.{length}
use Rattle.std.specs.Prelude.{if◌then◌else◌}
use Rattle.text.specs.Words.{str, repeat, drop_while, is, is_empty, starts}
use Rattle.text.specs.Utf8.{size}
use Rattle.text.specs.Decimal.{decimal}
use Rattle.text.proofs.Tests.{on}
use Rattle.text.proofs.Utf8.{utf8_1}
use Rattle.reference.specs.Unescape.{unescape}
use Rattle.html.specs.State.{State, line_start, block, newline, spaced, marks, escape, blank, put, next, paused, put_all, text, item}
use Rattle.html.proofs.GrowLaws.{size_spaces}

-- the bytes of an output without the spaces at its end
abbrev pub kept : List ℕ → ℕ
kept o = size (drop_while (is " ") o)

kept_push : (x : ℕ) (o : List ℕ) → kept o ≤ kept (x ∷ o)
unfolding drop_while size
kept_push x o = on (λ (l : List ℕ). kept o ≤ size l) (eqb x 32) (λ _. omega arith) (λ _. omega (arith, size_spaces o))

pub kept_more : (s o : List ℕ) → kept o ≤ kept (reverse_aux s o)
kept_more [] o = omega arith
kept_more (x ∷ s) o = omega (arith, kept_push x o, kept_more s (x ∷ o))

-- spaces taken from the end
kept_spaces : (o : List ℕ) → kept o ≤ kept (drop_while (is " ") o)
unfolding drop_while
kept_spaces [] = omega arith
kept_spaces (x ∷ o) =
    on (λ (l : List ℕ). size l ≤ kept l) (eqb x 32) (λ _. kept_spaces o) (λ e. rw e (omega arith))

-- ---- the steps
abbrev Keeps : State → State → Type 0
Keeps c d = kept c.out ≤ kept d.out

pub kept_block : (c : State) → kept c.out ≤ kept (block c).out
unfolding block
kept_block c =
    let o = drop_while (is " ") c.out in
    let h = kept_spaces c.out in
    on (Keeps c) (is_empty o || starts "\n\n" o) (λ _. h)
    (λ _. on (Keeps c) (starts "\n" o) (λ _. omega (arith, kept_more (10 ∷ []) o)) (λ _. omega (arith, kept_more (10 ∷ 10 ∷ []) o)))

pub kept_newline : (c : State) → kept c.out ≤ kept (newline c).out
unfolding newline
kept_newline c =
    let o = drop_while (is " ") c.out in
    let h = kept_spaces c.out in
    on (Keeps c) (line_start o) (λ _. h) (λ _. omega (arith, kept_more (10 ∷ []) o))

kept_spaced : (c : State) → kept c.out ≤ kept (spaced c).out
unfolding spaced
kept_spaced c = on (Keeps c) c.space (λ _. kept_more (32 ∷ []) c.out) (λ _. omega arith)

pub kept_marks : (m : List ℕ) (closing : Bool) (c : State) → kept c.out ≤ kept (marks m closing c).out
unfolding marks
kept_marks m true c = kept_more m c.out
kept_marks m false c = omega (arith, kept_spaced c, kept_more m (spaced c).out)

-- ---- text
kept_put : (first : Bool) (x : ℕ) (c : State) → kept c.out ≤ kept (put first x c).out
unfolding put
kept_put first x c = kept_more (if escape first x c.out && not c.pre then str "\\" ++ (x ∷ []) else x ∷ []) c.out

kept_next : (first : Bool) (x : ℕ) (c : State) → kept c.out ≤ kept (next first x c).1.out
unfolding next paused
kept_next first x c =
    on (λ (n : Bool × State). Keeps c n.1) (blank c.pre x) (λ _. omega arith)
    (λ _. omega (arith, kept_spaced c, kept_put first x (spaced c)))

kept_all : (first : Bool) (xs : List ℕ) (c : State) → kept c.out ≤ kept (put_all first xs c).out
unfolding put_all
kept_all first [] c = omega arith
kept_all first (x ∷ xs) c = omega (arith, kept_next first x c, kept_all (next first x c).0 xs (next first x c).1)

pub kept_text : (raw : List ℕ) (c : State) → kept c.out ≤ kept (text raw c).out
unfolding text
kept_text raw c = kept_all true (unescape 0 raw) c

-- ---- items: a number and its full stop stay
stop_kept : (o : List ℕ) → kept (32 ∷ 46 ∷ o) ≡ 1 + size o
unfolding drop_while size
stop_kept o = omega (arith, ap length (utf8_1 46 (omega arith)))

more_size : (s o : List ℕ) → size o ≤ size (reverse_aux s o)
unfolding size
more_size [] o = omega arith
more_size (x ∷ s) o = omega (arith, more_size s (x ∷ o))

pub item_kept : (n : ℕ) (l : List ℕ) (c : State) → 1 + kept c.out ≤ kept (item (suc n ∷ l) (newline c)).out
unfolding item
item_kept n l c =
    let d = repeat (length l) "  " ++ decimal (suc n) in
    let o = (newline c).out in
    let e : kept (reverse_aux (d ++ str ". ") o) ≡ 1 + size (reverse_aux d o) = ap kept (reverse_aux-append d (46 ∷ 32 ∷ []) o) ∙ stop_kept (reverse_aux d o) in
    omega (arith, e, more_size d o, size_spaces o, kept_newline c)

pub item_more : (l : List ℕ) (c : State) → kept c.out ≤ kept (item l (newline c)).out
unfolding item
item_more [] c = omega (arith, kept_newline c, kept_more (45 ∷ 32 ∷ []) (newline c).out)
item_more (zero ∷ l) c = omega (arith, kept_newline c, kept_more (repeat (length l) "  " ++ (45 ∷ 32 ∷ [])) (newline c).out)
item_more (suc n ∷ l) c = omega (arith, item_kept n l c)

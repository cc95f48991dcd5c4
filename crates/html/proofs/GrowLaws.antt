-- How much each step adds to the output, in bytes.
-- Assumes nothing.
use Prim.Native.Nat.{ℕ, zero, suc, ◌+◌, ◌/◌, ◌%◌, ◌≤◌, ◌<◌}
use native.Mathlib.Omega.{arith}
use mathlib.Core.Path.{◌≡◌, refl, sym, ap, ◌∙◌}
use mathlib.Core.Bool.{Bool, ◌||◌}
use mathlib.Core.List.{List, [], ◌∷◌, reverse_aux}
use lib.Dec.{ltb, eqb}
use lib.ListN.{length, replicate, length-replicate}
use borrow.Author.Tests.{ltb-true}
use Rattle.std.specs.Prelude.{if◌then◌else◌}
use Rattle.text.specs.Words.{drop_while, is, is_empty, starts}
use Rattle.text.specs.Utf8.{size}
use Rattle.text.specs.Decimal.{digits, decimal}
use Rattle.text.proofs.Tests.{on}
use Rattle.text.proofs.Utf8.{utf8_1}
use Rattle.text.proofs.Laws.{size_aux}
use Rattle.text.proofs.AsciiLaws.{size_ascii, ascii_append}
use Rattle.html.specs.State.{State, push_str, line_start, block, newline, spaced, marks}
use Rattle.html.specs.Struct.{state_of, out_of}
use Rattle.text.specs.Chars.{Ascii}
use Rattle.html.specs.declared.converter.Converter.{Converter}
use Rattle.html.proofs.OutLaws.{size_out}

-- how long the output is: by the state, and after a step that makes it at most k longer
pub len_of : (r : Converter) (w : List ℕ) (s : State) → state_of r w ≡ s → r.len ≡ size s.out
unfolding state_of
len_of r w s e = sym (size_out r.len w) ∙ ap (λ (t : State). size t.out) e

pub grown : (f : State → State) (k : ℕ) → ((s : State) → size (f s).out ≤ size s.out + k) → (a r : Converter) (w w' : List ℕ)
    → state_of r w' ≡ f (state_of a w) → r.len ≤ a.len + k
grown f k g a r w w' e = omega (arith, len_of r w' _ e, g (state_of a w), len_of a w _ refl)

-- ---- texts
digits_ascii : (k n : ℕ) → Ascii (digits k n)
unfolding digits
digits_ascii zero n = tt
digits_ascii (suc k) n =
    on Ascii (ltb n 10) (λ e. let l = ltb-true n 10 e in (omega arith, tt))
    (λ _. ascii_append (digits k (n / 10)) ((48 + n % 10) ∷ []) (digits_ascii k (n / 10)) (omega arith, tt))

pub decimal_ascii : (n : ℕ) → Ascii (decimal n)
decimal_ascii n = digits_ascii (suc n) n

pub ascii_times : (k b : ℕ) → b < 0x80 → Ascii (replicate k b)
ascii_times zero b h = tt
ascii_times (suc k) b h = (h, ascii_times k b h)

-- a buffer to whose written part an ASCII text was added
pub all_len : (r n : ℕ) (xs w w' : List ℕ) → Ascii xs → out_of r w' ≡ reverse_aux xs (out_of n w) → r ≡ n + length xs
all_len r n xs w w' h e = omega (arith, size_out r w', ap size e, size_aux xs (out_of n w), size_out n w, size_ascii xs h)

pub times_len : (r n k b : ℕ) (w w' : List ℕ) → b < 0x80 → out_of r w' ≡ reverse_aux (replicate k b) (out_of n w) → r ≡ n + k
times_len r n k b w w' h e = omega (arith, all_len r n (replicate k b) w w' (ascii_times k b h) e, length-replicate k b)

pub grow_str : (xs : List ℕ) → Ascii xs → (c : State) → size (push_str xs c).out ≤ size c.out + length xs
grow_str xs h c = omega (arith, size_aux xs c.out, size_ascii xs h)

pub grow_times : (k b : ℕ) → b < 0x80 → (c : State) → size (push_str (replicate k b) c).out ≤ size c.out + k
grow_times k b h c = omega (arith, grow_str (replicate k b) (ascii_times k b h) c, length-replicate k b)

-- ---- the steps
pub size_spaces : (o : List ℕ) → size (drop_while (is " ") o) ≤ size o
unfolding drop_while size
size_spaces [] = omega arith
size_spaces (b ∷ o) = let h = size_spaces o in on (λ (l : List ℕ). size l ≤ size (b ∷ o)) (eqb b 32) (λ _. omega arith) (λ _. omega arith)

-- either of two states
abbrev Most : ℕ → State → Type 0
Most n c = size c.out ≤ n

pub grow_block : (c : State) → size (block c).out ≤ size c.out + 2
unfolding block size
grow_block c =
    let o = drop_while (is " ") c.out in
    let h = size_spaces c.out in
    let f = ap length (utf8_1 10 (omega arith)) in
    let P = Most (size c.out + 2) in
    on P (is_empty o || starts "\n\n" o) (λ _. omega arith) (λ _. on P (starts "\n" o) (λ _. omega arith) (λ _. omega arith))

pub grow_newline : (c : State) → size (newline c).out ≤ size c.out + 1
unfolding newline size
grow_newline c =
    let o = drop_while (is " ") c.out in
    let h = size_spaces c.out in
    let f = ap length (utf8_1 10 (omega arith)) in
    on (Most (size c.out + 1)) (line_start o) (λ _. omega arith) (λ _. omega arith)

pub grow_spaced : (c : State) → size (spaced c).out ≤ size c.out + 1
unfolding spaced size
grow_spaced c =
    let f = ap length (utf8_1 32 (omega arith)) in
    on (Most (size c.out + 1)) c.space (λ _. omega arith) (λ _. omega arith)

pub grow_marks : (m : List ℕ) → Ascii m → (closing : Bool) (c : State) → size (marks m closing c).out ≤ size c.out + (1 + length m)
unfolding marks
grow_marks m a closing c =
    let h = on (Most (size c.out + 1)) closing {x = c} {y = spaced c} (λ _. omega arith) (λ _. grow_spaced c) in
    omega (arith, grow_str m a (if closing then c else spaced c), h)

-- The cases of each step of `Converter`, and what a struct says of its open lists.
-- Assumes nothing.
use Prim.Native.Nat.{ℕ, zero, suc, ◌+◌, ◌-◌, ◌*◌, ◌≤◌, ◌<◌}
use native.Mathlib.Nat.{le_refl}
use native.Mathlib.Omega.{arith}
use native.Mathlib.Numerals.{add-one, sub-one}
use mathlib.Core.Path.{◌≡◌, refl, sym, ap, ap₂, ◌∙◌}
use mathlib.Core.Bool.{Bool, true, false, ◌||◌}
use mathlib.Core.Option.{some, none}
use mathlib.Core.List.{List, [], ◌∷◌, ◌++◌, map, reverse_aux, reverse_aux-append, tail}
use lib.ListN.{length, get_or, set, replicate}
use lib.Seq.{get_or-set_same, get_or-set_other}
use borrow.Author.Tests.{le-leb, lt-leb}
use Rattle.std.specs.Prelude.{if◌then◌else◌}
use Rattle.text.specs.Words.{drop_while, is, is_empty, starts, repeat, str}
use Rattle.text.specs.Utf8.{utf8, size}
use Rattle.text.proofs.Utf8.{utf8_1}
use Rattle.text.specs.Decimal.{decimal}
use Rattle.text.proofs.Tests.{on}
use Rattle.html.specs.State.{State, with_out, with_lists, push_str, line_start, block, newline, spaced, marks, list_changed, item, tag, other, code, Tag}
use Rattle.html.specs.Page.{listed, is_list}
use Rattle.html.specs.Struct.{state_of, out_of, upto, lists_of, number, with_space, unspaced, list_tag, first_number, step_means, tag_means, pending}
use Rattle.html.specs.declared.converter.Converter.{Converter}
use Rattle.html.specs.declared.ListKind.{ListKind}
use Rattle.html.specs.declared.ListKind.TheVariants.{Unordered, Ordered}
use Rattle.html.specs.declared.Tag.TheVariants.{List as Lists}
use Rattle.html.specs.declared.Step.{Step}
use Rattle.html.specs.declared.Step.TheVariants.{Heading, Block, Pre, Break, Item, Row, Cell, Strong, Emphasis, Code, Other}
use Rattle.html.proofs.OutLaws.{out_none, size_out}

-- ---- the first numbers of an array, last first
upto_set : (n : ℕ) (w : List ℕ) (i b : ℕ) → n ≤ i → upto n (set w i b) ≡ upto n w
upto_set zero w i b h = refl
upto_set (suc n) w i b h = ap₂ ◌∷◌ (get_or-set_other w i n b 0 (omega arith)) (upto_set n w i b (omega arith))

pub upto_push : (n : ℕ) (w : List ℕ) (b : ℕ) → n < length w → upto (n + 1) (set w n b) ≡ b ∷ upto n w
upto_push n w b h = rw add-one (ap₂ ◌∷◌ (get_or-set_same w n b 0 h) (upto_set n w n b (le_refl n)))

pub length_upto : (n : ℕ) (w : List ℕ) → length (upto n w) ≡ n
length_upto zero w = refl
length_upto (suc n) w = ap suc (length_upto n w)

pub upto_tail : (n : ℕ) (w : List ℕ) → upto (n - 1) w ≡ tail (upto n w)
upto_tail zero w = refl
upto_tail (suc n) w = rw sub-one refl

pub upto_last : (n : ℕ) (w : List ℕ) → 0 < n → upto n w ≡ get_or w (n - 1) 0 ∷ upto (n - 1) w
upto_last zero w h = absurd (omega arith)
upto_last (suc n) w h = rw sub-one refl

pub upto_top : (n : ℕ) (l : List ℕ) (v : ℕ) → 0 < n → n ≤ length l → upto n (set l (n - 1) v) ≡ v ∷ tail (upto n l)
upto_top n l v h k =
    let i : n ≡ n - 1 + 1 = omega arith in
    ap (λ (m : ℕ). upto m (set l (n - 1) v)) i ∙ upto_push (n - 1) l v (omega arith) ∙ sym (ap (λ (x : List ℕ). v ∷ tail x) (upto_last n l h))

-- an array's elements as the logic has them in a struct, counted
pub length_same : (l : List ℕ) (n : ℕ) → length (map (λ (x : ℕ). x) l) ≡ n → length l ≡ n
length_same l n e = sym (same l) ∙ e
  where
    same : (l : List ℕ) → length (map (λ (x : ℕ). x) l) ≡ length l
    same [] = refl
    same (x ∷ l) = ap suc (same l)

-- ---- the open lists, by the struct
pub lists_is : (r : Converter) (w : List ℕ) (s : State) → state_of r w ≡ s → lists_of r ≡ s.lists
unfolding state_of
lists_is r w s e = ap (λ (t : State). t.lists) e

pub depth_is : (r : Converter) (w : List ℕ) (s : State) → state_of r w ≡ s → r.depth ≡ length s.lists
depth_is r w s e = sym (length_upto r.depth r.lists) ∙ ap length (lists_is r w s e)

-- two structs with the same open lists
pub like : (a r : Converter) → lists_of r ≡ lists_of a → r.depth ≡ a.depth
like a r e = sym (length_upto r.depth r.lists) ∙ ap length e ∙ length_upto a.depth a.lists

-- ---- `block` and `newline`
pub empty_yes : (n : ℕ) (w : List ℕ) → n ≡ 0 → is_empty (out_of n w) ≡ true
empty_yes n w h = rw (out_none n w h)

some_size : (o : List ℕ) (n : ℕ) → size o ≡ n → (n ≡ 0 → ⊥) → is_empty o ≡ false
unfolding size
some_size [] n e h = absurd (h (sym e))
some_size (x ∷ o) n e h = refl

pub empty_no : (n : ℕ) (w : List ℕ) → (n ≡ 0 → ⊥) → is_empty (out_of n w) ≡ false
empty_no n w h = some_size (out_of n w) n (size_out n w) h

-- the state without the spaces at the output's end
pub cleared : (n k : ℕ) (w : List ℕ) (s : State) → out_of n w ≡ drop_while (is " ") (out_of k w)
    → with_out (out_of n w) false s ≡ unspaced (with_out (out_of k w) false s)
unfolding unspaced
cleared n k w s e = ap (λ (o : List ℕ). with_out o false s) e

module _ (u c : State) (e : u ≡ unspaced c) where
  out_is : u.out ≡ drop_while (is " ") c.out
  unfolding unspaced
  out_is = ap (λ (s : State). s.out) e

  pub block_none : is_empty u.out ≡ true → u ≡ block c
  unfolding block unspaced
  block_none h = rw (rw out_is at h) e

  pub block_blank : is_empty u.out ≡ false → starts "\n\n" u.out ≡ true → u ≡ block c
  unfolding block unspaced
  block_blank h k = rw (rw out_is at h, rw out_is at k) e

  line_feed : is_empty u.out ≡ false → line_start u.out ≡ starts "\n" u.out
  unfolding line_start
  line_feed h = rw h

  pub block_feed : is_empty u.out ≡ false → starts "\n\n" u.out ≡ false → line_start u.out ≡ true → push_str (10 ∷ []) u ≡ block c
  unfolding block unspaced
  block_feed h k l = rw (rw out_is at h, rw out_is at k, rw out_is at (sym (line_feed h) ∙ l)) (ap (push_str (10 ∷ [])) e)

  pub block_two : is_empty u.out ≡ false → starts "\n\n" u.out ≡ false → line_start u.out ≡ false → push_str (10 ∷ 10 ∷ []) u ≡ block c
  unfolding block unspaced
  block_two h k l = rw (rw out_is at h, rw out_is at k, rw out_is at (sym (line_feed h) ∙ l)) (ap (push_str (10 ∷ 10 ∷ [])) e)

  pub newline_start : line_start u.out ≡ true → u ≡ newline c
  unfolding newline unspaced
  newline_start h = rw (rw out_is at h) e

  pub newline_feed : line_start u.out ≡ false → push_str (10 ∷ []) u ≡ newline c
  unfolding newline unspaced
  newline_feed h = rw (rw out_is at h) (ap (push_str (10 ∷ [])) e)

-- ---- the steps that leave the lists as they are
abbrev Keeps : State → State → Type 0
Keeps c d = d.lists ≡ c.lists

pub block_lists : (c : State) → (block c).lists ≡ c.lists
unfolding block
block_lists c =
    let o = drop_while (is " ") c.out in
    on (Keeps c) (is_empty o || starts "\n\n" o) (λ _. refl) (λ _. on (Keeps c) (starts "\n" o) (λ _. refl) (λ _. refl))

pub newline_lists : (c : State) → (newline c).lists ≡ c.lists
unfolding newline
newline_lists c = on (Keeps c) (line_start (drop_while (is " ") c.out)) (λ _. refl) (λ _. refl)

pub spaced_lists : (c : State) → (spaced c).lists ≡ c.lists
unfolding spaced
spaced_lists c = on (Keeps c) c.space (λ _. refl) (λ _. refl)

-- ---- items
indent_is : (k : ℕ) (l : List ℕ) → reverse_aux (repeat k "  ") l ≡ reverse_aux (replicate (2 * k) 32) l
indent_is zero l = refl
indent_is (suc k) l =
    let q : 2 * suc k ≡ suc (suc (2 * k)) = omega arith in
    rw q (indent_is k (32 ∷ 32 ∷ l))

pub hashes_is : (k : ℕ) (l : List ℕ) → reverse_aux (repeat k "#") l ≡ reverse_aux (replicate k 35) l
hashes_is zero l = refl
hashes_is (suc k) l = hashes_is k (35 ∷ l)

indented : (k : ℕ) (m xs : List ℕ) (c : State) → k ≡ 2 * length m → push_str (repeat (length m) "  " ++ xs) c ≡ push_str xs (push_str (replicate k 32) c)
indented k m xs c e = rw (reverse_aux-append (repeat (length m) "  ") xs c.out, indent_is (length m) c.out, e)

pub item_none : (l : List ℕ) (c : State) → l ≡ [] → push_str (45 ∷ 32 ∷ []) c ≡ item l c
unfolding item
item_none l c e = rw e

pub item_bullet : (l m : List ℕ) (n k : ℕ) (c : State) → l ≡ n ∷ m → n ≡ 0 → k ≡ 2 * length m → push_str (45 ∷ 32 ∷ []) (push_str (replicate k 32) c) ≡ item l c
unfolding item
item_bullet l m n k c e z q = rw (e, z) (sym (indented k m (45 ∷ 32 ∷ []) c q))

pub item_number : (l m : List ℕ) (n k : ℕ) (c : State) → l ≡ n ∷ m → (n ≡ 0 → ⊥) → k ≡ 2 * length m
    → with_lists ((n + 1) ∷ m) (push_str (46 ∷ 32 ∷ []) (push_str (decimal n) (push_str (replicate k 32) c))) ≡ item l c
unfolding item
item_number l m zero k c e z q = absurd (z refl)
item_number l m (suc n) k c e z q =
    rw (e, add-one (suc n), reverse_aux-append (repeat (length m) "  " ++ decimal (suc n)) (46 ∷ 32 ∷ []) c.out)
    (ap (λ (d : State). with_lists (suc (suc n) ∷ m) (push_str (46 ∷ 32 ∷ []) d)) (sym (indented k m (decimal (suc n)) c q)))

-- ---- lists
pub changed_none : (l : List ℕ) (c : State) → is_empty l ≡ true → block (newline (with_lists l c)) ≡ list_changed l c
unfolding list_changed
changed_none l c e = rw e

pub changed_some : (l : List ℕ) (c : State) → is_empty l ≡ false → newline (with_lists l c) ≡ list_changed l c
unfolding list_changed
changed_some l c e = rw e

pub none_of : (a : Converter) → a.depth ≡ 0 → is_empty (lists_of a) ≡ true
none_of a h = ap (λ (n : ℕ). is_empty (upto n a.lists)) h

pub some_of : (a : Converter) → (a.depth ≡ 0 → ⊥) → is_empty (lists_of a) ≡ false
some_of a h = ap is_empty (upto_last a.depth a.lists (omega arith))

pub list_full : (first : ℕ) (c : State) → 64 ≤ length c.lists → none ≡ list_tag first false c
unfolding list_tag
list_full first c h = rw (le-leb _ _ h)

pub list_opened : (first : ℕ) (c : State) → length c.lists < 64 → some (list_changed (first ∷ c.lists) c) ≡ list_tag first false c
unfolding list_tag
list_opened first c h = rw (lt-leb _ _ h)

-- ---- a tag's step
pub listed_list : (kind : ListKind) (closing : Bool) (c : State) → list_tag (first_number kind) closing c ≡ listed (tag_means (Lists kind)) closing c
unfolding list_tag listed tag
listed_list Ordered true c = refl
listed_list Ordered false c = refl
listed_list Unordered true c = refl
listed_list Unordered false c = refl

no_list : (t : Tag) (closing : Bool) (c : State) → is_list t ≡ false → some (tag t closing c) ≡ listed t closing c
unfolding listed
no_list t closing c h = rw h

pub listed_step : (t : Step) (closing : Bool) (c : State) → some (tag (step_means t) closing c) ≡ listed (step_means t) closing c
listed_step (Heading n) closing c = no_list _ closing c refl
listed_step Block closing c = no_list _ closing c refl
listed_step Pre closing c = no_list _ closing c refl
listed_step Break closing c = no_list _ closing c refl
listed_step Item closing c = no_list _ closing c refl
listed_step Row closing c = no_list _ closing c refl
listed_step Cell closing c = no_list _ closing c refl
listed_step Strong closing c = no_list _ closing c refl
listed_step Emphasis closing c = no_list _ closing c refl
listed_step Code closing c = no_list _ closing c refl
listed_step Other closing c = no_list _ closing c refl

pub listed_other : (closing : Bool) (c : State) → some c ≡ listed other closing c
unfolding tag
listed_other closing c = no_list other closing c refl

pub heading_open : (k : ℕ) (b : State) → push_str (32 ∷ []) (push_str (replicate k 35) b) ≡ push_str (repeat k "#" ++ str " ") b
heading_open k b = rw (reverse_aux-append (repeat k "#") (32 ∷ []) b.out, hashes_is k b.out)

-- what the calls of `heading` answered, put together
pub heading_written : (b : Converter) (w w1 w2 : List ℕ) (k i m : ℕ) (c : State) → state_of b w ≡ block c
    → out_of i w1 ≡ reverse_aux (replicate k 35) (out_of b.len w) → out_of m w2 ≡ 32 ∷ out_of i w1
    → with_out (out_of m w2) b.space (state_of b w) ≡ push_str (repeat k "#" ++ str " ") (block c)
unfolding state_of
heading_written b w w1 w2 k i m c e f g =
    ap (λ (o : List ℕ). with_out o b.space (state_of b w)) (g ∙ ap (λ (o : List ℕ). 32 ∷ o) f)
    ∙ heading_open k (state_of b w)
    ∙ ap (push_str (repeat k "#" ++ str " ")) e

-- `code` in and outside `pre`
pub code_pre : (closing : Bool) (c : State) → c.pre ≡ true → c ≡ tag code closing c
unfolding tag
code_pre closing c h = sym (ap (λ (t : Bool). if t then c else marks (str "`") closing c) h)

pub code_out : (closing : Bool) (c : State) → c.pre ≡ false → marks (96 ∷ []) closing c ≡ tag code closing c
unfolding tag
code_out closing c h = sym (ap (λ (t : Bool). if t then c else marks (str "`") closing c) h)

-- ---- what the calls of `list` and `item` answered, put together
pub list_closes : (first : ℕ) (a k r : Converter) (w w' : List ℕ) → state_of k w ≡ with_lists (tail (lists_of a)) (state_of a w)
    → state_of r w' ≡ list_changed (lists_of k) (state_of k w) → some (state_of r w') ≡ list_tag first true (state_of a w)
unfolding list_tag list_changed
list_closes first a k r w w' e f =
    let m = lists_is a w _ refl in
    ap some (f ∙ ap (λ (x : List ℕ). list_changed x (state_of k w)) (lists_is k w _ e ∙ ap tail m) ∙ ap (list_changed (tail (state_of a w).lists)) e)

pub list_opens : (first : ℕ) (a k r : Converter) (w w' : List ℕ) → a.depth < 64 → state_of k w ≡ with_lists (first ∷ lists_of a) (state_of a w)
    → state_of r w' ≡ list_changed (lists_of k) (state_of k w) → some (state_of r w') ≡ list_tag first false (state_of a w)
unfolding list_changed
list_opens first a k r w w' h e f =
    let m = lists_is a w _ refl in
    ap some (f ∙ ap (λ (x : List ℕ). list_changed x (state_of k w)) (lists_is k w _ e ∙ ap (λ (x : List ℕ). first ∷ x) m) ∙ ap (list_changed (first ∷ (state_of a w).lists)) e)
    ∙ list_opened first (state_of a w) (omega (arith, depth_is a w _ refl))

-- the innermost list's number stands at the array's end
pub number_is : (n : ℕ) (l : List ℕ) → 0 < n → number (upto n l) ≡ get_or l (n - 1) 0
unfolding number
number_is n l h = ap number (upto_last n l h)

twice : (n : ℕ) (l : List ℕ) → 2 * (n - 1) ≡ 2 * length (upto (n - 1) l)
twice n l = ap (λ (m : ℕ). 2 * m) (sym (length_upto (n - 1) l))

module _ (a : Converter) (w w1 : List ℕ) (n i : ℕ) (h : 0 < a.depth) (e : n ≡ get_or a.lists (a.depth - 1) 0)
    (f : out_of i w1 ≡ reverse_aux (replicate (2 * (a.depth - 1)) 32) (out_of a.len w))
  where
    last_is : lists_of a ≡ n ∷ upto (a.depth - 1) a.lists
    last_is = upto_last a.depth a.lists h ∙ ap (λ (x : ℕ). x ∷ upto (a.depth - 1) a.lists) (sym e)

    pub item_bullets : (m : ℕ) (w2 : List ℕ) → n ≡ 0 → out_of m w2 ≡ reverse_aux (45 ∷ 32 ∷ []) (out_of i w1)
        → with_out (out_of m w2) a.space (state_of a w) ≡ item (lists_of a) (state_of a w)
    unfolding state_of
    item_bullets m w2 z g =
        ap (λ (o : List ℕ). with_out o a.space (state_of a w)) (g ∙ ap (reverse_aux (45 ∷ 32 ∷ [])) f)
        ∙ item_bullet (lists_of a) (upto (a.depth - 1) a.lists) n (2 * (a.depth - 1)) (state_of a w) last_is z (twice a.depth a.lists)

    pub item_numbers : (j m : ℕ) (w2 w3 : List ℕ) → (n ≡ 0 → ⊥) → a.depth ≤ length a.lists → out_of j w2 ≡ reverse_aux (decimal n) (out_of i w1)
        → out_of m w3 ≡ reverse_aux (46 ∷ 32 ∷ []) (out_of j w2)
        → with_lists (upto a.depth (set a.lists (a.depth - 1) (n + 1))) (with_out (out_of m w3) a.space (state_of a w)) ≡ item (lists_of a) (state_of a w)
    unfolding state_of
    item_numbers j m w2 w3 z k g q =
        ap (λ (x : List ℕ). with_lists x (with_out (out_of m w3) a.space (state_of a w))) (upto_top a.depth a.lists (n + 1) h k ∙ ap (λ (x : List ℕ). (n + 1) ∷ tail x) last_is)
        ∙ ap (λ (o : List ℕ). with_lists ((n + 1) ∷ upto (a.depth - 1) a.lists) (with_out o a.space (state_of a w))) (q ∙ ap (reverse_aux (46 ∷ 32 ∷ [])) (g ∙ ap (reverse_aux (decimal n)) f))
        ∙ item_number (lists_of a) (upto (a.depth - 1) a.lists) n (2 * (a.depth - 1)) (state_of a w) last_is z (twice a.depth a.lists)

-- a new line leaves the lists as they are
pub newline_same : (a r : Converter) (w w' : List ℕ) → state_of r w' ≡ newline (state_of a w) → lists_of r ≡ lists_of a
newline_same a r w w' e = lists_is r w' _ e ∙ newline_lists (state_of a w) ∙ sym (lists_is a w _ refl)

pub item_tag : (a r : Converter) (w w' : List ℕ) → state_of r w' ≡ newline (state_of a w)
    → item (lists_of r) (state_of r w') ≡ tag (step_means Item) false (state_of a w)
unfolding tag
item_tag a r w w' e = ap (λ (x : List ℕ). item x (state_of r w')) (newline_same a r w w' e ∙ lists_is a w _ refl) ∙ ap (item (state_of a w).lists) e

-- ---- a pending space, written
pub spaced_with : (s : State) (o : List ℕ) (sp : Bool) → spaced (with_out o sp s) ≡ with_out (with_space sp o) false s
unfolding spaced
spaced_with s o true = refl
spaced_with s o false = refl

pub spaced_state : (a : Converter) (n : ℕ) (w w' : List ℕ) → out_of n w' ≡ with_space a.space (out_of a.len w)
    → with_out (out_of n w') false (state_of a w) ≡ spaced (state_of a w)
unfolding state_of
spaced_state a n w w' e = ap (λ (o : List ℕ). with_out o false (state_of a w)) e ∙ sym (spaced_with (state_of a w) (out_of a.len w) a.space)

pub out_len : (r : ℕ) (w o : List ℕ) → out_of r w ≡ o → r ≡ size o
out_len r w o e = sym (size_out r w) ∙ ap size e

pub spaced_len : (r n : ℕ) (w w' : List ℕ) (sp : Bool) → out_of r w' ≡ with_space sp (out_of n w) → r ≡ n + pending sp
unfolding size
spaced_len r n w w' true e = omega (arith, out_len r w' _ e, size_out n w, ap length (utf8_1 32 (omega arith)))
spaced_len r n w w' false e = omega (arith, out_len r w' _ e, size_out n w)

pub put_len : (r n c : ℕ) (w w' : List ℕ) → out_of r w' ≡ c ∷ out_of n w → r ≡ n + length (utf8 c)
unfolding size
put_len r n c w w' e = omega (arith, out_len r w' _ e, size_out n w)

-- What the loop over a page keeps: at most 64 lists are open, a list's number is bounded by what its items left in the output, and the output stays
-- below a bound.
-- Assumes nothing.
use Prim.Native.Nat.{ℕ, zero, suc, ◌+◌, ◌*◌, ◌^◌, ◌≤◌, ◌<◌, min}
use native.Mathlib.Omega.{arith}
use mathlib.Core.Path.{◌≡◌, refl, sym, ap, ◌∙◌, subst}
use mathlib.Core.Bool.{Bool, true, false, not, ◌&&◌, ◌||◌}
use mathlib.Core.Option.{Option, some, none}
use mathlib.Core.List.{List, [], ◌∷◌, ◌++◌, tail}
use lib.Dec.{leb}
use lib.ListN.{length, get_or, take, drop, replicate, take-append-drop}
use borrow.Author.Tests.{leb-false}
use Rattle.text.specs.Words.{case, str, repeat, is_empty, same, starts, find}
use Rattle.text.specs.Utf8.{size}
use Rattle.text.specs.Trim.{trim}
use Rattle.text.specs.Decimal.{decimal}
use Rattle.text.specs.Chars.{Ascii}
use Rattle.text.proofs.Tests.{on}
use Rattle.text.proofs.Utf8.{utf8_1}
use Rattle.text.proofs.Laws.{size_append, size_aux}
use Rattle.html.specs.State.{State, new, with_lists, with_skip, push_str, block, newline, marks, list_changed, item, heading, tag, tag_of, text}
use Rattle.html.specs.Page.{listed, shown, skipped, element, inside, words, Turn, read, refused, tag_read, comment, a_tag, markup, turn}
use Rattle.html.specs.Struct.{tag_means, step_means, list_tag, first_number}
use Rattle.text.proofs.AsciiLaws.{size_ascii}
use Rattle.html.specs.Names.{says}
use Rattle.html.specs.declared.Tag.{Tag}
use Rattle.html.specs.declared.Tag.TheVariants.{List as Lists, Skipped, Writes}
use Rattle.html.specs.declared.ListKind.{ListKind}
use Rattle.html.specs.declared.ListKind.TheVariants.{Unordered, Ordered}
use Rattle.html.specs.declared.Step.{Step}
use Rattle.html.specs.declared.Step.TheVariants.{Heading, Block, Pre, Break, Item, Row, Cell, Strong, Emphasis, Code, Other}
use Rattle.html.proofs.NumberLaws.{decimal_few}
use Rattle.html.proofs.GrowLaws.{decimal_ascii, grow_str, grow_times, grow_block, grow_newline, grow_marks}
use Rattle.html.proofs.StepLaws.{block_lists, newline_lists, spaced_lists, heading_open, listed_list, listed_step, listed_other}
use Rattle.html.proofs.NameLaws.{says_means}
use Rattle.html.proofs.TextLaws.{text_size, text_lists}
use Rattle.html.proofs.KeptLaws.{kept, kept_more, kept_block, kept_newline, kept_marks, kept_text, item_kept, item_more}

pub record Fit (n : ℕ) (c : State) : Type 0 where
  pub few : length c.lists ≤ 64
  pub small : (k : ℕ) → get_or c.lists k 0 ≤ 1 + kept c.out
  pub short : size c.out ≤ n

pub fit_new : Fit 0 new
unfolding size
fit_new = record { few = omega arith; small = λ k. omega arith; short = omega arith }

pub fit_more : (n n' : ℕ) (c : State) → n ≤ n' → Fit n c → Fit n' c
fit_more n n' c q f = record { few = f.few; small = f.small; short = omega (arith, f.short) }

-- the lists are those of another state
module _ (n : ℕ) (c : State) (f : Fit n c) where
  like : (j : ℕ) (d : State) → d.lists ≡ c.lists → size d.out ≤ size c.out + j → kept c.out ≤ kept d.out → Fit (n + j) d
  like j d e h q = record { few = rw e f.few; small = λ k. rw e (omega (arith, f.small k)); short = omega (arith, f.short) }

  -- nothing is changed
  stays : (j : ℕ) → Fit (n + j) c
  stays j = like j c refl (omega arith) (omega arith)

-- ---- items
pub size_indent : (k : ℕ) → size (repeat k "  ") ≡ 2 * k
unfolding size
size_indent zero = refl
size_indent (suc k) = omega (arith, size_indent k, ap length (utf8_1 32 (omega arith)))

size_mark : (a : ℕ) → a < 0x80 → size (a ∷ 32 ∷ []) ≡ 2
size_mark a h = size_ascii (a ∷ 32 ∷ []) (h, (omega arith, tt))

item_size : (l : List ℕ) (c : State) → length l ≤ 64 → get_or l 0 0 < 2 ^ 64 → size (item l c).out ≤ size c.out + 148
unfolding item
item_size [] c h k = omega (arith, size_aux (45 ∷ 32 ∷ []) c.out, size_mark 45 (omega arith))
item_size (zero ∷ l) c h k =
    omega (arith, size_aux (repeat (length l) "  " ++ (45 ∷ 32 ∷ [])) c.out, size_append (repeat (length l) "  ") (45 ∷ 32 ∷ []), size_indent (length l), size_mark 45 (omega arith))
item_size (suc n ∷ l) c h k =
    let d = decimal (suc n) in
    let i = repeat (length l) "  " in
    let whole = size_aux (i ++ d ++ (46 ∷ 32 ∷ [])) c.out in
    let parts = size_append (i ++ d) (46 ∷ 32 ∷ []) in
    let digits = size_ascii d (decimal_ascii (suc n)) in
    omega (arith, whole, parts, size_append i d, size_indent (length l), size_mark 46 (omega arith), digits, decimal_few (suc n) k)

item_lists : (l : List ℕ) (c d : State) → c.lists ≡ l → d.lists ≡ l → length l ≤ 64 → ((k : ℕ) → get_or l k 0 ≤ 1 + kept c.out)
    → d ≡ newline c → (length (item l d).lists ≤ 64) × ((k : ℕ) → get_or (item l d).lists k 0 ≤ 1 + kept (item l d).out)
unfolding item
item_lists [] c d e e' h g q = (rw e' h, λ k. rw e' (omega arith))
item_lists (zero ∷ l) c d e e' h g q = (rw e' h, λ k. rw e' (omega (arith, g k, subst (λ x. kept c.out ≤ kept (item (zero ∷ l) x).out) (sym q) (item_more (zero ∷ l) c))))
item_lists (suc n ∷ l) c d e e' h g q = (h, next)
  where
    more : 1 + kept c.out ≤ kept (item (suc n ∷ l) d).out
    more = subst (λ x. 1 + kept c.out ≤ kept (item (suc n ∷ l) x).out) (sym q) (item_kept n l c)

    next : (k : ℕ) → get_or (suc (suc n) ∷ l) k 0 ≤ 1 + kept (item (suc n ∷ l) d).out
    next zero = omega (arith, g zero, more)
    next (suc k) = omega (arith, g (suc k), more)

item_fit : (n : ℕ) (c : State) → Fit n c → get_or c.lists 0 0 < 2 ^ 64 → Fit (n + 149) (item c.lists (newline c))
item_fit n c f b =
    let p = item_lists c.lists c (newline c) refl (newline_lists c) f.few f.small refl in
    record {
      few = p.0;
      small = p.1;
      short = omega (arith, item_size c.lists (newline c) f.few b, grow_newline c, f.short);
    }

-- ---- the tags that only write
heading_size : (n : ℕ) (closing : Bool) (c : State) → size (tag (heading n) closing c).out ≤ size c.out + 149
unfolding tag
heading_size n true c = omega (arith, grow_block c)
heading_size n false c =
    let k = min n 3 in
    let opened = ap (λ (d : State). size d.out) (heading_open k (block c)) in
    let space = grow_str (32 ∷ []) (omega arith, tt) (push_str (replicate k 35) (block c)) in
    omega (arith, opened, space, grow_times k 35 (omega arith) (block c), grow_block c)

heading_lists : (n : ℕ) (closing : Bool) (c : State) → (tag (heading n) closing c).lists ≡ c.lists
unfolding tag
heading_lists n true c = block_lists c
heading_lists n false c = block_lists c

marks_lists : (m : List ℕ) (closing : Bool) (c : State) → (marks m closing c).lists ≡ c.lists
unfolding marks
marks_lists m true c = refl
marks_lists m false c = spaced_lists c

marks_fit : (n : ℕ) (m : List ℕ) → Ascii m → length m ≤ 148 → (closing : Bool) (c : State) → Fit n c → Fit (n + 149) (marks m closing c)
marks_fit n m a h closing c f = like n c f 149 _ (marks_lists m closing c) (omega (arith, grow_marks m a closing c)) (kept_marks m closing c)

heading_kept : (n : ℕ) (closing : Bool) (c : State) → kept c.out ≤ kept (tag (heading n) closing c).out
unfolding tag
heading_kept n true c = kept_block c
heading_kept n false c = omega (arith, kept_block c, kept_more (repeat (min n 3) "#" ++ str " ") (block c).out)

step_fit : (n : ℕ) (t : Step) (closing : Bool) (c : State) → Fit n c → get_or c.lists 0 0 < 2 ^ 64 → Fit (n + 149) (tag (step_means t) closing c)
unfolding tag size
step_fit n (Heading k) closing c f b = like n c f 149 _ (heading_lists k closing c) (heading_size k closing c) (heading_kept k closing c)
step_fit n Block closing c f b = like n c f 149 _ (block_lists c) (omega (arith, grow_block c)) (kept_block c)
step_fit n Pre closing c f b = like n c f 149 _ (block_lists c) (omega (arith, grow_block c)) (kept_block c)
step_fit n Break true c f b = stays n c f 149
step_fit n Break false c f b = like n c f 149 _ refl (omega (arith, ap length (utf8_1 10 (omega arith)))) (kept_more (10 ∷ []) c.out)
step_fit n Item true c f b = stays n c f 149
step_fit n Item false c f b = item_fit n c f b
step_fit n Row true c f b = like n c f 149 _ (newline_lists c) (omega (arith, grow_newline c)) (kept_newline c)
step_fit n Row false c f b = stays n c f 149
step_fit n Cell true c f b =
    let bar : List ℕ = 32 ∷ 124 ∷ 32 ∷ [] in
    like n c f 149 _ refl (omega (arith, size_aux bar c.out, size_ascii bar (omega arith, (omega arith, (omega arith, tt))))) (kept_more bar c.out)
step_fit n Cell false c f b = stays n c f 149
step_fit n Strong closing c f b = marks_fit n (42 ∷ 42 ∷ []) (omega arith, (omega arith, tt)) (omega arith) closing c f
step_fit n Emphasis closing c f b = marks_fit n (42 ∷ []) (omega arith, tt) (omega arith) closing c f
step_fit n Code closing c f b =
    on (Fit (n + 149)) c.pre (λ _. stays n c f 149) (λ _. marks_fit n (96 ∷ []) (omega arith, tt) (omega arith) closing c f)
step_fit n Other closing c f b = stays n c f 149

-- ---- lists
changed_lists : (l : List ℕ) (c : State) → (list_changed l c).lists ≡ l
unfolding list_changed
changed_lists l c = on (λ (d : State). d.lists ≡ l) (is_empty l) (λ _. block_lists (newline (with_lists l c)) ∙ newline_lists (with_lists l c)) (λ _. newline_lists (with_lists l c))

changed_size : (l : List ℕ) (c : State) → size (list_changed l c).out ≤ size c.out + 3
unfolding list_changed
changed_size l c =
    on (λ (d : State). size d.out ≤ size c.out + 3) (is_empty l)
    (λ _. omega (arith, grow_block (newline (with_lists l c)), grow_newline (with_lists l c)))
    (λ _. omega (arith, grow_newline (with_lists l c)))

changed_kept : (l : List ℕ) (c : State) → kept c.out ≤ kept (list_changed l c).out
unfolding list_changed
changed_kept l c =
    let d = with_lists l c in
    on (λ (x : State). kept c.out ≤ kept x.out) (is_empty l)
    (λ _. omega (arith, kept_newline d, kept_block (newline d)))
    (λ _. kept_newline d)

changed_fit : (n : ℕ) (l : List ℕ) (c : State) → length l ≤ 64 → ((k : ℕ) → get_or l k 0 ≤ 1 + kept c.out) → size c.out ≤ n → Fit (n + 149) (list_changed l c)
changed_fit n l c h g s =
    record {
      few = rw (changed_lists l c) h;
      small = λ k. rw (changed_lists l c) (omega (arith, g k, changed_kept l c));
      short = omega (arith, changed_size l c);
    }

-- what holds of each state that an answer gives
abbrev Gives : (State → Type 0) → Option State → Type 0
Gives P none = Unit
Gives P (some d) = P d

tail_small : (m : ℕ) (l : List ℕ) → length l ≤ 64 → ((k : ℕ) → get_or l k 0 ≤ m) → (length (tail l) ≤ 64) × ((k : ℕ) → get_or (tail l) k 0 ≤ m)
tail_small m [] h g = (h, g)
tail_small m (x ∷ l) h g = (omega arith, λ k. g (suc k))

cons_small : (m x : ℕ) (l : List ℕ) → x ≤ 1 → ((k : ℕ) → get_or l k 0 ≤ 1 + m) → (k : ℕ) → get_or (x ∷ l) k 0 ≤ 1 + m
cons_small m x l h g zero = omega arith
cons_small m x l h g (suc k) = omega (arith, g k)

list_fit : (n first : ℕ) (closing : Bool) (c : State) → first ≤ 1 → Fit n c → Gives (Fit (n + 149)) (list_tag first closing c)
unfolding list_tag
list_fit n first true c h f =
    let t = tail_small (1 + kept c.out) c.lists f.few f.small in
    changed_fit n (tail c.lists) c t.0 t.1 f.short
list_fit n first false c h f =
    on (Gives (Fit (n + 149))) (leb 64 (length c.lists)) (λ _. tt)
    (λ e. let q = leb-false 64 (length c.lists) e in changed_fit n (first ∷ c.lists) c (omega arith) (cons_small (kept c.out) first c.lists h f.small) f.short)

first_most : (kind : ListKind) → first_number kind ≤ 1
first_most Ordered = omega arith
first_most Unordered = omega arith

tag_fit : (n : ℕ) (t : Tag) (closing : Bool) (c : State) → Fit n c → get_or c.lists 0 0 < 2 ^ 64 → Gives (Fit (n + 149)) (listed (tag_means t) closing c)
tag_fit n (Lists o) closing c f b = subst (Gives (Fit (n + 149))) (listed_list o closing c) (list_fit n (first_number o) closing c (first_most o) f)
tag_fit n (Skipped k) closing c f b = subst (Gives (Fit (n + 149))) (listed_other closing c) (stays n c f 149)
tag_fit n (Writes t) closing c f b = subst (Gives (Fit (n + 149))) (listed_step t closing c) (step_fit n t closing c f b)

-- ---- a tag of the page, and the text before it
element_fit : (n : ℕ) (closing : Bool) (name : List ℕ) (c : State) → Fit n c → get_or c.lists 0 0 < 2 ^ 64 → Gives (Fit (n + 149)) (element closing name c)
unfolding element shown skipped
element_fit n closing name c f b = go c.skip
  where
    P : Option State → Type 0
    P = Gives (Fit (n + 149))

    tagged : P (listed (tag_of name) closing c)
    tagged = subst (λ t. P (listed t closing c)) (says_means name) (tag_fit n (says name) closing c f b)

    other_skip : (k : Option (List ℕ)) → Fit (n + 149) (with_skip k c)
    other_skip k = like n c f 149 _ refl (omega arith) (omega arith)

    go : (o : Option (List ℕ)) → P (case o (shown closing name c) (λ skipping. skipped closing name skipping c))
    go none = on P (not closing && (same (str "script") name || same (str "style") name)) (λ _. other_skip (some name)) (λ _. tagged)
    go (some s) = on (Fit (n + 149)) (closing && same s name) (λ _. other_skip none) (λ _. stays n c f 149)

inside_fit : (n : ℕ) (inner : List ℕ) (c : State) → Fit n c → get_or c.lists 0 0 < 2 ^ 64 → Gives (Fit (n + 149)) (inside inner c)
unfolding inside
inside_fit n inner c f b = element_fit n (starts "/" inner) _ c f b

pub words_size : (raw : List ℕ) (c : State) → size (words raw c).out ≤ size c.out + 1 + 2 * size raw
unfolding words
words_size raw c = go c.skip
  where
    go : (o : Option (List ℕ)) → size (case o (text raw c) (λ skipping. c)).out ≤ size c.out + 1 + 2 * size raw
    go none = text_size raw c
    go (some s) = omega arith

pub words_lists : (raw : List ℕ) (c : State) → (words raw c).lists ≡ c.lists
unfolding words
words_lists raw c = go c.skip
  where
    go : (o : Option (List ℕ)) → (case o (text raw c) (λ skipping. c)).lists ≡ c.lists
    go none = text_lists raw c
    go (some s) = refl

words_kept : (raw : List ℕ) (c : State) → kept c.out ≤ kept (words raw c).out
unfolding words
words_kept raw c = go c.skip
  where
    go : (o : Option (List ℕ)) → kept c.out ≤ kept (case o (text raw c) (λ skipping. c)).out
    go none = kept_text raw c
    go (some s) = omega arith

words_fit : (n : ℕ) (raw : List ℕ) (c : State) → Fit n c → Fit (n + (1 + 2 * size raw)) (words raw c)
words_fit n raw c f = like n c f (1 + 2 * size raw) _ (words_lists raw c) (omega (arith, words_size raw c)) (words_kept raw c)

-- ---- a turn
abbrev pub OnTurn : (State → Type 0) → Turn → Type 0
OnTurn P refused = Unit
OnTurn P (read n d) = P d

take_size : (k : ℕ) (s : List ℕ) → size (take k s) ≤ size s
take_size k s = omega (arith, size_append (take k s) (drop k s), ap size (take-append-drop k s))

pub turn_fit : (n : ℕ) (s : List ℕ) (c : State) → Fit n c → get_or c.lists 0 0 < 2 ^ 64 → OnTurn (Fit (n + 150 + 2 * size s)) (turn s c)
unfolding turn markup comment a_tag
turn_fit n s c f b = go (find "<" s)
  where
    P : State → Type 0
    P = Fit (n + 150 + 2 * size s)

    same_lists : (raw : List ℕ) → size raw ≤ size s → P (words raw c)
    same_lists raw h = fit_more (n + (1 + 2 * size raw)) (n + 150 + 2 * size s) (words raw c) (omega arith) (words_fit n raw c f)

    few : (raw : List ℕ) → get_or (words raw c).lists 0 0 < 2 ^ 64
    few raw = rw (words_lists raw c) b

    after : (raw : List ℕ) → size raw ≤ size s → (k : ℕ) (o : Option State) → Gives (Fit (n + (1 + 2 * size raw) + 149)) o → OnTurn P (tag_read k o)
    after raw h k none g = tt
    after raw h k (some d) g = fit_more (n + (1 + 2 * size raw) + 149) (n + 150 + 2 * size s) d (omega arith) g

    go : (o : Option ℕ) → OnTurn P (case o (read (length s) (words s c)) (λ at. markup at (drop at s) (words (take at s) c)))
    go none = same_lists s (omega arith)
    go (some at) =
        on (OnTurn P) (starts "<!--" (drop at s))
        (λ _. close (find "-->" (drop 4 (drop at s))))
        (λ _. end (find ">" (drop at s)))
      where
        close : (o : Option ℕ) → OnTurn P (case o (read (at + length (drop at s)) (words (take at s) c)) (λ e. read (at + 4 + e + 3) (words (take at s) c)))
        close none = same_lists (take at s) (take_size at s)
        close (some e) = same_lists (take at s) (take_size at s)

        end : (o : Option ℕ) → OnTurn P (case o (read (at + length (drop at s)) (words (take at s) c)) (λ e. tag_read (at + e + 1) (inside (trim (drop 1 (take e (drop at s)))) (words (take at s) c))))
        end none = same_lists (take at s) (take_size at s)
        end (some e) =
            let raw = take at s in
            let inner = trim (drop 1 (take e (drop at s))) in
            let made = inside_fit (n + (1 + 2 * size raw)) inner (words raw c) (words_fit n raw c f) (few raw) in
            after raw (take_size at s) (at + e + 1) (inside inner (words raw c)) made

-- Items and lists: what the reader's answers are made of, and the loop over a list's items.
-- Assumes nothing.
use Rattle.std.proofs.Common.{◌≡◌, refl, sym, ◌∙◌, ap, ℕ, suc, ◌+◌, ◌≤◌, ◌<◌, arith, le_refl, List, [], ◌∷◌, ◌++◌, length, length-append}
use Rattle.std.proofs.Math.Option.{none, some}
use Rattle.text.specs.Words.{str, ◌>>=◌}
use Rattle.text.specs.Utf8.{size, chars}
use Rattle.sheet.specs.Reading.{◌<|>◌, strip}
use Rattle.sheet.specs.Tree.{Run, Mark, ul, ol, Items, Item, alone, with, items}
use Rattle.sheet.specs.Grammar.{IsList, closes, opens}
use Rattle.sheet.specs.Reader.{Answer, nl?, line, then_nl, item, some_items, marked, list_of, read_list}
use Rattle.sheet.specs.Written.{place, rows_from}
use Rattle.sheet.specs.Weight.{weight, alike, added}
use Rattle.sheet.specs.Says.{Weighs}
use Rattle.sheet.specs.Forms.{led_rows, item_form, list_form, mark_of, IsMark}
use Rattle.sheet.proofs.ReadingLaws.{strip_inv}
use Rattle.sheet.proofs.Sound.{marked_inv, nl_sound, line_sound, item_sound, read_list_sound}
use Rattle.sheet.proofs.EachLine.{nl_kept, line_kept, item_kept, list_kept}
use Rattle.sheet.proofs.PageSize.{li_size, opens_size}
use Rattle.sheet.proofs.Shrinks.{nl_shrinks, items_shrink}
use Rattle.sheet.specs.declared.count.Count.{Count}
use Rattle.sheet.specs.declared.reading.Read.{Read}
use Rattle.sheet.specs.declared.list.Mark as M
use Rattle.sheet.proofs.TestCount.{weight_append}
use Rattle.sheet.proofs.TestMany.{every, many_every, ReadTo, to_none, to_more, to_stop}
use Rattle.sheet.proofs.TestSays.{Got}
use Rattle.sheet.proofs.TestForms.{rows_snoc}

-- ---- an item
module _ (read : List ℕ → Answer (Mark × Items)) (s : List ℕ) where
  pub item_1 : strip (str "<li>") s ≡ none → item read s ≡ none
  unfolding item
  item_1 e = rw e

  module _ (s₁ : List ℕ) (e : strip (str "<li>") s ≡ some s₁) where
    pub item_2 : line s₁ ≡ none → item read s ≡ none
    unfolding item
    item_2 f = rw (e, f)

    module _ (l : List Run) (s₂ : List ℕ) (f : line s₁ ≡ some (l, s₂)) where
      pub item_3 : {r : List ℕ} → strip (str "</li>") s₂ ≡ some r → item read s ≡ some (alone l, r)
      unfolding item
      item_3 g = rw (e, f, g)

      module _ (g : strip (str "</li>") s₂ ≡ none) (s₃ : List ℕ) (h : s₃ ≡ nl? s₂) where
        pub item_4 : read s₃ ≡ none → item read s ≡ none
        unfolding item
        item_4 i = rw (e, f, g, ← h, i)

        module _ (x : Mark × Items) (s₄ s₅ : List ℕ) (i : read s₃ ≡ some (x, s₄)) (j : s₅ ≡ nl? s₄) where
          pub item_5 : {r : List ℕ} → strip (str "</li>") s₅ ≡ some r → item read s ≡ some (with l x.0 x.1, r)
          unfolding item
          item_5 k = rw (e, f, g, ← h, i, ← j, k)

          pub item_6 : strip (str "</li>") s₅ ≡ none → item read s ≡ none
          unfolding item
          item_6 k = rw (e, f, g, ← h, i, ← j, k)

-- ---- what is left has fewer bytes
module _ (n : ℕ) where
  abbrev AtMost : List ℕ → Type 0
  AtMost s = size s ≤ n

  at_most_tail : (c : ℕ) (s : List ℕ) → AtMost (c ∷ s) → AtMost s
  unfolding size
  at_most_tail c s h = omega arith

line_bytes : (s : List ℕ) {l : List Run} {r : List ℕ} → line s ≡ some (l, r) → size r ≤ size s
line_bytes s {l} {r} e = line_kept (AtMost (size s)) (at_most_tail (size s)) s l r (line_sound s (l, r) e) (le_refl (size s))

nl_bytes : (s : List ℕ) → size (nl? s) ≤ size s
nl_bytes s = nl_kept (AtMost (size s)) (at_most_tail (size s)) (nl_sound s) (le_refl (size s))

item_bytes : (v : ℕ) (s : List ℕ) {x : Item} {r : List ℕ} → item (read_list v) s ≡ some (x, r) → size r ≤ size s
item_bytes v s {x} {r} e =
    item_kept (AtMost (size s)) (at_most_tail (size s)) (IsList v) (list_kept (AtMost (size s)) (at_most_tail (size s)) v) s x r
    (item_sound (IsList v) (read_list v) (read_list_sound v) s (x, r) e) (le_refl (size s))

-- the list in an item begins behind the item's line
pub list_behind : (s : List ℕ) {s₁ s₂ s₃ : List ℕ} {l : List Run} → strip (str "<li>") s ≡ some s₁ → line s₁ ≡ some (l, s₂) → s₃ ≡ nl? s₂ → size s₃ < size s
list_behind s {s₁} {s₂} {s₃} {l} e f g = omega (arith, ap size (strip_inv (str "<li>") s e), li_size s₁, line_bytes s₁ f, ap size g, nl_bytes s₂)

-- ---- the tags of a list
-- the opening tag, as a function's proof has it
pub begun : (s : List ℕ) {v : Read M.Mark} → Got IsMark (marked ul s <|> marked ol s) v → (marked ul s <|> marked ol s) ≡ some (mark_of v.value, chars v.rest.now)
begun s {v} g = g.is ∙ ap (λ (m : Mark). some (m, chars v.rest.now)) g.value

pub items_behind : (s : List ℕ) {s₁ s₂ : List ℕ} {m : Mark} → (marked ul s <|> marked ol s) ≡ some (m, s₁) → s₂ ≡ nl? s₁ → size s₂ < size s
items_behind s {s₁} {s₂} {m} e f = omega (arith, ap size (marked_inv s (m, s₁) e), opens_size m s₁, ap size f, nl_bytes s₁)

-- ---- the loop over the items
pub record ItemsTo (v d : ℕ) (m : Mark) (s t : List ℕ) (n : ℕ) (w : Count) : Type 0 where
  pub read : List Item
  pub to : ReadTo (then_nl (item (read_list v))) s read t
  pub kept : w ≡ weight (led_rows (rows_from d m 1 (items read)))
  pub many : n ≡ length read
  pub later : length t + n ≤ length s
  pub fewer : size t ≤ size s

module _ (v d : ℕ) (m : Mark) where
  pub items_none : (s : List ℕ) {w : Count} → w ≡ alike 0 → ItemsTo v d m s s 0 w
  unfolding weight size led_rows rows_from
  items_none s {w} e = record { read = []; to = to_none (then_nl (item (read_list v))) s; kept = e; many = refl; later = omega arith; fewer = le_refl (size s) }

  -- what an item and NL? after it leave is shorter
  pub item_shrinks : (t : List ℕ) {t' : List ℕ} {x : Item} {r : List ℕ} → item (read_list v) t ≡ some (x, r) → t' ≡ nl? r → length t' < length t
  item_shrinks t {t'} {x} {r} e k = items_shrink v t (x, t') (rw (e, k))

  pub items_next : {s t : List ℕ} {n : ℕ} {w : Count} → ItemsTo v d m s t n w → {p : ℕ} {r : Read Count} {b : Count} {t' : List ℕ} → p ≡ place m (n + 1)
      → Got (Weighs (item_form d p)) (item (read_list v) t) r → t' ≡ nl? (chars r.rest.now) → b ≡ added w r.value → ItemsTo v d m s t' (n + 1) b
  items_next {s} {t} {n} {w} i {p} {r} {b} {t'} e g k f =
      let x = g.what in
      let xs = i.read in
      let q : p ≡ place m (length xs + 1) = e ∙ ap (λ (n : ℕ). place m (n + 1)) i.many in
      let c : b ≡ added (weight (led_rows (rows_from d m 1 (items xs)))) (weight (item_form d (place m (length xs + 1)) x)) =
      f ∙ cc (i.kept, g.value, ap (λ (p : ℕ). weight (item_form d p x)) q) in
      record {
        read = xs ++ (x ∷ []);
        to = to_more (then_nl (item (read_list v))) (items_shrink v) i.to (rw (g.is, k));
        kept = c ∙ sym (weight_append (led_rows (rows_from d m 1 (items xs))) (item_form d (place m (length xs + 1)) x)) ∙ ap weight (sym (rows_snoc d m 1 xs x));
        many = omega (arith, i.many, length-append xs (x ∷ []));
        later = omega (arith, i.later, item_shrinks t g.is k);
        fewer = omega (arith, i.fewer, item_bytes v t g.is, ap size k, nl_bytes (chars r.rest.now));
      }

-- ---- a list
pub list_0 : (d : ℕ) (s : List ℕ) → d ≡ 0 → read_list d s ≡ none
unfolding read_list
list_0 d s e = rw e

pub list_2 : (d : ℕ) (s : List ℕ) → (marked ul s <|> marked ol s) ≡ none → read_list (suc d) s ≡ none
unfolding read_list list_of
list_2 d s e = rw e

module _ (d : ℕ) (s : List ℕ) (m : Mark) (s₁ : List ℕ) (e : (marked ul s <|> marked ol s) ≡ some (m, s₁)) (s₂ : List ℕ) (f : s₂ ≡ nl? s₁)
    (xs : List Item) (s₃ : List ℕ) (g : every (then_nl (item (read_list d))) s₂ ≡ (xs, s₃)) where
  list_end : Answer (Mark × Items)
  list_end = some_items xs >>= λ its. strip (closes m) s₃ >>= λ r. some ((m, its), r)

  list_is : read_list (suc d) s ≡ list_end
  unfolding read_list list_of list_end
  list_is =
      let l₁ = ap length (marked_inv s (m, s₁) e) ∙ length-append (opens m) s₁ in
      let l₂ = nl_shrinks s₁ in
      let l₃ = ap length f in
      rw (e, ← f, many_every (then_nl (item (read_list d))) (items_shrink d) (length s) s₂ (omega arith), g)

  empty : length xs ≡ 0 → read_list (suc d) s ≡ none
  unfolding list_end
  empty q = list_is ∙ go xs q
    where
      go : (xs : List Item) → length xs ≡ 0 → ◌>>=◌ {B = (Mark × Items) × List ℕ} (some_items xs) (λ its. strip (closes m) s₃ >>= λ r. some ((m, its), r)) ≡ none
      go [] q = refl
      go (x ∷ xs) q = absurd (omega arith)

  not_closed : strip (closes m) s₃ ≡ none → read_list (suc d) s ≡ none
  unfolding list_end
  not_closed q = list_is ∙ go xs
    where
      go : (xs : List Item) → ◌>>=◌ {B = (Mark × Items) × List ℕ} (some_items xs) (λ its. strip (closes m) s₃ >>= λ r. some ((m, its), r)) ≡ none
      go [] = refl
      go (x ∷ xs) = rw q

  closed : {r : List ℕ} → (length xs ≡ 0 → ⊥) → strip (closes m) s₃ ≡ some r → read_list (suc d) s ≡ some ((m, items xs), r)
  unfolding list_end
  closed {r} n q = list_is ∙ go xs n
    where
      go : (xs : List Item) → (length xs ≡ 0 → ⊥) → ◌>>=◌ {B = (Mark × Items) × List ℕ} (some_items xs) (λ its. strip (closes m) s₃ >>= λ r. some ((m, its), r)) ≡ some ((m, items xs), r)
      go [] n = absurd (n refl)
      go (x ∷ xs) n = rw q

module _ (d : ℕ) (s : List ℕ) (b : M.Mark) {s₁ s₂ : List ℕ} (o : (marked ul s <|> marked ol s) ≡ some (mark_of b, s₁)) (k : s₂ ≡ nl? s₁) {v n : ℕ} {t : List ℕ} {w : Count}
    (i : ItemsTo d v (mark_of b) s₂ t n w) (e : item (read_list d) t ≡ none) where
  all_items : every (then_nl (item (read_list d))) s₂ ≡ (i.read, t)
  all_items = to_stop (then_nl (item (read_list d))) i.to (rw e)

  pub list_3 : n ≡ 0 → read_list (suc d) s ≡ none
  list_3 z = empty d s (mark_of b) s₁ o s₂ k i.read t all_items (omega (arith, i.many))

  pub list_4 : strip (closes (mark_of b)) t ≡ none → read_list (suc d) s ≡ none
  list_4 q = not_closed d s (mark_of b) s₁ o s₂ k i.read t all_items q

  pub list_5 : (n ≡ 0 → ⊥) → {r : List ℕ} → strip (closes (mark_of b)) t ≡ some r → read_list (suc d) s ≡ some ((mark_of b, items i.read), r)
  list_5 z q = closed d s (mark_of b) s₁ o s₂ k i.read t all_items (λ u. z (i.many ∙ u)) q

  pub list_weight : {u : ℕ} → v ≡ u → w ≡ weight (list_form u (mark_of b, items i.read))
  unfolding list_form
  list_weight z = i.kept ∙ ap (λ (v : ℕ). weight (led_rows (rows_from v (mark_of b) 1 (items i.read)))) z

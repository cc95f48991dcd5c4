-- What holds of every line of a page holds of every row of its tree. Q is a fact about what is still to be read, which goes on holding after
-- each character; P is the fact about a line that follows.
-- Assumes nothing.
use Rattle.std.proofs.Common.{ℕ, zero, suc, ◌+◌, ◌≤◌, ◌<◌, arith, List, [], ◌∷◌, ◌++◌}
use Rattle.text.specs.Words.{str}
use Rattle.sheet.specs.Tree.{Run, Mark, Items, Item, cons, items, Block, heading, para, list}
use Rattle.sheet.specs.Grammar as G
use Rattle.sheet.specs.Grammar.{opens, opens_h, closes, closes_h, before, after, NL, Char, Many, stop, more, IsRun, is_run, Line, ThenNL, IsItem, is_alone, is_with, IsList}
use Rattle.sheet.specs.Grammar.{IsBlock, is_heading, is_para, IsPage}
use Rattle.sheet.specs.Written.{Row, item, rows_from}

-- the rows of a list: items only, at most 8 deep
pub data Entries (P : List Run → Type 0) : List Row → Type 0 where
  none : Entries P []
  one : {d n : ℕ} {l : List Run} {rs : List Row} → d < 8 → P l → Entries P rs → Entries P (item d n l ∷ rs)

pub entries_append : {P : List Run → Type 0} {a b : List Row} → Entries P a → Entries P b → Entries P (a ++ b)
entries_append none f = f
entries_append (one h p e) f = one h p (entries_append e f)

pub data Lines (P : List Run → Type 0) : Block → Type 0 where
  a_heading : {n : ℕ} {l : List Run} → 1 ≤ n → P l → Lines P (heading n l)
  a_para : {l : List Run} → P l → Lines P (para l)
  a_list : {m : Mark} (it : Item) (its : List Item) → Entries P (rows_from 0 m 1 (items (it ∷ its))) → Lines P (list m (items (it ∷ its)))

pub data Each (P : List Run → Type 0) : List Block → Type 0 where
  none : Each P []
  one : {b : Block} {bs : List Block} → Lines P b → Each P bs → Each P (b ∷ bs)

-- ---- Q goes on holding
module _ (Q : List ℕ → Type 0) (tail : (c : ℕ) (s : List ℕ) → Q (c ∷ s) → Q s) where
  abbrev pub Kept : {A : Type 0} → (List ℕ → A → List ℕ → Type 0) → Type 0
  Kept {A} R = (s : List ℕ) (x : A) (r : List ℕ) → R s x r → Q s → Q r

  pub past : (p s : List ℕ) → Q (p ++ s) → Q s
  past [] s q = q
  past (c ∷ p) s q = past p s (tail c (p ++ s) q)

  pub nl_kept : {s r : List ℕ} → NL s r → Q s → Q r
  nl_kept G.no_nl q = q
  nl_kept (G.nl {s}) q = tail 10 s q

  pub char_kept : Kept Char
  char_kept _ _ s G.&lt q = past (str "&lt;") s q
  char_kept _ _ s G.&amp q = past (str "&amp;") s q
  char_kept _ _ s G.&gt q = past (str "&gt;") s q
  char_kept _ _ s G.&quot q = past (str "&quot;") s q
  char_kept _ _ s G.blank q = past (str " ") s q
  char_kept _ _ s (G.own c h) q = tail c s q

  pub many_kept : {A : Type 0} (R : List ℕ → A → List ℕ → Type 0) {s r : List ℕ} {xs : List A} → Kept R → Many R s xs r → Q s → Q r
  many_kept R k stop q = q
  many_kept R k (more {s} {m} {r} {x} h ms) q = many_kept R k ms (k s x m h q)

  pub run_kept : Kept IsRun
  run_kept _ _ m (is_run {s} k (G.text ms) f) q = past (after k) m (many_kept Char char_kept ms (past (before k) s q))

  pub line_kept : Kept Line
  line_kept _ _ _ (G.line ms f) q = many_kept IsRun run_kept ms q

  then_kept : {A : Type 0} (R : List ℕ → A → List ℕ → Type 0) → Kept R → Kept (ThenNL R)
  then_kept R k _ _ _ (G.then {s} {m} {r} {x} h n) q = nl_kept n (k s x m h q)

  abbrev ListsKept : (List ℕ → Mark → Items → List ℕ → Type 0) → Type 0
  ListsKept L = (s : List ℕ) (m : Mark) (its : Items) (r : List ℕ) → L s m its r → Q s → Q r

  pub item_kept : (L : List ℕ → Mark → Items → List ℕ → Type 0) → ListsKept L → Kept (IsItem L)
  item_kept L k _ _ r (is_alone {s} {l = l} ln) q = past (str "</li>") r (line_kept s l (str "</li>" ++ r) ln (past (str "<li>") s q))
  item_kept L k _ _ r (is_with {s} {s₁} {s₂} {s₃} {l = l} {m = m} {its = its} ln a h b) q =
      past (str "</li>") r (nl_kept b (k s₂ m its s₃ h (nl_kept a (line_kept s l s₁ ln (past (str "<li>") s q)))))

  pub list_kept : (d : ℕ) → ListsKept (IsList d)
  list_kept zero s m its r h q = absurd h
  list_kept (suc d) _ _ _ r (G.is_list {s} m a ms) q =
      past (closes m) r (many_kept (ThenNL (IsItem (IsList d))) (then_kept (IsItem (IsList d)) (item_kept (IsList d) (list_kept d))) ms (nl_kept a (past (opens m) s q)))

  block_kept : Kept IsBlock
  block_kept _ _ r (is_heading {s} {l = l} n lo hi ln) q = past (closes_h n) r (line_kept s l (closes_h n ++ r) ln (past (opens_h n) s q))
  block_kept _ _ r (is_para {s} {l = l} ln) q = past (str "</p>") r (line_kept s l (str "</p>" ++ r) ln (past (str "<p>") s q))
  block_kept s _ r (G.is_list {m = m} {its = its} h) q = list_kept 8 s m its r h q

  -- ---- and P follows of each line
  module _ (P : List Run → Type 0) (of_line : (s : List ℕ) (l : List Run) (r : List ℕ) → Line s l r → Q s → P l) where
    -- k lists may be opened within the d that are open
    abbrev ListsSay : (List ℕ → Mark → Items → List ℕ → Type 0) → ℕ → Type 0
    ListsSay L k = (s : List ℕ) (m : Mark) (its : Items) (r : List ℕ) → L s m its r → Q s → (d n : ℕ) → d + k ≤ 8 → Entries P (rows_from d m n its)

    module _ (L : List ℕ → Mark → Items → List ℕ → Type 0) (k : ℕ) (say : ListsSay L k) (keep : ListsKept L) where
      item_rows : {s r : List ℕ} {it : Item} → IsItem L s it r → Q s → (d : ℕ) (m : Mark) (n : ℕ) (its : Items) → d + suc k ≤ 8
          → Entries P (rows_from d m (suc n) its) → Entries P (rows_from d m n (cons it its))
      unfolding rows_from
      item_rows (is_alone {s} {r} {l} ln) q d m n its h e = one {d = d} (omega arith) (of_line s l (str "</li>" ++ r) ln (past (str "<li>") s q)) e
      item_rows (is_with {s} {s₁} {s₂} {s₃} {l = l} {m = mk} {its = sub} ln a i b) q d m n its h e =
          let q₁ = past (str "<li>") s q in
          one {d = d} (omega arith) (of_line s l s₁ ln q₁)
          (entries_append (say s₂ mk sub s₃ i (nl_kept a (line_kept s l s₁ ln q₁)) (suc d) 1 (omega arith)) e)

      all_rows : {s r : List ℕ} {xs : List Item} → Many (ThenNL (IsItem L)) s xs r → Q s → (d : ℕ) (m : Mark) (n : ℕ) → d + suc k ≤ 8
          → Entries P (rows_from d m n (items xs))
      unfolding rows_from
      all_rows stop q d m n h = none
      all_rows (more {xs = its} (G.then {s} {m = u} {x = it} i a) ms) q d m n h =
          item_rows i q d m n (items its) h (all_rows ms (nl_kept a (item_kept L keep s it u i q)) d m (suc n) h)

    lists_say : (k : ℕ) → ListsSay (IsList k) k
    lists_say zero s m its r h q d n l = absurd h
    lists_say (suc k) _ _ _ r (G.is_list {s} m a ms) q d n l =
        all_rows (IsList k) k (lists_say k) (list_kept k) ms (nl_kept a (past (opens m) s q)) d m n l

    list_block : (k : ℕ) (s : List ℕ) (m : Mark) (its : Items) (r : List ℕ) → IsList k s m its r → Q s → k ≤ 8 → Lines P (list m its)
    list_block zero s m its r h q l = absurd h
    list_block (suc k) _ _ _ r (G.is_list {s} {it = it} {its = its} m a ms) q l =
        a_list it its (all_rows (IsList k) k (lists_say k) (list_kept k) ms (nl_kept a (past (opens m) s q)) 0 m 1 (omega arith))

    block_lines : {s r : List ℕ} {b : Block} → IsBlock s b r → Q s → Lines P b
    block_lines (is_heading {s} {r} {l} n lo hi ln) q = a_heading lo (of_line s l (closes_h n ++ r) ln (past (opens_h n) s q))
    block_lines (is_para {s} {r} {l} ln) q = a_para (of_line s l (str "</p>" ++ r) ln (past (str "<p>") s q))
    block_lines {s} {r} (G.is_list {m = m} {its = its} h) q = list_block 8 s m its r h q (omega arith)

    blocks_lines : {s r : List ℕ} {bs : List Block} → Many (ThenNL IsBlock) s bs r → Q s → Each P bs
    blocks_lines stop q = none
    blocks_lines (more (G.then {s} {m} {x = b} h n) ms) q = one (block_lines h q) (blocks_lines ms (nl_kept n (block_kept s b m h q)))

    pub page_lines : {s : List ℕ} {bs : List Block} → IsPage s bs → Q s → Each P bs
    page_lines (G.page n ms) q = blocks_lines ms (nl_kept n q)

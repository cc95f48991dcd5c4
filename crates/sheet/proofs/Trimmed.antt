-- What is trimmed off a sheet's output: only what stands after its written form.
-- Assumes nothing.
use Rattle.std.proofs.Common.{◌≡◌, refl, sym, ◌∙◌, ap, subst, ℕ, zero, suc, ◌≤◌, min, arith, false, ◌⊎◌, inl, inr, List, [], ◌∷◌, ◌++◌, map, reverse, append_assoc}
use mathlib.Core.List.{reverse-append, reverse-reverse}
use Rattle.text.specs.Words.{str, repeat, drop_while, trim_end_matches}
use Rattle.text.specs.Chars.{is_space}
use Rattle.text.specs.Decimal.{digits}
use Rattle.text.specs.Trim.{trim}
use Rattle.sheet.specs.Tree.{Run, Mark, ul, ol, Items, Item, alone, with, items, Block, list}
use Rattle.sheet.specs.Grammar as G
use Rattle.sheet.specs.Grammar.{Many, stop, more, Line, ThenNL, IsList, IsBlock, is_heading, is_para}
use Rattle.sheet.specs.Written.{written_runs, Row, item, place, rows_from, rows, written_row, joined, written_block, written}
use Rattle.sheet.proofs.Facts.{visible}
use Rattle.sheet.proofs.LineEnd.{space_first, solid_drop, Ended}
use Rattle.sheet.proofs.Fronts.{front_empty, front_solid, good_of, first_append}
use Rattle.sheet.proofs.PageOut.{gap, full_gap, block_out, wr, wr_written, wr_ended, after_first, written_first}

-- the written form starts with no space, whatever stands after it

abbrev pub Solid : List ℕ → Type 0
Solid w = (t : List ℕ) → space_first (w ++ t) ≡ false

pub line_solid : {s r : List ℕ} {rs : List Run} → Line s rs r → Solid (written_runs rs)
line_solid {rs = rs} ln t = let f = (good_of ln).front in first_append (written_runs rs) t (front_empty f) ∙ front_solid f

heading_solid : (n : ℕ) → 1 ≤ n → (x : List ℕ) → Solid (repeat (min n 3) "#" ++ x)
heading_solid n lo x t = go (min n 3) (omega arith)
  where
    go : (k : ℕ) → 1 ≤ k → space_first ((repeat k "#" ++ x) ++ t) ≡ false
    go zero h = absurd (omega arith)
    go (suc k) h = visible 35 (omega arith) (omega arith)

first_row : (r : Row) (rs : List Row) → Solid (written_row r) → Solid (joined (str "\n") (map written_row (r ∷ rs)))
unfolding joined
first_row r [] h t = h t
first_row r (q ∷ rs) h t = ap space_first (append_assoc (written_row r) (10 ∷ joined (str "\n") (map written_row (q ∷ rs))) t) ∙ h _

row_solid : (m : Mark) (l : List Run) → Solid (written_row (item 0 (place m 1) l))
unfolding is_space digits
row_solid ul l t = refl
row_solid ol l t = refl

items_solid : (m : Mark) (it : Item) (its : List Item) → Solid (written_block (list m (items (it ∷ its))))
unfolding rows rows_from
items_solid m (alone l) its = first_row (item 0 (place m 1) l) (rows_from 0 m 2 (items its)) (row_solid m l)
items_solid m (with l k sub) its = first_row (item 0 (place m 1) l) (rows_from 1 k 1 sub ++ rows_from 0 m 2 (items its)) (row_solid m l)

list_solid : (d : ℕ) (s r : List ℕ) (m : Mark) (its : Items) → IsList d s m its r → Solid (written_block (list m its))
list_solid zero s r m its h = absurd h
list_solid (suc d) s r _ _ (G.is_list {it = it} {its = its} m n q) = items_solid m it its

block_solid : {s r : List ℕ} {b : Block} → IsBlock s b r → Solid (written_block b)
unfolding joined rows
block_solid (is_para ln) = line_solid ln
block_solid (is_heading n lo hi ln) = heading_solid n lo _
block_solid {s = s} {r = r} (G.is_list {m = m} {its = its} h) = list_solid 8 s r m its h

written_solid : {s m : List ℕ} {b : Block} (bs : List Block) → IsBlock s b m → Solid (written (b ∷ bs))
written_solid {b = b} bs h t =
    ap (λ (w : List ℕ). space_first (w ++ t)) (written_first b bs) ∙ ap space_first (append_assoc (written_block b) (after_first bs) t) ∙ block_solid h (after_first bs ++ t)

-- the trim

trim_reverse : (o v : List ℕ) → space_first (reverse o) ≡ false → drop_while is_space o ≡ v → trim (reverse o) ≡ reverse v
unfolding trim_end_matches
trim_reverse o v e f =
    ap (λ (x : List ℕ). reverse (drop_while is_space (reverse x))) (solid_drop (reverse o) e)
    ∙ ap (λ (x : List ℕ). reverse (drop_while is_space x)) (reverse-reverse o)
    ∙ ap reverse f

-- bytes 10 off the end
one_off : (v : List ℕ) → Ended v → drop_while is_space (10 ∷ v) ≡ v
unfolding drop_while is_space
one_off v h = solid_drop v h.solid

two_off : (v : List ℕ) → Ended v → drop_while is_space (10 ∷ 10 ∷ v) ≡ v
unfolding drop_while is_space
two_off v h = solid_drop v h.solid

-- the output: the text w, last character first, and bytes 10 before that
trim_after : (n w : List ℕ) → Solid w → drop_while is_space (n ++ reverse w) ≡ reverse w → trim (reverse (n ++ reverse w)) ≡ w
trim_after n w h e = trim_reverse (n ++ reverse w) (reverse w) (ap space_first (turned n w) ∙ h (reverse n)) e ∙ reverse-reverse w
  where
    turned : (n w : List ℕ) → reverse (n ++ reverse w) ≡ w ++ reverse n
    turned n w = reverse-append n (reverse w) ∙ ap (λ (x : List ℕ). x ++ reverse n) (reverse-reverse w)

trim_out : (w o : List ℕ) → Solid w → Ended (reverse w) → (o ≡ gap (reverse w)) ⊎ (o ≡ 10 ∷ reverse w) → trim (reverse o) ≡ w
trim_out w o s h (inl e) = ap (λ (o : List ℕ). trim (reverse o)) (e ∙ sym (full_gap (reverse w) h)) ∙ trim_after (10 ∷ 10 ∷ []) w s (two_off (reverse w) h)
trim_out w o s h (inr e) = ap (λ (o : List ℕ). trim (reverse o)) e ∙ trim_after (10 ∷ []) w s (one_off (reverse w) h)

trim_nothing : (o : List ℕ) → (o ≡ []) ⊎ (o ≡ 10 ∷ []) → trim (reverse o) ≡ []
unfolding trim_end_matches drop_while is_space
trim_nothing o (inl e) = ap (λ (o : List ℕ). trim (reverse o)) e
trim_nothing o (inr e) = ap (λ (o : List ℕ). trim (reverse o)) e

pub trimmed : {s : List ℕ} {bs : List Block} → Many (ThenNL IsBlock) s bs [] → (o : List ℕ) → (o ≡ gap (wr bs [])) ⊎ (o ≡ 10 ∷ wr bs []) → trim (reverse o) ≡ written bs
unfolding wr written joined
trimmed stop o z = trim_nothing o z
trimmed (more {x = b} {xs = bs} (G.then h n) ms) o z =
    let e = wr_written (more (G.then h n) ms) in
    let d : Ended (wr (b ∷ bs) []) = wr_ended ms _ (block_out h []).ended in
    trim_out (written (b ∷ bs)) o (written_solid bs h) (subst Ended e d) (subst (λ (v : List ℕ). (o ≡ gap v) ⊎ (o ≡ 10 ∷ v)) e z)

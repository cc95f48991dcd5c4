-- Converting a list of the grammar writes its rows; where the limit is reached it stops among the closing tags, with one byte 10 after them.
-- Assumes nothing.
use Rattle.std.proofs.Common.{◌≡◌, refl, sym, ◌∙◌, ap, subst, ℕ, zero, suc, ◌+◌, ◌≤◌, ◌<◌, arith, Bool, false, cond, ◌⊎◌, inl, inr, List, [], ◌∷◌, ◌++◌, map}
use Rattle.std.proofs.Common.{append-nil, append_assoc, length}
use Rattle.std.proofs.lemmas.Bool.Decides.{nat_tests}
use Rattle.std.proofs.Math.Option.{Option, some}
use mathlib.Core.List.{reverse_aux, reverse_aux-append}
use Rattle.text.specs.Words.{str, repeat, is_empty}
use Rattle.text.specs.Utf8.{size}
use Rattle.text.specs.Decimal.{decimal}
use Rattle.html.specs.State as S
use Rattle.html.specs.State.{State, block, list_changed}
use Rattle.html.specs.Page.{loop}
use Rattle.html.proofs.TurnLaws.{loop_full}
use Rattle.sheet.specs.Tree.{Mark, ul, ol, Items, Item, alone, with, items}
use Rattle.sheet.specs.Grammar as G
use Rattle.sheet.specs.Grammar.{NL, Many, stop, more, ThenNL, IsItem, is_alone, is_with, ListOf, IsList, opens, closes}
use Rattle.sheet.specs.Written.{written_runs, Row, item, place, rows_from, lead, written_row, joined}
use Rattle.sheet.proofs.Turns.{Low, low_front, low_tail}
use Rattle.sheet.proofs.Tags.{st, loop_ul, loop_ul/, loop_ol, loop_ol/, loop_li, loop_li/}
use Rattle.sheet.proofs.TextOut.{begins}
use Rattle.sheet.proofs.RunOut.{Tail, tag, nl_tag}
use Rattle.sheet.proofs.LineEnd.{Ended, line_done, nlx, newline_st, block_newline, inline_nlx, start_nlx, start_again, start_space, nothing_begins, clean_nlx, nl_out}

-- the loop has stopped: the output is v with one byte 10 after it
pub record Stopped (x : Option State) (v : List ℕ) : Type 0 where
  pub state : State
  pub is : x ≡ some state
  pub out_is : state.out ≡ 10 ∷ v
  pub full : 16000 ≤ size (10 ∷ v)

pub decide_low : (v : List ℕ) → Low v ⊎ (16000 ≤ size v)
unfolding Low
decide_low v = grind (arith, nat_tests)

pub never_stopped : {A : Type 0} {x : Option State} {v : List ℕ} → Low (10 ∷ v) → Stopped x v → A
unfolding Low
never_stopped {v = v} h z = let f = z.full in absurd (omega arith)

pub stopped_from : {x y : Option State} {v : List ℕ} → x ≡ y → Stopped y v → Stopped x v
stopped_from e z = record { state = z.state; is = e ∙ z.is; out_is = z.out_is; full = z.full }

stopped_as : {x : Option State} {v w : List ℕ} → v ≡ w → Stopped x v → Stopped x w
stopped_as {x} e z = subst (Stopped x) e z

low_nlx : (x : List ℕ) → Low (nlx x) → Low x
low_nlx x h = let t = low_tail 10 x in grind (arith, nat_tests)

-- the rows of a list, last first, from the start of a line
unfoldable pub rowsr : List Row → List ℕ → List ℕ
rowsr [] o = o
rowsr (r ∷ []) o = reverse_aux (written_row r) o
rowsr (r ∷ q ∷ rs) o = rowsr (q ∷ rs) (10 ∷ reverse_aux (written_row r) o)

pub rowsr_joined : (rs : List Row) (o : List ℕ) → rowsr rs o ≡ reverse_aux (joined (str "\n") (map written_row rs)) o
unfolding rowsr joined
rowsr_joined [] o = refl
rowsr_joined (r ∷ []) o = refl
rowsr_joined (r ∷ q ∷ rs) o = rowsr_joined (q ∷ rs) (10 ∷ reverse_aux (written_row r) o) ∙ sym (reverse_aux-append (written_row r) (10 ∷ joined (str "\n") (map written_row (q ∷ rs))) o)

low_rows : (rs : List Row) (o : List ℕ) → Low (rowsr rs o) → Low o
low_rows rs o h = low_front (joined (str "\n") (map written_row rs)) o (subst Low (rowsr_joined rs o) h)

rowsr_append : (a : Row) (aa : List Row) (b : Row) (bs : List Row) (o : List ℕ) → rowsr ((a ∷ aa) ++ (b ∷ bs)) o ≡ rowsr (b ∷ bs) (10 ∷ rowsr (a ∷ aa) o)
unfolding rowsr
rowsr_append a [] b bs o = refl
rowsr_append a (c ∷ aa) b bs o = rowsr_append c aa b bs (10 ∷ reverse_aux (written_row a) o)

one_row : (r : Row) (y : List ℕ) → reverse_aux (written_row r) y ≡ rowsr (r ∷ []) y
unfolding rowsr
one_row r y = refl

more_rows : (r q : Row) (rs : List Row) (y : List ℕ) → rowsr (q ∷ rs) (10 ∷ reverse_aux (written_row r) y) ≡ rowsr (r ∷ q ∷ rs) y
unfolding rowsr
more_rows r q rs y = refl

pub row_eq : (a b wr y : List ℕ) → reverse_aux wr (reverse_aux (a ++ b) y) ≡ reverse_aux (a ++ (b ++ wr)) y
row_eq a b wr y = sym (reverse_aux-append (a ++ b) wr y) ∙ ap (λ (z : List ℕ). reverse_aux z y) (append_assoc a b wr)

-- the rows of an item: its own, and those of the list in it
abbrev pub own_row : ℕ → Mark → ℕ → Item → Row
own_row d m n (alone l) = item d (place m n) l
own_row d m n (with l k sub) = item d (place m n) l

abbrev pub sub_rows : ℕ → Item → List Row
sub_rows d (alone l) = []
sub_rows d (with l k sub) = rows_from (suc d) k 1 sub

pub rows_cons : (d : ℕ) (m : Mark) (n : ℕ) (it : Item) (its : List Item) → rows_from d m n (items (it ∷ its)) ≡ (own_row d m n it ∷ sub_rows d it) ++ rows_from d m (suc n) (items its)
unfolding rows_from
rows_cons d m n (alone l) its = refl
rows_cons d m n (with l k sub) its = refl

last_rows : (d : ℕ) (m : Mark) (n : ℕ) (rs : List Row) → rs ++ rows_from d m n (items []) ≡ rs
unfolding rows_from
last_rows d m n rs = append-nil rs

-- v, or v with one byte 10 after it
abbrev After : List ℕ → List ℕ → Type 0
After x v = (x ≡ v) ⊎ (x ≡ 10 ∷ v)

after_nlx : (x v : List ℕ) → After x v → Ended v → nlx x ≡ 10 ∷ v
after_nlx x v (inl e) h = ap nlx e ∙ inline_nlx v h
after_nlx x v (inr e) h = ap nlx e ∙ start_nlx v

after_space : (x v : List ℕ) → After x v → Ended v → begins 32 x ≡ false
after_space x v (inl e) h = ap (begins 32) e ∙ h.no_space
after_space x v (inr e) h = ap (begins 32) e ∙ start_space v

-- from s to r the output goes from x to v, at the end of a line or past it; or the loop stops past it
data Did (s r l : List ℕ) (p p' : ℕ) (x : List ℕ) (b : Bool) (v : List ℕ) : Type 0 where
  reached : (x' : List ℕ) (b' : Bool) → Low x' → loop 0 s (st (p ∷ l) x b) ≡ loop 0 r (st (p' ∷ l) x' b') → After x' v → Did s r l p p' x b v
  stopped : Stopped (loop 0 s (st (p ∷ l) x b)) v → Did s r l p p' x b v

-- after a list
abbrev pub leave : List ℕ → List ℕ → State
leave l v = cond (is_empty l) (st l (10 ∷ 10 ∷ v) false) (st l (10 ∷ v) false)

pub data Left (s r l x : List ℕ) (b : Bool) (v : List ℕ) : Type 0 where
  left : loop 0 s (st l x b) ≡ loop 0 r (leave l v) → Left s r l x b v
  stopped : Stopped (loop 0 s (st l x b)) v → Left s r l x b v

pub record ListDone (l s : List ℕ) (m : Mark) (its : Items) (r x : List ℕ) (b : Bool) : Type 0 where
  pub does : Low (rowsr (rows_from (length l) m 1 its) (nlx x)) → Left s r l x b (rowsr (rows_from (length l) m 1 its) (nlx x))
  pub ended : Ended (rowsr (rows_from (length l) m 1 its) (nlx x))
  pub first : Row
  pub others : List Row
  pub rows_are : rows_from (length l) m 1 its ≡ first ∷ others
  pub tagged_at : List ℕ
  pub at_a_tag : s ≡ 60 ∷ tagged_at

-- d lists may be opened
abbrev ListsOut : ℕ → (List ℕ → Mark → Items → List ℕ → Type 0) → Type 0
ListsOut d L = (s : List ℕ) (m : Mark) (its : Items) (r : List ℕ) → L s m its r → (l x : List ℕ) (b : Bool) → length l + d ≤ 8 → begins 32 x ≡ false → ListDone l s m its r x b

tail_of : {s r r' : List ℕ} → NL s r → r ≡ 60 ∷ r' → Tail s
tail_of {r' = r'} G.no_nl e = subst Tail (sym e) (tag r')
tail_of {r' = r'} G.nl e = subst (λ (r : List ℕ). Tail (10 ∷ r)) (sym e) (nl_tag r')

-- into an item: its line can start
li_st : (m : Mark) (k : ℕ) (l y : List ℕ) → S.item (place m (suc k) ∷ l) (st (place m (suc k) ∷ l) y false) ≡ st (place m (suc (suc k)) ∷ l)
    (reverse_aux (repeat (length l) "  " ++ lead (place m (suc k))) y) false
unfolding S.item
li_st ul k l y = refl
li_st ol k l y = ap (λ (w : List ℕ). st (suc (suc k) ∷ l) (reverse_aux w y) false) (append_assoc (repeat (length l) "  ") (decimal (suc k)) (str ". "))

li_in : (m : Mark) (k : ℕ) (l x : List ℕ) (b : Bool) (s : List ℕ) → Low x → begins 32 x ≡ false
    → loop 0 (str "<li>" ++ s) (st (place m (suc k) ∷ l) x b) ≡ loop 0 s (st (place m (suc (suc k)) ∷ l) (reverse_aux (repeat (length l) "  " ++ lead (place m (suc k))) (nlx x)) false)
li_in m k l x b s h e =
    loop_li (place m (suc k) ∷ l) x b s h
    ∙ ap (λ (c : State). loop 0 s (S.item (place m (suc k) ∷ l) c)) (newline_st (place m (suc k) ∷ l) x b e)
    ∙ ap (loop 0 s) (li_st m k l (nlx x))

-- past the list in an item, and its closing tag
past_list : {s s₁ s₃ r : List ℕ} (l : List ℕ) (p p' : ℕ) (x : List ℕ) (b : Bool) (v w w' : List ℕ) (b₁ : Bool) → NL s₃ (str "</li>" ++ r)
    → loop 0 s (st (p ∷ l) x b) ≡ loop 0 s₁ (st (p' ∷ l) v b₁) → w ≡ w' → Left s₁ s₃ (p' ∷ l) v b₁ w → Did s r l p p' x b w'
past_list l p p' x b v w w' b₁ n e y (stopped z) = stopped (stopped_as y (stopped_from e z))
past_list {s = s} {s₃ = s₃} {r = r} l p p' x b v w w' b₁ n e y (left f) = go (decide_low (10 ∷ w))
  where
    g : (b' : Bool) × (Low (10 ∷ w) → loop 0 s₃ (st (p' ∷ l) (10 ∷ w) false) ≡ loop 0 (str "</li>" ++ r) (st (p' ∷ l) (10 ∷ w) b'))
    g = nl_out (p' ∷ l) (10 ∷ w) false n refl

    go : Low (10 ∷ w) ⊎ (16000 ≤ size (10 ∷ w)) → Did s r l p p' x b w'
    go (inl h) = reached (10 ∷ w) g.0 h (e ∙ f ∙ g.1 h ∙ loop_li/ (p' ∷ l) (10 ∷ w) g.0 r h) (inr (ap (λ (v : List ℕ). 10 ∷ v) y))
    go (inr k) = stopped (stopped_as y (record { state = st (p' ∷ l) (10 ∷ w) false; is = e ∙ f ∙ loop_full s₃ (st (p' ∷ l) (10 ∷ w) false) k; out_is = refl; full = k }))

module _ (d : ℕ) (L : List ℕ → Mark → Items → List ℕ → Type 0) (lists : ListsOut d L) where
  -- an item, from x on, where its output is low
  record ItemDone (s r l : List ℕ) (m : Mark) (k : ℕ) (it : Item) (x : List ℕ) (b : Bool) : Type 0 where
    does : Low (rowsr (own_row (length l) m (suc k) it ∷ sub_rows (length l) it) (nlx x))
        → Did s r l (place m (suc k)) (place m (suc (suc k))) x b (rowsr (own_row (length l) m (suc k) it ∷ sub_rows (length l) it) (nlx x))
    ended : Ended (rowsr (own_row (length l) m (suc k) it ∷ sub_rows (length l) it) (nlx x))

  item_out : {s r : List ℕ} {it : Item} → IsItem L s it r → (m : Mark) (k : ℕ) (l x : List ℕ) (b : Bool) → length l + suc d ≤ 8 → begins 32 x ≡ false → ItemDone s r l m k it x b
  item_out (is_alone {s = s} {r = r} {l = lr} ln) m k l x b c e =
      let o = reverse_aux (repeat (length l) "  " ++ lead (place m (suc k))) (nlx x) in
      let l' = place m (suc (suc k)) ∷ l in
      let g = line_done l' ln (tag (str "/li>" ++ r)) o in
      let v = reverse_aux (written_runs lr) o in
      let z = row_eq (repeat (length l) "  ") (lead (place m (suc k))) (written_runs lr) (nlx x) ∙ one_row (item (length l) (place m (suc k)) lr) (nlx x) in
      record {
        does = λ h.
            let h' : Low v = subst Low (sym z) h in
            reached v false h' (li_in m k l x b s (low_nlx x (low_rows (item (length l) (place m (suc k)) lr ∷ []) (nlx x) h)) e ∙ g.eq h' ∙ loop_li/ l' v false r h') (inl z);
        ended = subst Ended z g.ended;
      }
  item_out (is_with {s = s} {s₁ = s₁} {s₂ = s₂} {s₃ = s₃} {r = r} {l = lr} {m = m'} {its = its} ln n q n') m k l x b c e =
      let o = reverse_aux (repeat (length l) "  " ++ lead (place m (suc k))) (nlx x) in
      let l' = place m (suc (suc k)) ∷ l in
      let c' : length l' + d ≤ 8 = omega arith in
      let v = reverse_aux (written_runs lr) o in
      let t = (lists s₂ m' its s₃ q l' [] false c' nothing_begins).at_a_tag in
      let g = line_done l' ln (tail_of n t) o in
      let i = nl_out l' v false n t in
      let j = lists s₂ m' its s₃ q l' v i.0 c' g.ended.no_space in
      let w = rowsr (rows_from (length l') m' 1 its) (nlx v) in
      let z = row_eq (repeat (length l) "  ") (lead (place m (suc k))) (written_runs lr) (nlx x) in
      let y : w ≡ rowsr (item (length l) (place m (suc k)) lr ∷ rows_from (length l') m' 1 its) (nlx x) =
      ap (λ (rs : List Row). rowsr rs (nlx v)) j.rows_are
      ∙ ap (rowsr (j.first ∷ j.others)) (inline_nlx v g.ended ∙ ap (λ (v : List ℕ). 10 ∷ v) z)
      ∙ more_rows (item (length l) (place m (suc k)) lr) j.first j.others (nlx x)
      ∙ ap (λ (rs : List Row). rowsr (item (length l) (place m (suc k)) lr ∷ rs) (nlx x)) (sym j.rows_are) in
      record {
        does = λ h.
            let hw : Low w = subst Low (sym y) h in
            let hv : Low v = low_nlx v (low_rows (rows_from (length l') m' 1 its) (nlx v) hw) in
            let hx : Low x = low_nlx x (low_rows (item (length l) (place m (suc k)) lr ∷ rows_from (length l') m' 1 its) (nlx x) h) in
            past_list l (place m (suc k)) (place m (suc (suc k))) x b v w _ i.0 n' (li_in m k l x b s hx e ∙ g.eq hv ∙ i.1 hv) y (j.does hw);
        ended = subst Ended y j.ended;
      }

-- NL? after an item, and what came before it
then_nl : {s r r' r'' : List ℕ} (l : List ℕ) (p p' : ℕ) (x : List ℕ) (b : Bool) (v : List ℕ) → NL r r' → r' ≡ 60 ∷ r'' → Did s r l p p' x b v → Did s r' l p p' x b v
then_nl l p p' x b v n e (stopped z) = stopped z
then_nl l p p' x b v n e (reached x' b' h f a) = let g = nl_out (p' ∷ l) x' b' n e in reached x' g.0 h (f ∙ g.1 h) a

did_before : {s s' r : List ℕ} (l : List ℕ) (p p₁ p' : ℕ) (x x₁ : List ℕ) (b b₁ : Bool) (v v' : List ℕ) →
    loop 0 s (st (p ∷ l) x b) ≡ loop 0 s' (st (p₁ ∷ l) x₁ b₁) → v ≡ v' → Did s' r l p₁ p' x₁ b₁ v → Did s r l p p' x b v'
did_before l p p₁ p' x x₁ b b₁ v v' e y (stopped z) = stopped (stopped_as y (stopped_from e z))
did_before l p p₁ p' x x₁ b b₁ v v' e y (reached x' b' h f a) = reached x' b' h (e ∙ f) (subst (After x') y a)

-- the items of a list from one on; what number the list has then does not matter
record ItemsDone (s r l : List ℕ) (p : ℕ) (x : List ℕ) (b : Bool) (rs : List Row) : Type 0 where
  does : Low (rowsr rs (nlx x)) → (p' : ℕ) × Did s r l p p' x b (rowsr rs (nlx x))
  ended : Ended (rowsr rs (nlx x))
  first : Row
  others : List Row
  rows_are : rs ≡ first ∷ others

-- an item that reached x', and the items after it
items_after : {s s' r : List ℕ} (l : List ℕ) (p p₁ : ℕ) (x : List ℕ) (b : Bool) (v v⁺ : List ℕ) (rs : List Row) → Ended v → rowsr rs (10 ∷ v) ≡ v⁺ → Low v⁺
    → ((x : List ℕ) (b : Bool) → begins 32 x ≡ false → ItemsDone s' r l p₁ x b rs) → Did s s' l p p₁ x b v → (p' : ℕ) × Did s r l p p' x b v⁺
items_after l p p₁ x b v v⁺ rs g z h ih (stopped k) = never_stopped (low_rows rs (10 ∷ v) (subst Low (sym z) h)) k
items_after l p p₁ x b v v⁺ rs g z h ih (reached x' b' k f a) =
    let y : rowsr rs (nlx x') ≡ v⁺ = ap (rowsr rs) (after_nlx x' v a g) ∙ z in
    let i = (ih x' b' (after_space x' v a g)).does (subst Low (sym y) h) in
    (i.0, did_before l p p₁ i.0 x x' b b' _ v⁺ f y i.1)

module _ (d : ℕ) (L : List ℕ → Mark → Items → List ℕ → Type 0) (lists : ListsOut d L) where
  items_start : {s r : List ℕ} {xs : List Item} → Many (ThenNL (IsItem L)) s xs r → (r' : List ℕ) → r ≡ 60 ∷ r' → (s' : List ℕ) × (s ≡ 60 ∷ s')
  items_start stop r' e = (r', e)
  items_start (more (G.then (is_alone ln) n) ms) r' e = (_, refl)
  items_start (more (G.then (is_with ln n q n') k) ms) r' e = (_, refl)

  -- an item and those after it
  items_step : {s s₁ s₂ r : List ℕ} (it : Item) (its : List Item) → IsItem L s it s₁ → NL s₁ s₂ → (s' : List ℕ) → s₂ ≡ 60 ∷ s' →
      Many (ThenNL (IsItem L)) s₂ its r → (m : Mark) (k : ℕ) (l x : List ℕ) (b : Bool) → length l + suc d ≤ 8 → begins 32 x ≡ false
      → ((it' : Item) (its' : List Item) → its ≡ it' ∷ its' → (x : List ℕ) (b : Bool) → begins 32 x ≡ false →
      ItemsDone s₂ r l (place m (suc (suc k))) x b (rows_from (length l) m (suc (suc k)) (items its)))
      → ItemsDone s r l (place m (suc k)) x b (rows_from (length l) m (suc k) (items (it ∷ its)))
  items_step {s = s} it [] h n s' e (stop {s = r}) m k l x b c f ih =
      let g = item_out d L lists h m k l x b c f in
      let v = rowsr (own_row (length l) m (suc k) it ∷ sub_rows (length l) it) (nlx x) in
      let z : own_row (length l) m (suc k) it ∷ sub_rows (length l) it ≡ rows_from (length l) m (suc k) (items (it ∷ [])) =
      sym (rows_cons (length l) m (suc k) it [] ∙ last_rows (length l) m (suc (suc k)) (own_row (length l) m (suc k) it ∷ sub_rows (length l) it)) in
      record {
        does = subst (λ (rs : List Row). Low (rowsr rs (nlx x)) → (p' : ℕ) × Did s r l (place m (suc k)) p' x b (rowsr rs (nlx x))) z
            (λ h. (place m (suc (suc k)), then_nl l (place m (suc k)) (place m (suc (suc k))) x b v n e (g.does h)));
        ended = subst (λ (rs : List Row). Ended (rowsr rs (nlx x))) z g.ended;
        first = own_row (length l) m (suc k) it;
        others = sub_rows (length l) it;
        rows_are = sym z;
      }
  items_step {s = s} {r = r} it (it' ∷ its) h n s' e ms m k l x b c f ih =
      let g = item_out d L lists h m k l x b c f in
      let v = rowsr (own_row (length l) m (suc k) it ∷ sub_rows (length l) it) (nlx x) in
      let rs = rows_from (length l) m (suc (suc k)) (items (it' ∷ its)) in
      let i = ih it' its refl (10 ∷ v) false (start_space v) in
      let z : rowsr rs (10 ∷ v) ≡ rowsr (rows_from (length l) m (suc k) (items (it ∷ it' ∷ its))) (nlx x) =
      ap (λ (rs : List Row). rowsr rs (10 ∷ v)) i.rows_are
      ∙ sym (rowsr_append (own_row (length l) m (suc k) it) (sub_rows (length l) it) i.first i.others (nlx x))
      ∙ ap (λ (rs : List Row). rowsr ((own_row (length l) m (suc k) it ∷ sub_rows (length l) it) ++ rs) (nlx x)) (sym i.rows_are)
      ∙ ap (λ (rs : List Row). rowsr rs (nlx x)) (sym (rows_cons (length l) m (suc k) it (it' ∷ its))) in
      record {
        does = λ j.
            let hv : Low v = low_tail 10 v (low_rows rs (10 ∷ v) (subst Low (sym z) j)) in
            items_after l (place m (suc k)) (place m (suc (suc k))) x b v _ rs g.ended z j (λ x b f. ih it' its refl x b f)
            (then_nl l (place m (suc k)) (place m (suc (suc k))) x b v n e (g.does hv));
        ended = subst Ended (ap (rowsr rs) (start_nlx v) ∙ z) i.ended;
        first = own_row (length l) m (suc k) it;
        others = sub_rows (length l) it ++ rows_from (length l) m (suc (suc k)) (items (it' ∷ its));
        rows_are = rows_cons (length l) m (suc k) it (it' ∷ its);
      }

  items_out : {s r : List ℕ} {xs : List Item} → Many (ThenNL (IsItem L)) s xs r → (r' : List ℕ) → r ≡ 60 ∷ r' → (it : Item) (its : List Item) → xs ≡ it ∷ its →
      (m : Mark) (k : ℕ) (l x : List ℕ) (b : Bool) → length l + suc d ≤ 8 → begins 32 x ≡ false
      → ItemsDone s r l (place m (suc k)) x b (rows_from (length l) m (suc k) (items xs))
  items_out stop r' e it its z m k l x b c f = let q : ◌≡◌ {A = ℕ} 0 1 = cc in absurd (omega arith)
  items_out (more {x = y} {xs = ys} (G.then h n) ms) r' e it its z m k l x b c f =
      let t = items_start ms r' e in
      items_step y ys h n t.0 t.1 ms m k l x b c f (λ it' its' q x b f. items_out ms r' e it' its' q m (suc k) l x b c f)

-- lists in lists

changed : (p : ℕ) (l x : List ℕ) (b : Bool) → begins 32 x ≡ false → list_changed (p ∷ l) (st l x b) ≡ st (p ∷ l) (nlx x) false
unfolding list_changed
changed p l x b e = newline_st (p ∷ l) x b e

changed_back : (p : ℕ) (l x v : List ℕ) (b : Bool) → After x v → Ended v → list_changed l (st (p ∷ l) x b) ≡ leave l v
unfolding list_changed
changed_back p l x v b a h =
    ap (λ (c : State). cond (is_empty l) (block c) c) (newline_st l x b (after_space x v a h) ∙ ap (λ (y : List ℕ). st l y false) (after_nlx x v a h))
    ∙ ap (λ (c : State). cond (is_empty l) c (st l (10 ∷ v) false)) (block_newline l v false h)

open_list : (m : Mark) (l x : List ℕ) (b : Bool) (s : List ℕ) → Low x → length l < 64 → begins 32 x ≡ false → loop 0 (opens m ++ s) (st l x b) ≡ loop 0 s (st (place m 1 ∷ l) (nlx x) false)
open_list ul l x b s h k e = loop_ul l x b s h k ∙ ap (loop 0 s) (changed 0 l x b e)
open_list ol l x b s h k e = loop_ol l x b s h k ∙ ap (loop 0 s) (changed 1 l x b e)

close_list : (m : Mark) (p : ℕ) (l x v : List ℕ) (b : Bool) (s : List ℕ) → Low x → After x v → Ended v → loop 0 (closes m ++ s) (st (p ∷ l) x b) ≡ loop 0 s (leave l v)
close_list ul p l x v b s k a h = loop_ul/ (p ∷ l) x b s k ∙ ap (loop 0 s) (changed_back p l x v b a h)
close_list ol p l x v b s k a h = loop_ol/ (p ∷ l) x b s k ∙ ap (loop 0 s) (changed_back p l x v b a h)

closes_at : (m : Mark) (r : List ℕ) → (r' : List ℕ) × (closes m ++ r ≡ 60 ∷ r')
closes_at ul r = (_, refl)
closes_at ol r = (_, refl)

opens_at : (m : Mark) (r : List ℕ) → (r' : List ℕ) × (opens m ++ r ≡ 60 ∷ r')
opens_at ul r = (_, refl)
opens_at ol r = (_, refl)

-- past the items, and the closing tag
past_items : {s s' r : List ℕ} (m : Mark) (l x : List ℕ) (b : Bool) (p p' : ℕ) (x' : List ℕ) (b' : Bool) (v v' : List ℕ) → Ended v → v ≡ v' →
    loop 0 s (st l x b) ≡ loop 0 s' (st (p ∷ l) x' b') → Did s' (closes m ++ r) l p p' x' b' v → Left s r l x b v'
past_items m l x b p p' x' b' v v' g y e (stopped z) = stopped (stopped_as y (stopped_from e z))
past_items {r = r} m l x b p p' x' b' v v' g y e (reached x'' b'' h f a) =
    left (e ∙ f ∙ close_list m p' l x'' v b'' r h a g ∙ ap (λ (v : List ℕ). loop 0 r (leave l v)) y)

list_out : (d : ℕ) (L : List ℕ → Mark → Items → List ℕ → Type 0) → ListsOut d L → ListsOut (suc d) (ListOf (IsItem L))
list_out d L lists s _ its r (G.is_list {s = s₀} {s₁ = s₁} {it = it} {its = xs} m n q) l x b k e =
    let c = closes_at m r in
    let t = items_start d L lists q c.0 c.1 in
    let g = nl_out (place m 1 ∷ l) (nlx x) false n t.1 in
    let i = items_out d L lists q c.0 c.1 it xs refl m 0 l (nlx x) g.0 k (clean_nlx x e) in
    let rs = rows_from (length l) m 1 (items (it ∷ xs)) in
    let z : rowsr rs (nlx (nlx x)) ≡ rowsr rs (nlx x) = ap (rowsr rs) (start_again x) in
    let a = opens_at m s₀ in
    record {
      does = λ h.
          let h' : Low (nlx x) = low_rows rs (nlx x) h in
          let j = i.does (subst Low (sym z) h) in
          past_items m l x b (place m 1) j.0 (nlx x) g.0 _ _ i.ended z (open_list m l x b s₀ (low_nlx x h') (omega arith) e ∙ g.1 h') j.1;
      ended = subst Ended z i.ended;
      first = i.first;
      others = i.others;
      rows_are = i.rows_are;
      tagged_at = a.0;
      at_a_tag = a.1;
    }

pub lists_out : (d : ℕ) → ListsOut d (IsList d)
lists_out zero s m its r h = absurd h
lists_out (suc d) s m its r h = list_out d (IsList d) (lists_out d) s m its r h

-- Converting a sheet's page writes its written form; one byte 10 or two follow it.
-- Assumes nothing.
use Rattle.std.proofs.Common.{◌≡◌, refl, sym, ◌∙◌, ap, subst, ℕ, ◌≤◌, min, arith, Bool, false, not, cond, ◌⊎◌, inl, inr, List, [], ◌∷◌, ◌++◌, reverse}
use Rattle.std.proofs.Common.{append-nil}
use Rattle.std.proofs.lemmas.Bool.Decides.{nat_tests}
use Rattle.std.proofs.Math.Option.{Option, some}
use mathlib.Core.List.{reverse_aux, reverse_aux-append}
use Rattle.text.specs.Words.{str, repeat, is_empty, drop_while, index}
use Rattle.text.specs.Utf8.{size}
use Rattle.html.specs.State.{State, new, push_str, line_start, block}
use Rattle.html.specs.Page.{words, turn, loop}
use Rattle.html.proofs.TurnLaws.{loop_full}
use Rattle.sheet.specs.Tree.{Run, Mark, Items, Block, heading, para, list}
use Rattle.sheet.specs.Grammar as G
use Rattle.sheet.specs.Grammar.{NL, Many, stop, more, ThenNL, IsBlock, is_heading, is_para, IsPage}
use Rattle.sheet.specs.Written.{written_runs, rows_from, rows, joined, written_block, written}
use Rattle.sheet.proofs.Turns.{Low, low_tail, low_front, loop_turn}
use Rattle.sheet.proofs.Tags.{st, loop_p, loop_p/, loop_h, loop_h/}
use Rattle.sheet.proofs.TextOut.{begins, inline, line_start_is}
use Rattle.sheet.proofs.RunOut.{tag, nl_words, nl_loop}
use Rattle.sheet.proofs.LineEnd.{Ended, LineDone, line_done, nlx, block_ended}
use Rattle.sheet.proofs.ListOut.{Stopped, decide_low, never_stopped, rowsr, rowsr_joined, row_eq, Left, left, stopped, lists_out}

-- what stands before a block
abbrev pub gap : List ℕ → List ℕ
gap w = cond (is_empty w) [] (10 ∷ 10 ∷ w)

gap_clean : (w : List ℕ) → begins 32 (gap w) ≡ false
unfolding begins
gap_clean [] = refl
gap_clean (a ∷ w) = refl

gap_start : (w : List ℕ) → inline (gap w) ≡ false
unfolding inline begins
gap_start [] = refl
gap_start (a ∷ w) = refl

gap_nlx : (w : List ℕ) → nlx (gap w) ≡ gap w
gap_nlx w = rw (gap_start w)

low_gap : (w : List ℕ) → Low (gap w) → Low w
low_gap [] h = h
low_gap (a ∷ w) h = low_tail 10 (a ∷ w) (low_tail 10 (10 ∷ a ∷ w) h)

block_gap : (w : List ℕ) → block (st [] (gap w) false) ≡ st [] (gap w) false
unfolding block drop_while
block_gap [] = refl
block_gap (a ∷ w) = refl

ended_empty : (v : List ℕ) → Ended v → is_empty v ≡ false
unfolding inline
ended_empty v h = let i = h.is_inline in grind (arith, nat_tests)

pub full_gap : (v : List ℕ) → Ended v → 10 ∷ 10 ∷ v ≡ gap v
full_gap v h = sym (rw (ended_empty v h))

-- a block

pub record BlockDone (s : List ℕ) (b : Block) (r w : List ℕ) : Type 0 where
  pub does : Low (reverse_aux (written_block b) (gap w)) → Left s r [] (gap w) false (reverse_aux (written_block b) (gap w))
  pub ended : Ended (reverse_aux (written_block b) (gap w))
  pub tagged_at : List ℕ
  pub at_a_tag : s ≡ 60 ∷ tagged_at

heading_row : (n : ℕ) (l : List Run) (y : List ℕ) → reverse_aux (written_runs l) (reverse_aux (repeat (min n 3) "#" ++ str " ") y) ≡ reverse_aux (written_block (heading n l)) y
unfolding joined rows
heading_row n l y = row_eq (repeat (min n 3) "#") (str " ") (written_runs l) y

para_row : (l : List Run) (y : List ℕ) → reverse_aux (written_runs l) y ≡ reverse_aux (written_block (para l)) y
unfolding joined rows
para_row l y = refl

list_rows : (m : Mark) (its : Items) (w : List ℕ) → rowsr (rows_from 0 m 1 its) (nlx (gap w)) ≡ reverse_aux (written_block (list m its)) (gap w)
unfolding rows
list_rows m its w = ap (rowsr (rows_from 0 m 1 its)) (gap_nlx w) ∙ rowsr_joined (rows_from 0 m 1 its) (gap w)

-- a line in its tags: p is what the opening tag writes
lined : {s s' r r' : List ℕ} (p w v v' : List ℕ) {rs : List Run} → LineDone [] s' rs r' (reverse_aux p (gap w)) → reverse_aux (written_runs rs) (reverse_aux p (gap w)) ≡ v → v ≡ v'
    → (Low (gap w) → loop 0 s (st [] (gap w) false) ≡ loop 0 s' (st [] (reverse_aux p (gap w)) false))
    → (Low v → loop 0 r' (st [] v false) ≡ loop 0 r (block (st [] v false)))
    → Low v' → Left s r [] (gap w) false v'
lined {r = r} {r' = r'} p w v v' {rs} d e z f g h =
    let hv : Low v = subst Low (sym z) h in
    let hd : Low (reverse_aux (written_runs rs) (reverse_aux p (gap w))) = subst Low (sym e) hv in
    let dv : Ended v = subst Ended e d.ended in
    left (f (low_front p (gap w) (low_front (written_runs rs) (reverse_aux p (gap w)) hd))
    ∙ d.eq hd
    ∙ ap (λ (v : List ℕ). loop 0 r' (st [] v false)) e
    ∙ g hv
    ∙ ap (loop 0 r) (block_ended [] v false dv)
    ∙ ap (λ (v : List ℕ). loop 0 r (st [] (10 ∷ 10 ∷ v) false)) z)

left_as : {s r : List ℕ} (l x : List ℕ) (b : Bool) (v v' : List ℕ) → v ≡ v' → Left s r l x b v → Left s r l x b v'
left_as {s} {r} l x b v v' e = subst (Left s r l x b) e

pub block_out : {s r : List ℕ} {b : Block} → IsBlock s b r → (w : List ℕ) → BlockDone s b r w
block_out (is_para {s = s} {r = r} {l = l} ln) w =
    let d = line_done [] ln (tag (str "/p>" ++ r)) (gap w) in
    record {
      does =
          lined [] w (reverse_aux (written_runs l) (gap w)) _ d refl (para_row l (gap w))
          (λ h. loop_p [] (gap w) false s h ∙ ap (loop 0 s) (block_gap w))
          (λ h. loop_p/ [] _ false r h);
      ended = subst Ended (para_row l (gap w)) d.ended;
      tagged_at = str "p>" ++ s;
      at_a_tag = refl;
    }
block_out (is_heading {s = s} {r = r} {l = l} n lo hi ln) w =
    let p = repeat (min n 3) "#" ++ str " " in
    let d = line_done [] ln (tag _) (reverse_aux p (gap w)) in
    record {
      does =
          lined p w (reverse_aux (written_runs l) (reverse_aux p (gap w))) _ d refl (heading_row n l (gap w))
          (λ h. loop_h [] (gap w) false s h n lo hi ∙ ap (λ (c : State). loop 0 s (push_str p c)) (block_gap w))
          (λ h. loop_h/ [] _ false r h n lo hi);
      ended = subst Ended (heading_row n l (gap w)) d.ended;
      tagged_at = _;
      at_a_tag = refl;
    }
block_out {s = s} {r = r} (G.is_list {m = m} {its = its} h) w =
    let d = lists_out 8 s m its r h [] (gap w) false (omega arith) (gap_clean w) in
    let z = list_rows m its w in
    record {
      does = λ h. left_as [] (gap w) false _ _ z (d.does (subst Low (sym z) h));
      ended = subst Ended z d.ended;
      tagged_at = d.tagged_at;
      at_a_tag = d.at_a_tag;
    }

-- the page

unfoldable pub wr : List Block → List ℕ → List ℕ
wr [] w = w
wr (b ∷ bs) w = wr bs (reverse_aux (written_block b) (gap w))

low_wr : (bs : List Block) (w : List ℕ) → Low (wr bs w) → Low w
unfolding wr
low_wr [] w h = h
low_wr (b ∷ bs) w h = low_gap w (low_front (written_block b) (gap w) (low_wr bs (reverse_aux (written_block b) (gap w)) h))

low_next : (b : Block) (bs : List Block) (w : List ℕ) → Low (wr (b ∷ bs) w) → Low (gap w)
unfolding wr
low_next b bs w h = low_front (written_block b) (gap w) (low_wr bs (reverse_aux (written_block b) (gap w)) h)

-- the loop ends with the output v, and one byte 10 or a gap after it
pub record Ends (x : Option State) (v : List ℕ) : Type 0 where
  pub state : State
  pub is : x ≡ some state
  pub trails : (state.out ≡ gap v) ⊎ (state.out ≡ 10 ∷ v)

ends_from : {x y : Option State} {v : List ℕ} → x ≡ y → Ends y v → Ends x v
ends_from e z = record { state = z.state; is = e ∙ z.is; trails = z.trails }

-- NL? at the start of a line changes nothing
quiet : (o : List ℕ) → inline o ≡ false → st [] o (not (line_start o)) ≡ st [] o false
quiet o e = rw (line_start_is o, e)

last_turn : (o : List ℕ) → Low o → loop 0 (10 ∷ []) (st [] o false) ≡ some (words (10 ∷ []) (st [] o false))
unfolding turn index loop
last_turn o h = loop_turn 10 [] (st [] o false) h

nl_end : {m : List ℕ} (o : List ℕ) → inline o ≡ false → NL m [] → loop 0 m (st [] o false) ≡ some (st [] o false)
unfolding loop
nl_end o e G.no_nl = refl
nl_end o e G.nl = go (decide_low o)
  where
    go : Low o ⊎ (16000 ≤ size o) → loop 0 (10 ∷ []) (st [] o false) ≡ some (st [] o false)
    go (inl h) = last_turn o h ∙ ap some (nl_words [] o false ∙ quiet o e)
    go (inr h) = loop_full (10 ∷ []) (st [] o false) h

nl_next : {m r r' : List ℕ} (o : List ℕ) → inline o ≡ false → Low o → NL m r → r ≡ 60 ∷ r' → loop 0 m (st [] o false) ≡ loop 0 r (st [] o false)
nl_next o e h G.no_nl z = refl
nl_next {r' = r'} o e h G.nl z =
    ap (λ (r : List ℕ). loop 0 (10 ∷ r) (st [] o false)) z
    ∙ nl_loop [] o r' false h
    ∙ ap (loop 0 (60 ∷ r')) (quiet o e)
    ∙ ap (λ (r : List ℕ). loop 0 r (st [] o false)) (sym z)

-- blocks from the output w on
abbrev Writes : List ℕ → List Block → List ℕ → Type 0
Writes s bs w = Low (wr bs w) → Ends (loop 0 s (st [] (gap w) false)) (wr bs w)

nl_blocks : {m r : List ℕ} {bs : List Block} → NL m r → Many (ThenNL IsBlock) r bs [] → (w : List ℕ) → Writes r bs w → Writes m bs w
unfolding wr
nl_blocks n stop w f h = record { state = st [] (gap w) false; is = nl_end (gap w) (gap_start w) n; trails = inl refl }
nl_blocks n (more {x = b} {xs = bs} (G.then g k) ms) w f h =
    let d = block_out g [] in
    ends_from (nl_next (gap w) (gap_start w) (low_next b bs w h) n d.at_a_tag) (f h)

stopped_ends : (x : Option State) (bs : List Block) (v : List ℕ) → Ended v → Low (wr bs v) → Stopped x v → Ends x (wr bs v)
unfolding wr
stopped_ends x [] v e h z = record { state = z.state; is = z.is; trails = inr z.out_is }
stopped_ends x (b ∷ bs) v e h z = never_stopped (low_tail 10 (10 ∷ v) (subst Low (sym (full_gap v e)) (low_next b bs v h))) z

after_block : {s m r : List ℕ} {bs : List Block} (w v : List ℕ) → Ended v → NL m r → Many (ThenNL IsBlock) r bs [] → Writes r bs v → Low (wr bs v) →
    Left s m [] (gap w) false v → Ends (loop 0 s (st [] (gap w) false)) (wr bs v)
after_block {bs = bs} w v e n ms f h (stopped z) = stopped_ends _ bs v e h z
after_block {m = m} w v e n ms f h (left g) = ends_from (g ∙ ap (λ (o : List ℕ). loop 0 m (st [] o false)) (full_gap v e)) (nl_blocks n ms v f h)

blocks_out : {s : List ℕ} {bs : List Block} → Many (ThenNL IsBlock) s bs [] → (w : List ℕ) → Writes s bs w
unfolding loop wr
blocks_out stop w h = record { state = st [] (gap w) false; is = refl; trails = inl refl }
blocks_out (more {x = b} {xs = bs} (G.then {m = m} {r = r} g n) ms) w h =
    let d = block_out g w in
    let v = reverse_aux (written_block b) (gap w) in
    after_block w v d.ended n ms (λ h. blocks_out ms v h) h (d.does (low_wr bs v h))

pub page_out : {s : List ℕ} {bs : List Block} → IsPage s bs → Low (wr bs []) → Ends (loop 0 s new) (wr bs [])
page_out (G.page n ms) h = nl_blocks n ms [] (λ h. blocks_out ms [] h) h

-- the blocks, joined

unfoldable pub after_first : List Block → List ℕ
after_first [] = []
after_first (b ∷ bs) = str "\n\n" ++ (written_block b ++ after_first bs)

not_empty : (x : List ℕ) (a : ℕ) (y : List ℕ) → is_empty (reverse_aux x (a ∷ y)) ≡ false
not_empty [] a y = refl
not_empty (b ∷ x) a y = not_empty x b (a ∷ y)

wr_after : (bs : List Block) (u : List ℕ) → is_empty u ≡ false → wr bs u ≡ reverse_aux (after_first bs) u
unfolding wr after_first
wr_after [] u e = refl
wr_after (b ∷ bs) u e =
    ap (λ (t : Bool). wr bs (reverse_aux (written_block b) (cond t [] (10 ∷ 10 ∷ u)))) e
    ∙ wr_after bs (reverse_aux (written_block b) (10 ∷ 10 ∷ u)) (not_empty (written_block b) 10 (10 ∷ u))
    ∙ sym (reverse_aux-append (written_block b) (after_first bs) (10 ∷ 10 ∷ u))

pub written_first : (b : Block) (bs : List Block) → written (b ∷ bs) ≡ written_block b ++ after_first bs
unfolding written joined after_first
written_first b [] = sym (append-nil (written_block b))
written_first b (c ∷ bs) = ap (λ (x : List ℕ). written_block b ++ (str "\n\n" ++ x)) (written_first c bs)

pub wr_written : {s : List ℕ} {bs : List Block} → Many (ThenNL IsBlock) s bs [] → wr bs [] ≡ reverse (written bs)
unfolding wr written joined
wr_written stop = refl
wr_written (more {x = b} {xs = bs} (G.then h n) ms) =
    wr_after bs (reverse (written_block b)) (ended_empty _ (block_out h []).ended)
    ∙ sym (reverse_aux-append (written_block b) (after_first bs) [])
    ∙ ap reverse (sym (written_first b bs))

pub wr_ended : {s : List ℕ} {bs : List Block} → Many (ThenNL IsBlock) s bs [] → (w : List ℕ) → Ended w → Ended (wr bs w)
unfolding wr
wr_ended stop w z = z
wr_ended (more (G.then h n) ms) w z = wr_ended ms _ (block_out h w).ended

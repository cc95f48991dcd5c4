-- What the reader reads is in the grammar.
-- Assumes nothing.
use Rattle.std.proofs.Common.{◌≡◌, refl, sym, ◌∙◌, ap, subst, ℕ, zero, suc, ◌+◌, ◌-◌, ◌≤◌, arith, ⊎_elim, List, [], ◌∷◌, ◌++◌, length}
use Rattle.std.proofs.Math.Option.{Option, none, some}
use Rattle.text.specs.Words.{str, ◌>>=◌, case}
use Rattle.sheet.specs.Reading.{◌<|>◌, strip, many}
use Rattle.sheet.specs.Tree.{Kind, plain, strong, em, both, code, Run, Mark, ul, ol, Items, Item, alone, items, Block, list}
use Rattle.sheet.specs.Grammar as G
use Rattle.sheet.specs.Grammar.{NL, Char, Many, stop, more, Text, IsRun, is_run, Line, ThenNL, IsItem, is_alone, is_with, ListOf, IsList, IsBlock, is_heading, is_para, IsPage}
use Rattle.sheet.specs.Grammar.{shown, fits, neat, opens, closes, closes_h, before, after}
use Rattle.sheet.specs.Reader.{Answer, nl?, own, means, referred, char, text, opening, kind, one_run, line, then_nl, with_list, item, some_items, marked, list_of, read_list, digit}
use Rattle.sheet.specs.Reader.{closed_by, headed, read_heading, read_para, block, at_end, read_page}
use Rattle.text.specs.Chars.{within}
use Rattle.text.proofs.Tests.{within_true, then_some}
use Rattle.sheet.proofs.ReadingLaws.{none_some, alt_inv, strip_inv, ensure_inv}

-- a reader that reads what R says
module _ {A : Type 0} where
  abbrev pub Sound : (List ℕ → A → List ℕ → Type 0) → (List ℕ → Answer A) → Type 0
  Sound R p = (s : List ℕ) (y : A × List ℕ) → p s ≡ some y → R s y.0 y.1

  -- the last step: the answer is there
  gives : (R : List ℕ → A → List ℕ → Type 0) {s : List ℕ} {x y : A × List ℕ} → some x ≡ some y → R s x.0 x.1 → R s y.0 y.1
  gives R {s} {x} {y} e h = let z : x ≡ y = cc in subst (λ (y : A × List ℕ). R s y.0 y.1) z h

  -- the bytes are those
  from : (R : List ℕ → A → List ℕ → Type 0) {s s' r : List ℕ} {x : A} → s ≡ s' → R s' x r → R s x r
  from R {s} {s'} {r} {x} e h = subst (λ (s : List ℕ). R s x r) (sym e) h

  many_sound : (R : List ℕ → A → List ℕ → Type 0) (p : List ℕ → Answer A) → Sound R p → (n : ℕ) (s : List ℕ) → Many R s (many p n s).0 (many p n s).1
  unfolding many
  many_sound R p h zero s = stop
  many_sound R p h (suc n) s = go (λ x. many_sound R p h n x.1) (p s) refl
    where
      go : ((x : A × List ℕ) → Many R x.1 (many p n x.1).0 (many p n x.1).1) → (o : Answer A) → p s ≡ o
          → let y : List A × List ℕ = case o ([], s) (λ x. let y = many p n x.1 in (x.0 ∷ y.0, y.1)) in Many R s y.0 y.1
      go ih none e = stop
      go ih (some x) e = more (h s x e) (ih x)

pub nl_sound : (s : List ℕ) → NL s (nl? s)
nl_sound s = go (strip (10 ∷ []) s) refl
  where
    go : (o : Option (List ℕ)) → strip (10 ∷ []) s ≡ o → NL s (case o s (λ r. r))
    go none e = G.no_nl
    go (some r) e = rw (strip_inv (10 ∷ []) s e) G.nl

own_sound : Sound Char own
unfolding own
own_sound [] y e = none_some e
own_sound (c ∷ s) y e =
    let g = ensure_inv (shown c) _ e in
    gives Char g.1 (G.own c g.0)

pub char_sound : Sound Char char
unfolding char referred
char_sound s y e =
    ⊎_elim (own_sound s y) (λ e. ⊎_elim (by " " " " (λ r. G.blank))
    (λ e. ⊎_elim (by "<" "&lt;" (λ r. G.&lt)) (λ e. ⊎_elim (by "&" "&amp;" (λ r. G.&amp))
    (λ e. ⊎_elim (by ">" "&gt;" (λ r. G.&gt)) (by "\"" "&quot;" (λ r. G.&quot)) (alt_inv (means ">" "&gt;" s) _ e)) (alt_inv (means "&" "&amp;" s) _ e))
    (alt_inv (means "<" "&lt;" s) _ e)) (alt_inv (means " " " " s) _ e)) (alt_inv (own s) _ e)
  where
    by : (q p : Prim.Native.String.String) → ((r : List ℕ) → Char (str p ++ r) (str q) r) → means q p s ≡ some y → Char s y.0 y.1
    by q p h e =
        let b = then_some (strip (str p) s) _ e in
        gives Char b.2 (from Char (strip_inv (str p) s b.1) (h b.0))

text_sound : (s : List ℕ) → Text s (text s).0 (text s).1
unfolding text
text_sound s = G.text (many_sound Char char char_sound (length s) s)

kind_inv : (s : List ℕ) (y : Kind × List ℕ) → kind s ≡ some y → s ≡ before y.0 ++ y.1
unfolding kind
kind_inv s y e =
    ⊎_elim (by both) (λ e. ⊎_elim (by strong) (λ e. ⊎_elim (by em) (λ e. ⊎_elim (by code) (by plain) (alt_inv (opening code s) _ e))
    (alt_inv (opening em s) _ e)) (alt_inv (opening strong s) _ e)) (alt_inv (opening both s) _ e)
  where
    by : (k : Kind) → opening k s ≡ some y → s ≡ before y.0 ++ y.1
    by k e =
        let b = then_some (strip (before k) s) _ e in
        gives (λ s k r. s ≡ before k ++ r) b.2 (strip_inv (before k) s b.1)

pub run_sound : Sound IsRun one_run
unfolding one_run
run_sound s y e =
    let k = then_some (kind s) _ e in
    let g = ensure_inv (fits k.0.0 (text k.0.1).0) _ k.2 in
    let a = then_some (strip (after k.0.0) (text k.0.1).1) _ g.1 in
    let t = subst (Text k.0.1 (text k.0.1).0) (strip_inv (after k.0.0) (text k.0.1).1 a.1) (text_sound k.0.1) in
    gives IsRun a.2 (from IsRun (kind_inv s k.0 k.1) (is_run k.0.0 t g.0))

pub line_sound : Sound Line line
unfolding line
line_sound s y e =
    let g = ensure_inv (neat (many one_run (length s) s).0) _ e in
    gives Line g.1 (G.line (many_sound IsRun one_run run_sound (length s) s) g.0)

pub then_nl_sound : {A : Type 0} (R : List ℕ → A → List ℕ → Type 0) (p : List ℕ → Answer A) → Sound R p → Sound (ThenNL R) (then_nl p)
then_nl_sound R p h s y e =
    let b = then_some (p s) _ e in
    gives (ThenNL R) b.2 (G.then (h s b.0 b.1) (nl_sound b.0.1))

-- the same of a list, which has two parts
abbrev pub Listed : (List ℕ → Mark → Items → List ℕ → Type 0) → List ℕ → Mark × Items → List ℕ → Type 0
Listed L s t r = L s t.0 t.1 r

pub item_sound : (L : List ℕ → Mark → Items → List ℕ → Type 0) (read : List ℕ → Answer (Mark × Items)) → Sound (Listed L) read → Sound (IsItem L) (item read)
unfolding item
item_sound L read h s y e =
    let o = then_some (strip (str "<li>") s) _ e in
    let l = then_some (line o.0) _ o.2 in
    from (IsItem L) (strip_inv (str "<li>") s o.1) (go o.0 l.0 (line_sound o.0 l.0 l.1) (strip (str "</li>") l.0.1) refl l.2)
  where
    go : (s : List ℕ) (x : List Run × List ℕ) → Line s x.0 x.1 → (o : Option (List ℕ)) → strip (str "</li>") x.1 ≡ o
        → case o (with_list read x.0 x.1) (λ r. some (alone x.0, r)) ≡ some y → IsItem L (str "<li>" ++ s) y.0 y.1
    go s x l (some r) e f = gives (IsItem L) f (is_alone (subst (Line s x.0) (strip_inv (str "</li>") x.1 e) l))
    go s x l none e f =
        let b = then_some (read (nl? x.1)) _ f in
        let c = then_some (strip (str "</li>") (nl? b.0.1)) _ b.2 in
        gives (IsItem L) c.2 (is_with l (nl_sound x.1) (h (nl? x.1) b.0 b.1) (subst (NL b.0.1) (strip_inv (str "</li>") (nl? b.0.1) c.1) (nl_sound b.0.1)))

pub marked_inv : (s : List ℕ) (y : Mark × List ℕ) → (marked ul s <|> marked ol s) ≡ some y → s ≡ opens y.0 ++ y.1
marked_inv s y e = ⊎_elim (by ul) (by ol) (alt_inv (marked ul s) _ e)
  where
    by : (m : Mark) → marked m s ≡ some y → s ≡ opens y.0 ++ y.1
    by m e =
        let b = then_some (strip (opens m) s) _ e in
        gives (λ s m r. s ≡ opens m ++ r) b.2 (strip_inv (opens m) s b.1)

list_sound : (I : List ℕ → Item → List ℕ → Type 0) (read : List ℕ → Answer Item) → Sound I read → Sound (Listed (ListOf I)) (list_of read)
unfolding list_of
list_sound I read h s y e =
    let m = then_some (marked ul s <|> marked ol s) _ e in
    let s₁ = nl? m.0.1 in
    let x = many (then_nl read) (length s) s₁ in
    let i = then_some (some_items x.0) _ m.2 in
    let c = then_some (strip (closes m.0.0) x.1) _ i.2 in
    let q = many_sound (ThenNL I) (then_nl read) (then_nl_sound I read h) (length s) s₁ in
    gives (Listed (ListOf I)) c.2 (from (Listed (ListOf I)) {x =
    (m.0.0, i.0)} (marked_inv s m.0 m.1) (go m.0.0 m.0.1 c.0 x.0 i.0 i.1 (subst (Many (ThenNL I) s₁ x.0) (strip_inv (closes m.0.0) x.1 c.1) q)))
  where
    go : (m : Mark) (s r : List ℕ) (its : List Item) (t : Items) → some_items its ≡ some t → Many (ThenNL I) (nl? s) its (closes m ++ r) → ListOf I (opens m ++ s) m t r
    go m s r [] t e q = none_some e
    go m s r (it ∷ its) t e q = let z : items (it ∷ its) ≡ t = cc in subst (λ (t : Items). ListOf I (opens m ++ s) m t r) z (G.is_list m (nl_sound s) q)

pub read_list_sound : (d : ℕ) → Sound (Listed (IsList d)) (read_list d)
unfolding read_list
read_list_sound zero s y e = none_some e
read_list_sound (suc d) s y e = list_sound (IsItem (IsList d)) (item (read_list d)) (item_sound (IsList d) (read_list d) (read_list_sound d)) s y e

-- a line and the tag after it
abbrev Closed : List ℕ → List ℕ → List Run → List ℕ → Type 0
Closed q s l r = Line s l (q ++ r)

closed_sound : (q : List ℕ) → Sound (Closed q) (closed_by q)
unfolding closed_by
closed_sound q s y e =
    let l = then_some (line s) _ e in
    let c = then_some (strip q l.0.1) _ l.2 in
    gives (Closed q) c.2 (subst (Line s l.0.0) (strip_inv q l.0.1 c.1) (line_sound s l.0 l.1))

heading_sound : Sound IsBlock read_heading
unfolding read_heading headed
heading_sound s y e =
    let o = then_some (strip (str "<h") s) _ e in
    let n = then_some (digit o.0) _ o.2 in
    let g = then_some (strip (str ">") n.0.1) _ n.2 in
    let l = then_some (closed_by (closes_h n.0.0) g.0) _ g.2 in
    let d = digit_inv o.0 n.0 n.1 in
    gives IsBlock l.2
    (from IsBlock
    (strip_inv (str "<h") s o.1 ∙ ap (λ (r : List ℕ). str "<h" ++ r) (d.2 ∙ ap (λ (r : List ℕ). (48 + n.0.0) ∷ r) (strip_inv (str ">") n.0.1 g.1)))
    (is_heading n.0.0 d.0 d.1 (closed_sound (closes_h n.0.0) g.0 l.0 l.1)))
  where
    digit_inv : (s : List ℕ) (y : ℕ × List ℕ) → digit s ≡ some y → (1 ≤ y.0) × (y.0 ≤ 6) × (s ≡ (48 + y.0) ∷ y.1)
    digit_inv [] y e = none_some e
    digit_inv (b ∷ s) y e =
        let g = ensure_inv (within 49 54 b) _ e in
        let h = within_true 49 54 b g.0 in
        let z : (b - 48, s) ≡ y = cc g.1 in
        let z₀ = ap (λ (y : ℕ × List ℕ). y.0) z in
        let w : b ≡ 48 + y.0 = omega (arith, h.0) in
        (omega (arith, h.0), omega (arith, h.1), cc (ap (λ (y : ℕ × List ℕ). y.1) z))

para_sound : Sound IsBlock read_para
unfolding read_para
para_sound s y e =
    let o = then_some (strip (str "<p>") s) _ e in
    let l = then_some (closed_by (str "</p>") o.0) _ o.2 in
    gives IsBlock l.2 (from IsBlock (strip_inv (str "<p>") s o.1) (is_para (closed_sound (str "</p>") o.0 l.0 l.1)))

pub block_sound : Sound IsBlock block
unfolding block
block_sound s y e =
    ⊎_elim (heading_sound s y) (λ e. ⊎_elim (para_sound s y) by_list (alt_inv (read_para s) _ e)) (alt_inv (read_heading s) _ e)
  where
    by_list : (read_list 8 s >>= λ x. some (list x.0.0 x.0.1, x.1)) ≡ some y → IsBlock s y.0 y.1
    by_list e = let b = then_some (read_list 8 s) _ e in gives IsBlock b.2 (G.is_list (read_list_sound 8 s b.0 b.1))

pub page_sound : (s : List ℕ) (t : List Block) → read_page s ≡ some t → IsPage s t
unfolding read_page
page_sound s t e =
    let x = many (then_nl block) (length s) (nl? s) in
    go x.0 x.1 e (many_sound (ThenNL IsBlock) (then_nl block) (then_nl_sound IsBlock block block_sound) (length s) (nl? s))
  where
    go : (bs : List Block) (r : List ℕ) → at_end bs r ≡ some t → Many (ThenNL IsBlock) (nl? s) bs r → IsPage s t
    go bs [] e m = let z : bs ≡ t = cc in subst (IsPage s) z (G.page (nl_sound s) m)
    go bs (b ∷ r) e m = none_some e

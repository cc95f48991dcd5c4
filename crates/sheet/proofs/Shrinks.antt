-- What is read leaves less: of each thing of the grammar, and so of its reader.
-- Assumes nothing.
use Rattle.std.proofs.Common.{◌≡◌, ℕ, zero, suc, ◌≤◌, ◌<◌, arith, le_refl, true, List, length, length-append}
use Rattle.std.proofs.Math.Option.{some}
use Rattle.sheet.specs.Tree.{Kind, ul, ol, Mark, Items, Item, Run}
use Rattle.sheet.specs.Grammar as G
use Rattle.sheet.specs.Grammar.{NL, Char, Many, stop, more, IsRun, is_run, Line, ThenNL, IsItem, is_alone, is_with, ListOf, IsList, IsBlock, is_heading, is_para, concat, fits, before, after}
use Rattle.sheet.specs.Reader.{Answer, nl?, char, one_run, item, then_nl, read_list, block}
use Rattle.sheet.proofs.Conditions.{filled}
use Rattle.sheet.proofs.Sound.{Sound, Listed, nl_sound, char_sound, run_sound, then_nl_sound, item_sound, read_list_sound, block_sound}

-- ---- the grammar
abbrev pub Less : {A : Type 0} → (List ℕ → A → List ℕ → Type 0) → Type 0
Less {A} R = (s : List ℕ) (x : A) (r : List ℕ) → R s x r → length r < length s

pub many_less : {A : Type 0} (R : List ℕ → A → List ℕ → Type 0) → Less R → {s r : List ℕ} {xs : List A} → Many R s xs r → length r ≤ length s
many_less R h (stop {s}) = le_refl (length s)
many_less R h (more {s} {m} {x = x} y ys) = omega (arith, h s x m y, many_less R h ys)

pub nl_less : {s r : List ℕ} → NL s r → length r ≤ length s
nl_less (G.no_nl {s}) = le_refl (length s)
nl_less G.nl = omega arith

then_less : {A : Type 0} (R : List ℕ → A → List ℕ → Type 0) → Less R → Less (ThenNL R)
then_less R h _ _ _ (G.then {s} {m} {r} {x} y n) = omega (arith, h s x m y, nl_less n)

pub char_less : Less Char
char_less _ _ s G.&lt = omega arith
char_less _ _ s G.&amp = omega arith
char_less _ _ s G.&gt = omega arith
char_less _ _ s G.&quot = omega arith
char_less _ _ s G.blank = omega arith
char_less _ _ s (G.own c f) = omega arith

-- a run's text is not empty
pub first_char : (k : Kind) {s r : List ℕ} {qs : List (List ℕ)} → Many Char s qs r → fits k (concat qs) ≡ true → (q m : List ℕ) × Char s q m × (length r < length s)
first_char k stop f = filled k f
first_char k (more {s} {m} {x = q} c t) f = (q, m, c, omega (arith, char_less s q m c, many_less Char char_less t))

pub run_less : Less IsRun
run_less _ _ m (is_run {s} k (G.text cs) f) = omega (arith, (first_char k cs f).3, length-append (before k) s, length-append (after k) m)

line_less : {s r : List ℕ} {l : List Run} → Line s l r → length r ≤ length s
line_less (G.line ms f) = many_less IsRun run_less ms

pub item_less : (L : List ℕ → Mark → Items → List ℕ → Type 0) → Less (Listed L) → Less (IsItem L)
item_less L h _ _ r (is_alone ln) = omega (arith, line_less ln)
item_less L h _ _ r (is_with {s₂ = s₂} {s₃ = s₃} {m = m} {its = its} ln a q b) = omega (arith, line_less ln, nl_less a, h s₂ (m, its) s₃ q, nl_less b)

pub list_less : (I : List ℕ → Item → List ℕ → Type 0) → Less I → Less (Listed (ListOf I))
list_less I h s t r q = go t.0 t.1 q
  where
    go : {s r : List ℕ} (m : Mark) (its : Items) → ListOf I s m its r → length r < length s
    go m its (G.is_list ul n q) = omega (arith, many_less (ThenNL I) (then_less I h) q, nl_less n)
    go m its (G.is_list ol n q) = omega (arith, many_less (ThenNL I) (then_less I h) q, nl_less n)

lists_less : (d : ℕ) → Less (Listed (IsList d))
lists_less zero s t r q = absurd q
lists_less (suc d) s t r q = list_less (IsItem (IsList d)) (item_less (IsList d) (lists_less d)) s t r q

pub block_less : Less IsBlock
block_less _ _ r (is_heading n lo hi ln) = omega (arith, line_less ln)
block_less _ _ r (is_para ln) = omega (arith, line_less ln)
block_less s _ r (G.is_list {m = m} {its = its} q) = lists_less 8 s (m, its) r q

-- ---- the reader
abbrev pub Shrinks : {A : Type 0} → (List ℕ → Answer A) → Type 0
Shrinks {A} p = (s : List ℕ) (y : A × List ℕ) → p s ≡ some y → length y.1 < length s

shrinks : {A : Type 0} (R : List ℕ → A → List ℕ → Type 0) (p : List ℕ → Answer A) → Sound R p → Less R → Shrinks p
shrinks R p sound less s y e = less s y.0 y.1 (sound s y e)

pub nl_shrinks : (s : List ℕ) → length (nl? s) ≤ length s
nl_shrinks s = nl_less (nl_sound s)

pub char_shrinks : Shrinks char
char_shrinks = shrinks Char char char_sound char_less

pub run_shrinks : Shrinks one_run
run_shrinks = shrinks IsRun one_run run_sound run_less

pub items_shrink : (d : ℕ) → Shrinks (then_nl (item (read_list d)))
items_shrink d =
    let I = IsItem (IsList d) in
    shrinks (ThenNL I) (then_nl (item (read_list d))) (then_nl_sound I (item (read_list d)) (item_sound (IsList d) (read_list d) (read_list_sound d)))
    (then_less I (item_less (IsList d) (lists_less d)))

pub blocks_shrink : Shrinks (then_nl block)
blocks_shrink = shrinks (ThenNL IsBlock) (then_nl block) (then_nl_sound IsBlock block block_sound) (then_less IsBlock block_less)

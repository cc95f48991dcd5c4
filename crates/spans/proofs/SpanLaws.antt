-- The laws of `spans`: the loop turn by turn, and that any depth above the length of a line gives its spans.
-- Assumes nothing.
use mathlib.Core.Path.{◌≡◌, refl, sym, ap, ◌∙◌}
use Prim.Native.Nat.{ℕ, zero, suc, ◌≤◌, ◌<◌}
use native.Mathlib.Omega.{arith}
use mathlib.Core.Bool.{true, false, not}
use mathlib.Core.List.{List, [], ◌∷◌, ◌++◌, map, reverse, append_assoc}
use lib.ListN.{length, take, drop, length-drop, length-take}
use Rattle.std.specs.Prelude.{if◌then◌else◌}
use Rattle.text.specs.Words.{is_empty}
use Rattle.text.proofs.Tests.{false_true}
use Rattle.records.specs.Blocks.{Span}
use Rattle.spans.specs.Spans.{Walk, at, span, flush, cleared, Step, made, label, step, carry, labelled, on_step, walk, spans_at, spans}
use Rattle.spans.specs.Turn.{Turn, linked, turned}

pub shorter_drop : (n : ℕ) (l : List ℕ) → length (drop n l) ≤ length l
shorter_drop n l = omega (arith, length-drop n l)

pub shorter_take : (n : ℕ) (l : List ℕ) → length (take n l) ≤ length l
shorter_take n l = omega (arith, length-take n l)

pub not_empty : (s : List ℕ) → not (is_empty s) ≡ true → 1 ≤ length s
not_empty [] e = false_true e
not_empty (c ∷ s) e = omega arith

-- what holds of no span and of the one of pending text holds of `flush`
pub flushed : (P : List Span → Type 0) (w : Walk) → (w.text ≡ [] → P []) → ((c : ℕ) (t : List ℕ) → w.text ≡ c ∷ t → P (span false w (reverse w.text) ∷ [])) → P (flush w)
unfolding flush
flushed P w f g = go w.text refl
  where
    go : (t : List ℕ) → w.text ≡ t → P (if is_empty t then [] else span false w (reverse w.text) ∷ [])
    go [] e = f e
    go (c ∷ t) e = g c t e

-- what is read already is of no account
pub walk_drop : (inner : List ℕ → List Span) (w : Walk) (n : ℕ) (s : List ℕ) → walk inner w n s ≡ walk inner w 0 (drop n s)
unfolding walk
walk_drop inner w zero s = refl
walk_drop inner w (suc n) [] = refl
walk_drop inner w (suc n) (c ∷ s) = walk_drop inner w n s

pub walk_end : (inner : List ℕ → List Span) (w : Walk) → walk inner w 0 [] ≡ flush w
unfolding walk
walk_end inner w = refl

-- what follows a turn
abbrev pub after : (List ℕ → List Span) → List ℕ → Turn → List Span
after inner s t = t.spans ++ walk inner t.walk 0 (drop t.more s)

-- one turn, and the loop from where it ends
pub walk_next : (inner : List ℕ → List Span) (w : Walk) (c : ℕ) (s : List ℕ) → walk inner w 0 (c ∷ s) ≡ after inner s (turned inner w s (step w c s))
unfolding walk linked turned
walk_next inner w c s = go (step w c s)
  where
    join : (ls : List Span) (n : ℕ) → labelled w ls (λ v. walk inner v n s) ≡ after inner s (linked w ls n)
    join [] n = walk_drop inner w n s
    join (l ∷ ls) n =
        ap (λ (z : List Span). flush w ++ ((l ∷ ls) ++ z)) (walk_drop inner (cleared w) n s)
        ∙ sym (append_assoc (flush w) (l ∷ ls) (walk inner (cleared w) 0 (drop n s)))

    go : (x : Step)
        → on_step x (λ out v n. out ++ walk inner v n s) (λ close n. labelled w (map (carry w) (inner (take close s))) (λ v. walk inner v n s))
        ≡ after inner s (turned inner w s x)
    go (made out v n) = ap (λ (z : List Span). out ++ z) (walk_drop inner v n s)
    go (label close n) = join (map (carry w) (inner (take close s))) n

-- what holds of what is left after one character holds of what is left after n
pub drop_keeps : (P : List ℕ → Type 0) → ((c : ℕ) (s : List ℕ) → P (c ∷ s) → P s) → (n : ℕ) (s : List ℕ) → P s → P (drop n s)
drop_keeps P next zero s h = h
drop_keeps P next (suc n) [] h = h
drop_keeps P next (suc n) (c ∷ s) h = drop_keeps P next n s (next c s h)

-- two readers of labels that give the same turns wherever the walk may come give the same spans
module _ (p q : List ℕ → List Span) (Here : List ℕ → Type 0) (next : (c : ℕ) (s : List ℕ) → Here (c ∷ s) → Here s)
    (agree : (w : Walk) (c : ℕ) (s : List ℕ) → Here (c ∷ s) → turned p w s (step w c s) ≡ turned q w s (step w c s)) where
  pub walk_agree : (f : ℕ) (s : List ℕ) → length s ≤ f → Here s → (w : Walk) → walk p w 0 s ≡ walk q w 0 s
  walk_agree zero [] k h w = walk_end p w ∙ sym (walk_end q w)
  walk_agree (suc f) [] k h w = walk_end p w ∙ sym (walk_end q w)
  walk_agree zero (c ∷ s) k h w = absurd (omega arith)
  walk_agree (suc f) (c ∷ s) k h w =
      let t : Turn = turned q w s (step w c s) in
      let rest : List ℕ = drop t.more s in
      walk_next p w c s
      ∙ ap (after p s) (agree w c s h)
      ∙ ap (λ (z : List Span). t.spans ++ z) (walk_agree f rest (omega (arith, shorter_drop t.more s)) (drop_keeps Here next t.more s (next c s h)) t.walk)
      ∙ sym (walk_next q w c s)

-- so do two that agree on what is shorter than the line
turned_same : (p q : List ℕ → List Span) (w : Walk) (s : List ℕ) (x : Step) → ((l : List ℕ) → length l ≤ length s → p l ≡ q l) → turned p w s x ≡ turned q w s x
unfolding turned
turned_same p q w s (made out v n) h = refl
turned_same p q w s (label close n) h = ap (λ (ss : List Span). linked w (map (carry w) ss) n) (h (take close s) (shorter_take close s))

walk_same : (p q : List ℕ → List Span) (w : Walk) (s : List ℕ) → ((l : List ℕ) → length l < length s → p l ≡ q l) → walk p w 0 s ≡ walk q w 0 s
walk_same p q w s h =
    walk_agree p q (λ (s : List ℕ). (l : List ℕ) → length l < length s → p l ≡ q l) (λ c s g l m. g l (omega arith))
    (λ w c s g. turned_same p q w s (step w c s) (λ l m. g l (omega arith))) (length s) s (omega arith) h w

-- the depth is of no account where it is above the length
pub spans_at_same : (d e : ℕ) (line : List ℕ) → length line < d → length line < e → spans_at d line ≡ spans_at e line
unfolding spans_at
spans_at_same zero e line h k = absurd (omega arith)
spans_at_same (suc d) zero line h k = absurd (omega arith)
spans_at_same (suc d) (suc e) line h k =
    walk_same (spans_at d) (spans_at e) (at false false []) line (λ l m. spans_at_same d e l (omega arith) (omega arith))

pub spans_depth : (d : ℕ) (line : List ℕ) → length line < d → spans_at d line ≡ spans line
unfolding spans
spans_depth d line h = spans_at_same d (suc (length line)) line h (omega arith)

-- the loop, with `spans` itself as the reader of labels
pub spans_eq : (line : List ℕ) → spans line ≡ walk spans (at false false []) 0 line
unfolding spans spans_at
spans_eq line =
    walk_same (spans_at (length line)) spans (at false false []) line (λ l h. spans_depth (length line) l h)

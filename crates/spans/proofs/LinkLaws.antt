-- Links: where the label and the target of one end. The label ends at the first `]`, so no link starts in it, and its reading asks nothing of
-- what reads labels (document 02, U11).
-- Assumes nothing.
use mathlib.Core.Path.{◌≡◌, refl, ap, ◌∙◌, subst}
use Prim.Native.Nat.{ℕ, suc, ◌+◌, ◌≤◌, ◌<◌}
use native.Mathlib.Omega.{arith}
use mathlib.Core.Bool.{Bool, true, false, not, ◌&&◌}
use mathlib.Core.Logic.{◌⊎◌, inl, inr}
use mathlib.Core.Option.{Option, none, some}
use mathlib.Core.List.{List, [], ◌∷◌, map}
use lib.ListN.{length, take, drop, length-drop}
use lib.Dec.{eqb}
use Rattle.std.specs.Prelude.{if◌then◌else◌}
use Rattle.text.specs.Words.{◌>>=◌, is, is_empty, starts, index, find}
use Rattle.text.proofs.Tests.{on, by_case, true_false, then_some, ensure_some}
use Rattle.records.specs.Blocks.{Span}
use Rattle.spans.specs.Spans.{Walk, link, Step, made, label, code_step, star_step, link_step, image_step, step, carry, walk}
use Rattle.spans.specs.Turn.{linked, turned}
use Rattle.spans.specs.Shown.{yields_label}
use Rattle.spans.proofs.SpanLaws.{drop_keeps, walk_agree}

-- ---- places

-- what is found stands in the list
pub index_inside : (x : ℕ) (s : List ℕ) (n : ℕ) → index (x ∷ []) s ≡ some n → n < length s
unfolding index
index_inside x [] n e = let z : ◌≡◌ {A = ℕ} 0 1 = cc in absurd (omega arith)
index_inside x (c ∷ s) n e = go (eqb c x && true) (index (x ∷ []) s) (λ k f. index_inside x s k f) n e
  where
    go : (t : Bool) (o : Option ℕ) → ((k : ℕ) → o ≡ some k → k < length s) → (n : ℕ) → (if t then some 0 else o >>= (λ k. some (suc k))) ≡ some n → n < suc (length s)
    go true o f n e = let z : n ≡ 0 = cc in omega arith
    go false none f n e = let z : ◌≡◌ {A = ℕ} 0 1 = cc in absurd (omega arith)
    go false (some k) f n e = let z : n ≡ suc k = cc in omega (arith, f k refl)

-- a link's label ends at the first `]`, and its target behind that, in the line
pub record LinkIs (s : List ℕ) (l : ℕ × ℕ) : Type 0 where
  pub close : find "]" s ≡ some l.0
  pub order : l.0 + 2 ≤ l.1
  pub end : l.1 < length s

pub link_is : (s : List ℕ) (l : ℕ × ℕ) → link s ≡ some l → LinkIs s l
unfolding link
link_is s l e =
    let (close, first, e₁) = then_some (find "]" s) _ e in
    let (paren, e₂) = ensure_some (starts "(" (drop (close + 1) s)) _ e₁ in
    let (end, last, e₃) = then_some (find ")" (drop (close + 2) s)) _ e₂ in
    places close end first (index_inside 41 (drop (close + 2) s) end last) e₃
  where
    places : (close end : ℕ) → find "]" s ≡ some close → end < length (drop (close + 2) s) → some (close, close + 2 + end) ≡ some l → LinkIs s l
    places close end first h e =
        let q : close ≡ l.0 = cc in
        let r : close + 2 + end ≡ l.1 = cc in
        record { close = first ∙ ap some q; order = omega arith; end = omega (arith, length-drop (close + 2) s) }

-- ---- no `]` in the list

abbrev Unclosed : List ℕ → Type 0
Unclosed s = find "]" s ≡ none

pub unclosed_tail : (c : ℕ) (s : List ℕ) → Unclosed (c ∷ s) → Unclosed s
unfolding index
unclosed_tail c s h = go (eqb c 93 && true) (find "]" s) h
  where
    go : (t : Bool) (o : Option ℕ) → (if t then some 0 else o >>= (λ n. some (suc n))) ≡ none → o ≡ none
    go true o e = let z : ◌≡◌ {A = ℕ} 0 1 = cc in absurd (omega arith)
    go false none e = refl
    go false (some n) e = let z : ◌≡◌ {A = ℕ} 0 1 = cc in absurd (omega arith)

pub unclosed_drop : (n : ℕ) (s : List ℕ) → Unclosed s → Unclosed (drop n s)
unclosed_drop n s h = drop_keeps Unclosed unclosed_tail n s h

-- before the first `]` there is none
before_close : (s : List ℕ) (n : ℕ) → find "]" s ≡ some n → Unclosed (take n s)
unfolding index
before_close [] n e = let z : ◌≡◌ {A = ℕ} 0 1 = cc in absurd (omega arith)
before_close (c ∷ s) n e = go (λ k f. before_close s k f) (eqb c 93 && true) refl (find "]" s) refl n e
  where
    later : (k : ℕ) → eqb c 93 && true ≡ false → Unclosed (take k s) → Unclosed (c ∷ take k s)
    later k t h = rw (t, h)

    go : ((k : ℕ) → find "]" s ≡ some k → Unclosed (take k s)) → (t : Bool) → eqb c 93 && true ≡ t → (o : Option ℕ) → find "]" s ≡ o
        → (n : ℕ) → (if t then some 0 else o >>= (λ n. some (suc n))) ≡ some n → Unclosed (take n (c ∷ s))
    go h true p o q n e = let z : 0 ≡ n = cc in subst (λ (k : ℕ). Unclosed (take k (c ∷ s))) z refl
    go h false p none q n e = let z : ◌≡◌ {A = ℕ} 0 1 = cc in absurd (omega arith)
    go h false p (some k) q n e = let z : suc k ≡ n = cc in subst (λ (k : ℕ). Unclosed (take k (c ∷ s))) z (later k p (h k q))

-- so there is none in a label
pub label_unclosed : (s : List ℕ) (l : ℕ × ℕ) → link s ≡ some l → Unclosed (take l.0 s)
label_unclosed s l e = before_close s l.0 (link_is s l e).close

-- ---- a turn yields no label, or that of the link that starts there

abbrev Yields : List ℕ → Step → Type 0
Yields s x = (yields_label x ≡ false) ⊎ ((l : ℕ × ℕ) × (link s ≡ some l) × (x ≡ label l.0 (l.1 + 1)))

yields : (w : Walk) (c : ℕ) (s : List ℕ) → Yields s (step w c s)
unfolding step code_step star_step link_step image_step
yields w c s =
    on (Yields s) (is "\\" c && not (is_empty s)) (λ _. inl refl)
    (λ _. on (Yields s) (is "`" c) (λ _. by_case (Yields s) (find "`" s) (λ _. inl refl) (λ n _. inl refl))
    (λ _. on (Yields s) (is "*" c) (λ _. on (Yields s) (starts "*" s) (λ _. inl refl) (λ _. inl refl))
    (λ _. on (Yields s) (is "[" c) (λ _. by_case (Yields s) (link s) (λ _. inl refl) (λ l e. inr (l, e, refl)))
    (λ _. on (Yields s) (is "!" c && starts "[" s) (λ _. by_case (Yields s) (link (drop 1 s)) (λ _. inl refl) (λ l _. inl refl))
    (λ _. inl refl)))))

-- where no `]` follows, none
pub unclosed_step : (w : Walk) (c : ℕ) (s : List ℕ) → Unclosed s → yields_label (step w c s) ≡ false
unclosed_step w c s h = go (yields w c s)
  where
    go : Yields s (step w c s) → yields_label (step w c s) ≡ false
    go (inl e) = e
    go (inr (l, e, f)) = let there = (link_is s l e).close in let z : ◌≡◌ {A = ℕ} 0 1 = cc in absurd (omega arith)

-- ---- two readers of labels

-- a turn that yields no label is the same by both, and one that does where they agree on that label
made_same : (p q : List ℕ → List Span) (w : Walk) (s : List ℕ) (x : Step) → yields_label x ≡ false → turned p w s x ≡ turned q w s x
unfolding turned
made_same p q w s (made out v n) e = refl
made_same p q w s (label close n) e = true_false e

link_same : (p q : List ℕ → List Span) (w : Walk) (c : ℕ) (s : List ℕ) → ((l : ℕ × ℕ) → link s ≡ some l → p (take l.0 s) ≡ q (take l.0 s))
    → turned p w s (step w c s) ≡ turned q w s (step w c s)
unfolding turned
link_same p q w c s agree = go (step w c s) (yields w c s)
  where
    go : (x : Step) → Yields s x → turned p w s x ≡ turned q w s x
    go x (inl e) = made_same p q w s x e
    go x (inr (l, e, f)) = rw f (ap (λ (ss : List Span). linked w (map (carry w) ss) (l.1 + 1)) (agree l e))

-- any two read alike what has no `]`
pub unclosed_walk : (p q : List ℕ → List Span) (s : List ℕ) → Unclosed s → (w : Walk) → walk p w 0 s ≡ walk q w 0 s
unclosed_walk p q s h w =
    walk_agree p q Unclosed unclosed_tail (λ w c s g. made_same p q w s (step w c s) (unclosed_step w c s (unclosed_tail c s g)))
    (length s) s (omega arith) h w

-- two that agree on the labels of links read every line alike
pub links_walk : (p q : List ℕ → List Span) → ((s : List ℕ) (l : ℕ × ℕ) → link s ≡ some l → p (take l.0 s) ≡ q (take l.0 s))
    → (s : List ℕ) (w : Walk) → walk p w 0 s ≡ walk q w 0 s
links_walk p q agree s w =
    walk_agree p q (λ _. Unit {0}) (λ c s _. tt) (λ w c s _. link_same p q w c s (agree s)) (length s) s (omega arith) tt w

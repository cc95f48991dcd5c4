-- Parts of a text are sublists of it: what is left without the ends, without comments, and of its lines with what stands between them.
-- Assumes nothing.
use Prim.Native.Nat.{ℕ, zero, suc}
use mathlib.Core.Path.{◌≡◌, refl, sym, subst, subst₂}
use mathlib.Core.Bool.{Bool}
use mathlib.Core.List
use mathlib.Core.List.{List, [], ◌∷◌, ◌++◌, reverse, reverse-cons, reverse-reverse, append-nil, Sublistᴰ}
use borrow.Author.Tests.{eqb-true}
use lib.Dec.{eqb}
use Rattle.text.specs.Words.{drop_while, trim_end_matches, trim_matches}
use Rattle.text.proofs.Tests.{on, by_case}
use Rattle.markdown.specs.Blocks.{comment, cleaned, before_lines, lines}

-- the front of a list
pub front_sublist : (xs ys : List ℕ) → Sublistᴰ xs (xs ++ ys)
front_sublist [] ys = List.Sublistᴰ.nil-sublist ys
front_sublist (x ∷ xs) ys = List.Sublistᴰ.cons-cons refl (front_sublist xs ys)

pub while_sublist : (p : ℕ → Bool) (s : List ℕ) → Sublistᴰ (drop_while p s) s
unfolding drop_while
while_sublist p [] = List.Sublistᴰ.slnil
while_sublist p (c ∷ s) = on (λ (l : List ℕ). Sublistᴰ l (c ∷ s)) (p c) (λ _. List.Sublistᴰ.cons (while_sublist p s)) (λ _. List.Sublistᴰ.refl (c ∷ s))

reverse_sublist : {xs ys : List ℕ} → Sublistᴰ xs ys → Sublistᴰ (reverse xs) (reverse ys)
reverse_sublist List.Sublistᴰ.slnil = List.Sublistᴰ.slnil
reverse_sublist (List.Sublistᴰ.cons {a = y} {l₁ = xs} {l₂ = ys} d) =
    subst₂ Sublistᴰ (append-nil (reverse xs)) (sym (reverse-cons y ys)) (List.Sublistᴰ.append (reverse_sublist d) (List.Sublistᴰ.nil-sublist (y ∷ [])))
reverse_sublist (List.Sublistᴰ.cons-cons {a = x} {b = y} {l₁ = xs} {l₂ = ys} e d) =
    subst₂ Sublistᴰ (sym (reverse-cons x xs)) (sym (reverse-cons y ys)) (List.Sublistᴰ.append (reverse_sublist d) (List.Sublistᴰ.cons-cons e List.Sublistᴰ.slnil))

pub trim_sublist : (p : ℕ → Bool) (s : List ℕ) → Sublistᴰ (trim_matches p s) s
unfolding trim_end_matches
trim_sublist p s =
    let t = drop_while p s in
    let ended : Sublistᴰ (reverse (drop_while p (reverse t))) t =
    subst (Sublistᴰ (reverse (drop_while p (reverse t)))) (reverse-reverse t) (reverse_sublist (while_sublist p (reverse t))) in
    List.Sublistᴰ.trans ended (while_sublist p s)

pub cleaned_sublist : (n : ℕ) (s : List ℕ) → Sublistᴰ (cleaned n s) s
unfolding cleaned
cleaned_sublist zero [] = List.Sublistᴰ.slnil
cleaned_sublist (suc n) [] = List.Sublistᴰ.slnil
cleaned_sublist (suc n) (c ∷ s) = List.Sublistᴰ.cons (cleaned_sublist n s)
cleaned_sublist zero (c ∷ s) =
    by_case (λ (l : List ℕ). Sublistᴰ l (c ∷ s)) (comment (c ∷ s))
    (λ _. List.Sublistᴰ.cons-cons refl (cleaned_sublist 0 s)) (λ n _. List.Sublistᴰ.cons (cleaned_sublist n s))

-- ---- lines, with the line end before each but the first
abbrev pub more_lines : List (List ℕ) → List ℕ
more_lines [] = []
more_lines (l ∷ ls) = ((10 ∷ []) ++ l) ++ more_lines ls

abbrev pub all_lines : List (List ℕ) → List ℕ
all_lines [] = []
all_lines (l ∷ ls) = l ++ more_lines ls

before_sublist : (c : ℕ) (s : List ℕ) (ls : List (List ℕ)) → Sublistᴰ (all_lines ls) s → Sublistᴰ (all_lines (before_lines c ls)) (c ∷ s)
before_sublist c s [] h = List.Sublistᴰ.cons-cons refl (List.Sublistᴰ.nil-sublist s)
before_sublist c s (l ∷ ls) h = List.Sublistᴰ.cons-cons refl h

ended_sublist : (c : ℕ) (s : List ℕ) (ls : List (List ℕ)) → 10 ≡ c → Sublistᴰ (all_lines ls) s → Sublistᴰ (more_lines ls) (c ∷ s)
ended_sublist c s [] e h = List.Sublistᴰ.nil-sublist (c ∷ s)
ended_sublist c s (l ∷ ls) e h = List.Sublistᴰ.cons-cons e h

pub lines_sublist : (s : List ℕ) → Sublistᴰ (all_lines (lines s)) s
unfolding lines
lines_sublist [] = List.Sublistᴰ.slnil
lines_sublist (c ∷ s) =
    on (λ (ls : List (List ℕ)). Sublistᴰ (all_lines ls) (c ∷ s)) (eqb c 10)
    (λ e. ended_sublist c s (lines s) (sym (eqb-true c 10 e)) (lines_sublist s)) (λ _. before_sublist c s (lines s) (lines_sublist s))

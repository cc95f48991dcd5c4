-- Without spaces, `·` and `•`, which the reader itself writes, what is shown of a text are characters of it (document 02, U11, for a whole
-- reading).
-- Assumes nothing.
use Prim.Native.Nat.{ℕ}
use Prim.Native.String.{String}
use mathlib.Core.Path.{◌≡◌, refl, sym, ap, subst}
use mathlib.Core.Bool.{Bool, true, false, ◌&&◌}
use mathlib.Core.Logic.{∥∥₁_map}
use mathlib.Core.List.Sublistᴰ
use mathlib.Core.List.{List, [], ◌∷◌, ◌++◌, Sublistᴰ, Sublist}
use lib.Dec.{eqb}
use Rattle.std.specs.Prelude.{if◌then◌else◌}
use Rattle.text.specs.Words.{matches}
use Rattle.text.proofs.Tests.{on}
use Rattle.markdown.specs.Shown.{instead, Rewritten, ends, stays, rewrites, Shows, without}

module _ (p : String) where
  without_append : (xs ys : List ℕ) → without p (xs ++ ys) ≡ without p xs ++ without p ys
  unfolding without
  without_append [] ys = refl
  without_append (x ∷ xs) ys = go (matches p x) (without_append xs ys)
    where
      go : (t : Bool) → without p (xs ++ ys) ≡ without p xs ++ without p ys
          → (if t then without p (xs ++ ys) else x ∷ without p (xs ++ ys)) ≡ (if t then without p xs else x ∷ without p xs) ++ without p ys
      go true e = e
      go false e = ap (λ (l : List ℕ). x ∷ l) e

  -- a character and a list without
  without_cons : (xs : List ℕ) {ys : List ℕ} (c : ℕ) → Sublistᴰ (without p xs) ys → Sublistᴰ (without p (c ∷ xs)) (c ∷ ys)
  unfolding without
  without_cons xs {ys} c h = on (λ (l : List ℕ). Sublistᴰ l (c ∷ ys)) (matches p c) (λ _. Sublistᴰ.cons h) (λ _. Sublistᴰ.cons-cons refl h)

  without_sublist : {xs ys : List ℕ} → Sublistᴰ xs ys → Sublistᴰ (without p xs) (without p ys)
  unfolding without
  without_sublist Sublistᴰ.slnil = Sublistᴰ.slnil
  without_sublist (Sublistᴰ.cons {a = y} {l₁ = xs} {l₂ = ys} d) =
      let h = without_sublist d in on (Sublistᴰ (without p xs)) (matches p y) (λ _. h) (λ _. Sublistᴰ.cons h)
  without_sublist (Sublistᴰ.cons-cons {a = x} {b = y} {l₁ = xs} {l₂ = ys} e d) =
      subst (λ (c : ℕ). Sublistᴰ (without p (c ∷ xs)) (without p (y ∷ ys))) (sym e) (go (matches p y) (without_sublist d))
    where
      go : (t : Bool) → Sublistᴰ (without p xs) (without p ys)
          → Sublistᴰ (if t then without p xs else y ∷ without p xs) (if t then without p ys else y ∷ without p ys)
      go true h = h
      go false h = Sublistᴰ.cons-cons refl h

-- in place of a character stands it or nothing
instead_sublist : (marked : Bool) (c : ℕ) → Sublistᴰ (without " ·•" (instead marked c)) (c ∷ [])
unfolding instead without
instead_sublist marked c =
    on (λ (l : List ℕ). Sublistᴰ (without " ·•" l) (c ∷ [])) (eqb c 10) (λ _. Sublistᴰ.cons Sublistᴰ.slnil)
    (λ _. on (λ (l : List ℕ). Sublistᴰ (without " ·•" l) (c ∷ [])) (eqb c 124) (λ _. Sublistᴰ.cons Sublistᴰ.slnil)
    (λ _. on (λ (l : List ℕ). Sublistᴰ (without " ·•" l) (c ∷ [])) (marked && matches "-*+" c) (λ _. Sublistᴰ.cons Sublistᴰ.slnil)
    (λ _. without_cons " ·•" [] c Sublistᴰ.slnil)))

rewritten_sublist : {marked : Bool} {s t : List ℕ} → Rewritten marked s t → Sublistᴰ (without " ·•" t) s
unfolding without
rewritten_sublist ends = Sublistᴰ.slnil
rewritten_sublist (stays {c = c} {t = t} r) = without_cons " ·•" t c (rewritten_sublist r)
rewritten_sublist {marked = marked} (rewrites {c = c} {s = s} {t = t} r) =
    subst (λ (l : List ℕ). Sublistᴰ l (c ∷ s)) (sym (without_append " ·•" (instead marked c) t))
    (Sublistᴰ.append (instead_sublist marked c) (rewritten_sublist r))

pub shows_without : (marked : Bool) (seen text : List ℕ) → Shows marked seen text → Sublist (without " ·•" seen) text
shows_without marked seen text p =
    ∥∥₁_map {B = Sublistᴰ (without " ·•" seen) text} p.from (λ d. Sublistᴰ.trans (without_sublist " ·•" d) (rewritten_sublist p.rewritten))

-- What `map` makes of an array, where what a call gives is a function of the element.
-- Assumes nothing.
use Rattle.std.specs.Prelude.{ℕ, ◌≡◌, ◌<◌, List, length, map, get_or}
use native.Mathlib.Omega.{arith}
use mathlib.Core.Path.{sym, ap, subst, ◌∙◌}
use denote.Param.Members.{Mut, Called}
use Rattle.std.specs.Array.{IsMapOf}
use Rattle.std.proofs.lemmas.List.{get_or-map, length-map, ext_get_or}

-- the function is k and then h; d is any element
pub mapped : {F A B C : Type 0} {g : Mut F (A × Unit {0}) B} (k : A → C) (h : C → B) (d : A) {f : F} {xs : List A} {ys : List B} {n : ℕ}
    → IsMapOf g f xs ys n → ((p : F) (x : A) (y : B) (q : F) → Called g p (x, tt) y q → y ≡ h (k x)) → length xs ≡ n → ys ≡ map h (map k xs)
mapped {F} {A} {B} {C} {g} k h d {f} {xs} {ys} {n} m is long = ext_get_or (h (k d)) ys (map h (map k xs)) lengths element
  where
    lengths : length ys ≡ length (map h (map k xs))
    lengths = m.long ∙ (sym long ∙ (sym (length-map xs k) ∙ sym (length-map (map k xs) h)))

    element : (i : ℕ) → i < length ys → get_or ys i (h (k d)) ≡ get_or (map h (map k xs)) i (h (k d))
    element i l =
        let here : i < length xs = omega arith in
        let there = subst (λ (n : ℕ). i < n) (sym (length-map xs k)) here in
        let r = m.at i d (h (k d)) (omega arith) in
        is r.0 _ _ r.1 r.2 ∙ sym (get_or-map h (map k xs) i (k d) (h (k d)) there ∙ ap h (get_or-map k xs i d (k d) here))

-- The laws of a search for a text, place by place.
-- Assumes nothing.
use Prim.Native.Nat.{ℕ, suc, ◌+◌, ◌≤◌, ◌<◌}
use mathlib.Core.Bool.{Bool, true, false, not, ◌&&◌, ◌||◌, and_assoc, and-true as and_true_right}
use mathlib.Core.Option.{Option, none, some}
use mathlib.Core.List.{List, [], ◌∷◌}
use mathlib.Core.Path.{◌≡◌, refl, sym, ap, ◌∙◌, subst}
use native.Mathlib.Omega.{arith}
use lib.Dec.{eqb}
use lib.ListN.{length, get_or, drop, length-drop}
use Rattle.text.specs.Words.{◌>>=◌, starts_with, index}
use Rattle.text.specs.Run.{SeekTo, other}
use Rattle.text.specs.Find.{found}
use Rattle.std.specs.Prelude.{Some, None}
use Rattle.text.proofs.Lists.{drop_next}
use Rattle.text.proofs.Tests.{false_true, and_false}
use Rattle.text.proofs.AsciiLaws.{starts_short}

found_later : (i : ℕ) (o : Option ℕ) → found i (o >>= (λ n. some (suc n))) ≡ found (i + 1) o
found_later i none = refl
found_later i (some n) = ap Some (omega arith)

-- no place is left where fewer bytes are left than p has
index_short : (d : ℕ) (p s : List ℕ) → length s < suc (length p) → index (d ∷ p) s ≡ none
unfolding index
index_short d p [] h = refl
index_short d p (c ∷ s) h = rw (starts_short (d ∷ p) (c ∷ s) h, index_short d p s (omega arith))

pub none_left : (d : ℕ) (p s : List ℕ) (i : ℕ) → length s < i + suc (length p) → found i (index (d ∷ p) (drop i s)) ≡ None
none_left d p s i h = rw (index_short d p (drop i s) (omega (arith, length-drop i s)))

module _ (p s : List ℕ) where
  place_other : (j : ℕ) → j < length s → starts_with p (drop j s) ≡ false → found j (index p (drop j s)) ≡ found (j + 1) (index p (drop (j + 1) s))
  unfolding index
  place_other j l e = rw (drop_next s j l, rw (drop_next s j l) at e) (found_later j (index p (drop (j + 1) s)))

  place_here : (j : ℕ) → j < length s → starts_with p (drop j s) ≡ true → index p (drop j s) ≡ some 0
  unfolding index
  place_here j l e = rw (drop_next s j l, rw (drop_next s j l) at e)

  -- ---- a search from place i that is at place j
  module _ (i : ℕ) where
    pub seek_start : i ≤ length s → SeekTo p s i i
    seek_start l = record { low = omega arith; high = l; same = refl }

    pub seek_next : (j : ℕ) → SeekTo p s i j → j < length s → starts_with p (drop j s) ≡ false → SeekTo p s i (j + 1)
    seek_next j h l e = record { low = omega (arith, h.low); high = omega arith; same = h.same ∙ place_other j l e }

    pub seek_on : (j k : ℕ) → SeekTo p s i j → SeekTo p s j k → SeekTo p s i k
    seek_on j k h l = record { low = omega (arith, h.low, l.low); high = l.high; same = h.same ∙ l.same }

    -- by the answer r of a test for p at j
    pub seek_not : (j : ℕ) (r : Bool) → SeekTo p s i j → j < length s → r ≡ starts_with p (drop j s) → r ≡ false → SeekTo p s i (j + 1)
    seek_not j r h l e f = seek_next j h l (sym e ∙ f)

    pub seek_found : (j : ℕ) (r : Bool) → SeekTo p s i j → j < length s → r ≡ starts_with p (drop j s) → r ≡ true → Some j ≡ found i (index p (drop i s))
    seek_found j r h l e f = sym (h.same ∙ rw (place_here j l (sym e ∙ f)) (ap Some (omega arith)))

-- ---- three bytes at a place
pub twice : (t u : Bool) → t && u ≡ t && t && u
twice true u = refl
twice false u = refl

starts_at : (d : ℕ) (p s : List ℕ) (j : ℕ) → j < length s → starts_with (d ∷ p) (drop j s) ≡ eqb (get_or s j 0) d && starts_with p (drop (j + 1) s)
starts_at d p s j l = rw (drop_next s j l)

module _ (s : List ℕ) (a b c j : ℕ) (l : j + 3 ≤ length s) where
  abbrev X : Bool
  X = eqb (get_or s j 0) a

  abbrev Y : Bool
  Y = eqb (get_or s (j + 1) 0) b

  abbrev Z : Bool
  Z = eqb (get_or s (j + 2) 0) c

  pub three_at : starts_with (a ∷ b ∷ c ∷ []) (drop j s) ≡ X && Y && Z
  three_at =
      let q : j + 1 + 1 ≡ j + 2 = omega arith in
      rw (starts_at a (b ∷ c ∷ []) s j (omega arith), starts_at b (c ∷ []) s (j + 1) (omega arith), q, starts_at c [] s (j + 2) (omega arith), and_true_right Z)
      (sym (and_assoc X Y Z))

  pub three_other : not X || not Y || not Z ≡ true → starts_with (a ∷ b ∷ c ∷ []) (drop j s) ≡ false
  three_other e = three_at ∙ by X Y Z e
    where
      by : (t u v : Bool) → not t || not u || not v ≡ true → t && u && v ≡ false
      by true true true e = sym e
      by true true false e = refl
      by true false v e = refl
      by false u v e = refl

  -- where the third byte is none of them, they stand at none of the three places that reach it
  module _ (r : Bool) (told : r ≡ other a (get_or s (j + 2) 0) && other b (get_or s (j + 2) 0) && other c (get_or s (j + 2) 0)) (yes : r ≡ true) where
    none_of : (eqb (get_or s (j + 2) 0) a ≡ false) × ((eqb (get_or s (j + 2) 0) b ≡ false) × (Z ≡ false))
    unfolding other
    none_of = by (eqb (get_or s (j + 2) 0) a) (eqb (get_or s (j + 2) 0) b) Z (sym told ∙ yes)
      where
        by : (t u v : Bool) → not t && not u && not v ≡ true → (t ≡ false) × ((u ≡ false) × (v ≡ false))
        by false false false e = (refl, (refl, refl))
        by false false true e = false_true e
        by false true v e = false_true e
        by true u v e = false_true e

    pub three_apart : SeekTo (a ∷ b ∷ c ∷ []) s j (j + 3)
    three_apart =
        let p = a ∷ b ∷ c ∷ [] in
        let q : j + 1 + 1 ≡ j + 2 = omega arith in
        let three : j + 1 + 1 + 1 ≡ j + 3 = omega arith in
        let here : starts_with p (drop j s) ≡ false = three_at ∙ and_false (X && Y) Z none_of.1.1 in
        let behind : starts_with (b ∷ c ∷ []) (drop (j + 1 + 1) s) ≡ false = rw q (starts_at b (c ∷ []) s (j + 2) (omega arith) ∙ rw none_of.1.0 refl) in
        let next : starts_with p (drop (j + 1) s) ≡ false = starts_at a (b ∷ c ∷ []) s (j + 1) (omega arith) ∙ and_false (eqb (get_or s (j + 1) 0) a) _ behind in
        let last : starts_with p (drop (j + 1 + 1) s) ≡ false = rw q (starts_at a (b ∷ c ∷ []) s (j + 2) (omega arith) ∙ rw none_of.0 refl) in
        let past_one = seek_next p s j j (seek_start p s j (omega arith)) (omega arith) here in
        let past_two = seek_next p s j (j + 1) past_one (omega arith) next in
        subst (λ (k : ℕ). SeekTo p s j k) three (seek_next p s j (j + 1 + 1) past_two (omega arith) last)

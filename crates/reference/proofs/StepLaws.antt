-- The laws of the reference step: what stands before the first `;`, in characters and in bytes.
-- Assumes nothing.
use Prim.Native.Nat.{ℕ, suc, min, ◌+◌, ◌-◌, ◌≤◌, ◌<◌}
use mathlib.Core.List.{List, [], ◌∷◌, ◌++◌, append_assoc}
use mathlib.Core.Logic.{⊎_elim}
use mathlib.Core.Option.{none, some}
use mathlib.Core.Path.{◌≡◌, refl, sym, ap, ◌∙◌}
use borrow.Author.Tests.{leb-true, leb-false, le-leb}
use Rattle.std.proofs.lemmas.List.{take_all}
use native.Mathlib.Omega.{arith}
use lib.Dec.{leb}
use lib.ListN.{length, take, drop, length-append, length-take, take-append-drop}
use lib.Seq.{take-append_seam, take-append-add}
use Rattle.text.specs.Words.{◌>>=◌, ensure, index}
use Rattle.text.specs.Utf8.{size, chars}
use Rattle.text.proofs.Tests.{decide}
use Rattle.text.proofs.Laws.{size_chars}
use Rattle.reference.specs.Unescape.{named, reference}
use Rattle.reference.proofs.SplitLaws.{Without, First, missing, here, first, index_missing, index_here, chars_without, chars_here}
use Rattle.reference.proofs.AsciiNames.{sized, sized_chars}

-- ---- the step, by what stands before the first `;`
pub reference_missing : (s : List ℕ) → Without 59 s → reference s ≡ none
unfolding reference
reference_missing s w = rw (index_missing 59 s w)

pub reference_here : (u v : List ℕ) → Without 59 u → reference (u ++ 59 ∷ v) ≡ (ensure (leb (1 + size u) 10) >>= λ _. sized u)
unfolding reference
reference_here u v w = rw (index_here 59 u v w, take-append_seam u (59 ∷ v))

-- on bytes
pub bytes_missing : (bs : List ℕ) → Without 59 bs → reference (chars bs) ≡ none
bytes_missing bs w = reference_missing (chars bs) (chars_without 59 (omega arith) bs w)

pub bytes_here : (u v : List ℕ) → Without 59 u → reference (chars (u ++ 59 ∷ v)) ≡ (ensure (leb (1 + length u) 10) >>= λ _. sized u)
bytes_here u v w =
    ap reference (chars_here 59 (omega arith) u v)
    ∙ reference_here (chars u) (chars v) (chars_without 59 (omega arith) u w)
    ∙ rw (size_chars u, sized_chars u)

-- ---- what the code finds in the next 10 bytes
pub near_none : (bs : List ℕ) → index (59 ∷ []) (take 10 bs) ≡ none → reference (chars bs) ≡ none
near_none bs e = by (first 59 bs)
  where
    far : (u v : List ℕ) → Without 59 u → bs ≡ u ++ 59 ∷ v → length u ≤ 9 → ⊥
    far u v w q l =
        let k = 9 - length u in
        let r : 10 ≡ length u + suc k = omega arith in
        let t : take 10 bs ≡ u ++ 59 ∷ take k v = rw (q, r) (take-append-add u (59 ∷ v) (suc k)) in
        let i = index_here 59 u (take k v) w in
        let z : ◌≡◌ {A = ℕ} 0 1 = cc in
        omega arith

    by : First 59 bs → reference (chars bs) ≡ none
    by (missing w) = bytes_missing bs w
    by (here u v w q) =
        ap (λ (l : List ℕ). reference (chars l)) q
        ∙ bytes_here u v w
        ∙ ⊎_elim (λ t. absurd (far u v w q (omega (arith, leb-true (1 + length u) 10 t)))) (λ t. rw t) (decide (leb (1 + length u) 10))

-- at the end nothing is found
pub near_end : (bs : List ℕ) → bs ≡ [] → reference (chars bs) ≡ none
unfolding index
near_end bs e = near_none bs (rw e refl)

-- all bytes where there are no more than 10
pub near_take : (bs : List ℕ) → take (min (length bs) 10) bs ≡ take 10 bs
near_take bs =
    ⊎_elim
    (λ t.
    let l = leb-true (length bs) 10 t in
    take_all (min (length bs) 10) bs (omega arith) ∙ sym (take_all 10 bs l))
    (λ t.
    let l = leb-false (length bs) 10 t in
    let k : min (length bs) 10 ≡ 10 = omega arith in
    ap (λ (n : ℕ). take n bs) k)
    (decide (leb (length bs) 10))

pub record Near (bs : List ℕ) (n : ℕ) : Type 0 where
  pub small : n ≤ 9
  pub bound : n < length bs
  pub exact : length (take n (take 10 bs)) ≡ n
  pub step : reference (chars bs) ≡ (named (take n (take 10 bs)) >>= λ c. some (c, n + 1))

pub near_some : (bs : List ℕ) (n : ℕ) → index (59 ∷ []) (take 10 bs) ≡ some n → Near bs n
near_some bs n e = by (first 59 (take 10 bs))
  where
    by : First 59 (take 10 bs) → Near bs n
    by (missing w) = let i = index_missing 59 (take 10 bs) w in let z : ◌≡◌ {A = ℕ} 0 1 = cc in absurd (omega arith)
    by (here u v w q) =
        let i = index_here 59 u v w in
        let m : length u ≡ n = cc in
        let l = length-append u (59 ∷ v) in
        let k = ap length q in
        let t = length-take 10 bs in
        let r : bs ≡ u ++ 59 ∷ (v ++ drop 10 bs) = sym (take-append-drop 10 bs) ∙ ap (λ (x : List ℕ). x ++ drop 10 bs) q ∙ append_assoc u (59 ∷ v) (drop 10 bs) in
        let a : take n (take 10 bs) ≡ u = rw (q, ← m) (take-append_seam u (59 ∷ v)) in
        let h : 1 + length u ≤ 10 = omega arith in
        record {
          small = omega arith;
          bound = omega arith;
          exact = rw a m;
          step = rw a (ap (λ (x : List ℕ). reference (chars x)) r ∙ bytes_here u (v ++ drop 10 bs) w ∙ rw (le-leb (1 + length u) 10 h, m));
        }

module _ (bs : List ℕ) (n : ℕ) (h : Near bs n) where
  pub near_left : named (take n (take 10 bs)) ≡ none → reference (chars bs) ≡ none
  near_left e = h.step ∙ rw e

  pub near_replaced : (c : ℕ) → named (take n (take 10 bs)) ≡ some c → reference (chars bs) ≡ some (c, n + 1)
  near_replaced c e = h.step ∙ rw e

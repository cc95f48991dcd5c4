-- The turns of the loop that stores the cells of a row behind the part of the buffer that it reads.
-- Assumes nothing.
use Prim.Native.Nat.{ℕ, suc, ◌+◌, ◌*◌, ◌-◌, ◌≤◌, ◌<◌}
use mathlib.Core.Bool.{Bool, true, false, and-true as and_true_right}
use mathlib.Core.List.{List, [], ◌∷◌, ◌++◌, append_assoc, append-nil}
use mathlib.Core.Logic.{⊎_elim}
use mathlib.Core.Path.{◌≡◌, sym, ap, ◌∙◌, subst}
use borrow.Author.Tests.{eq-eqb, eqb-true}
use lib.Dec.{eqb}
use native.Mathlib.Omega.{arith}
use lib.ListN.{length, get_or, take, drop, set, length-append}
use lib.Seq.{sets, sets-eq, length-sets, take_at, take-take, take-suc, take-append-le, drop-append-le, drop-drop, length-take-le}
use Rattle.text.specs.Words.{starts, take_while, trim_end_matches}
use Rattle.text.specs.Utf8.{Scalars, chars}
use Rattle.text.proofs.RunLaws.{run_le}
use Rattle.text.proofs.Tests.{starts_room, decide}
use Rattle.text.proofs.TrimLaws.{end_snoc}
use Rattle.text.proofs.Lists.{drop_next}
use Rattle.text.specs.Part.{between}
use Rattle.std.specs.Prelude.{Some, None}
use Rattle.std.specs.Prelude as code
use Rattle.markdown.specs.Cells.{cells, dot_bytes, CellsIs, RowIs, bar_size}
use Rattle.markdown.proofs.PartLaws.{drop_take, part_none, part_length}
use Rattle.markdown.proofs.CellLaws.{cells_spaced, cells_bar, cells_kept, end_nil, bar, row_is}

-- ---- parts after a store
pub part_next : (l : List ℕ) (a b : ℕ) → a < b → b ≤ length l → between l a b ≡ get_or l a 0 ∷ between l (a + 1) b
part_next l a b h m =
    let q : b - a ≡ suc (b - (a + 1)) = omega arith in
    rw (drop_next l a (omega arith)) (ap (λ (n : ℕ). take n (get_or l a 0 ∷ drop (a + 1) l)) q)

pub part_drop : (l : List ℕ) (a b n : ℕ) → drop n (between l a b) ≡ between l (a + n) b
part_drop l a b n =
    let q : b - a - n ≡ b - (a + n) = omega arith in
    rw (drop_take n (b - a) (drop a l), drop-drop n a l, q)

module _ (w : List ℕ) (k : ℕ) (vs : List ℕ) (room : k + length vs ≤ length w) (at : ℕ) (low : at ≤ k) where
  pub sets_part : between (sets w k vs) at (k + length vs) ≡ between w at k ++ vs
  sets_part =
      let n : length (take k w) ≡ k = length-take-le k w (omega arith) in
      sym (drop_take at (k + length vs) (sets w k vs))
      ∙ ap (drop at)
      (ap (take (k + length vs)) (sets-eq vs w k room)
      ∙ take_at (take k w ++ vs) (drop (k + length vs) w) (k + length vs) (length-append (take k w) vs ∙ rw n))
      ∙ drop-append-le at (take k w) vs (omega arith)
      ∙ ap (λ (l : List ℕ). l ++ vs) (drop_take at k w)

  pub sets_below : take at (sets w k vs) ≡ take at w
  sets_below =
      let n : length (take k w) ≡ k = length-take-le k w (omega arith) in
      ap (take at) (sets-eq vs w k room ∙ append_assoc (take k w) vs (drop (k + length vs) w))
      ∙ take-append-le at (take k w) (vs ++ drop (k + length vs) w) (omega arith)
      ∙ take-take at k w low

-- a part below an offset, of two lists that are the same below it
pub part_below : (v w : List ℕ) (at a b : ℕ) → take at v ≡ take at w → b ≤ at → between v a b ≡ between w a b
part_below v w at a b e h =
    sym (drop_take a b v)
    ∙ ap (drop a) (sym (take-take b at v h) ∙ ap (take b) e ∙ take-take b at w h)
    ∙ drop_take a b w

-- ---- the loop
pub record Filling (work₀ work : List ℕ) (a b at i k : ℕ) : Type 0 where
  pub text : between work at k ++ cells dot_bytes 0 (between work₀ i b) ≡ cells dot_bytes 0 (between work₀ a b)
  pub same : take at work ≡ take at work₀
  pub size : length work ≡ length work₀
  pub low : a ≤ i
  pub high : i ≤ b
  pub start : at ≤ k
  pub room : k ≤ at + 4 * (i - a)

module _ (work₀ : List ℕ) (a b at : ℕ) where
  module _ (work : List ℕ) (i k : ℕ) (v : Filling work₀ work a b at i k) (m : b ≤ at) (fits : at + 4 * (b - a) ≤ length work₀) where
    same_part : (j : ℕ) → between work j b ≡ between work₀ j b
    same_part j = part_below work work₀ at j b v.same m

    -- some bytes are stored for the next n
    pub filling_more : (vs : List ℕ) (n : ℕ) → cells dot_bytes 0 (between work i b) ≡ vs ++ cells dot_bytes 0 (between work (i + n) b)
        → i + n ≤ b → length vs ≤ 4 * n → Filling work₀ (sets work k vs) a b at (i + n) (k + length vs)
    filling_more vs n e h l =
        let s = v.size in
        let r = v.room in
        let w = v.low in
        let z = v.start in
        let f : k + length vs ≤ length work = omega arith in
        record {
          text =
              rw (sets_part work k vs f at v.start)
              (append_assoc (between work at k) vs (cells dot_bytes 0 (between work₀ (i + n) b))
              ∙ ap (λ (l : List ℕ). between work at k ++ l)
              (ap (λ (x : List ℕ). vs ++ cells dot_bytes 0 x) (sym (same_part (i + n))) ∙ sym e ∙ ap (cells dot_bytes 0) (same_part i))
              ∙ v.text);
          same = sets_below work k vs f at v.start ∙ v.same;
          size = length-sets work k vs ∙ v.size;
          low = omega arith;
          high = h;
          start = omega arith;
          room = omega arith;
        }

    module _ (l : i < b) where
      left_cons : between work i b ≡ get_or work i 0 ∷ between work (i + 1) b
      left_cons = let s = v.size in part_next work i b l (omega (arith, v.low))

      spaced_in : starts " | " (between work i b) ≡ true → i + 3 ≤ b
      spaced_in e =
          let s = v.size in
          let n = part_length work i b (omega arith) (omega (arith, v.low)) in
          omega (arith, starts_room (32 ∷ 124 ∷ 32 ∷ []) (between work i b) 0 (omega arith) e)

      filling_spaced : (work₁ : List ℕ) → starts " | " (between work i b) ≡ true → work₁ ≡ sets work k dot_bytes → Filling work₀ work₁ a b at (i + 3) (k + 4)
      filling_spaced work₁ e f =
          let c = left_cons in
          let q : i + 1 + 2 ≡ i + 3 = omega arith in
          rw f
          (filling_more dot_bytes 3
          (ap (cells dot_bytes 0) c
          ∙ cells_spaced dot_bytes (get_or work i 0) (between work (i + 1) b) (rw c at e)
          ∙ ap (λ (x : List ℕ). dot_bytes ++ cells dot_bytes 0 x) (part_drop work (i + 1) b 2 ∙ rw q))
          (spaced_in e) (omega arith))

      module _ (e : starts " | " (between work i b) ≡ false) where
        filling_bar : (work₁ : List ℕ) → get_or work i 0 ≡ 124 → work₁ ≡ sets work k dot_bytes → Filling work₀ work₁ a b at (i + 1) (k + 4)
        filling_bar work₁ g f =
            let c = left_cons in
            rw f
            (filling_more dot_bytes 1
            (ap (cells dot_bytes 0) c ∙ cells_bar dot_bytes (get_or work i 0) (between work (i + 1) b) (rw c at e) g)
            (omega arith) (omega arith))

        filling_kept : (get_or work i 0 ≡ 124 → ⊥) → Filling work₀ (set work k (get_or work i 0)) a b at (i + 1) (k + 1)
        filling_kept g =
            let c = left_cons in
            filling_more (get_or work i 0 ∷ []) 1
            (ap (cells dot_bytes 0) c ∙ cells_kept dot_bytes (get_or work i 0) (between work (i + 1) b) (rw c at e) g)
            (omega arith) (omega arith)

      -- what stands at i, by its length
      starts_bar : starts "|" (between work i b) ≡ eqb (get_or work i 0) 124
      starts_bar = rw left_cons (and_true_right (eqb (get_or work i 0) 124))

      module _ (o : code.Option ℕ) (e : o ≡ bar_size (between work i b)) where
        is_three : starts " | " (between work i b) ≡ true → o ≡ Some 3
        is_three h = e ∙ rw h

        is_one : starts " | " (between work i b) ≡ false → eqb (get_or work i 0) 124 ≡ true → o ≡ Some 1
        is_one h g = e ∙ rw (h, starts_bar, g)

        is_none : starts " | " (between work i b) ≡ false → eqb (get_or work i 0) 124 ≡ false → o ≡ None
        is_none h g = e ∙ rw (h, starts_bar, g)

        size : (n m : ℕ) → o ≡ Some n → o ≡ Some m → m ≡ n
        size n m f g = cc

        pub filling_dot : (n : ℕ) (work₁ : List ℕ) → o ≡ Some n → work₁ ≡ sets work k dot_bytes → Filling work₀ work₁ a b at (i + n) (k + 4)
        filling_dot n work₁ z f =
            ⊎_elim
            (λ h. subst (λ (j : ℕ). Filling work₀ work₁ a b at (i + j) (k + 4)) (size n 3 z (is_three h)) (filling_spaced work₁ h f))
            (λ h.
            ⊎_elim
            (λ g. subst (λ (j : ℕ). Filling work₀ work₁ a b at (i + j) (k + 4)) (size n 1 z (is_one h g)) (filling_bar h work₁ (eqb-true (get_or work i 0) 124 g) f))
            (λ g. let y = is_none h g in cc)
            (decide (eqb (get_or work i 0) 124)))
            (decide (starts " | " (between work i b)))

        pub filling_other : o ≡ None → Filling work₀ (set work k (get_or work i 0)) a b at (i + 1) (k + 1)
        filling_other z =
            ⊎_elim
            (λ h. let y = is_three h in cc)
            (λ h. filling_kept h (λ g. let y = is_one h (eq-eqb (get_or work i 0) 124 g) in cc))
            (decide (starts " | " (between work i b)))

    pub filling_end : b ≤ i → CellsIs work₀ work a b at k
    unfolding cells
    filling_end h =
        let z : i ≡ b = omega (arith, v.high) in
        let r = v.room in
        let w = v.low in
        record {
          text = sym (append-nil (between work at k)) ∙ (rw (z, part_none work₀ b) at v.text);
          low = v.start;
          high = omega arith;
        }

-- ---- the bars at the end
module _ (p : ℕ → Bool) (s : List ℕ) (e : ℕ) (v : trim_end_matches p (take e s) ≡ trim_end_matches p s) where
  pub bars_stop : 0 < e → e ≤ length s → p (get_or s (e - 1) 0) ≡ false → take e s ≡ trim_end_matches p s
  bars_stop l h f =
      let q : e ≡ suc (e - 1) = omega arith in
      let t : take e s ≡ take (e - 1) s ++ (get_or s (e - 1) 0 ∷ []) = ap (λ (n : ℕ). take n s) q ∙ take-suc s (e - 1) 0 (omega arith) in
      t ∙ sym (end_snoc p (take (e - 1) s) (get_or s (e - 1) 0) ∙ rw f) ∙ ap (trim_end_matches p) (sym t) ∙ v

  pub bars_next : 0 < e → e ≤ length s → p (get_or s (e - 1) 0) ≡ true → trim_end_matches p (take (e - 1) s) ≡ trim_end_matches p s
  bars_next l h f =
      let q : e ≡ suc (e - 1) = omega arith in
      let t : take e s ≡ take (e - 1) s ++ (get_or s (e - 1) 0 ∷ []) = ap (λ (n : ℕ). take n s) q ∙ take-suc s (e - 1) 0 (omega arith) in
      sym (end_snoc p (take (e - 1) s) (get_or s (e - 1) 0) ∙ rw f) ∙ ap (trim_end_matches p) (sym t) ∙ v

  pub bars_none : e ≤ 0 → take e s ≡ trim_end_matches p s
  bars_none l = let q : e ≡ 0 = omega arith in rw q (sym (end_nil p) ∙ (rw q at v))

-- ---- the row
module _ (work : List ℕ) (from to m n : ℕ) (o : from ≤ to) (l : to ≤ length work) (e : m ≡ length (take_while bar (between work from to))) where
  pub row_start : from + m ≤ to
  row_start = omega (arith, run_le bar (between work from to), part_length work from to o l)

  pub row_stored : (f : take n (between work (from + m) to) ≡ trim_end_matches bar (between work (from + m) to)) → n ≤ length (between work (from + m) to)
      → (work₁ : List ℕ) (at r : ℕ) → Scalars (chars (between work from to)) → CellsIs work work₁ (from + m) (from + m + n) at r → RowIs work work₁ from to at r
  row_stored f h work₁ at r s v =
      let k = row_start in
      let d : between work (from + m) to ≡ drop (length (take_while bar (between work from to))) (between work from to) =
      sym (part_drop work from to m) ∙ ap (λ (x : ℕ). drop x (between work from to)) e
      in
      let q : from + m + n - (from + m) ≡ n = omega arith in
      let j = part_length work (from + m) to k l in
      let t : between work (from + m) (from + m + n) ≡ trim_end_matches bar (drop (length (take_while bar (between work from to))) (between work from to)) =
      rw q (sym (take-take n (to - (from + m)) (drop (from + m) work) (omega arith)) ∙ f ∙ ap (trim_end_matches bar) d)
      in
      record {
        text = rw (v.text, t) (row_is (between work from to) s);
        low = v.low;
        high = omega (arith, v.high);
      }

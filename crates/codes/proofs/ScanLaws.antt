-- The bits of a text that is read byte by byte: a byte takes each code's word to that of the longer text.
-- Assumes nothing.
use Rattle.std.proofs.Common.{◌≡◌, ℕ, List, [], ◌∷◌, zero, suc, ◌+◌, ◌*◌, ◌/◌, ◌%◌, ◌^◌, ◌<◌}
use Rattle.std.proofs.Common.{◌≤◌, refl, sym, ap, ◌∙◌, arith, slice_index, bit_and, bit_or, min, max, div-add-mod', replicate}
use mathlib.Core.Bool.{Bool, true, false, ◌&&◌, ◌||◌}
use Rattle.std.specs.Int.{bit_at}
use Rattle.std.proofs.lemmas.Nat.Bits.{bit_at_and, bit_at_or, bit_at-suc, bit_at-zero, bit_at-lt, bit_at_cat_low}
use Rattle.std.proofs.lemmas.List.{get_or-replicate}
use Rattle.records.specs.Format.{bit}
use Rattle.codes.specs.Readers.{has, ends, stood, nth, HasMasks, IsScan}
use Rattle.codes.specs.declared.scan.Scan.{Scan}

-- a code's word after a byte, for which it has this mask
abbrev pub next : ℕ → ℕ → ℕ
next live mask = bit_and (bit_or ((live * 2) % 4294967296) 1) mask

-- ---- its bits
shifted : (n j : ℕ) → suc j < 32 → bit_at ((n * 2) % 4294967296) (suc j) ≡ bit_at n j
shifted n j l =
    let parts : ((n * 2) / 2 ^ 32) * 2 ^ 32 + (n * 2) % 2 ^ 32 ≡ n * 2 = div-add-mod' (n * 2) (2 ^ 32) in
    let kept = bit_at_cat_low ((n * 2) / 2 ^ 32) 32 ((n * 2) % 2 ^ 32) (suc j) l in
    let half : (n * 2) / 2 ≡ n = omega arith in
    sym kept ∙ ap (λ (v : ℕ). bit_at v (suc j)) parts ∙ bit_at-suc (n * 2) j ∙ ap (λ (v : ℕ). bit_at v j) half

one_above : (j : ℕ) → bit_at 1 (suc j) ≡ 0
one_above j = bit_at-suc 1 j ∙ bit_at-zero j

module _ (live mask : ℕ) where
  abbrev moved : ℕ
  moved = (live * 2) % 4294967296

  next_low : bit_at (next live mask) 0 ≡ bit_at mask 0
  next_low =
      let one : bit_at 1 0 ≡ 1 = refl in
      let m = bit_at-lt mask 0 in
      omega (arith, bit_at_and (bit_or moved 1) mask 0, bit_at_or moved 1 0, bit_at-lt moved 0, one, m)

  next_high : (j : ℕ) → suc j < 32 → bit_at (next live mask) (suc j) ≡ min (bit_at live j) (bit_at mask (suc j))
  next_high j l =
      omega (arith, bit_at_and (bit_or moved 1) mask (suc j), bit_at_or moved 1 (suc j), shifted live j l, one_above j)

bit_both : (a b : Bool) → bit (a && b) 1 ≡ min (bit b 1) (bit a 1)
bit_both true true = refl
bit_both true false = refl
bit_both false true = refl
bit_both false false = refl

bit_alone : (a : Bool) → bit a 1 ≡ bit (a && true) 1
bit_alone true = refl
bit_alone false = refl

bit_either : (a b : Bool) → bit (a || b) 1 ≡ max (bit b 1) (bit a 1)
bit_either true true = refl
bit_either true false = refl
bit_either false true = refl
bit_either false false = refl

-- ---- all the words
-- the words of the first i codes are those after the byte whose masks stand from row on, the others those before it
pub record Stepped (old new : Scan) (masks : List ℕ) (row i : ℕ) : Type 0 where
  pub live : (k : ℕ) → k < i → slice_index new.live k ≡ next (slice_index old.live k) (slice_index masks (row + k))
  pub hit : (k : ℕ) → k < i → slice_index new.hit k ≡ bit_or (slice_index old.hit k) (next (slice_index old.live k) (slice_index masks (row + k)))
  pub live_left : (k : ℕ) → i ≤ k → slice_index new.live k ≡ slice_index old.live k
  pub hit_left : (k : ℕ) → i ≤ k → slice_index new.hit k ≡ slice_index old.hit k

module _ (codes : List (List ℕ)) where
  pub scan_start : IsScan codes [] (record { live = replicate 16 0; hit = replicate 16 0 })
  unfolding ends stood
  scan_start =
      let none : (i j : ℕ) → i < 16 → bit_at (slice_index (replicate 16 0) i) j ≡ 0
      = λ i j l. ap (λ (n : ℕ). bit_at n j) (get_or-replicate 16 i 0 0 l) ∙ bit_at-zero j in
      record { live = λ i j l m. none i j l; hit = λ i j l m. none i j l }

  module _ {r : List ℕ} {b row : ℕ} {old new : Scan} {masks : List ℕ} (has_masks : HasMasks codes masks) (scan : IsScan codes r old)
      (byte : b < 256) (starts : row ≡ b * 16) {n : ℕ} (stepped : Stepped old new masks row n) (all : 16 ≤ n) where
    below : (i : ℕ) → i < 16 → i < n
    below i l = omega arith

    live_next : (i j : ℕ) → i < 16 → j < 32 → bit_at (next (slice_index old.live i) (slice_index masks (row + i))) j ≡ bit (ends (nth codes i) (suc j) (b ∷ r)) 1
    unfolding ends
    live_next i zero l m =
        rw starts (next_low (slice_index old.live i) (slice_index masks (b * 16 + i)) ∙ has_masks b i 0 byte l m ∙ bit_alone (has (nth codes i) 0 b))
    live_next i (suc j) l m =
        let c = nth codes i in
        let mask = slice_index masks (b * 16 + i) in
        rw starts
        (next_high (slice_index old.live i) mask j m
        ∙ ap (λ (n : ℕ). min n (bit_at mask (suc j))) (scan.live i j l (omega arith))
        ∙ ap (min (bit (ends c (suc j) r) 1)) (has_masks b i (suc j) byte l m)
        ∙ sym (bit_both (has c (suc j) b) (ends c (suc j) r)))

    hit_next : (i j : ℕ) → i < 16 → j < 32 → bit_at (slice_index new.hit i) j ≡ bit (stood (nth codes i) j (b ∷ r)) 1
    unfolding stood
    hit_next i j l m =
        let c = nth codes i in
        let now = next (slice_index old.live i) (slice_index masks (row + i)) in
        ap (λ (n : ℕ). bit_at n j) (stepped.hit i (below i l))
        ∙ bit_at_or (slice_index old.hit i) now j
        ∙ ap (λ (n : ℕ). max n (bit_at now j)) (scan.hit i j l m)
        ∙ ap (max (bit (stood c j r) 1)) (live_next i j l m)
        ∙ sym (bit_either (ends c (suc j) (b ∷ r)) (stood c j r))

    pub scan_next : IsScan codes (b ∷ r) new
    scan_next =
        record {
          live = λ i j l m. ap (λ (n : ℕ). bit_at n j) (stepped.live i (below i l)) ∙ live_next i j l m;
          hit = hit_next;
        }

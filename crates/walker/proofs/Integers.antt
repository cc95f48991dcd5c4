-- Integers of some bytes: what the code makes of them, and that two and four bytes are the decoder's.
-- Assumes nothing.
use Prim.Native.Nat.{ℕ, ◌+◌, ◌-◌, ◌*◌, ◌≤◌}
use native.Mathlib.Omega.{arith}
use mathlib.Core.Path.{◌≡◌, refl, sym, ap, ◌∙◌}
use mathlib.Core.List.{List, [], ◌∷◌, ◌++◌}
use lib.ListN.{length, take, drop, replicate, length-drop}
use lib.Seq.{drop-drop, length-take-le}
use borrow.Author.Tests.{le-leb}
use Rattle.std.specs.Int.{w64, from_le_bytes}
use Rattle.records.specs.Decode.{u16, u32, part, parsed}
use Rattle.walker.specs.Readers.{worth, integer}

-- with zeros behind them they are a number of 8 bytes
pub padded : (t : List ℕ) → length t ≤ 8 → from_le_bytes w64 (t ++ drop (length t) (replicate 8 0)) ≡ worth t
padded [] h = refl
padded (a ∷ []) h = omega arith
padded (a ∷ b ∷ []) h = omega arith
padded (a ∷ b ∷ c ∷ []) h = omega arith
padded (a ∷ b ∷ c ∷ d ∷ []) h = omega arith
padded (a ∷ b ∷ c ∷ d ∷ e ∷ []) h = omega arith
padded (a ∷ b ∷ c ∷ d ∷ e ∷ f ∷ []) h = omega arith
padded (a ∷ b ∷ c ∷ d ∷ e ∷ f ∷ g ∷ []) h = omega arith
padded (a ∷ b ∷ c ∷ d ∷ e ∷ f ∷ g ∷ i ∷ []) h = omega arith
padded (a ∷ b ∷ c ∷ d ∷ e ∷ f ∷ g ∷ i ∷ j ∷ t) h = absurd (omega arith)

-- what is read of a slice into 8 bytes
pub integer_at : (s : List ℕ) (at k : ℕ) {n : ℕ} {t : List ℕ} → k ≤ 8 → at ≤ length s → k ≤ length s - at → t ≡ take (at + k - at) (drop at s)
    → n ≡ from_le_bytes w64 (t ++ drop k (replicate 8 0)) → (integer k (drop at s) ≡ parsed n (drop (at + k) s)) × (at + k ≤ length s)
unfolding integer part
integer_at s at k {n} {t} h o l e f =
    let j : at + k - at ≡ k = omega arith in
    let g : t ≡ take k (drop at s) = e ∙ ap (λ (k : ℕ). take k (drop at s)) j in
    let m : length t ≡ k = ap length g ∙ length-take-le k (drop at s) (rw length-drop l) in
    let v : n ≡ worth (take k (drop at s)) = f ∙ ap (λ (k : ℕ). from_le_bytes w64 (t ++ drop k (replicate 8 0))) (sym m) ∙ padded t (rw m h) ∙ ap worth g in
    (rw (length-drop at s, le-leb k (length s - at) l, drop-drop k at s, v), omega arith)

-- two and four bytes
pub u16_is : (s : List ℕ) → u16 s ≡ integer 2 s
unfolding u16 integer part
u16_is [] = refl
u16_is (a ∷ []) = refl
u16_is (a ∷ b ∷ s) =
    let e : a + 256 * b ≡ worth (a ∷ b ∷ []) = omega arith in
    rw (le-leb 2 (length (a ∷ b ∷ s)) (omega arith), e)

pub u32_is : (s : List ℕ) → u32 s ≡ integer 4 s
unfolding u32 integer part
u32_is [] = refl
u32_is (a ∷ []) = refl
u32_is (a ∷ b ∷ []) = refl
u32_is (a ∷ b ∷ c ∷ []) = refl
u32_is (a ∷ b ∷ c ∷ d ∷ s) =
    let e : a + 256 * b + 65536 * c + 16777216 * d ≡ worth (a ∷ b ∷ c ∷ d ∷ []) = omega arith in
    rw (le-leb 4 (length (a ∷ b ∷ c ∷ d ∷ s)) (omega arith), e)

-- Decoding a record string one block after the other, by what stands at its front.
-- Assumes nothing.
use Prim.Native.Nat.{ℕ, zero, suc, ◌+◌, ◌<◌, ◌≤◌}
use native.Mathlib.Omega.{arith}
use mathlib.Core.Path.{◌≡◌, refl, sym, ap, ◌∙◌}
use mathlib.Core.List.{List, [], ◌∷◌}
use lib.ListN.{length, get_or, length-append}
use mir.Val.{Fits}
use mir.Syntax.{w8}
use Rattle.records.specs.Blocks.{Block}
use Rattle.records.specs.Format.{encode_block}
use Rattle.records.specs.Decode.{Bytes, Parse, failed, parsed, ◌▹◌, head_at, block_at, blocks_at, decode_blocks}
use Rattle.records.proofs.Decoded.{not_failed, block_inv}
use Rattle.records.proofs.RoundTrip.{block_some}

-- what is known of a lent slice
pub bytes_are : (s : List ℕ) → ((i : ℕ) → Fits w8 (get_or s i 0)) → Bytes s
bytes_are [] h = tt
bytes_are (a ∷ s) h = let l : Fits w8 a = h 0 in (omega arith, bytes_are s (λ i. h (suc i)))

pub nothing_there : block_at [] ≡ failed
unfolding block_at head_at
nothing_there = refl

-- a block takes a byte at least
pub block_size : (s : List ℕ) {b : Block} {r : List ℕ} → Bytes s → block_at s ≡ parsed b r → (length s ≡ length (encode_block b) + length r) × (1 ≤ length (encode_block b))
block_size s {b} {r} w e = (ap length (block_inv s e w).same ∙ length-append (encode_block b) r, block_some b)

-- so turns enough are enough
abbrev then_all : Parse Block → ℕ → Parse (List Block)
then_all p k = p ▹ λ b r. blocks_at k r ▹ λ bs q. parsed (b ∷ bs) q

turns : (k j : ℕ) (s : List ℕ) → Bytes s → length s ≤ k → length s ≤ j → blocks_at k s ≡ blocks_at j s
unfolding blocks_at
turns zero zero s w l m = refl
turns zero (suc j) [] w l m = refl
turns zero (suc j) (a ∷ s) w l m = absurd (omega arith)
turns (suc k) zero [] w l m = refl
turns (suc k) zero (a ∷ s) w l m = absurd (omega arith)
turns (suc k) (suc j) [] w l m = refl
turns (suc k) (suc j) (a ∷ s) w l m = by (λ r. turns k j r) (block_at (a ∷ s)) refl
  where
    by : ((r : List ℕ) → Bytes r → length r ≤ k → length r ≤ j → blocks_at k r ≡ blocks_at j r) → (p : Parse Block) → block_at (a ∷ s) ≡ p
        → then_all p k ≡ then_all p j
    by h failed e = refl
    by h (parsed b r) e =
        let (n, i) = block_size (a ∷ s) w e in
        let z : length (a ∷ s) ≡ length (encode_block b) + length r = n in
        rw (h r (block_inv (a ∷ s) e w).left (omega arith) (omega arith))

-- what is left with one block before it
abbrev pub with_block : Block → Parse (List Block) → Parse (List Block)
with_block b p = p ▹ λ bs q. parsed (b ∷ bs) q

pub decode_step : (s : List ℕ) {b : Block} {r : List ℕ} → Bytes s → block_at s ≡ parsed b r → decode_blocks s ≡ with_block b (decode_blocks r)
unfolding decode_blocks blocks_at
decode_step [] w e = not_failed (sym nothing_there ∙ e)
decode_step (a ∷ s) {b} {r} w e =
    let (n, i) = block_size (a ∷ s) w e in
    let z : length (a ∷ s) ≡ length (encode_block b) + length r = n in
    rw (e, turns (length s) (length r) r (block_inv (a ∷ s) e w).left (omega arith) (omega arith))

pub decode_bad : (s : List ℕ) → 0 < length s → block_at s ≡ failed → decode_blocks s ≡ failed
unfolding decode_blocks blocks_at
decode_bad [] l e = absurd (omega arith)
decode_bad (a ∷ s) l e = rw e

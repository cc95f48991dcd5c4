-- Records and blocks, both ways: a well-formed block's record decodes to the block and what follows it; what decodes is the
-- record of a well-formed block; and the same for whole record strings. So records give back their blocks, and one list of blocks
-- has one record string.
-- Assumes nothing.
use Prim.Native.Nat.{ℕ, zero, suc, ◌≤◌}
use native.Mathlib.Omega.{arith}
use mathlib.Core.Path.{◌≡◌, refl, sym, ap, subst, ◌∙◌}
use mathlib.Core.Logic.{◌↔◌}
use mathlib.Core.List.{List, [], ◌∷◌, ◌++◌}
use lib.ListN.{length, length-append}
use Rattle.records.specs.Blocks.{Block}
use Rattle.records.specs.Format.{encode_block, encode_blocks, WfBlock, WfBlocks}
use Rattle.records.specs.Decode.{Bytes, parsed, block_at, blocks_at, decode_blocks}
use Rattle.records.proofs.Encoded.{block_at_of}
use Rattle.records.proofs.Decoded.{not_failed, then_inv, block_inv}

-- ---- one block
pub record_decodes : (b : Block) (s : List ℕ) → WfBlock b → block_at (encode_block b ++ s) ≡ parsed b s
record_decodes = block_at_of

pub decoded_is_record : (s : List ℕ) {b : Block} {r : List ℕ} → block_at s ≡ parsed b r → Bytes s → (s ≡ encode_block b ++ r) × WfBlock b
decoded_is_record s h w = let x = block_inv s h w in (x.same, x.good)

pub record_iff : (s : List ℕ) (b : Block) (r : List ℕ) → Bytes s → (block_at s ≡ parsed b r) ↔ (WfBlock b × (s ≡ encode_block b ++ r))
record_iff s b r w =
    (λ h. let x = decoded_is_record s h w in (x.1, x.0), λ h. ap block_at h.1 ∙ record_decodes b r h.0)

-- ---- whole strings
pub block_some : (b : Block) → 1 ≤ length (encode_block b)
unfolding encode_block
block_some b = omega arith

-- with turns enough
all_of : (k : ℕ) (bs : List Block) → WfBlocks bs → length (encode_blocks bs) ≤ k → blocks_at k (encode_blocks bs) ≡ parsed bs []
unfolding blocks_at encode_blocks encode_block
all_of zero [] w h = refl
all_of (suc k) [] w h = refl
all_of zero (b ∷ bs) w h = absurd (omega arith)
all_of (suc k) (b ∷ bs) w h =
    let m = length-append (encode_block b) (encode_blocks bs) in
    let o = block_some b in
    rw (block_at_of b (encode_blocks bs) w.0, all_of k bs w.1 (omega arith))

pub records_give_back : (bs : List Block) → WfBlocks bs → decode_blocks (encode_blocks bs) ≡ parsed bs []
unfolding decode_blocks
records_give_back bs w = all_of (length (encode_blocks bs)) bs w (omega arith)

record All (s : List ℕ) (bs : List Block) (r : List ℕ) : Type 0 where
  same : s ≡ encode_blocks bs
  good : WfBlocks bs
  left : r ≡ []

none : {bs : List Block} {r : List ℕ} → parsed [] [] ≡ parsed bs r → All [] bs r
unfolding encode_blocks
none {bs} {r} h =
    let e : [] ≡ bs = cc in
    record { same = ap encode_blocks e; good = subst WfBlocks e tt; left = cc }

all_inv : (k : ℕ) (s : List ℕ) {bs : List Block} {r : List ℕ} → blocks_at k s ≡ parsed bs r → Bytes s → All s bs r
unfolding blocks_at encode_blocks
all_inv zero [] {bs} {r} h w = none h
all_inv (suc k) [] {bs} {r} h w = none h
all_inv zero (a ∷ s) h w = not_failed h
all_inv (suc k) (a ∷ s) {bs} h w =
    let (b, q, e₁, h₁) = then_inv (block_at (a ∷ s)) _ h in
    let (cs, q', e₂, h₂) = then_inv (blocks_at k q) _ h₁ in
    let x = block_inv (a ∷ s) e₁ w in
    let y = all_inv k q e₂ x.left in
    let e : b ∷ cs ≡ bs = cc in
    record {
      same = x.same ∙ ap (λ (l : List ℕ). encode_block b ++ l) y.same ∙ ap encode_blocks e;
      good = subst WfBlocks e (x.good, y.good);
      left = cc y.left;
    }

pub decoded_are_records : (s : List ℕ) {bs : List Block} {r : List ℕ} → decode_blocks s ≡ parsed bs r → Bytes s → (s ≡ encode_blocks bs) × WfBlocks bs × (r ≡ [])
unfolding decode_blocks
decoded_are_records s h w = let x = all_inv (length s) s h w in (x.same, x.good, x.left)

-- the record string of a list of blocks is the one byte string that decodes to it
pub records_iff : (s : List ℕ) (bs : List Block) → Bytes s → (decode_blocks s ≡ parsed bs []) ↔ (WfBlocks bs × (s ≡ encode_blocks bs))
records_iff s bs v =
    (λ h. let x = decoded_are_records s h v in (x.1, x.0), λ h. ap decode_blocks h.1 ∙ records_give_back bs h.0)

-- one record string has one list of blocks, and one list of blocks one record string
pub one_list : (bs cs : List Block) → WfBlocks bs → WfBlocks cs → encode_blocks bs ≡ encode_blocks cs → bs ≡ cs
one_list bs cs v w e =
    let p : parsed bs [] ≡ parsed cs [] = sym (records_give_back bs v) ∙ ap decode_blocks e ∙ records_give_back cs w in
    cc

pub one_record_string : (s t : List ℕ) {bs : List Block} {q r : List ℕ} → Bytes s → Bytes t → decode_blocks s ≡ parsed bs q → decode_blocks t ≡ parsed bs r → s ≡ t
one_record_string s t v w g h = (decoded_are_records s g v).0 ∙ sym (decoded_are_records t h w).0

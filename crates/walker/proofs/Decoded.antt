-- The blocks of records, read one after the other by the walker's answers: what an answer says of the blocks from its offset on.
-- Assumes nothing.
use Prim.Native.Nat.{ℕ, ◌+◌, ◌-◌, ◌<◌, ◌≤◌, zero-le}
use native.Mathlib.Omega.{arith}
use mathlib.Core.Path.{◌≡◌, refl, sym, ap, ◌∙◌}
use mathlib.Core.Bool.{Bool, true, false, cond}
use mathlib.Core.List.{List, [], ◌++◌}
use mathlib.Core.Option.{Option}
use lib.ListN.{length, get_or, drop, length-append, length-drop, drop_of_length-le}
use lib.Seq.{drop-drop, drop-append_seam, take-append_seam}
use lib.Dec.{leb, eqb}
use mir.Val.{Fits}
use mir.Syntax.{w8}
use borrow.Author.Tests.{le-leb, leb-true, leb-false, eqb-true, eqb-false}
use Rattle.text.specs.Part.{between, Inside}
use Rattle.records.specs.Blocks.{Block}
use Rattle.records.specs.Format.{encode_block, encode_blocks, WfBlock, WfBlocks}
use Rattle.records.specs.Decode.{Bytes, Parse, failed, parsed, only, block_at, blocks_at, decode_blocks}
use Rattle.records.proofs.Decoded.{not_failed, bytes_drop, block_inv}
use Rattle.records.proofs.RoundTrip.{decoded_are_records}
use Rattle.records.proofs.DecodeSteps.{bytes_are, nothing_there, block_size, with_block, decode_step, decode_bad}
use Rattle.records.proofs.FormatLaws.{blocks_append, wf_split}
use Rattle.walker.specs.Answers.{Answer, at_end, refused, gives, map, BlockValues, values_of, level_of, depth_of, placed, found_at, block_answer}
use Rattle.walker.specs.Numbers.{level_in, depth_in, block_values}
use Rattle.std.specs.Prelude.{Some, None, Ok, Err}
use Rattle.std.specs.Prelude as code
use Rattle.walker.specs.declared.blocks.Broken.{Broken}
use Rattle.walker.specs.declared.blocks.Block as B
use Rattle.walker.specs.Decoded.{blocks_from, is_whole}

-- ---- the blocks from an offset on, by what the walker finds there
module _ (s : List ℕ) where
  pub from_start : blocks_from s 0 ≡ decode_blocks s
  unfolding blocks_from
  from_start = rw (le-leb 0 (length s) zero-le)

module _ (s : List ℕ) (at : ℕ) where
  past_end : length s < at → block_at (drop at s) ≡ failed
  past_end l = let m : length s ≤ at = omega arith in ap block_at (drop_of_length-le s m) ∙ nothing_there

  -- a block stands there, and the next one behind it
  pub record Next (b : Block) (next : ℕ) : Type 0 where
    pub found : found_at s at ≡ gives (b, next)
    pub good : WfBlock b
    pub blocks : blocks_from s at ≡ with_block b (blocks_from s next)
    pub size : next ≡ at + length (encode_block b)
    pub later : at < next
    pub within : next ≤ length s

  next_is : {b : Block} {r : List ℕ} (next : ℕ) → found_at s at ≡ gives (b, next) → Bytes s → at ≤ length s → block_at (drop at s) ≡ parsed b r → next ≡ length s - length r
      → Next b next
  unfolding blocks_from
  next_is {b} {r} next f w l e n =
      let v = bytes_drop at s w in
      let x = block_inv (drop at s) e v in
      let (m, i) = block_size (drop at s) v e in
      let k = encode_block b in
      let d : length s - at ≡ length k + length r = sym (length-drop at s) ∙ m in
      let z : next ≡ at + length k = omega arith in
      let q : drop next s ≡ r = ap (λ (k : ℕ). drop k s) z ∙ sym (drop-drop (length k) at s) ∙ ap (drop (length k)) x.same ∙ drop-append_seam k r in
      record {
        found = f;
        good = x.good;
        blocks = rw (le-leb at (length s) l, le-leb next (length s) (omega arith), q) (decode_step (drop at s) v e);
        size = z;
        later = omega arith;
        within = omega arith;
      }

  pub found_next : {b : Block} {next : ℕ} → Bytes s → found_at s at ≡ gives (b, next) → Next b next
  unfolding found_at
  found_next {b} {next} w f = by (eqb at (length s)) (block_at (drop at s)) refl f (leb at (length s)) refl
    where
      by : (t : Bool) (p : Parse Block) → block_at (drop at s) ≡ p → cond t at_end (placed (length s) p) ≡ gives (b, next) → (u : Bool) → leb at (length s) ≡ u → Next b next
      by true p e g u v = let z : ◌≡◌ {A = ℕ} 0 1 = cc in absurd (omega arith)
      by false failed e g u v = let z : ◌≡◌ {A = ℕ} 0 1 = cc in absurd (omega arith)
      by false (parsed c r) e g true v =
          let x : ◌≡◌ {A = Block × ℕ} (c, length s - length r) (b, next) = cc in
          let y : next ≡ length s - length r = ap (λ (f : Block × ℕ). f.1) (sym x) in
          next_is next f w (leb-true at (length s) v) (e ∙ ap (λ (f : Block × ℕ). parsed f.0 r) x) y
      by false (parsed c r) e g false v = not_failed (sym (past_end (leb-false at (length s) v)) ∙ e)

  -- nothing stands there: the end, or 7
  found_where : {a : Answer (Block × ℕ)} → found_at s at ≡ a → (t : Bool) → eqb at (length s) ≡ t → (p : Parse Block) → block_at (drop at s) ≡ p
      → cond t at_end (placed (length s) p) ≡ a
  unfolding found_at
  found_where f t e p g = rw (← e, ← g) f

  end_is : at ≡ length s → blocks_from s at ≡ parsed [] []
  unfolding blocks_from decode_blocks blocks_at
  end_is n =
      let l : length s ≤ at = omega arith in
      rw (le-leb at (length s) (omega arith), drop_of_length-le s l)

  bad_is : eqb at (length s) ≡ false → block_at (drop at s) ≡ failed → blocks_from s at ≡ failed
  unfolding blocks_from
  bad_is e f = by (leb at (length s)) refl
    where
      by : (t : Bool) → leb at (length s) ≡ t → only t (decode_blocks (drop at s)) ≡ failed
      by true t =
          let l : at ≤ length s = leb-true at (length s) t in
          let n : at ≡ length s → ⊥ = eqb-false at (length s) e in
          decode_bad (drop at s) (rw length-drop (omega arith)) f
      by false t = refl

  pub left_at_end : found_at s at ≡ at_end → blocks_from s at ≡ parsed [] []
  left_at_end f = by (eqb at (length s)) refl (block_at (drop at s)) refl
    where
      by : (t : Bool) → eqb at (length s) ≡ t → (p : Parse Block) → block_at (drop at s) ≡ p → blocks_from s at ≡ parsed [] []
      by true t p e = end_is (eqb-true at (length s) t)
      by false t failed e = let g = found_where f false t failed e in let z : ◌≡◌ {A = ℕ} 0 1 = cc in absurd (omega arith)
      by false t (parsed b r) e = let g = found_where f false t (parsed b r) e in let z : ◌≡◌ {A = ℕ} 0 1 = cc in absurd (omega arith)

  pub left_at_bad : {n : ℕ} → found_at s at ≡ refused n → (n ≡ 7) × (blocks_from s at ≡ failed)
  left_at_bad {n} f = by (eqb at (length s)) refl (block_at (drop at s)) refl
    where
      by : (t : Bool) → eqb at (length s) ≡ t → (p : Parse Block) → block_at (drop at s) ≡ p → (n ≡ 7) × (blocks_from s at ≡ failed)
      by true t p e = let g = found_where f true t p e in let z : ◌≡◌ {A = ℕ} 0 1 = cc in absurd (omega arith)
      by false t failed e = let g = found_where f false t failed e in (cc, bad_is t e)
      by false t (parsed b r) e = let g = found_where f false t (parsed b r) e in let z : ◌≡◌ {A = ℕ} 0 1 = cc in absurd (omega arith)

  -- a block of these numbers stands there
  pub record Stands (l d : Option ℕ) (n next : ℕ) : Type 0 where
    pub block : Block
    pub level : level_of block.kind ≡ l
    pub depth : depth_of block.kind ≡ d
    pub count : length block.spans ≡ n
    pub then : Next block next

  stands_at : {v : BlockValues} → Bytes s → (f : Block × ℕ) → found_at s at ≡ gives f → gives v ≡ gives (values_of f.0 f.1) → Stands v.level v.depth v.count v.next
  stands_at {v} w f e g =
      let p : v ≡ values_of f.0 f.1 = cc in
      rw p (record { block = f.0; level = refl; depth = refl; count = refl; then = found_next w e })

  answer_stands : {v : BlockValues} → Bytes s → gives v ≡ block_answer s at → Stands v.level v.depth v.count v.next
  unfolding block_answer
  answer_stands {v} w g = by (found_at s at) refl g
    where
      by : (a : Answer (Block × ℕ)) → found_at s at ≡ a → gives v ≡ map (λ f. values_of f.0 f.1) a → Stands v.level v.depth v.count v.next
      by at_end e g = let z : ◌≡◌ {A = ℕ} 0 1 = cc in absurd (omega arith)
      by (refused n) e g = let z : ◌≡◌ {A = ℕ} 0 1 = cc in absurd (omega arith)
      by (gives f) e g = stands_at w f e g

  pub answer_end : at_end ≡ block_answer s at → blocks_from s at ≡ parsed [] []
  unfolding block_answer
  answer_end g = by (found_at s at) refl g
    where
      by : (a : Answer (Block × ℕ)) → found_at s at ≡ a → ◌≡◌ {A = Answer BlockValues} at_end (map (λ f. values_of f.0 f.1) a) → blocks_from s at ≡ parsed [] []
      by at_end e g = left_at_end e
      by (refused n) e g = let z : ◌≡◌ {A = ℕ} 0 1 = cc in absurd (omega arith)
      by (gives f) e g = let z : ◌≡◌ {A = ℕ} 0 1 = cc in absurd (omega arith)

  pub answer_bad : {n : ℕ} → refused n ≡ block_answer s at → blocks_from s at ≡ failed
  unfolding block_answer
  answer_bad {n} g = by (found_at s at) refl g
    where
      by : (a : Answer (Block × ℕ)) → found_at s at ≡ a → ◌≡◌ {A = Answer BlockValues} (refused n) (map (λ f. values_of f.0 f.1) a) → blocks_from s at ≡ failed
      by at_end e g = let z : ◌≡◌ {A = ℕ} 0 1 = cc in absurd (omega arith)
      by (refused k) e g = (left_at_bad e).1
      by (gives f) e g = let z : ◌≡◌ {A = ℕ} 0 1 = cc in absurd (omega arith)

  -- what is known by the case of `block_at`'s answer. All that is known of the records is their type, that of a lent slice of bytes
  pub stands_here : ((i : ℕ) → Fits w8 (get_or s i 0)) → {o : code.Option B.Block} {b : B.Block} → o ≡ Some b → block_values (Ok o) ≡ block_answer s at
      → Stands (level_in b.kind) (depth_in b.kind) b.count b.next
  stands_here w e g = answer_stands (bytes_are s w) (sym (ap (λ (o : code.Option B.Block). block_values (Ok o)) e) ∙ g)

  pub ends_here : {o : code.Option B.Block} → o ≡ None → block_values (Ok o) ≡ block_answer s at → blocks_from s at ≡ parsed [] []
  ends_here e g = answer_end (sym (ap (λ (o : code.Option B.Block). block_values (Ok o)) e) ∙ g)

  pub broken_here : {b : Broken} → block_values (Err b) ≡ block_answer s at → blocks_from s at ≡ failed
  broken_here g = answer_bad g

-- ---- the part of the records that some of their blocks are
pub record HoldsBlocks (s : List ℕ) (start end : ℕ) (x : List Block) : Type 0 where
  pub within : Inside s start end
  pub records : between s start end ≡ encode_blocks x
  pub good : WfBlocks x

pub holds_blocks : (s : List ℕ) (at : ℕ) → Bytes s → (before x behind : List Block) {q : List ℕ} {start end : ℕ} → blocks_from s at ≡ parsed (before ++ (x ++ behind)) q
    → start ≡ at + length (encode_blocks before) → end ≡ start + length (encode_blocks x) → HoldsBlocks s start end x
unfolding blocks_from
holds_blocks s at w before x behind {q} {start} {end} e m n = by (leb at (length s)) refl e
  where
    by : (t : Bool) → leb at (length s) ≡ t → only t (decode_blocks (drop at s)) ≡ parsed (before ++ (x ++ behind)) q → HoldsBlocks s start end x
    by false t e = not_failed e
    by true t e =
        let (p, v, _) = decoded_are_records (drop at s) e (bytes_drop at s w) in
        let b = encode_blocks before in
        let i = encode_blocks x in
        let r = encode_blocks behind in
        let f : drop at s ≡ b ++ (i ++ r) = p ∙ blocks_append before (x ++ behind) ∙ ap (λ (l : List ℕ). b ++ l) (blocks_append x behind) in
        let g : drop start s ≡ i ++ r = ap (λ (k : ℕ). drop k s) m ∙ sym (drop-drop (length b) at s) ∙ ap (drop (length b)) f ∙ drop-append_seam b (i ++ r) in
        let l : at ≤ length s = leb-true at (length s) t in
        let k : length s - at ≡ length b + (length i + length r) = sym (length-drop at s) ∙ ap length f ∙ length-append b (i ++ r) ∙ ap (λ (k : ℕ). length b + k) (length-append i r) in
        let z : end - start ≡ length i = omega arith in
        record {
          within = record { order = omega arith; bound = omega arith };
          records = rw (z, g) (take-append_seam i r);
          good = (wf_split x behind (wf_split before (x ++ behind) v).1).0;
        }

-- ---- a loop over the blocks
module _ (s : List ℕ) (at : ℕ) {l d : Option ℕ} {n next : ℕ} (x : Stands s at l d n next) where
  -- its measure
  pub turn_less : length s - next < length s - at
  turn_less = let l : at < next = x.then.later in let m : next ≤ length s = x.then.within in omega arith

  -- what is left is whole exactly if all is
  pub whole_next : is_whole (blocks_from s next) ≡ is_whole (blocks_from s at)
  whole_next = by (blocks_from s next) ∙ ap is_whole (sym x.then.blocks)
    where
      by : (p : Parse (List Block)) → is_whole p ≡ is_whole (with_block x.block p)
      by failed = refl
      by (parsed bs r) = refl

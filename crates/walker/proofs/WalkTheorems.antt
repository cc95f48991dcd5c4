-- Stepping over any bytes from offset 0 on: the walker shows the blocks of a list and then the end exactly if the bytes decode to that list, and
-- it comes to a 7 exactly if they do not decode.
-- Assumes nothing.
use Prim.Native.Nat.{ℕ, zero, suc, ◌+◌, ◌<◌, ◌≤◌}
use native.Mathlib.Omega.{arith}
use mathlib.Core.Path.{◌≡◌, refl, sym, ap, subst, ◌∙◌}
use mathlib.Core.Logic.{◌↔◌}
use mathlib.Core.List.{List, [], ◌∷◌}
use lib.ListN.{length}
use Rattle.text.specs.Part.{between}
use Rattle.records.specs.Blocks.{Span, Kind, heading, paragraph, item, Block}
use Rattle.records.specs.Decode.{Bytes, Parse, failed, parsed, decode_blocks}
use Rattle.records.proofs.Decoded.{not_failed}
use Rattle.records.proofs.RoundTrip.{decoded_are_records}
use Rattle.records.proofs.DecodeSteps.{with_block}
use Rattle.walker.specs.Answers.{Answer, at_end, refused, gives, map, Emphasis, values_of, level_of, depth_of, marker_of, emphasis_of, text_or_none, nth}
use Rattle.walker.specs.Answers.{found_at, block_answer, marker_answer, span_in, span_answer, text_answer}
use Rattle.walker.specs.Walk.{Shows, Ends, Refuses, Steps, Walk, Breaks}
use Rattle.walker.specs.Decoded.{blocks_from}
use Rattle.walker.proofs.Walked.{shows, refuses, walk_gives_back}
use Rattle.walker.proofs.Decoded.{from_start, found_next, left_at_end, left_at_bad, answer_end, answer_bad, HoldsBlocks}

-- ---- a block is known by what is shown of it
kind_same : (k l : Kind) → level_of k ≡ level_of l → depth_of k ≡ depth_of l → marker_of k ≡ marker_of l → k ≡ l
kind_same (heading i) (heading j) e f g = let p : i ≡ j = cc in ap heading p
kind_same (heading i) paragraph e f g = let z : ◌≡◌ {A = ℕ} 0 1 = cc in absurd (omega arith)
kind_same (heading i) (item d m) e f g = let z : ◌≡◌ {A = ℕ} 0 1 = cc in absurd (omega arith)
kind_same paragraph (heading j) e f g = let z : ◌≡◌ {A = ℕ} 0 1 = cc in absurd (omega arith)
kind_same paragraph paragraph e f g = refl
kind_same paragraph (item d m) e f g = let z : ◌≡◌ {A = ℕ} 0 1 = cc in absurd (omega arith)
kind_same (item c l) (heading j) e f g = let z : ◌≡◌ {A = ℕ} 0 1 = cc in absurd (omega arith)
kind_same (item c l) paragraph e f g = let z : ◌≡◌ {A = ℕ} 0 1 = cc in absurd (omega arith)
kind_same (item c l) (item d m) e f g = let p : c ≡ d = cc in rw (p, g)

span_by : List ℕ → Emphasis → Span
span_by t e = record { text = t; bold = e.bold; italic = e.italic; code = e.code }

span_same : (x y : Span) → gives (emphasis_of x) ≡ gives (emphasis_of y) → x.text ≡ y.text → x ≡ y
unfolding span_by
span_same x y e t =
    let p : emphasis_of x ≡ emphasis_of y = cc in
    ap (span_by x.text) p ∙ ap (λ (t : List ℕ). span_by t (emphasis_of y)) t

abbrev shown_text : Answer Span → List ℕ
shown_text a = text_or_none (λ x. x.text) a

spans_same : (xs ys : List Span) → ((n : ℕ) → map emphasis_of (nth xs n) ≡ map emphasis_of (nth ys n)) → ((n : ℕ) → shown_text (nth xs n) ≡ shown_text (nth ys n)) → xs ≡ ys
spans_same [] [] e t = refl
spans_same [] (y ∷ ys) e t = let h = e 0 in let z : ◌≡◌ {A = ℕ} 0 1 = cc in absurd (omega arith)
spans_same (x ∷ xs) [] e t = let h = e 0 in let z : ◌≡◌ {A = ℕ} 0 1 = cc in absurd (omega arith)
spans_same (x ∷ xs) (y ∷ ys) e t = rw (span_same x y (e 0) (t 0), spans_same xs ys (λ n. e (suc n)) (λ n. t (suc n)))

-- what is shown at an offset is what stands there
module _ (s : List ℕ) (at : ℕ) where
  found_shown : {b : Block} {next : ℕ} → Shows s at b next → found_at s at ≡ gives (b, next)
  unfolding block_answer marker_answer span_answer text_answer span_in
  found_shown {b} {next} h = by (found_at s at) refl
    where
      by : (a : Answer (Block × ℕ)) → found_at s at ≡ a → found_at s at ≡ gives (b, next)
      by at_end e = let v = rw e at h.values in let z : ◌≡◌ {A = ℕ} 0 1 = cc in absurd (omega arith)
      by (refused n) e = let v = rw e at h.values in let z : ◌≡◌ {A = ℕ} 0 1 = cc in absurd (omega arith)
      by (gives f) e =
          let v = rw e at h.values in
          let p : values_of f.0 f.1 ≡ values_of b next = cc in
          let k = kind_same f.0.kind b.kind (ap (λ v. v.level) p) (ap (λ v. v.depth) p) (rw e at h.marker) in
          let xs = spans_same f.0.spans b.spans (λ n. rw e at (h.emphasis n)) (λ n. rw e at (h.text n)) in
          let q : f.1 ≡ next = ap (λ v. v.next) p in
          e ∙ ap gives (rw (k, xs, q))

-- ---- from an offset on
then_failed : (b : Block) (p : Parse (List Block)) → with_block b p ≡ failed → p ≡ failed
then_failed b failed e = refl
then_failed b (parsed bs q) e = not_failed (sym e)

module _ (s : List ℕ) (w : Bytes s) where
  -- whatever comes behind the blocks
  stepped : (last : List ℕ → ℕ → Type 0) (f : List Block → Parse (List Block)) → ((b : Block) (bs : List Block) → with_block b (f bs) ≡ f (b ∷ bs))
      → ((at : ℕ) → last s at → blocks_from s at ≡ f []) → (bs : List Block) (at : ℕ) → Steps last s at bs → blocks_from s at ≡ f bs
  stepped last f more end [] at h = end at h
  stepped last f more end (b ∷ bs) at (next, h, t) =
      (found_next s at w (found_shown s at h)).blocks ∙ ap (with_block b) (stepped last f more end bs next t) ∙ more b bs

  walked : (bs : List Block) → Walk s 0 bs → blocks_from s 0 ≡ parsed bs []
  walked bs h = stepped Ends (λ bs. parsed bs []) (λ b bs. refl) (λ at e. answer_end s at (sym e.values)) bs 0 h

  broken : (bs : List Block) → Breaks s 0 bs → blocks_from s 0 ≡ failed
  broken bs h = stepped Refuses (λ bs. failed) (λ b bs. refl) (λ at e. answer_bad s at (sym e.values)) bs 0 h

  abbrev Broken : ℕ → Type 0
  Broken at = (bs : List Block) × Breaks s at bs

  -- one block more, where it is known what comes behind it
  turn : (at : ℕ) → blocks_from s at ≡ failed → ((next : ℕ) → at < next → next ≤ length s → blocks_from s next ≡ failed → Broken next) → Broken at
  turn at e go = by (found_at s at) refl
    where
      by : (a : Answer (Block × ℕ)) → found_at s at ≡ a → Broken at
      by at_end f = not_failed (sym e ∙ left_at_end s at f)
      by (refused n) f = ([], refuses s at (f ∙ ap refused (left_at_bad s at f).0))
      by (gives (b, next)) f =
          let x = found_next s at w f in
          let (bs, t) = go next x.later x.within (then_failed b (blocks_from s next) (sym x.blocks ∙ e)) in
          (b ∷ bs, (next, shows s at b next f, t))

  breaks : (k at : ℕ) → length s ≤ at + k → blocks_from s at ≡ failed → Broken at
  breaks zero at m e = turn at e (λ next l n f. absurd (omega arith))
  breaks (suc k) at m e = turn at e (λ next l n f. breaks k next (omega arith) f)

  pub walk_iff : (bs : List Block) → (decode_blocks s ≡ parsed bs []) ↔ Walk s 0 bs
  walk_iff bs = (there, λ h. sym (from_start s) ∙ walked bs h)
    where
      there : decode_blocks s ≡ parsed bs [] → Walk s 0 bs
      there e = let (p, v, _) = decoded_are_records s e w in subst (λ (t : List ℕ). Walk t 0 bs) (sym p) (walk_gives_back bs v)

  pub breaks_iff : (decode_blocks s ≡ failed) ↔ ((bs : List Block) × Breaks s 0 bs)
  breaks_iff = (λ e. breaks (length s) 0 (omega arith) (from_start s ∙ e), λ h. sym (from_start s) ∙ broken h.0 h.1)

-- a part of the records that some of their blocks are walks to these
pub part_walks : {s : List ℕ} {start end : ℕ} {x : List Block} → HoldsBlocks s start end x → Walk (between s start end) 0 x
part_walks {x = x} p = rw p.records (walk_gives_back x p.good)

-- Lists put together, their joined texts and their records; and a span's record by the characters of its text.
-- Assumes nothing.
use Prim.Native.Nat.{ℕ, ◌+◌, ◌≤◌}
use native.Mathlib.Omega.{arith}
use mathlib.Core.Path.{◌≡◌, refl, sym, ap, ◌∙◌}
use mathlib.Core.Bool.{Bool, true}
use mathlib.Core.List.{List, [], ◌∷◌, ◌++◌, append_assoc}
use lib.ListN.{length}
use Rattle.text.specs.Utf8.{encode, size}
use Rattle.text.proofs.Laws.{utf8_size, size_encode}
use Rattle.records.specs.Blocks.{Span, joined, Block}
use Rattle.records.specs.Format.{le32, non_empty, span_map, text_form, encode_span, encode_spans, encode_block, encode_blocks, WfBlocks}

pub joined_append : (xs ys : List Span) → joined (xs ++ ys) ≡ joined xs ++ joined ys
joined_append [] ys = refl
joined_append (x ∷ xs) ys = ap (λ (l : List ℕ). x.text ++ l) (joined_append xs ys) ∙ sym (append_assoc x.text (joined xs) (joined ys))

pub spans_append : (xs ys : List Span) → encode_spans (xs ++ ys) ≡ encode_spans xs ++ encode_spans ys
unfolding encode_spans
spans_append [] ys = refl
spans_append (x ∷ xs) ys =
    ap (λ (l : List ℕ). encode_span x ++ l) (spans_append xs ys)
    ∙ sym (append_assoc (encode_span x) (encode_spans xs) (encode_spans ys))

pub blocks_append : (bs cs : List Block) → encode_blocks (bs ++ cs) ≡ encode_blocks bs ++ encode_blocks cs
unfolding encode_blocks
blocks_append [] cs = refl
blocks_append (b ∷ bs) cs =
    ap (λ (l : List ℕ). encode_block b ++ l) (blocks_append bs cs)
    ∙ sym (append_assoc (encode_block b) (encode_blocks bs) (encode_blocks cs))

-- both parts of a list that has a record have one
pub wf_split : (bs cs : List Block) → WfBlocks (bs ++ cs) → WfBlocks bs × WfBlocks cs
wf_split [] cs w = (tt, w)
wf_split (b ∷ bs) cs w = let (v, u) = wf_split bs cs w.1 in ((w.0, v), u)

pub form_long : (bs : List ℕ) → length (text_form bs) ≤ 4 + length bs
form_long [] = omega arith
form_long (b ∷ bs) = omega arith

form_some : (bs : List ℕ) → 1 ≤ length bs → (text_form bs ≡ le32 (length bs) ++ bs) × (non_empty bs ≡ true)
form_some [] h = absurd (omega arith)
form_some (b ∷ bs) h = (refl, refl)

-- a text that is not empty
pub text_some : (cs : List ℕ) → 1 ≤ size cs → (text_form (encode cs) ≡ le32 (size cs) ++ encode cs) × (non_empty (encode cs) ≡ true)
text_some cs h =
    let e : length (encode cs) ≡ size cs = size_encode cs in
    let (f, some) = form_some (encode cs) (omega arith) in
    (f ∙ ap (λ (n : ℕ). le32 n ++ encode cs) e, some)

pub size_some : (c : ℕ) (cs : List ℕ) → 1 ≤ size (c ∷ cs)
unfolding size
size_some c cs = let h = utf8_size c in omega arith

pub span_some : (b i k : Bool) (c : ℕ) (cs : List ℕ)
    → encode_span (record { text = c ∷ cs; bold = b; italic = i; code = k }) ≡ span_map b i k true ∷ (le32 (size (c ∷ cs)) ++ encode (c ∷ cs))
unfolding encode_span
span_some b i k c cs = let (f, some) = text_some (c ∷ cs) (size_some c cs) in rw (some, f)

-- The loop of `spans_in`: what holds at its head, kept by each turn, and what follows at its end.
-- Assumes nothing.
use mathlib.Core.Path.{◌≡◌, refl, sym, ap, ap₂, ◌∙◌, subst}
use Prim.Native.Nat.{ℕ, zero, suc, ◌+◌, ◌-◌, ◌*◌, ◌^◌, ◌≤◌, ◌<◌}
use native.Mathlib.Nat.{add-zero}
use native.Mathlib.Omega.{arith}
use native.Mathlib.Numerals.{add-one}
use mathlib.Core.Bool.{Bool, false, ◌||◌}
use mathlib.Core.List.{List, [], ◌∷◌, ◌++◌, map, reverse, append_assoc}
use lib.ListN.{length, set, take, drop, get_or, length-append, length-drop, length-map, drop_of_length-le}
use lib.Seq.{sets, drop-cons, drop-drop, length-sets}
use Rattle.text.proofs.Lists.{drop_next}
use Rattle.records.specs.Blocks.{Span}
use Rattle.spans.specs.Spans.{Walk, flush, step, carry, walk, spans}
use Rattle.spans.specs.Turn.{Turn, linked, turned, records_of}
use Rattle.spans.specs.State.{head, pend, push_of, push_all_of, TextAt, PlainTo, flush_of, link_by, link_to, link_head, Ready, walk_of, turn_at, state_after, Made}
use Rattle.spans.specs.declared.State.{State}
use Rattle.spans.specs.declared.Written.{Written}
use Rattle.spans.proofs.Search.{Linked}
use Rattle.spans.proofs.SpanLaws.{walk_end, walk_next, spans_eq}
use Rattle.records.proofs.Stores.{sets_append}
use Rattle.spans.proofs.Records.{rec_append, rec_carry, rec_count}
use Rattle.spans.proofs.Bounds.{turn_within, turn_small, bytes_small}
use Rattle.spans.proofs.Marks.{open_some, text_turn, plain_all}
use Rattle.spans.proofs.Made.{same_state, made_as, push_made, map_of, flush_form, flush_length, gap_bytes, flush_bytes, flush_state}

-- The spans that are done, with their records stored; the pending text, last byte first, stored behind its gap; and what is left to walk.
pub record Walking (B I : Bool) (line out₀ : List ℕ) (at₀ : ℕ) (w : State) (out : List ℕ) : Type 0 where
  pub done : List Span
  pub text : List ℕ
  pub left : spans line ≡ done ++ walk spans (walk_of w text) 0 (drop w.i line)
  pub bytes : out ≡ sets (sets out₀ at₀ (records_of B I done)) (w.at + 5) (reverse text)
  pub at : w.at ≡ at₀ + length (records_of B I done)
  pub len : w.len ≡ length text
  pub count : w.count ≡ length done
  pub inside : w.i ≤ length line
  pub room : w.at + 6 * w.len + 6 * (length line - w.i) ≤ at₀ + 6 * length line

pub start : (B I : Bool) (line out : List ℕ) (at₀ : ℕ) → Walking B I line out at₀ (record { i = 0; at = at₀; len = 0; count = 0; bold = false; italic = false }) out
unfolding records_of
start B I line out at₀ = record {
  done = [];
  text = [];
  left = spans_eq line;
  bytes = refl;
  at = sym (add-zero at₀);
  len = refl;
  count = refl;
  inside = omega arith;
  room = omega arith;
}

module _ (B I : Bool) (line out₀ : List ℕ) (at₀ : ℕ) where
  pub ready : (w : State) (out : List ℕ) → Walking B I line out₀ at₀ w out → at₀ + 6 * length line < 2 ^ 62 → w.i < length line → Ready line w
  ready w out W small h = record { inside = h; room = omega (arith, W.room); few = omega (arith, W.count, W.at, rec_count B I W.done) }

  -- a turn that was made keeps it
  pub keeps : (w : State) (out : List ℕ) (W : Walking B I line out₀ at₀ w out) → w.i < length line → (w' : State) (out' : List ℕ)
      → Made B I w out W.text (turn_at line w W.text) w' out' → Walking B I line out₀ at₀ w' out'
  unfolding turn_at
  keeps w out W h w' out' M =
      let c : ℕ = get_or line w.i 0 in
      let r : List ℕ = drop (w.i + 1) line in
      let v : Walk = walk_of w W.text in
      let s : Turn = turned spans v r (step v c r) in
      let e : List ℕ = records_of B I W.done in
      let f : List ℕ = records_of B I s.spans in
      let cons : drop w.i line ≡ c ∷ r = drop-cons line w.i 0 h ∙ ap (λ (n : ℕ). c ∷ drop n line) (sym (add-one w.i)) in
      let both : records_of B I (W.done ++ s.spans) ≡ e ++ f = rec_append B I W.done s.spans in
      let within = turn_within v c r in
      let small = turn_small B I v c r in
      let next : Walking B I line out₀ at₀ (state_after B I w s) out' = record {
        done = W.done ++ s.spans;
        text = s.walk.text;
        left = W.left ∙ ap (λ (l : List Span). W.done ++ l)
            (ap (walk spans v 0) cons
            ∙ walk_next spans v c r
            ∙ ap (λ (l : List ℕ). s.spans ++ walk spans s.walk 0 l) (drop-drop s.more (w.i + 1) line))
            ∙ sym (append_assoc W.done s.spans _);
        bytes = M.bytes (sets out₀ at₀ e) W.bytes
            ∙ ap (λ (o : List ℕ). sets o (w.at + length f + 5) (reverse s.walk.text))
            (ap (λ (n : ℕ). sets (sets out₀ at₀ e) n f) W.at ∙ sym (sets_append out₀ at₀ e f) ∙ ap (sets out₀ at₀) (sym both));
        at = omega (arith, W.at, ap length both, length-append e f);
        len = refl;
        count = omega (arith, W.count, length-append W.done s.spans);
        inside = omega (arith, length-drop (w.i + 1) line);
        room = omega (arith, W.room, W.len, length-drop (w.i + 1) line);
      } in
      subst (λ (z : State). Walking B I line out₀ at₀ z out') (sym M.state) next

  pub moves : (w : State) (out text : List ℕ) (w' : State) (out' : List ℕ) → Made B I w out text (turn_at line w text) w' out' → w.i < w'.i
  moves w out text w' out' M = omega (arith, ap (λ (z : State). z.i) M.state)

  -- at the end of the line the pending text is ended
  pub finish : (w : State) (out : List ℕ) → Walking B I line out₀ at₀ w out → length line ≤ w.i → (f : State) (out' : List ℕ) → f ≡ flush_of w
      → out' ≡ sets out w.at (head (map_of B I w) w.len)
      → (f.at ≡ at₀ + length (records_of B I (spans line))) × ((f.count ≡ length (spans line)) × (out' ≡ sets out₀ at₀ (records_of B I (spans line))))
  finish w out W h f out' g u =
      let fl : List Span = flush (walk_of w W.text) in
      let e : List ℕ = records_of B I W.done in
      let l : List ℕ = records_of B I fl in
      let all : spans line ≡ W.done ++ fl =
      W.left ∙ ap (λ (z : List Span). W.done ++ z)
      (ap (walk spans (walk_of w W.text) 0) (drop_of_length-le line h) ∙ walk_end spans (walk_of w W.text)) in
      let enc : records_of B I (spans line) ≡ e ++ l = ap (records_of B I) all ∙ rec_append B I W.done fl in
      let st = g ∙ flush_state B I w W.text W.len in (
        omega (arith, ap (λ (z : State). z.at) st, W.at, ap length enc, length-append e l),
        (
          omega (arith, ap (λ (z : State). z.count) st, W.count, ap length all, length-append W.done fl),
          u ∙ ap (λ (o : List ℕ). sets o w.at (head (map_of B I w) w.len)) W.bytes
              ∙ flush_bytes B I w (sets out₀ at₀ e) W.text w.len W.len
              ∙ ap (λ (n : ℕ). sets (sets out₀ at₀ e) n l) W.at
              ∙ sym (sets_append out₀ at₀ e l)
              ∙ ap (sets out₀ at₀) (sym enc),
        ),
      )

-- ---- a link

label_spans : (B I : Bool) (w : State) (out text : List ℕ) → w.len ≡ length text → (ss : List Span) (inner : Written) (out₁ : List ℕ) (next more : ℕ)
    → next ≡ w.i + 1 + more
    → inner.next ≡ w.at + pend w.len + length (records_of (w.bold || B) (w.italic || I) ss) → inner.count ≡ length ss
    → out₁ ≡ sets out (w.at + pend w.len) (records_of (w.bold || B) (w.italic || I) ss)
    → (r : State) (out₂ : List ℕ) → r ≡ link_to w inner next
    → out₂ ≡ sets out₁ w.at (link_head (map_of B I w) w.len inner.count)
    → Made B I w out text (linked (walk_of w text) (map (carry (walk_of w text)) ss) more) r out₂
unfolding linked
label_spans B I w out text len [] inner out₁ next more n e f g r out₂ h u = unfold records_of in record {
  state = h ∙ ap (λ (k : ℕ). link_by k w inner next) f ∙ same_state n (sym (add-zero w.at)) len (sym (add-zero w.count)) refl refl;
  bytes = λ base b.
      u ∙ ap (λ (k : ℕ). sets out₁ w.at (link_head (map_of B I w) w.len k)) f
      ∙ g ∙ b ∙ ap (λ (k : ℕ). sets base (k + 5) (reverse text)) (sym (add-zero w.at));
}
label_spans B I w out text len (s ∷ ss) inner out₁ next more n e f g r out₂ h u =
    let v : Walk = walk_of w text in
    let fl : List Span = flush v in
    let ls : List Span = map (carry v) (s ∷ ss) in
    let L : List ℕ = records_of (w.bold || B) (w.italic || I) (s ∷ ss) in
    let m : ℕ = map_of B I w in
    let enc : records_of B I (fl ++ ls) ≡ records_of B I fl ++ L = rec_append B I fl ls ∙ ap (λ (l : List ℕ). records_of B I fl ++ l) (rec_carry B I v (s ∷ ss)) in
    let place : inner.next ≡ w.at + length (records_of B I (fl ++ ls)) =
    omega (arith, e, ap length enc, length-append (records_of B I fl) L, flush_length B I w text w.len len) in
    let count : (flush_of w).count + inner.count ≡ w.count + length (fl ++ ls) =
    omega (arith, ap (λ (z : State). z.count) (flush_state B I w text len), f, length-append fl ls, length-map (s ∷ ss) (carry v)) in
    record {
      state = h ∙ ap (λ (k : ℕ). link_by k w inner next) f ∙ same_state n place refl count refl refl;
      bytes = λ base k.
          u ∙ ap (λ (z : ℕ). sets out₁ w.at (link_head m w.len z)) f
          ∙ ap (λ (o : List ℕ). sets o w.at (head m w.len)) (g ∙ ap (λ (o : List ℕ). sets o (w.at + pend w.len) L) k)
          ∙ gap_bytes m w.at base text L w.len len
          ∙ ap (sets base w.at) (sym (enc ∙ ap (λ (l : List ℕ). l ++ L) (flush_form B I w text)));
    }

-- the turn at a link, by its places in the line
pub label_made : (B I : Bool) (w : State) (out text : List ℕ) → w.len ≡ length text → (line : List ℕ) (x y : ℕ) → get_or line w.i 0 ≡ 91 → Linked line (w.i + 1) x y
    → (b i : Bool) (e : ℕ) → b ≡ w.bold || B → i ≡ w.italic || I → e ≡ w.at + pend w.len
    → (inner : Written) (out₁ : List ℕ)
    → inner.next ≡ e + length (records_of b i (spans (take (x - (w.i + 1)) (drop (w.i + 1) line))))
    → inner.count ≡ length (spans (take (x - (w.i + 1)) (drop (w.i + 1) line)))
    → out₁ ≡ sets out e (records_of b i (spans (take (x - (w.i + 1)) (drop (w.i + 1) line))))
    → (r : State) (out₂ : List ℕ) → r ≡ link_to w inner (y + 1)
    → out₂ ≡ sets out₁ w.at (link_head (map_of B I w) w.len inner.count)
    → Made B I w out text (turn_at line w text) r out₂
label_made B I w out text len line x y mark l b i e pb pi pe inner out₁ q₁ q₂ q₃ r out₂ h u =
    let close : x - (w.i + 1) ≡ l.close = omega (arith, l.close_is) in
    let ss : List Span = spans (take (x - (w.i + 1)) (drop (w.i + 1) line)) in
    let enc : records_of b i ss ≡ records_of (w.bold || B) (w.italic || I) ss = ap₂ (λ (p q : Bool). records_of p q ss) pb pi in
    made_as (open_some line w text (l.close, l.last) mark l.is
    ∙ ap (λ (n : ℕ). linked (walk_of w text) (map (carry (walk_of w text)) (spans (take n (drop (w.i + 1) line)))) (l.last + 1)) (sym close))
    refl
    (label_spans B I w out text len ss inner out₁ (y + 1) (l.last + 1) (omega (arith, l.last_is))
    (q₁ ∙ ap₂ (λ (n : ℕ) (z : List ℕ). n + length z) pe enc) q₂ (q₃ ∙ ap₂ (sets out) pe enc) r out₂ h u)

-- ---- the needs of the loop, from what holds at its head

module _ (B I : Bool) (line out₀ : List ℕ) (at₀ : ℕ) (w : State) (out : List ℕ) (W : Walking B I line out₀ at₀ w out) where
  pub bounds : at₀ + 6 * length line < 2 ^ 62 → (w.at + w.len < 2 ^ 62) × (w.count ≤ w.at) × (w.at + 6 * w.len + 6 * (length line - w.i) < 2 ^ 62)
  bounds h = (omega (arith, W.room), omega (arith, W.count, W.at, rec_count B I W.done), omega (arith, W.room))

  pub same_long : length out ≡ length out₀
  same_long =
      ap length W.bytes ∙ length-sets (sets out₀ at₀ (records_of B I W.done)) (w.at + 5) (reverse W.text)
      ∙ length-sets out₀ at₀ (records_of B I W.done)

  -- a turn keeps what holds, and comes nearer to the end
  pub advanced : w.i < length line → {w' : State} {out' : List ℕ} → Made B I w out W.text (turn_at line w W.text) w' out'
      → Walking B I line out₀ at₀ w' out' × (length line - w'.i < length line - w.i)
  advanced h {w'} {out'} M = (keeps B I line out₀ at₀ w out W h w' out' M, omega (arith, moves B I line out₀ at₀ w out W.text w' out' M))

-- the spans of a label are few
pub label_few : (l : List ℕ) → length (spans l) ≤ 6 * length l
label_few l = omega (arith, rec_count false false (spans l), bytes_small false false l)

-- ---- bytes that are text

module _ (B I : Bool) (line out₀ : List ℕ) (at₀ : ℕ) where
  one_more : (w : State) (out : List ℕ) (W : Walking B I line out₀ at₀ w out) → w.i < length line → TextAt line w.i
      → Walking B I line out₀ at₀ (push_of w 1) (set out (w.at + 5 + w.len) (get_or line w.i 0))
  one_more w out W h p =
      keeps B I line out₀ at₀ w out W h (push_of w 1) _
      (made_as (text_turn line w W.text p) refl (push_made B I w out W.text _ (get_or line w.i 0) 0 1 refl W.len refl))

  all_pushed : (n : ℕ) (w : State) (out : List ℕ) → Walking B I line out₀ at₀ w out → w.i + n ≤ length line → ((k : ℕ) → w.i ≤ k → k < w.i + n → TextAt line k)
      → Walking B I line out₀ at₀ (push_all_of w n) (sets out (w.at + 5 + w.len) (take n (drop w.i line)))
  all_pushed zero w out W l p = subst (λ (z : State). Walking B I line out₀ at₀ z out) (same_state (sym (add-zero w.i)) refl (sym (add-zero w.len)) refl refl refl) W
  all_pushed (suc n) w out W l p =
      let c : ℕ = get_or line w.i 0 in
      let cons : drop w.i line ≡ c ∷ drop (w.i + 1) line = drop_next line w.i (omega arith) in
      let next = all_pushed n (push_of w 1) (set out (w.at + 5 + w.len) c) (one_more w out W (omega arith) (p w.i (omega arith) (omega arith))) (omega arith)
      (λ k a b. p k (omega arith) (omega arith)) in
      let bytes : sets (set out (w.at + 5 + w.len) c) (w.at + 5 + (w.len + 1)) (take n (drop (w.i + 1) line)) ≡ sets out (w.at + 5 + w.len) (take (suc n) (drop w.i line)) =
      ap (λ (k : ℕ). sets (set out (w.at + 5 + w.len) c) k (take n (drop (w.i + 1) line))) (omega arith) ∙ sym (ap (λ (z : List ℕ). sets out (w.at + 5 + w.len) (take (suc n) z)) cons) in
      subst (λ (z : State). Walking B I line out₀ at₀ z (sets out (w.at + 5 + w.len) (take (suc n) (drop w.i line)))) (same_state (omega arith) refl (omega arith) refl refl refl)
      (subst (Walking B I line out₀ at₀ (push_all_of (push_of w 1) n)) bytes next)

pub pushed_on : (B I : Bool) (line out₀ : List ℕ) (at₀ : ℕ) (w : State) (out : List ℕ) → Walking B I line out₀ at₀ w out → (e : ℕ) → TextAt line w.i → PlainTo line (w.i + 1) e
    → {w' : State} {out' : List ℕ} → w' ≡ push_all_of w (e - w.i) → out' ≡ sets out (w.at + 5 + w.len) (take (e - w.i) (drop w.i line))
    → Walking B I line out₀ at₀ w' out'
pushed_on B I line out₀ at₀ w out W e p v {w'} {out'} f g =
    let l = v.low in
    let h = v.high in
    let q = all_pushed B I line out₀ at₀ (e - w.i) w out W (omega arith) (λ k a b. plain_all line w.i e p v k a (omega arith)) in
    subst (λ (z : State). Walking B I line out₀ at₀ z out') (sym f) (subst (Walking B I line out₀ at₀ (push_all_of w (e - w.i))) (sym g) q)

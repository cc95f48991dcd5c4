-- What the code's steps store is what the turns of the walk say.
-- Assumes nothing.
use mathlib.Core.Path.{◌≡◌, refl, sym, ap, ap₂, ◌∙◌, subst}
use Prim.Native.Nat.{ℕ, zero, suc, ◌+◌, ◌-◌}
use native.Mathlib.Nat.{add-zero}
use native.Mathlib.Omega.{arith}
use mathlib.Core.Bool.{Bool, true, false, ◌||◌}
use mathlib.Core.Option.{some}
use mathlib.Core.List.{List, [], ◌∷◌, ◌++◌, reverse, reverse-cons, append-nil, append_assoc}
use lib.ListN.{length, take, drop, get_or, set, length-append, length-reverse}
use lib.Seq.{sets}
use Rattle.records.specs.Blocks.{Span}
use Rattle.records.specs.Format.{le32, span_map}
use Rattle.spans.specs.Spans.{at, span, flush}
use Rattle.spans.specs.Turn.{Turn, turn, record_of, records_of}
use Rattle.spans.specs.State.{head, pend, moved_to, push_of, flush_by, flush_of, code_span, code_of, walk_of, turn_at, Made}
use Rattle.spans.specs.declared.State.{State}
use Rattle.spans.proofs.Search.{At}
use Rattle.spans.proofs.Marks.{pushed, tick_some}
use Rattle.records.proofs.Stores.{sets_append, gap}
use Rattle.spans.proofs.Records.{rec_append, rec_one}

-- two states with the same fields
pub same_state : {i j a b l m c d : ℕ} {p q s t : Bool} → i ≡ j → a ≡ b → l ≡ m → c ≡ d → p ≡ q → s ≡ t
    → ◌≡◌ {A = State} (record { i = i; at = a; len = l; count = c; bold = p; italic = s }) (record { i = j; at = b; len = m; count = d; bold = q; italic = t })
same_state e f g h u v = λ k. record { i = e k; at = f k; len = g k; count = h k; bold = u k; italic = v k }

-- the turn, and the state after it, by other names
pub made_as : {b i : Bool} {w : State} {out text : List ℕ} {s s' : Turn} {w' w'' : State} {out' : List ℕ}
    → s ≡ s' → w'' ≡ w' → Made b i w out text s' w' out' → Made b i w out text s w'' out'
made_as {b} {i} {w} {out} {text} {s} {s'} {w'} {w''} {out'} e f m =
    subst (λ (z : Turn). Made b i w out text z w'' out') (sym e) (subst (λ (z : State). Made b i w out text s' z out') (sym f) m)

-- ---- a byte of text

pub push_made : (B I : Bool) (w : State) (out text out' : List ℕ) (c more used : ℕ) → used ≡ 1 + more → w.len ≡ length text
    → out' ≡ set out (w.at + 5 + w.len) c → Made B I w out text (pushed w text c more) (push_of w used) out'
unfolding records_of
push_made B I w out text out' c more used u len e = record {
  state = same_state (omega arith) (sym (add-zero w.at)) (omega arith) (sym (add-zero w.count)) refl refl;
  bytes = λ base f.
      e ∙ ap₂ (λ (o : List ℕ) (n : ℕ). set o (w.at + 5 + n) c) f (len ∙ sym (length-reverse text))
      ∙ sym (sets_append base (w.at + 5) (reverse text) (c ∷ []))
      ∙ ap (sets base (w.at + 5)) (sym (reverse-cons c text))
      ∙ ap (λ (n : ℕ). sets base (n + 5) (reverse (c ∷ text))) (sym (add-zero w.at));
}

-- ---- the end of pending text

-- the record of a span whose text is not empty
pub full_form : (b i : Bool) (s : Span) (k : ℕ) → length s.text ≡ suc k
    → record_of b i s ≡ span_map (s.bold || b) (s.italic || i) s.code true ∷ (le32 (suc k) ++ s.text)
full_form b i s k = go s.text
  where
    go : (t : List ℕ) → length t ≡ suc k → record_of b i (record {
      text =
          t;
      bold = s.bold;
      italic = s.italic;
      code = s.code;
    }) ≡ span_map (s.bold || b) (s.italic || i) s.code true ∷ (le32 (suc k) ++ t)
    go [] e = absurd (omega arith)
    go (c ∷ t) e = ap (λ (n : ℕ). span_map (s.bold || b) (s.italic || i) s.code true ∷ (le32 n ++ (c ∷ t))) e

-- the map byte of pending text
abbrev pub map_of : Bool → Bool → State → ℕ
map_of B I w = span_map (w.bold || B) (w.italic || I) false true

-- the record of pending text: its head, and the text
pub flush_form : (B I : Bool) (w : State) (text : List ℕ) → records_of B I (flush (walk_of w text)) ≡ head (map_of B I w) (length text) ++ reverse text
unfolding flush records_of
flush_form B I w [] = refl
flush_form B I w (c ∷ t) =
    append-nil (record_of B I (span false (walk_of w (c ∷ t)) (reverse (c ∷ t))))
    ∙ full_form B I (span false (walk_of w (c ∷ t)) (reverse (c ∷ t))) (length t) (length-reverse (c ∷ t))

pub flush_length : (B I : Bool) (w : State) (text : List ℕ) (len : ℕ) → len ≡ length text → length (records_of B I (flush (walk_of w text))) ≡ pend len
flush_length B I w text len e =
    ap length (flush_form B I w text) ∙ length-append (head (map_of B I w) (length text)) (reverse text)
    ∙ ap (λ (n : ℕ). length (head (map_of B I w) (length text)) + n) (length-reverse text)
    ∙ count (length text)
    ∙ ap pend (sym e)
  where
    count : (n : ℕ) → length (head (map_of B I w) n) + n ≡ pend n
    count zero = refl
    count (suc n) = omega arith

-- text behind its gap, and what follows it, and then its head
pub gap_bytes : (m at : ℕ) (base text rest : List ℕ) (len : ℕ) → len ≡ length text
    → sets (sets (sets base (at + 5) (reverse text)) (at + pend len) rest) at (head m len) ≡ sets base at (head m (length text) ++ reverse text ++ rest)
gap_bytes m at base [] rest len e =
    ap (λ (n : ℕ). sets (sets base (at + pend n) rest) at (head m n)) e ∙ ap (λ (n : ℕ). sets base n rest) (add-zero at)
gap_bytes m at base (c ∷ t) rest len e =
    let r : List ℕ = reverse (c ∷ t) in
    let h : List ℕ = m ∷ le32 (length (c ∷ t)) in
    let place : at + pend (length (c ∷ t)) ≡ at + 5 + length r = omega (arith, length-reverse (c ∷ t)) in
    ap (λ (n : ℕ). sets (sets (sets base (at + 5) r) (at + pend n) rest) at (head m n)) e
    ∙ ap (λ (o : List ℕ). sets o at h) (ap (λ (n : ℕ). sets (sets base (at + 5) r) n rest) place ∙ sym (sets_append base (at + 5) r rest))
    ∙ gap base at (at + 5) h (r ++ rest) refl
    ∙ ap (sets base at) (sym (append_assoc h r rest))

pub flush_bytes : (B I : Bool) (w : State) (base text : List ℕ) (len : ℕ) → len ≡ length text
    → sets (sets base (w.at + 5) (reverse text)) w.at (head (map_of B I w) len) ≡ sets base w.at (records_of B I (flush (walk_of w text)))
flush_bytes B I w base text len e =
    gap_bytes (map_of B I w) w.at base text [] len e
    ∙ ap (sets base w.at) (append-nil (head (map_of B I w) (length text) ++ reverse text) ∙ sym (flush_form B I w text))

pub flush_state : (B I : Bool) (w : State) (text : List ℕ) → w.len ≡ length text
    → flush_of w ≡ record { i = w.i; at = w.at + length (records_of B I (flush (walk_of w text))); len = 0; count = w.count + length (flush (walk_of w text)); bold = w.bold; italic = w.italic }
unfolding flush
flush_state B I w [] e =
    ap (λ (n : ℕ). flush_by n w) e
    ∙ same_state refl (omega (arith, flush_length B I w [] w.len e, ap pend e)) e (sym (add-zero w.count)) refl refl
flush_state B I w (c ∷ t) e =
    ap (λ (n : ℕ). flush_by n w) e
    ∙ same_state refl (omega (arith, flush_length B I w (c ∷ t) w.len e, ap pend e)) refl refl refl refl

-- pending text is ended, and nothing is pending
module _ (B I : Bool) (w : State) (out text : List ℕ) (len : w.len ≡ length text) (out' : List ℕ)
    (e : out' ≡ sets out w.at (head (map_of B I w) w.len)) where
  pub toggle_bytes : (base : List ℕ) → out ≡ sets base (w.at + 5) (reverse text) → out' ≡ sets base w.at (records_of B I (flush (walk_of w text)))
  toggle_bytes base f =
      e ∙ ap (λ (o : List ℕ). sets o w.at (head (map_of B I w) w.len)) f
      ∙ flush_bytes B I w base text w.len len

  pub toggle_made : (f r : State) (more j : ℕ) (b i : Bool) → f ≡ flush_of w → r ≡ moved_to f j (record { bold = b; italic = i }) → j ≡ w.i + 1 + more
      → Made B I w out text (turn (flush (walk_of w text)) (at b i []) more) r out'
  toggle_made f r more j b i g h p = record {
    state = h ∙ ap (λ (z : State). moved_to z j (record { bold = b; italic = i })) (g ∙ flush_state B I w text len) ∙ same_state p refl refl refl refl refl;
    bytes = toggle_bytes;
  }

  -- a span of code behind it
  pub code_made : (f r : State) (k : ℕ) (t out'' : List ℕ) → f ≡ flush_of w → r ≡ code_of f (w.i + 1 + (k + 1)) B I t
      → out'' ≡ sets out' f.at (record_of B I (code_span f t))
      → Made B I w out text (turn (flush (walk_of w text) ++ (code_span w t ∷ [])) (at w.bold w.italic []) (k + 1)) r out''
  code_made f r k t out'' g h u =
      let fl : List Span = flush (walk_of w text) in
      let cs : Span = code_span w t in
      let F : State = record { i = w.i; at = w.at + length (records_of B I fl); len = 0; count = w.count + length fl; bold = w.bold; italic = w.italic } in
      let fF : f ≡ F = g ∙ flush_state B I w text len in
      let enc : records_of B I (fl ++ (cs ∷ [])) ≡ records_of B I fl ++ record_of B I cs =
      rec_append B I fl (cs ∷ []) ∙ ap (λ (l : List ℕ). records_of B I fl ++ l) (rec_one B I cs) in
      record {
        state = h ∙ ap (λ (z : State). code_of z (w.i + 1 + (k + 1)) B I t) fF
            ∙ same_state refl (omega (arith, ap length enc, length-append (records_of B I fl) (record_of B I cs))) refl (omega (arith, length-append fl (cs ∷ []))) refl refl;
        bytes = λ base b.
            u ∙ ap₂ (λ (o : List ℕ) (z : State). sets o z.at (record_of B I (code_span z t))) (toggle_bytes base b) fF
            ∙ sym (sets_append base w.at (records_of B I fl) (record_of B I cs))
            ∙ ap (sets base w.at) (sym enc);
      }

-- the code up to the next backtick, by its places in the line
pub tick_made : (B I : Bool) (w : State) (out text : List ℕ) (len : w.len ≡ length text) (out' : List ℕ)
    → out' ≡ sets out w.at (head (map_of B I w) w.len)
    → (line : List ℕ) (e : ℕ) → get_or line w.i 0 ≡ 96 → At 96 line (w.i + 1) e
    → (f r : State) (out'' : List ℕ) → f ≡ flush_of w → r ≡ code_of f (e + 1) B I (take (e - (w.i + 1)) (drop (w.i + 1) line))
    → out'' ≡ sets out' f.at (record_of B I (code_span f (take (e - (w.i + 1)) (drop (w.i + 1) line))))
    → Made B I w out text (turn_at line w text) r out''
tick_made B I w out text len out' d line e tick_here there f r out'' g h u =
    let k : ℕ = e - (w.i + 1) in
    let more : k ≡ there.more = omega (arith, there.place) in
    let next : e + 1 ≡ w.i + 1 + (k + 1) = omega (arith, there.place) in
    made_as (tick_some line w text k tick_here (there.found_is ∙ ap some (sym more))) refl
    (code_made B I w out text len out' d f r k (take k (drop (w.i + 1) line)) out'' g
    (h ∙ ap (λ (n : ℕ). code_of f n B I (take k (drop (w.i + 1) line))) next) u)

-- ---- an image

pub image_made : (B I : Bool) (w : State) (out text : List ℕ) (p : ℕ × ℕ) (y : ℕ) → w.len ≡ length text → y ≡ w.i + 1 + 1 + p.1
    → Made B I w out text (turn [] (walk_of w text) (p.1 + 2)) (moved_to w (y + 1) (record { bold = w.bold; italic = w.italic })) out
unfolding records_of
image_made B I w out text p y len e = record {
  state = same_state (omega arith) (sym (add-zero w.at)) len (sym (add-zero w.count)) refl refl;
  bytes = λ base f. f ∙ ap (λ (n : ℕ). sets base (n + 5) (reverse text)) (sym (add-zero w.at));
}

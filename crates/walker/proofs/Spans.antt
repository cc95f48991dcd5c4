-- What the span readers' answers follow from.
-- Assumes nothing.
use Prim.Native.Nat.{ℕ, zero, suc, ◌+◌, ◌-◌, ◌<◌, ◌≤◌}
use native.Mathlib.Omega.{arith}
use native.Mathlib.Nat.{add-sub_cancel_left}
use mathlib.Core.Path.{◌≡◌, refl, sym, ◌∙◌}
use mathlib.Core.List.{List, ◌∷◌}
use lib.ListN.{length, drop, length-drop}
use lib.Seq.{drop-drop, length-take-le}
use lib.Dec.{leb}
use Rattle.text.specs.Utf8.{size, chars}
use Rattle.text.specs.Part.{between, Inside}
use Rattle.text.proofs.Laws.{size_chars}
use Rattle.records.specs.Blocks.{Span}
use Rattle.records.specs.Decode.{Parse, ◌▹◌, only, part, span_at, spans_at, failed, parsed}
use Rattle.records.proofs.Decoded.{not_failed}
use Rattle.walker.specs.Readers.{rest}

-- n bytes from an offset
pub part_at : (s : List ℕ) (at n : ℕ) → part n (drop at s) ≡ only (leb n (length s - at)) (parsed (between s at (at + n)) (drop (at + n) s))
unfolding part
part_at s at n = rw (length-drop at s, drop-drop n at s, add-sub_cancel_left at n)

pub between_size : (s : List ℕ) (start end : ℕ) → Inside s start end → size (chars (between s start end)) ≡ end - start
between_size s start end w =
    let l = w.order in
    let m = w.bound in
    let n : end - start ≤ length (drop start s) = rw length-drop (omega arith) in
    size_chars (between s start end) ∙ length-take-le (end - start) (drop start s) n

-- several spans: what they are does not change where they end
rest_of : {A B : Type 0} (p : Parse A) (f : A → B) → rest (p ▹ λ a q. parsed (f a) q) ≡ rest p
rest_of failed f = refl
rest_of (parsed a q) f = refl

pub rest_next : (t : List ℕ) (n : ℕ) {x : Span} {r : List ℕ} → span_at t ≡ parsed x r → rest (spans_at (suc n) t) ≡ rest (spans_at n r)
unfolding spans_at
rest_next t n {x} {r} e = rw e (rest_of (spans_at n r) (λ xs. x ∷ xs))

-- of n spans i are passed over
module _ (n i : ℕ) (t : List ℕ) (l : i < n) where
  left : n - i ≡ suc (n - (i + 1))
  left = omega arith

  pub spans_bad : span_at t ≡ failed → rest (spans_at (n - i) t) ≡ failed
  unfolding spans_at
  spans_bad e = rw (left, e)

  pub spans_next : {x : Span} {r : List ℕ} → span_at t ≡ parsed x r → rest (spans_at (n - (i + 1)) r) ≡ rest (spans_at (n - i) t)
  spans_next e = rw left (sym (rest_next t (n - (i + 1)) e))

pub spans_none : (n : ℕ) (t : List ℕ) → n ≤ 0 → rest (spans_at n t) ≡ parsed tt t
unfolding spans_at
spans_none zero t h = refl
spans_none (suc n) t h = absurd (omega arith)

pub rest_failed : {A : Type 0} (p : Parse A) → rest p ≡ failed → p ≡ failed
rest_failed failed e = refl
rest_failed (parsed a q) e = not_failed (sym e)

-- The laws of parts of a list, and of a part without the spaces at its ends.
-- Assumes nothing.
use Prim.Native.Nat.{ℕ, zero, suc, ◌+◌, ◌-◌, ◌≤◌}
use mathlib.Core.List.{List, [], ◌∷◌, ◌++◌, append_assoc}
use mathlib.Core.Path.{◌≡◌, sym, ap, ◌∙◌}
use native.Mathlib.Omega.{arith}
use native.Mathlib.Nat.{sub-zero, suc-sub-suc}
use lib.ListN.{length, take, drop, length-drop}
use lib.Seq.{sets, sets-eq, take-take, drop-drop, take-nil, length-take-le, take-length, take_all}
use Rattle.records.proofs.Stores.{sets_front}
use Rattle.text.specs.Utf8.{encode, chars}
use Rattle.text.specs.Trim.{trim_start, trim_end, start_of, end_of}
use Rattle.text.proofs.TrimLaws.{drop_start, chars_start, start_le, end_le, take_end, chars_end}
use Rattle.text.specs.Part.{between, Inside}
use Rattle.markdown.specs.Shape.{Trimmed}

pub drop_take : (k n : ℕ) (l : List ℕ) → drop k (take n l) ≡ take (n - k) (drop k l)
drop_take zero n l = rw (sub-zero n)
drop_take (suc k) zero l = let z : 0 - suc k ≡ 0 = omega arith in rw z
drop_take (suc k) (suc n) [] = sym (take-nil (suc n - suc k))
drop_take (suc k) (suc n) (x ∷ l) = drop_take k n l ∙ rw (suc-sub-suc n k)

-- a part of a part
pub part_part : (s : List ℕ) (f t a b : ℕ) → b ≤ t - f → between (between s f t) a b ≡ between s (f + a) (f + b)
part_part s f t a b h =
    let q : f + b - (f + a) ≡ b - a = omega arith in
    rw (drop_take a (t - f) (drop f s), drop-drop a f s, q) (take-take (b - a) (t - f - a) (drop (f + a) s) (omega arith))

pub part_length : (s : List ℕ) (f t : ℕ) → f ≤ t → t ≤ length s → length (between s f t) ≡ t - f
part_length s f t h l = length-take-le (t - f) (drop f s) (rw (length-drop f s) (omega arith))

pub part_all : (s : List ℕ) → between s 0 (length s) ≡ s
part_all s = rw (sub-zero (length s)) (take-length s)

pub part_none : (s : List ℕ) (f : ℕ) → between s f f ≡ []
part_none s f = let q : f - f ≡ 0 = omega arith in rw q

pub part_from : (s : List ℕ) (f : ℕ) → between s f (length s) ≡ drop f s
part_from s f = take_all (length s - f) (drop f s) (rw (length-drop f s) (omega arith))

-- ---- the part without the spaces at its ends
pub start_in : (s : List ℕ) (from to k : ℕ) → Inside s from to → k ≡ start_of (between s from to) → from + k ≤ to
start_in s from to k v e = let o = v.order in omega (arith, e, start_le (between s from to), part_length s from to o v.bound)

pub trimmed_is : (s : List ℕ) (from to k m : ℕ) → Inside s from to → k ≡ start_of (between s from to) → m ≡ end_of (between s (from + k) to)
    → Trimmed s from to (record { start = from + k; end = from + k + m })
trimmed_is s from to k m v e f =
    let o = v.order in
    let b = v.bound in
    let p = between s from to in
    let n = part_length s from to o b in
    let h = start_le p in
    let q : between s (from + k) to ≡ encode (trim_start (chars p)) =
    (let u : to - (from + k) ≡ to - from - k = omega arith in
    rw (u, ← drop-drop k from s) (sym (drop_take k (to - from) (drop from s)) ∙ ap (λ (x : ℕ). drop x p) e ∙ drop_start p))
    in
    let l = part_length s (from + k) to (omega arith) b in
    let g = end_le (between s (from + k) to) in
    let c : chars (between s (from + k) to) ≡ trim_start (chars p) = ap chars q ∙ chars_start p in
    let w : from + k + m - (from + k) ≡ m = omega arith in
    let t : between s (from + k) (from + k + m) ≡ encode (trim_end (chars (between s (from + k) to))) =
    rw w (sym (take-take m (to - (from + k)) (drop (from + k) s) (omega arith)) ∙ ap (λ (x : ℕ). take x (between s (from + k) to)) f ∙ take_end (between s (from + k) to))
    in
    record {
      low = omega arith;
      order = omega arith;
      high = omega arith;
      start = ap (λ (x : ℕ). from + x) e;
      text = ap chars t ∙ chars_end (between s (from + k) to) ∙ ap trim_end c;
    }

-- a part stored behind itself in its list, which is taken apart there
pub copied_part : (s : List ℕ) (from to at : ℕ) → from ≤ to → to ≤ at → at + (to - from) ≤ length s
    → take at s ++ sets (drop at s) 0 (between (take at s) from to) ≡ sets s at (between s from to)
copied_part s from to at o b f =
    let p = between s from to in
    let n : length p ≡ to - from = part_length s from to o (omega (arith, b, f)) in
    let same : between (take at s) from to ≡ p =
    rw (drop_take from at s) (take-take (to - from) (at - from) (drop from s) (omega arith)) in
    let room : length p ≤ length (drop at s) = rw (length-drop at s) (omega arith) in
    rw (same, sets_front (drop at s) p room, drop-drop (length p) at s)
    (sym (append_assoc (take at s) p (drop (at + length p) s)) ∙ sym (sets-eq p s at (omega arith)))

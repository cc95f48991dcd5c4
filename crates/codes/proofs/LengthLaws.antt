-- The codes by their lengths: where each one stands among the bytes that are lent, and that all stand inside.
-- Assumes nothing.
use Rattle.std.proofs.Common.{◌≡◌, ℕ, List, [], ◌∷◌, length, zero, suc, ◌+◌, ◌*◌, ◌<◌, ◌≤◌, refl, sym, ap, ◌∙◌, arith, get_or, take, drop, leb, eqb}
use mathlib.Core.Bool.{true, false, ◌&&◌}
use lib.ListN.{drop_of_length-le, length-drop}
use lib.Seq.{drop-drop}
use borrow.Author.Tests.{leb-true, eqb-true}
use Rattle.std.proofs.lemmas.List.{drop_more, length-take-le}
use Rattle.std.proofs.lemmas.Bool.Decides.{nat_tests}
use Rattle.text.specs.Words.{all}
use Rattle.text.proofs.Lists.{drop_next}
use Rattle.text.proofs.Tests.{and_true}
use Rattle.codes.specs.Calls.{divided, total, code_length, are_codes}

-- ---- the test: what is left of the lengths
pub record Tested (lengths : List ℕ) (sum i : ℕ) : Type 0 where
  pub sums : sum + total (drop i lengths) ≡ total lengths
  pub good : all code_length (drop i lengths) ≡ all code_length lengths
  pub small : sum ≤ 32 * i

module _ {lengths : List ℕ} {sum i : ℕ} (w : Tested lengths sum i) where
  pub tested_other : i < length lengths → code_length (get_or lengths i 0) ≡ false → all code_length lengths ≡ false
  tested_other l e = sym w.good ∙ rw (drop_next lengths i l, e) refl

  pub tested_all : length lengths ≤ i → (all code_length lengths ≡ true) × (sum ≡ total lengths)
  tested_all l =
      let e : drop i lengths ≡ [] = drop_of_length-le lengths l in
      (sym w.good ∙ ap (all code_length) e, omega (arith, w.sums, ap total e))

module _ (bytes lengths : List ℕ) where
  pub many_refused : 16 < length lengths → false ≡ are_codes bytes lengths
  unfolding are_codes
  many_refused l = grind (arith, nat_tests)

  pub other_refused : all code_length lengths ≡ false → false ≡ are_codes bytes lengths
  unfolding are_codes
  other_refused e = grind (arith, nat_tests, e)

  pub by_sum : length lengths ≤ 16 → {sum : ℕ} → (all code_length lengths ≡ true) × (sum ≡ total lengths) → eqb sum (length bytes) ≡ are_codes bytes lengths
  unfolding are_codes
  by_sum l {sum} (e, f) = grind (arith, nat_tests, e, f)

-- ---- codes that passed the test
pub record Known (bytes lengths : List ℕ) : Type 0 where
  pub few : length lengths ≤ 16
  pub good : all code_length lengths ≡ true
  pub whole : total lengths ≡ length bytes

pub known : (bytes lengths : List ℕ) → are_codes bytes lengths ≡ true → Known bytes lengths
unfolding are_codes
known bytes lengths e =
    let (r, t) = and_true (leb (length lengths) 16 && all code_length lengths) (eqb (total lengths) (length bytes)) e in
    let (f, g) = and_true (leb (length lengths) 16) (all code_length lengths) r in
    record { few = leb-true (length lengths) 16 f; good = g; whole = eqb-true (total lengths) (length bytes) t }

-- each has 1 to 32 bytes
pub its_length : (lengths : List ℕ) → all code_length lengths ≡ true → (i : ℕ) → i < length lengths → (1 ≤ get_or lengths i 0) × (get_or lengths i 0 ≤ 32)
its_length [] e i l = absurd (omega arith)
its_length (n ∷ ns) e zero l =
    let (p, q) = and_true (leb 1 n) (leb n 32) (and_true (code_length n) (all code_length ns) e).0 in
    (leb-true 1 n p, leb-true n 32 q)
its_length (n ∷ ns) e (suc i) l = its_length ns (and_true (code_length n) (all code_length ns) e).1 i (omega arith)

pub as_many : (bytes lengths : List ℕ) → length (divided bytes lengths) ≡ length lengths
as_many bytes [] = refl
as_many bytes (n ∷ ns) = ap suc (as_many (drop n bytes) ns)

pub size_at : (bytes lengths : List ℕ) → total lengths ≡ length bytes → (i : ℕ) → i < length lengths
    → length (get_or (divided bytes lengths) i []) ≡ get_or lengths i 0
size_at bytes [] e i l = absurd (omega arith)
size_at bytes (n ∷ ns) e zero l = length-take-le n bytes (omega arith)
size_at bytes (n ∷ ns) e (suc i) l = size_at (drop n bytes) ns (omega (arith, length-drop n bytes)) i (omega arith)

-- ---- one code after the other: what is left of the bytes and of the lengths makes the codes that are left
pub record Parted (bytes lengths : List ℕ) (from i : ℕ) : Type 0 where
  pub codes : divided (drop from bytes) (drop i lengths) ≡ drop i (divided bytes lengths)
  pub sums : from + total (drop i lengths) ≡ length bytes

pub parted_none : {bytes lengths : List ℕ} → Known bytes lengths → Parted bytes lengths 0 0
parted_none w = record { codes = refl; sums = omega (arith, w.whole) }

module _ {bytes lengths : List ℕ} {from i : ℕ} (w : Parted bytes lengths from i) (l : i < length lengths) where
  abbrev size : ℕ
  size = get_or lengths i 0

  abbrev left : List ℕ
  left = drop from bytes

  both : take size left ∷ divided (drop size left) (drop (i + 1) lengths) ≡ get_or (divided bytes lengths) i [] ∷ drop (i + 1) (divided bytes lengths)
  both =
      ap (divided left) (sym (drop_next lengths i l))
      ∙ w.codes
      ∙ drop_more (divided bytes lengths) i [] (omega (arith, as_many bytes lengths))

  pub this_code : take size left ≡ get_or (divided bytes lengths) i []
  this_code = ap (λ (l : List (List ℕ)). get_or l 0 []) both

  fits : from + size + total (drop (i + 1) lengths) ≡ length bytes
  fits = omega (arith, w.sums, ap total (drop_next lengths i l))

  pub parted_next : Parted bytes lengths (from + size) (i + 1)
  parted_next =
      record {
        codes = ap (λ (s : List ℕ). divided s (drop (i + 1) lengths)) (sym (drop-drop size from bytes)) ∙ ap (drop 1) both;
        sums = fits;
      }

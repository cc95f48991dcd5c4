-- A marker's characters are scalar values, and its length fits a byte.
-- Assumes nothing.
use Prim.Native.Nat.{ℕ, ◌<◌, ◌≤◌}
use native.Mathlib.Omega.{arith}
use mathlib.Core.Path.{◌≡◌}
use mathlib.Core.Bool.{true, ◌&&◌, false≢true}
use mathlib.Core.Logic.{inl}
use mathlib.Core.List.{List, [], ◌∷◌}
use lib.ListN.{length}
use lib.Dec.{leb}
use borrow.Author.Tests.{eqb-true, leb-true}
use Rattle.text.specs.Words.{str}
use Rattle.text.specs.Chars.{is_digit, Ascii}
use Rattle.text.specs.Utf8.{Scalars, utf8, size}
use Rattle.text.proofs.Tests.{and_true, or_elim, within_true, same_true}
use Rattle.text.proofs.AsciiLaws.{size_ascii}
use Rattle.records.specs.Format.{is_bullet, digits_stop, is_ordinal, is_marker}

scalars_ascii : (cs : List ℕ) → Ascii cs → Scalars cs
scalars_ascii [] h = tt
scalars_ascii (c ∷ cs) h = let l : c < 0x80 = h.0 in (inl (omega arith), scalars_ascii cs h.1)

pub bullet_scalar : Scalars (str "•")
bullet_scalar = (inl (omega arith), tt)

digits_ascii : (m : List ℕ) → digits_stop m ≡ true → Ascii m
digits_ascii [] e = absurd (false≢true e)
digits_ascii (c ∷ []) e = let h : c ≡ 46 = eqb-true c 46 e in (omega arith, tt)
digits_ascii (c ∷ d ∷ s) e =
    let p = and_true (is_digit c) (digits_stop (d ∷ s)) e in
    let h = within_true 48 57 c p.0 in
    (omega arith, digits_ascii (d ∷ s) p.1)

pub ordinal_ascii : (m : List ℕ) → is_ordinal m ≡ true → Ascii m
ordinal_ascii m e = digits_ascii m (and_true (leb 2 (length m) && leb (length m) 10) (digits_stop m) e).1

pub marker_scalars : (m : List ℕ) → is_marker m ≡ true → Scalars m
unfolding is_marker
marker_scalars m =
    or_elim (is_bullet m) (is_ordinal m)
    (λ e. rw (same_true m (str "•") e) bullet_scalar)
    (λ e. scalars_ascii m (ordinal_ascii m e))

ordinal_short : (m : List ℕ) → is_ordinal m ≡ true → size m ≤ 10
ordinal_short m e =
    let p = and_true (leb 2 (length m)) (leb (length m) 10) (and_true (leb 2 (length m) && leb (length m) 10) (digits_stop m) e).0 in
    let h = leb-true (length m) 10 p.1 in
    rw (size_ascii m (ordinal_ascii m e)) h

-- a marker's length fits a byte
pub marker_short : (m : List ℕ) → is_marker m ≡ true → size m ≤ 10
unfolding is_marker size utf8
marker_short m =
    or_elim (is_bullet m) (is_ordinal m)
    (λ e. rw (same_true m (str "•") e) (omega arith))
    (λ e. ordinal_short m e)

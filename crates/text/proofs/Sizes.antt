-- The laws of a size that is none where it is 0.
-- Assumes nothing.
use Prim.Native.Nat.{ℕ, zero, suc, ◌<◌}
use mathlib.Core.Bool.{Bool, true, false}
use mathlib.Core.Path.{◌≡◌, refl}
use native.Mathlib.Omega.{arith}
use lib.Dec.{eqb, eqb-zero-suc}
use Rattle.std.specs.Prelude.{None, Some, if◌then◌else◌}
use Rattle.std.specs.Bool.{then_some}
use Rattle.std.specs.Option.{option_eq}
use Rattle.text.specs.Utf8.{some_size}

pub size_is : (m n : ℕ) → some_size m ≡ Some n → (n ≡ m) × (0 < n)
size_is zero n e = cc
size_is (suc m) n e = let q : suc m ≡ n = cc in (cc, omega arith)

pub no_size : (m : ℕ) → some_size m ≡ None → m ≡ 0
no_size zero e = refl
no_size (suc m) e = cc

-- by a test
pub size_if : (t : Bool) (n : ℕ) → 0 < n → then_some t n ≡ some_size (if t then n else 0)
size_if true zero h = absurd (omega arith)
size_if true (suc n) h = refl
size_if false n h = refl

-- compared with a size
pub size_eq : (m n : ℕ) → option_eq eqb (some_size m) (Some (suc n)) ≡ eqb m (suc n)
size_eq zero n = rw (eqb-zero-suc n)
size_eq (suc m) n = refl

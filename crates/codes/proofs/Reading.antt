-- The blocks of records, one after the other: what is read from an offset on, by what the walker finds there.
-- Assumes nothing.
use Prim.Native.Nat.{ℕ, zero, suc, ◌-◌, ◌<◌}
use native.Mathlib.Omega.{arith}
use mathlib.Core.Path.{◌≡◌, refl, sym, ap, ◌∙◌}
use mathlib.Core.Bool.{true, false}
use mathlib.Core.List.{List}
use mathlib.Core.Option.{Option}
use lib.ListN.{length, get_or}
use mir.Val.{Fits}
use mir.Syntax.{w8}
use Rattle.std.specs.Prelude.{None, Ok, Err}
use Rattle.std.specs.Prelude as code
use Rattle.records.specs.Blocks.{Block}
use Rattle.records.specs.Decode.{Bytes}
use Rattle.records.proofs.DecodeSteps.{bytes_are}
use Rattle.walker.specs.Answers.{Answer, at_end, refused, gives, map, BlockValues, values_of, found_at, block_answer}
use Rattle.walker.specs.Numbers.{block_values}
use Rattle.walker.specs.declared.blocks.Block as B
use Rattle.walker.specs.declared.blocks.Broken.{Broken}
use Rattle.walker.proofs.Decoded.{Stands, found_next}
use Rattle.codes.specs.Calls.{Reading, nothing_read, then_read, read_at, read_from, reading}

-- a block takes a byte at least, so the number of turns does not matter once it is above what is left
pub turns : (k j : ℕ) (s : List ℕ) (at : ℕ) → Bytes s → length s - at < k → length s - at < j → read_from k s at ≡ read_from j s at
unfolding read_from
turns zero j s at w l m = absurd (omega arith)
turns (suc k) zero s at w l m = absurd (omega arith)
turns (suc k) (suc j) s at w l m = by (λ next. turns k j s next w) (found_at s at) refl
  where
    by : ((next : ℕ) → length s - next < k → length s - next < j → read_from k s next ≡ read_from j s next) → (a : Answer (Block × ℕ)) → found_at s at ≡ a
        → read_at a (λ next. read_from k s next) ≡ read_at a (λ next. read_from j s next)
    by h at_end e = refl
    by h (refused n) e = refl
    by h (gives f) e = let x = found_next s at w e in ap (then_read f.0) (h f.1 (omega (arith, x.later, x.within)) (omega (arith, x.later, x.within)))

-- ---- what is read from an offset on
unfoldable pub reading_from : List ℕ → ℕ → Reading
reading_from s at = read_from (suc (length s - at)) s at

pub from_start : (s : List ℕ) → reading_from s 0 ≡ reading s
unfolding reading_from reading
from_start s = let e : length s - 0 ≡ length s = omega arith in rw e

module _ (s : List ℕ) (at : ℕ) where
  pub from_end : found_at s at ≡ at_end → reading_from s at ≡ nothing_read false
  unfolding reading_from read_from
  from_end e = rw e

  pub from_broken : {n : ℕ} → found_at s at ≡ refused n → reading_from s at ≡ nothing_read true
  unfolding reading_from read_from
  from_broken e = rw e

  pub from_block : {b : Block} {next : ℕ} → Bytes s → found_at s at ≡ gives (b, next) → reading_from s at ≡ then_read b (reading_from s next)
  unfolding reading_from read_from
  from_block {b} {next} w e =
      let x = found_next s at w e in
      let more = turns (length s - at) (suc (length s - next)) s next w (omega (arith, x.later, x.within)) (omega arith) in
      rw e (ap (then_read b) more)

  -- ---- by the case of `block_at`'s answer
  pub block_here : ((i : ℕ) → Fits w8 (get_or s i 0)) → {l d : Option ℕ} {n next : ℕ} (w : Stands s at l d n next)
      → reading_from s at ≡ then_read w.block (reading_from s next)
  block_here h w = from_block (bytes_are s h) w.then.found

  module _ {a : Answer BlockValues} where
    none_found : a ≡ block_answer s at → a ≡ at_end → found_at s at ≡ at_end
    unfolding block_answer
    none_found g e = by (found_at s at) (sym e ∙ g)
      where
        by : (f : Answer (Block × ℕ)) → at_end ≡ map (λ f. values_of f.0 f.1) f → f ≡ at_end
        by at_end g = refl
        by (refused n) g = cc
        by (gives f) g = cc

    broken_found : a ≡ block_answer s at → {n : ℕ} → a ≡ refused n → found_at s at ≡ refused n
    unfolding block_answer
    broken_found g {n} e = by (found_at s at) (sym e ∙ g)
      where
        by : (f : Answer (Block × ℕ)) → refused n ≡ map (λ f. values_of f.0 f.1) f → f ≡ refused n
        by at_end g = cc
        by (refused k) g = cc
        by (gives f) g = cc

  pub end_here : {o : code.Option B.Block} → o ≡ None → block_values (Ok o) ≡ block_answer s at → reading_from s at ≡ nothing_read false
  end_here e g = from_end (none_found g (ap (λ (o : code.Option B.Block). block_values (Ok o)) e))

  pub broken_here : {b : Broken} → block_values (Err b) ≡ block_answer s at → reading_from s at ≡ nothing_read true
  broken_here g = from_broken (broken_found g refl)

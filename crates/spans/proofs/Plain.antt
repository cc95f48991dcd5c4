-- Bytes that are text wherever they stand, passed one by one or by blocks.
-- Assumes nothing.
use Prim.Native.Nat.{ℕ, zero, suc, ◌+◌, ◌-◌, ◌≤◌, ◌<◌}
use native.Mathlib.Nat.{add-zero}
use native.Mathlib.Omega.{arith}
use mathlib.Core.Bool.{true, not, ◌||◌}
use mathlib.Core.List.{List}
use mathlib.Core.Logic.{⊎_elim}
use mathlib.Core.Path.{◌≡◌, sym, ap, subst}
use lib.Dec.{eqb, ltb}
use lib.ListN.{length, get_or, drop, length-drop}
use borrow.Author.Tests.{eqb-false, ltb-true, ltb-false, not-true}
use Rattle.text.specs.Run.{RunTo}
use Rattle.text.specs.Words.{take_while}
use Rattle.text.proofs.RunLaws.{run_le, run_next, run_stop}
use Rattle.text.proofs.Tests.{decide, and_true}
use Rattle.spans.specs.State.{TextAt, PlainIs, PlainTo, unmarked}
use Rattle.spans.proofs.Marks.{other_plain}

module _ (line : List ℕ) where
  text_one : (i : ℕ) → unmarked (get_or line i 0) ≡ true → TextAt line i
  unfolding unmarked
  text_one i e =
      let c = get_or line i 0 in
      let p = and_true (not (eqb c 92 || eqb c 96 || eqb c 42 || eqb c 91)) (not (eqb c 33)) e in
      subst (PlainIs line i) p.0 (other_plain line i (eqb-false c 33 (not-true (eqb c 33) p.1)))

  module _ (i : ℕ) where
    plain_one : (j : ℕ) → PlainTo line i j → j < length line → TextAt line j → PlainTo line i (j + 1)
    plain_one j v l t = record {
      low = omega (arith, v.low);
      high = omega (arith, l);
      text = λ k a b. ⊎_elim
          (λ e. v.text k a (ltb-true k j e))
          (λ e. subst (TextAt line) (omega (arith, b, ltb-false k j e)) t)
          (decide (ltb k j));
    }

    plain_run : (n j : ℕ) → PlainTo line i j → n ≤ length (take_while unmarked (drop j line)) → PlainTo line i (j + n)
    plain_run zero j v h = subst (PlainTo line i) (sym (add-zero j)) v
    plain_run (suc n) j v h =
        let l : j < length line = omega (arith, run_le unmarked (drop j line), length-drop j line) in
        ⊎_elim
        (λ e. subst (PlainTo line i) (omega arith)
        (plain_run n (j + 1) (plain_one j v l (text_one j e)) (omega (arith, run_next unmarked line j l e))))
        (λ e. absurd (omega (arith, ap length (run_stop unmarked line j l e))))
        (decide (unmarked (get_or line j 0)))

    pub plain_passed : (j k : ℕ) → PlainTo line i j → RunTo unmarked line j k → PlainTo line i k
    plain_passed j k v r =
        let q : j + (k - j) ≡ k = omega (arith, r.low) in
        subst (PlainTo line i) q (plain_run (k - j) j v (omega (arith, r.run, r.low)))

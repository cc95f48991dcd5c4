-- `reference::reference` meets its contract.
-- Assumes nothing.
use Prim.Native.Nat.{ℕ}
use native.Mathlib.Omega.{arith}
use mathlib.Core.List.{List, [], ◌∷◌}
use mathlib.Core.Path.{◌≡◌, sym, ap, ◌∙◌}
use lib.ListN.{take, drop, drop_of_length-le}
use Rattle.text.proofs.Lists.{to_end}
use Rattle.text.specs.Words.{index}
use Rattle.text.proofs.FindLaws.{found_none}
use Rattle.reference.specs.Unescape.{named}
use Rattle.reference.specs.Answers.{answer}
use Rattle.reference.proofs.AnswerLaws.{value_some, value_none, found_first}
use Rattle.reference.proofs.StepLaws.{Near, near_end, near_take, near_none, near_some, near_left, near_replaced}
use Rattle.reference.proofs.reference.Goals as goal
use Rattle.reference.proofs.reference.Goals.{In_ok-rest, After-min, In_ok-n}

-- what is left from i on, and its first 10 bytes
rest_is : (c : In_ok-rest) → c.in_ok-rest.rest.now ≡ drop c.args.i c.args.s.now
rest_is c = c.in_ok-rest.ensures.lookup.0.2 ∙ to_end c.args.s.now c.args.i

near_is : (c : After-min) → take c.min.result c.in_ok-rest.rest.now ≡ take 10 (drop c.args.i c.args.s.now)
near_is c =
    let e = rest_is (goal.at.After-min c).In_ok-rest in
    rw (c.min.ensures, e) (near_take (drop c.args.i c.args.s.now))

-- the `;` that was found
semicolon : (c : In_ok-n) → Near (drop c.args.i c.args.s.now) c.in_ok-n.n
semicolon c =
    let b = c.args in
    near_some (drop b.i b.s.now) c.in_ok-n.n
    (ap (λ (l : List ℕ). index (59 ∷ []) l) (sym (near_is (goal.at.In_ok-n c).After-min)) ∙ found_first _ _ (sym c.find.ensures ∙ c.in_ok-n.was))

pub returns-in_err-rest : goal.returns-in_err-rest
returns-in_err-rest c =
    let b = c.args in
    c.from_residual.ensures ∙ sym (ap answer (near_end (drop b.i b.s.now) (drop_of_length-le b.s.now {i = b.i} (omega (arith, c.in_err-rest.ensures.lookup)))))

pub returns-in_err-n : goal.returns-in_err-n
returns-in_err-n c =
    c.from_residual-in_err-n.ensures ∙ sym (ap answer (near_none (drop c.args.i c.args.s.now)
    (ap (λ (l : List ℕ). index (59 ∷ []) l) (sym (near_is (goal.at.returns-in_err-n c).After-min)) ∙ found_none 0 _ (sym c.find.ensures ∙ c.in_err-n.was))))

pub slice_bounds-named-end : goal.slice_bounds-named-end
slice_bounds-named-end c = rw (near_is (goal.at.slice_bounds-named-end c).After-min) (sym (semicolon (goal.at.slice_bounds-named-end c).In_ok-n).exact)

pub named-requires : goal.named-requires
named-requires c = let h = semicolon (goal.at.named-requires c).In_ok-n in rw (near_is (goal.at.named-requires c).After-min, h.exact) h.small

pub returns-in_err-c : goal.returns-in_err-c
returns-in_err-c c =
    c.from_residual-in_err-c.ensures ∙ sym (ap answer (near_left _ _ (semicolon (goal.at.returns-in_err-c c).In_ok-n)
    (ap (λ (l : List ℕ). named (take c.in_ok-n.n l)) (sym (near_is (goal.at.returns-in_err-c c).After-min)) ∙ value_none _ (sym c.named.ensures ∙ c.in_err-c.was))))

pub overflow_add-result : goal.overflow_add-result
overflow_add-result c = let h = semicolon (goal.at.overflow_add-result c).In_ok-n in omega (arith, h.small)

pub returns : goal.returns
returns c =
    sym (ap answer (near_replaced _ _ (semicolon (goal.at.returns c).In_ok-n) _
    (ap (λ (l : List ℕ). named (take c.in_ok-n.n l)) (sym (near_is (goal.at.returns c).After-min)) ∙ value_some _ _ (sym c.named.ensures ∙ c.in_ok-c.was))))

-- `push_number` meets its contract: the digits of the tenth part, and the last.
-- Assumes nothing.
use Prim.Native.Nat.{ℕ, ◌+◌, ◌/◌, ◌%◌}
use mathlib.Core.List.{List, [], ◌∷◌}
use mathlib.Core.Path.{ap, ◌∙◌}
use lib.ListN.{length, length-append}
use native.Mathlib.Omega.{arith}
use Rattle.text.specs.Decimal.{decimal}
use Rattle.text.proofs.DecimalLaws.{decimal_small, decimal_large}
use Rattle.html.proofs.GrowLaws.{all_len, decimal_ascii}
use Rattle.html.proofs.NumberLaws.{number_small, number_large}
use Rattle.html.proofs.output.+push_number.Goals as goal

pub push-requires : goal.push-requires
push-requires t c = (omega (arith, ap length (decimal_small c.args.number c.if-number-lt10.true)), omega arith)

pub returns-then-number-lt10 : goal.returns-then-number-lt10
returns-then-number-lt10 t c = c.push.ensures ∙ number_small c.args.number _ c.if-number-lt10.true

pub push_number-m-requires : goal.push_number-m-requires
push_number-m-requires t c =
    let n = c.args.number in
    let l = decimal_large n c.if-number-lt10.false in
    (omega arith, omega (arith, ap length l, length-append (decimal (n / 10)) ((48 + n % 10) ∷ [])))

pub push-requires-2 : goal.push-requires-2
push-requires-2 t c =
    let n = c.args.number in
    let l = decimal_large n c.if-number-lt10.false in
    (omega (arith, ap length l, length-append (decimal (n / 10)) ((48 + n % 10) ∷ []), all_len _ _ (decimal (n / 10)) _ _ (decimal_ascii (n / 10)) c.push_number-m.ensures), omega arith)

pub returns : goal.returns
returns t c =
    let n = c.args.number in
    c.push-2.ensures
    ∙ ap (λ (o : List ℕ). (48 + n % 10) ∷ o) c.push_number-m.ensures
    ∙ number_large n _ c.if-number-lt10.false

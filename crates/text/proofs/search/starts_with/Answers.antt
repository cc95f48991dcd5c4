-- `text::starts_with` meets its contract.
-- Assumes nothing.
use native.Mathlib.Omega.{arith}
use mathlib.Core.Path.{sym, ◌∙◌}
use lib.ListN.{drop_of_length-le}
use Rattle.text.proofs.Lists.{to_end}
use Rattle.text.proofs.AsciiLaws.{starts_nil, starts_is}
use Rattle.text.proofs.search.starts_with.Goals as goal

pub returns-in-Some : goal.returns-in-Some
returns-in-Some c =
    let rest = c.in-Some.ensures.lookup.0.2 ∙ to_end c.args.s.now c.args.i in
    c.starts_with.ensures.value ∙ starts_is c.args.p.now c.in-Some.rest.now ∙ rw rest

pub returns-in-None : goal.returns-in-None
returns-in-None c =
    let past = drop_of_length-le c.args.s.now {i = c.args.i} (omega (arith, c.in-None.ensures.lookup)) in
    c.is_empty.ensures ∙ sym (rw past (starts_nil c.args.p.now))

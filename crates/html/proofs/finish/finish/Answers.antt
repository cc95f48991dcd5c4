-- `finish` meets its contract.
-- Assumes nothing.
use Rattle.std.proofs.Common.{rules}
use mathlib.Core.Path.{◌≡◌, sym, ap, ◌∙◌}
use native.Mathlib.Omega.{arith}
use Prim.Native.Nat.{ℕ}
use mathlib.Core.List.{List}
use lib.ListN.{length, take}
use Rattle.text.specs.Trim.{trim}
use Rattle.text.specs.Utf8.{chars, encode}
use Rattle.text.specs.Outcome.{front}
use Rattle.html.proofs.FinishLaws.{notes_is, notes_none, first_most}
use Rattle.html.proofs.finish.finish.Goals as goal
use Rattle.html.proofs.finish.finish.Goals.{After-first-notes}

notes : (c : After-first-notes) → c.first-notes.result.now ≡ encode (take 8000 (trim (chars c.args.written.now)))
notes c = notes_is c.first-notes.result.now c.trim.result.now c.args.written.now c.trim.ensures c.first-notes.ensures

pub copy-requires : goal.copy-requires
copy-requires c = omega (arith, ap length (notes (goal.at.copy-requires c).After-first-notes), first_most 8000 (trim (chars c.args.written.now)), c.requires)

pub returns-then-is_empty : goal.returns-then-is_empty
returns-then-is_empty c =
    let q = notes_none c.args.written.now (grind (arith, rules)) in
    (sym (ap length q), sym (ap (λ (x : List ℕ). front x c.args.res.now) q))

pub returns : goal.returns
returns c =
    let q = notes (goal.at.returns c).After-first-notes in
    (ap length q, c.copy.ensures ∙ ap (λ (x : List ℕ). front x c.args.res.now) q)

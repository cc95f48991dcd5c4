-- `spaced` meets its contract.
-- Assumes nothing.
use native.Mathlib.Omega.{arith}
use Rattle.html.proofs.OutLaws.{out_push}
use Rattle.html.proofs.output.spaced.Goals as goal

pub returns-then-space : goal.returns-then-space
returns-then-space c =
    rw c.if-space.true (out_push c.args.n c.args.out.now 32 c.requires (omega arith))

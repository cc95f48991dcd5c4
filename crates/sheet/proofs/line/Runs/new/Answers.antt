-- `sheet::line::Runs::new` meets its contract.
-- Assumes nothing.
use Rattle.sheet.proofs.TestLine.{runs_nil}
use Rattle.sheet.proofs.line.Runs.new.Goals as goal

pub returns : goal.returns
returns c = runs_nil

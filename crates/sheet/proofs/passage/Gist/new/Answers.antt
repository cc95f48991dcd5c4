-- `sheet::passage::Gist::new` meets its contract.
-- Assumes nothing.
use Rattle.sheet.proofs.TestGist.{gist_nil}
use Rattle.sheet.proofs.passage.Gist.new.Goals as goal

pub returns : goal.returns
returns c = gist_nil

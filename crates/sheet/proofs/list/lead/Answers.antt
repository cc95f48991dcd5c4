-- `sheet::list::lead` meets its contract.
-- Assumes nothing.
use Rattle.std.proofs.Common.{rules}
use Rattle.sheet.proofs.TestForms.{lead_weight}
use Rattle.sheet.proofs.list.lead.Goals as goal

pub returns : goal.returns
returns c = lead_weight c.args.depth c.args.place c.and_then-magnitude.result c.map_or-marker.result (search rules) (search rules) c.ascii.ensures

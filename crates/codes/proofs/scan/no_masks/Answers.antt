-- `codes::scan::no_masks`: each word is 0.
-- Assumes nothing.
use Rattle.std.proofs.lemmas.List.{get_or-replicate}
use Rattle.codes.proofs.scan.no_masks.Goals as goal

pub returns : goal.returns
returns c k l = get_or-replicate 4096 k 0 0 l

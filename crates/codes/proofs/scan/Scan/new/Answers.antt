-- `codes::scan::Scan::new`: of no text nothing is known.
-- Assumes nothing.
use Rattle.codes.proofs.ScanLaws.{scan_start}
use Rattle.codes.proofs.scan.Scan.new.Goals as goal

pub returns : goal.returns
returns c codes = scan_start codes

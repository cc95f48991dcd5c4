-- Every block of a sheet's tree has a record: it is read from the written form, and the blocks of every Markdown text have records.
-- Assumes nothing.
use Rattle.std.proofs.Common.{subst, ℕ, ◌<◌, arith, List}
use Rattle.text.specs.Utf8.{Scalars, size}
use Rattle.records.specs.Format.{WfBlocks}
use Rattle.markdown.proofs.Wf.{blocks_wf}
use Rattle.sheet.specs.Tree.{Block}
use Rattle.sheet.specs.Grammar.{IsPage}
use Rattle.sheet.specs.Written.{written, blocks_of}
use Rattle.sheet.proofs.SheetReads.{sheet_reads}
use Rattle.sheet.proofs.SheetScalars.{sheet_scalars}

pub sheet_wf : {s : List ℕ} {t : List Block} → IsPage s t → Scalars s → size (written t) < 16000 → WfBlocks (blocks_of t)
sheet_wf {t = t} p h l = subst WfBlocks (sheet_reads p l) (blocks_wf (written t) (sheet_scalars p h) (omega arith))

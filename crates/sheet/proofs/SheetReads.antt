-- Demand 3, the reader's half: a sheet's written form is read as its tree's blocks.
-- Assumes nothing.
use Rattle.std.proofs.Common.{◌≡◌, ℕ, ◌<◌, List}
use Rattle.text.specs.Utf8.{size}
use Rattle.markdown.specs.Blocks.{blocks}
use Rattle.sheet.specs.Tree.{Block}
use Rattle.sheet.specs.Grammar.{IsPage}
use Rattle.sheet.specs.Written.{written, blocks_of}
use Rattle.sheet.proofs.EachLine.{Each, page_lines}
use Rattle.sheet.proofs.WrittenLines.{GoodRuns, good_runs}
use Rattle.sheet.proofs.ReadAll.{read_back}
use Rattle.sheet.proofs.Calm.{calm_written}
use Rattle.sheet.proofs.Places.{places_short}

pub good_lines : {s : List ℕ} {t : List Block} → IsPage s t → Each GoodRuns t
good_lines p = page_lines (λ (s : List ℕ). Unit {0}) (λ c s q. tt) GoodRuns (λ s l r h q. good_runs h) p tt

pub sheet_reads : {s : List ℕ} {t : List Block} → IsPage s t → size (written t) < 16000 → blocks (written t) ≡ blocks_of t
sheet_reads {t = t} p l = let g = good_lines p in read_back t g (places_short t g l) (calm_written t)

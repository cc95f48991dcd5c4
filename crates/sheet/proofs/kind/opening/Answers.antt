-- `sheet::kind::opening` meets its contract.
-- Assumes nothing.
use Rattle.std.proofs.Common.{rules}
use Rattle.text.specs.Utf8.{chars}
use Rattle.sheet.specs.Tree.{strong, em, both, code}
use Rattle.sheet.specs.Reading.{◌<|>◌}
use Rattle.sheet.specs.Reader.{opening}
use Rattle.sheet.specs.Keeps.{IsKind}
use Rattle.sheet.proofs.TestSays.{or_says}
use Rattle.sheet.proofs.TestRuns.{kind_is}
use Rattle.sheet.proofs.kind.opening.Goals as goal

pub returns : goal.returns
returns c =
    let s = chars c.args.page.now in
    let two = or_says IsKind (opening both s) (opening strong s) c.opening.result c.or_else.result c.opening.ensures (search rules) in
    let three = or_says IsKind (opening both s <|> opening strong s) (opening em s) _ c.or_else-2.result two (search rules) in
    let four = or_says IsKind ((opening both s <|> opening strong s) <|> opening em s) (opening code s) _ c.or_else-3.result three (search rules) in
    kind_is c.args.page _ four c.unwrap_or.ensures

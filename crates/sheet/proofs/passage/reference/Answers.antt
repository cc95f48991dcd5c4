-- `sheet::passage::reference` meets its contract.
-- Assumes nothing.
use Rattle.std.proofs.Common.{subst, List, ℕ, rules}
use Rattle.text.specs.Words.{str}
use Rattle.text.specs.Utf8.{chars}
use Rattle.sheet.specs.Reading.{◌<|>◌}
use Rattle.sheet.specs.Reader.{Answer}
use Rattle.sheet.specs.Says.{Says}
use Rattle.sheet.specs.Keeps.{IsCharacter, spelt}
use Rattle.sheet.proofs.TestSays.{or_says}
use Rattle.sheet.proofs.TestText.{referred_is}
use Rattle.sheet.proofs.passage.reference.Goals as goal

pub returns : goal.returns
returns c =
    let s = chars c.args.page.now in
    let blank = spelt (str " ") 32 s in
    let lt = spelt (str "&lt;") 60 s in
    let amp = spelt (str "&amp;") 38 s in
    let gt = spelt (str "&gt;") 62 s in
    let quot = spelt (str "&quot;") 34 s in
    let two = or_says IsCharacter blank lt c.spelt.result c.or_else.result c.spelt.ensures (search rules) in
    let three = or_says IsCharacter (blank <|> lt) amp _ c.or_else-2.result two (search rules) in
    let four = or_says IsCharacter ((blank <|> lt) <|> amp) gt _ c.or_else-3.result three (search rules) in
    subst (λ (o : Answer (List ℕ)). Says IsCharacter o c.or_else-4.result) (referred_is s)
    (or_says IsCharacter (((blank <|> lt) <|> amp) <|> gt) quot _ c.or_else-4.result four (search rules))

-- `Converter::words` meets its contract.
-- Assumes nothing.
use mathlib.Core.Path.{refl, ap, ◌∙◌}
use Rattle.html.specs.Struct.{state_of, skip_name}
use Rattle.text.specs.Utf8.{chars}
use Rattle.html.proofs.SkipLaws.{words_shown, words_skipped}
use Rattle.html.proofs.converter.Converter.words.Goals as goal

pub returns-in-None : goal.returns-in-None
unfolding state_of
returns-in-None c =
    let a = c.args in
    c.text.ensures ∙ words_shown (chars a.raw.now) (state_of a.self a.out.now) a.self.skip refl c.in-None.is

pub returns-in-Some : goal.returns-in-Some
unfolding state_of
returns-in-Some c =
    let a = c.args in
    words_skipped (chars a.raw.now) (state_of a.self a.out.now) _ (ap skip_name c.in-Some.is)

-- `sheet::passage::character` meets its contract.
-- Assumes nothing.
use Rattle.std.proofs.Common.{◌≡◌, refl, sym, ◌∙◌, ap, ℕ, ◌<◌, arith, eqb-true, [], ◌∷◌, length}
use borrow.Author.Tests.{eqb-false}
use Rattle.text.specs.Utf8.{utf8, code_at}
use Rattle.text.proofs.Laws.{turn_is}
use Rattle.sheet.specs.Grammar.{shown}
use Rattle.sheet.proofs.TestText.{char_end, char_own, char_other}
use Rattle.sheet.proofs.TestSays.{answers, refuses}
use Rattle.sheet.specs.Keeps.{IsCharacter}
use Rattle.sheet.proofs.passage.character.Goals as goal
use Rattle.sheet.proofs.passage.character.Goals.{After-code_at-code}

-- the page has a byte
some_byte : (c : After-code_at-code) → 0 < length c.args.page.now
some_byte c = let n = eqb-false _ 0 (sym c.is_empty.ensures ∙ c.if-is_empty.false) in omega arith

pub returns-then-is_empty : goal.returns-then-is_empty
returns-then-is_empty c =
    refuses IsCharacter (char_end c.args.page.now (eqb-true _ 0 (sym c.is_empty.ensures ∙ c.if-is_empty.true))) refl

pub split_at-requires : goal.split_at-requires
split_at-requires c =
    let s = c.args.page.now in
    let t = turn_is s 0 (some_byte (goal.at.split_at-requires c).After-code_at-code) in
    let e : c.width.result ≡ length (utf8 (code_at s 0)) = c.width.ensures ∙ ap (λ (c : ℕ). length (utf8 c)) c.code_at-code.ensures in
    omega (arith, t.bound)

pub returns-then-is_shown : goal.returns-then-is_shown
returns-then-is_shown c =
    let s = c.args.page.now in
    let o = char_own s (some_byte (goal.at.returns-then-is_shown c).After-code_at-code) (sym (c.is_shown.ensures ∙ ap shown c.code_at-code.ensures) ∙ c.if-is_shown.true) in
    answers IsCharacter _ (rw (c.split_at.ensures.back, c.width.ensures, c.code_at-code.ensures) o) (ap (λ (c : ℕ). c ∷ []) (sym c.code_at-code.ensures))

pub returns : goal.returns
returns c =
    let s = c.args.page.now in
    rw (char_other s (some_byte (goal.at.returns c).After-code_at-code) (sym (c.is_shown.ensures ∙ ap shown c.code_at-code.ensures) ∙ c.if-is_shown.false)) c.reference.ensures

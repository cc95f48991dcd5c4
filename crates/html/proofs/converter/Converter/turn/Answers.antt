-- `Converter::turn` meets its contract: the text before a `<`, and what starts there.
-- Assumes nothing.
use native.Mathlib.Omega.{arith}
use mathlib.Core.Path.{◌≡◌, ap, ◌∙◌}
use Prim.Native.Nat.{ℕ, ◌<◌}
use mathlib.Core.List.{List}
use lib.ListN.{length, take, length-take}
use Rattle.std.proofs.Common.{rules, tests}
use Rattle.text.specs.Utf8.{chars}
use Rattle.html.specs.Page.{words, markup}
use Rattle.html.specs.Struct.{state_of, left}
use Rattle.html.proofs.TurnLaws.{text_most, mark_first, piece_scalars, bytes_text, bytes_open, words_room}
use Rattle.html.proofs.converter.Converter.turn.Goals as goal
use Rattle.html.proofs.converter.Converter.turn.Goals.{After-words-state}

-- the state after the text
shown : (c : After-words-state)
    → let a = c.args in state_of c.words-state.result c.words-state.new.out ≡ words (chars (take c.text_len.result a.page.now)) (state_of a.self a.out.now)
shown c = c.words-state.ensures ∙ ap (λ (l : List ℕ). words (chars l) (state_of c.args.self c.args.out.now)) c.split_at.ensures.front

pub split_at-requires : goal.split_at-requires
split_at-requires c = text_most c.args.page.now _ c.text_len.ensures

pub words-state-requires : goal.words-state-requires
words-state-requires c =
    let h = c.args.page.now in
    let n = c.text_len.result in
    rw c.split_at.ensures.front
    (omega (arith, length-take n h, c.requires.room), piece_scalars h n c.text_len.ensures c.requires.some.1)

pub returns-then-is_empty-clause-left : goal.returns-then-is_empty-clause-left
returns-then-is_empty-clause-left c =
    let a = c.args in
    let s = state_of a.self a.out.now in
    let w = c.split_at.ensures in
    let none : length c.split_at.result.1.now ≡ 0 = search (rules, tests) in
    let read = bytes_text a.page.now c.text_len.result c.text_len.ensures s _ (shown (goal.at.returns-then-is_empty-clause-left c).After-words-state) in
    rw w.back (read (rw w.back at none))

pub markup-requires : goal.markup-requires
markup-requires c =
    let a = c.args in
    let w = c.split_at.ensures in
    let some : 0 < length c.split_at.result.1.now = search (rules, tests) in
    let r = words_room a.self c.words-state.result _ _ _ c.words-state.ensures in
    record {
      mark = (some, rw w.back (mark_first a.page.now c.text_len.result c.text_len.ensures (rw w.back at some)));
      room = record { len = omega (arith, r.len, w.front_len, c.requires.room); number = rw r.lists c.requires.number_bound };
    }

pub returns-clause-left : goal.returns-clause-left
returns-clause-left c =
    let a = c.args in
    let s = state_of a.self a.out.now in
    let w = c.split_at.ensures in
    let d = state_of c.words-state.result c.words-state.new.out in
    let some : 0 < length c.split_at.result.1.now = search (rules, tests) in
    let read = bytes_open a.page.now c.text_len.result c.text_len.ensures s d (shown (goal.at.returns-clause-left c).After-words-state) in
    c.markup.ensures.left
    ∙ ap (λ (l : List ℕ). left (chars l) (markup 0 (chars l) d)) w.back
    ∙ read (rw w.back at some)

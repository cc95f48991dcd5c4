-- `Converter::markup` meets its contract: a comment, a tag that is not closed, and a tag.
-- Assumes nothing.
use mathlib.Core.Path.{sym, ap, ◌∙◌}
use native.Mathlib.Omega.{arith}
use Prim.Native.Nat.{ℕ, ◌+◌, ◌-◌, ◌≤◌}
use mathlib.Core.Option.{none, some}
use mathlib.Core.List.{List}
use lib.ListN.{length, drop, length-take}
use Rattle.std.proofs.lemmas.Result.{err_from_is_err_and}
use Rattle.text.specs.Utf8.{chars}
use Rattle.text.proofs.Laws.{chars_nil}
use Rattle.html.specs.State.{new}
use Rattle.html.specs.Struct.{state_of}
use Rattle.text.proofs.FindLaws.{IsHere, found_here}
use Rattle.text.proofs.CloseLaws.{end_bounds}
use Rattle.html.proofs.TurnLaws.{bytes_comment, bytes_unclosed, bytes_tag, end_after, mark_room, rest_is, chars_past}
use Rattle.html.proofs.converter.Converter.markup.Goals as goal
use Rattle.html.proofs.converter.Converter.markup.Goals.{In-Some, After-comment_end-end}

-- where the `>` was found, which is after the `<`
here : (c : In-Some) → IsHere c.args.page.now 0 62 c.in-Some.gt
here c = found_here c.args.page.now 0 62 c.in-Some.gt (sym c.find.ensures ∙ c.in-Some.is)

past : (c : In-Some) → 1 ≤ c.in-Some.gt
past c =
    let m = c.starts_with in
    end_after c.args.page.now 0 new m.result m.ensures c.requires.mark.0 c.requires.mark.1 c.in-Some.gt (here c)

-- where the comment ends
closed : (c : After-comment_end-end) → (4 ≤ c.comment_end-end.result) × (c.comment_end-end.result ≤ length c.args.page.now)
closed c =
    let h = c.args.page.now in
    let m = c.starts_with in
    let b = end_bounds h 4 (mark_room h 0 m.result m.ensures c.if-starts_with.true) in
    (omega (arith, c.comment_end-end.ensures, b.0), omega (arith, c.comment_end-end.ensures, b.1.0))

pub slice_bounds-result-count : goal.slice_bounds-result-count
slice_bounds-result-count c = (closed c).1

pub slice_bounds-result-start : goal.slice_bounds-result-start
slice_bounds-result-start c = omega (arith, (closed c).1)

pub returns-then-starts_with : goal.returns-then-starts_with
returns-then-starts_with c =
    let a = c.args in
    let h = a.page.now in
    let m = c.starts_with in
    let r = c.comment_end-end.result in
    let b = closed (goal.at.returns-then-starts_with c).After-comment_end-end in
    record {
      left =
          ap (λ (l : List ℕ). some (chars l, state_of a.self a.out.now)) (rest_is h r)
          ∙ bytes_comment h 0 (state_of a.self a.out.now) m.result m.ensures r c.if-starts_with.true c.comment_end-end.ensures;
      shorter = omega (arith, b.0, b.1, length-take (length h - r) (drop r h));
    }

pub returns-in_default-clause-left : goal.returns-in_default-clause-left
returns-in_default-clause-left c =
    let a = c.args in
    let h = a.page.now in
    let m = c.starts_with in
    ap (λ (l : List ℕ). some (l, state_of a.self a.out.now)) (chars_nil ∙ chars_past h)
    ∙ bytes_unclosed h 0 (state_of a.self a.out.now) m.result m.ensures c.if-starts_with.false (sym c.find.ensures ∙ c.in_default.is)

pub slice_bounds-trim-count : goal.slice_bounds-trim-count
slice_bounds-trim-count c = past (goal.at.slice_bounds-trim-count c).In-Some

pub slice_bounds-trim-start : goal.slice_bounds-trim-start
slice_bounds-trim-start c =
    let h = (goal.at.slice_bounds-trim-start c).In-Some in
    omega (arith, past h, (here h).bound)

pub slice_bounds-trim-end : goal.slice_bounds-trim-end
slice_bounds-trim-end c =
    let h = (goal.at.slice_bounds-trim-end c).In-Some in
    omega (arith, past h, (here h).bound)

pub returns-in_err-state-clause-left : goal.returns-in_err-state-clause-left
returns-in_err-state-clause-left c =
    let h = (goal.at.returns-in_err-state-clause-left c).In-Some in
    let a = c.args in
    let m = c.starts_with in
    let read = bytes_tag a.page.now 0 (state_of a.self a.out.now) m.result m.ensures c.requires.mark.0 c.requires.mark.1 c.in-Some.gt (here h) in
    let e = read c.if-starts_with.false _ none c.trim.ensures c.in_err-state.ensures in
    let p = err_from_is_err_and c.from_residual.result c.from_residual.ensures.1 in
    rw p.1 e

pub slice_bounds-result-count-2 : goal.slice_bounds-result-count-2
slice_bounds-result-count-2 c =
    let h = (goal.at.slice_bounds-result-count-2 c).In-Some in
    omega (arith, past h, (here h).bound)

pub slice_bounds-result-start-2 : goal.slice_bounds-result-start-2
slice_bounds-result-start-2 c =
    let h = (goal.at.slice_bounds-result-start-2 c).In-Some in
    omega (arith, past h, (here h).bound)

pub returns : goal.returns
returns c =
    let h = (goal.at.returns c).In-Some in
    let a = c.args in
    let m = c.starts_with in
    let e = c.in-Some.gt in
    let read = bytes_tag a.page.now 0 (state_of a.self a.out.now) m.result m.ensures c.requires.mark.0 c.requires.mark.1 e (here h) in
    record {
      left =
          ap (λ (l : List ℕ). some (chars l, state_of c.in_ok-state.state c.inside.new.out)) (rest_is a.page.now (e + 1))
          ∙ read c.if-starts_with.false _ (some _) c.trim.ensures c.in_ok-state.ensures;
      shorter = omega (arith, (here h).bound, length-take (length a.page.now - (e + 1)) (drop (e + 1) a.page.now));
    }

-- `sheet::list::item` and `sheet::list::list`, which call each other, meet their contracts. The measure is the sum of the bytes that remain of the
-- page and of the levels. The bytes fall at each call: an item's list starts behind the item's line, a list's items behind its opening tag.
-- The levels fall from a list to its items; an item's list has the item's. Assumes nothing.
use Rattle.std.proofs.Common.{◌≡◌, refl, arith, ℕ, suc, ◌-◌, ◌^◌, ◌<◌, length, unwrap_or}
use Rattle.std.proofs.Math.Option.{none, some}
use Rattle.text.specs.Utf8.{chars}
use Rattle.text.proofs.Laws.{chars_length, size_chars}
use Rattle.sheet.specs.Tree.{ul, ol}
use Rattle.sheet.specs.Reading.{◌<|>◌}
use Rattle.sheet.specs.Reader.{line, read_list, item as item_of, marked}
use Rattle.sheet.specs.Written.{written_runs}
use Rattle.sheet.specs.Says.{Weighs}
use Rattle.sheet.specs.Forms.{item_form, list_form, mark_of, IsMark}
use Rattle.sheet.proofs.TestSays.{Got, says_no, got, answers, refuses}
use Rattle.sheet.proofs.TestForms.{alone_weight, with_weight}
use Rattle.sheet.proofs.TestItems.{item_1, item_2, item_3, item_4, item_5, item_6, list_behind}
use Rattle.sheet.proofs.TestItems.{begun, items_behind, items_none, item_shrinks, items_next, list_0, list_2, list_3, list_4, list_5, list_weight}
use Rattle.sheet.proofs.list.+item_list.Goals as goal
use Rattle.sheet.proofs.list.+item_list.Goals.{item-In_ok-line, item-In_ok-sub, item-After-after_newline}
use Rattle.sheet.proofs.list.+item_list.Goals.{list-In_ok-below, list-In_ok-opening, list-At-loop-read, list-In-Some, list-In_default}

-- its line was read
has_line : (t : ℕ) (c : item-In_ok-line t) → Got (Weighs written_runs) (line (chars c.in_ok-start.start.now)) c.in_ok-line.line
has_line t c = got (Weighs written_runs) (line (chars c.in_ok-start.start.now)) c.in_ok-line.ensures

-- the list in it was read
has_list : (t : ℕ) (c : item-In_ok-sub t)
    → Got (Weighs (list_form (8 - c.args.levels))) (read_list c.args.levels (chars c.after_newline.result.now)) c.in_ok-sub.sub
has_list t c = got (Weighs (list_form (8 - c.args.levels))) (read_list c.args.levels (chars c.after_newline.result.now)) c.in_ok-sub.ensures

pub item-returns-in_err-start : goal.item-returns-in_err-start
item-returns-in_err-start t c =
    let a = c.args in
    refuses (Weighs (item_form (7 - a.levels) (unwrap_or a.place 0)))
    (item_1 (read_list a.levels) (chars a.page.now) c.in_err-start.ensures) c.from_residual.ensures

pub item-returns-in_err-line : goal.item-returns-in_err-line
item-returns-in_err-line t c =
    let a = c.args in
    let no_line = says_no (Weighs written_runs) (line (chars c.in_ok-start.start.now)) c.in_err-line.ensures in
    refuses (Weighs (item_form (7 - a.levels) (unwrap_or a.place 0)))
    (item_2 (read_list a.levels) (chars a.page.now) _ c.in_ok-start.ensures no_line)
    c.from_residual-in_err-line.ensures

pub item-returns-in-Some : goal.item-returns-in-Some
item-returns-in-Some t c =
    let a = c.args in
    let w = has_line t (goal.at.item-returns-in-Some t c).In_ok-line in
    answers (Weighs (item_form (7 - a.levels) (unwrap_or a.place 0))) _
    (item_3 (read_list a.levels) (chars a.page.now) _ c.in_ok-start.ensures w.what _ w.is c.in-Some.ensures)
    (alone_weight (7 - a.levels) (unwrap_or a.place 0) w.what c.lead.ensures w.value c.add-own.ensures)

-- the list in the item starts behind the line, so fewer bytes remain than from the item on
bytes_fall_at_list : (t : ℕ) (c : item-After-after_newline t) → length c.after_newline.result.now < length c.args.page.now
bytes_fall_at_list t c =
    let w = has_line t (goal.at.item-After-after_newline t c).In_ok-line in
    let b = list_behind (chars c.args.page.now) c.in_ok-start.ensures w.is c.after_newline.ensures in
    omega (arith, b, size_chars c.args.page.now, size_chars c.after_newline.result.now)

pub item-list-requires : goal.item-list-requires
item-list-requires t c = (omega (arith, c.decreases, bytes_fall_at_list t c), omega (arith, c.requires))

pub item-returns-in_err-sub : goal.item-returns-in_err-sub
item-returns-in_err-sub t c =
    let a = c.args in
    let w = has_line t (goal.at.item-returns-in_err-sub t c).In_ok-line in
    let no_list = says_no (Weighs (list_form (8 - a.levels))) (read_list a.levels (chars c.after_newline.result.now)) c.in_err-sub.ensures in
    refuses (Weighs (item_form (7 - a.levels) (unwrap_or a.place 0)))
    (item_4 (read_list a.levels) (chars a.page.now) _ c.in_ok-start.ensures w.what _ w.is
    c.in_default.ensures _ c.after_newline.ensures no_list)
    c.from_residual-in_err-sub.ensures

pub item-returns-in_err-rest : goal.item-returns-in_err-rest
item-returns-in_err-rest t c =
    let a = c.args in
    let w = has_line t (goal.at.item-returns-in_err-rest t c).In_ok-line in
    let l = has_list t (goal.at.item-returns-in_err-rest t c).In_ok-sub in
    refuses (Weighs (item_form (7 - a.levels) (unwrap_or a.place 0)))
    (item_6 (read_list a.levels) (chars a.page.now) _ c.in_ok-start.ensures w.what _ w.is
    c.in_default.ensures _ c.after_newline.ensures l.what _ _ l.is c.after_newline-2.ensures c.in_err-rest.ensures)
    c.from_residual-in_err-rest.ensures

pub item-returns : goal.item-returns
item-returns t c =
    let a = c.args in
    let w = has_line t (goal.at.item-returns t c).In_ok-line in
    let l = has_list t (goal.at.item-returns t c).In_ok-sub in
    let d : 8 - a.levels ≡ suc (7 - a.levels) = omega (arith, c.requires) in
    answers (Weighs (item_form (7 - a.levels) (unwrap_or a.place 0))) _
    (item_5 (read_list a.levels) (chars a.page.now) _ c.in_ok-start.ensures w.what _ w.is
    c.in_default.ensures _ c.after_newline.ensures l.what _ _ l.is c.after_newline-2.ensures c.in_ok-rest.ensures)
    (with_weight (7 - a.levels) (unwrap_or a.place 0) w.what c.lead.ensures w.value c.add-own.ensures (8 - a.levels) d l.what l.value c.add.ensures)

-- a list may be opened
levels_are : (t : ℕ) (c : list-In_ok-below t) → c.args.levels ≡ suc c.in_ok-below.below
levels_are t c = omega (arith, c.in_ok-below.ensures)

-- its opening tag stands there
has_mark : (t : ℕ) (c : list-In_ok-opening t)
    → let s = chars c.args.page.now in
    let v = c.in_ok-opening.opening in
    (marked ul s <|> marked ol s) ≡ some (mark_of v.value, chars v.rest.now)
has_mark t c = let s = chars c.args.page.now in begun s (got IsMark (marked ul s <|> marked ol s) c.in_ok-opening.ensures)

-- an item was read
has_item : (t : ℕ) (c : list-In-Some t)
    → Got (Weighs (item_form (7 - c.in_ok-below.below) (unwrap_or c.place.result 0))) (item_of (read_list c.in_ok-below.below) (chars c.loop-read.rest.now)) c.in-Some.read
has_item t c = got (Weighs (item_form (7 - c.in_ok-below.below) (unwrap_or c.place.result 0))) (item_of (read_list c.in_ok-below.below) (chars c.loop-read.rest.now)) c.in-Some.ensures

-- there is no other
no_item : (t : ℕ) (c : list-In_default t) → item_of (read_list c.in_ok-below.below) (chars c.loop-read.rest.now) ≡ none
no_item t c = says_no (Weighs (item_form (7 - c.in_ok-below.below) (unwrap_or c.place.result 0))) (item_of (read_list c.in_ok-below.below) (chars c.loop-read.rest.now)) c.in_default.ensures

-- its items stand behind that tag, so fewer bytes remain than from the list on
bytes_fall_at_item : (t : ℕ) (c : list-At-loop-read t) → length c.loop-read.rest.now < length c.args.page.now
bytes_fall_at_item t c =
    let b = items_behind (chars c.args.page.now) (has_mark t (goal.at.list-At-loop-read t c).In_ok-opening) c.after_newline-rest.ensures in
    omega (arith, b, c.loop-read.invariant.fewer, size_chars c.args.page.now, size_chars c.loop-read.rest.now)

-- and one level less is left to them
levels_fall_at_item : (t : ℕ) (c : list-In_ok-below t) → c.in_ok-below.below < c.args.levels
levels_fall_at_item t c = omega (arith, levels_are t c)

-- each item has a character
few_items : (t : ℕ) (c : list-At-loop-read t) → c.loop-read.n < 2 ^ 63
few_items t c = omega (arith, c.loop-read.invariant.later, c.after_newline-rest.type_inv, chars_length c.after_newline-rest.result.now)

pub list-returns-in_err-below : goal.list-returns-in_err-below
list-returns-in_err-below t c =
    let z : c.args.levels ≡ 0 = omega (arith, c.in_err-below.ensures) in
    refuses (Weighs (list_form (8 - c.args.levels))) (list_0 c.args.levels (chars c.args.page.now) z) c.from_residual.ensures

pub list-returns-in_err-opening : goal.list-returns-in_err-opening
list-returns-in_err-opening t c =
    let s = chars c.args.page.now in
    let e = levels_are t (goal.at.list-returns-in_err-opening t c).In_ok-below in
    refuses (Weighs (list_form (8 - c.args.levels)))
    (rw e (list_2 c.in_ok-below.below s (says_no IsMark (marked ul s <|> marked ol s) c.in_err-opening.ensures))) c.from_residual-in_err-opening.ensures

pub list-loop-read-init : goal.list-loop-read-init
list-loop-read-init t c =
    let below = c.in_ok-below.below in
    items_none below (7 - below) (mark_of c.in_ok-opening.opening.value) (chars c.after_newline-rest.result.now) c.ascii-count.ensures

pub list-overflow_add-n : goal.list-overflow_add-n
list-overflow_add-n t c = omega (arith, few_items t c)

pub list-item-requires : goal.list-item-requires
list-item-requires t c =
    let b = bytes_fall_at_item t (goal.at.list-item-requires t c).At-loop-read in
    let l = levels_fall_at_item t (goal.at.list-item-requires t c).In_ok-below in
    (omega (arith, c.decreases, b, l), omega (arith, c.requires, l))

pub list-overflow_add-n-in-Some : goal.list-overflow_add-n-in-Some
list-overflow_add-n-in-Some t c = omega (arith, few_items t (goal.at.list-overflow_add-n-in-Some t c).At-loop-read)

pub list-loop-read-smaller : goal.list-loop-read-smaller
list-loop-read-smaller t c =
    let below = c.in_ok-below.below in
    let g = has_item t (goal.at.list-loop-read-smaller t c).In-Some in
    item_shrinks below (7 - below) (mark_of c.in_ok-opening.opening.value) (chars c.loop-read.rest.now) g.is c.after_newline-rest-in-Some.ensures

pub list-loop-read-preserved : goal.list-loop-read-preserved
list-loop-read-preserved t c =
    let below = c.in_ok-below.below in
    items_next below (7 - below) (mark_of c.in_ok-opening.opening.value)
    c.loop-read.invariant c.place.ensures (has_item t (goal.at.list-loop-read-preserved t c).In-Some) c.after_newline-rest-in-Some.ensures c.add-count.ensures

pub list-returns-then-n-eq0 : goal.list-returns-then-n-eq0
list-returns-then-n-eq0 t c =
    let at = goal.at.list-returns-then-n-eq0 t c in
    let e = levels_are t at.In_ok-below in
    refuses (Weighs (list_form (8 - c.args.levels)))
    (rw e (list_3 c.in_ok-below.below (chars c.args.page.now) c.in_ok-opening.opening.value (has_mark t at.In_ok-opening) c.after_newline-rest.ensures
    c.loop-read.invariant (no_item t at.In_default) c.if-n-eq0.true))
    refl

pub list-returns-in_err-rest : goal.list-returns-in_err-rest
list-returns-in_err-rest t c =
    let at = goal.at.list-returns-in_err-rest t c in
    let e = levels_are t at.In_ok-below in
    let mark = c.in_ok-opening.opening.value in
    refuses (Weighs (list_form (8 - c.args.levels)))
    (rw e (list_4 c.in_ok-below.below (chars c.args.page.now) mark (has_mark t at.In_ok-opening) c.after_newline-rest.ensures
    c.loop-read.invariant (no_item t at.In_default) c.in_err-rest.ensures))
    c.from_residual-in_err-rest.ensures

pub list-returns : goal.list-returns
list-returns t c =
    let at = goal.at.list-returns t c in
    let e = levels_are t at.In_ok-below in
    let mark = c.in_ok-opening.opening.value in
    let below = c.in_ok-below.below in
    let s = chars c.args.page.now in
    let d : 7 - below ≡ 8 - c.args.levels = omega (arith, e) in
    let o = has_mark t at.In_ok-opening in
    let n = no_item t at.In_default in
    answers (Weighs (list_form (8 - c.args.levels))) _
    (rw e (list_5 below s mark o c.after_newline-rest.ensures c.loop-read.invariant n c.if-n-eq0.false c.in_ok-rest.ensures))
    (list_weight below s mark o c.after_newline-rest.ensures c.loop-read.invariant n d)

-- `sheet::list::item` and `sheet::list::list`, which call each other: the measure is the sum of the bytes that remain of the page and of the levels.
-- The bytes fall at each call: an item's list starts behind the item's line, a list's items behind its opening tag.
-- The levels fall from a list to its items; an item's list has the item's. Assumes nothing.
use Rattle.std.proofs.Common.{ℕ, ◌+◌, ◌-◌, List, length}
use Rattle.text.specs.Utf8.{chars}
use Rattle.sheet.specs.Forms.{mark_of}
use Rattle.sheet.proofs.TestItems.{ItemsTo}
use Rattle.sheet.proofs.list.+item_list.Given as goal

-- what falls: the remaining bytes and the levels
abbrev pub μ : List ℕ → ℕ → ℕ
μ page levels = length page + levels

abbrev pub decreases-item : goal.decreases-item
decreases-item l = μ l.page.now l.levels

abbrev pub decreases-list : goal.decreases-list
decreases-list l = μ l.page.now l.levels

abbrev pub invariant-list-loop-read : goal.invariant-list-loop-read
invariant-list-loop-read l = ItemsTo l.below (7 - l.below) (mark_of l.mark) (chars l.initial.rest) (chars l.rest) l.n l.count

abbrev pub decreases-list-loop-read : goal.decreases-list-loop-read
decreases-list-loop-read l = length (chars l.rest)

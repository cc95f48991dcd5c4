-- `find`: the search for a backtick starts after what is known of the line, and notes what it read.
-- Assumes nothing.
use mathlib.Core.Path.{sym, ◌∙◌}
use Rattle.spans.specs.State.{next_at}
use Rattle.spans.proofs.Search.{clear_resumed, clear_next, past_found}
use Rattle.spans.proofs.find.Goals as goal

pub returns : goal.returns
unfolding next_at
returns c =
    let s = c.args.s.now in
    let known = c.requires in
    let start = clear_resumed 96 s c.args.from _ known.tick in
    let is = rw c.max.ensures at c.first_tick-found.ensures in (
      is ∙ sym (clear_next 96 s _ _ start),
      record { close = known.close; end = known.end; tick = rw (c.unwrap_or-seen.ensures, is) (past_found 96 s c.args.from _ start) },
    )

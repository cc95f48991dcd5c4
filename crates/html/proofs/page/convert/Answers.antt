-- `convert` meets its contract: from each turn on, the rest of the page makes what all of it makes.
-- Assumes nothing.
use mathlib.Core.Path.{refl}
use native.Mathlib.Omega.{arith}
use Rattle.std.proofs.Common.{◌<◌, rules, tests}
use lib.ListN.{length}
use Rattle.std.proofs.lemmas.Result.{err_from_is_err_and}
use Rattle.html.proofs.LoopLaws.{going_new, len_most, small_number, going_full, going_end, going_refused, going_next}
use Rattle.html.proofs.page.convert.Goals as goal

pub loop-rest-init : goal.loop-rest-init
loop-rest-init c =
    (going_new c.args.html.now c.args.out.now _ (c.new-state.ensures _) c.requires.1, refl)

pub turn-requires : goal.turn-requires
turn-requires c =
    let l = c.loop-rest in
    let h = c.args.html.now in
    let g = l.invariant.0 in
    let small = small_number h l.out l.state l.rest.now g (omega arith) in
    record {
      some = (search (rules, tests), g.valid);
      room = omega (arith, l.invariant.1, g.bound, c.requires.0);
      number_bound = omega (arith, small);
    }

pub returns-in_err-turned : goal.returns-in_err-turned
returns-in_err-turned c =
    let l = c.loop-rest in
    let h = c.args.html.now in
    let some : 0 < length l.rest.now = search (rules, tests) in
    let p = err_from_is_err_and c.from_residual.result c.from_residual.ensures.1 in
    rw p.1
    record { out_after = going_refused h l.out l.state l.rest.now l.invariant.0 some (omega arith) c.turn.new.out c.in_err-turned.ensures.left; len_in_bounds = tt }

pub loop-rest-preserved : goal.loop-rest-preserved
loop-rest-preserved c =
    let l = c.loop-rest in
    let h = c.args.html.now in
    let t = c.in_ok-turned in
    let some : 0 < length l.rest.now = search (rules, tests) in
    let next = going_next h l.out l.state l.rest.now l.invariant.0 some (omega arith) _ t.turned t.ensures.left in
    (next (omega (arith, t.ensures.shorter)), omega arith)

pub returns-else-state-lt-MAX_OUT : goal.returns-else-state-lt-MAX_OUT
returns-else-state-lt-MAX_OUT c =
    let l = c.loop-rest in
    let h = c.args.html.now in
    let g = l.invariant.0 in
    record {
      out_after = going_full h l.out l.state l.rest.now g (omega arith);
      len_in_bounds = omega (arith, len_most h l.out l.state l.rest.now g, l.invariant.1, c.requires.0);
    }

pub returns-after-loop-rest : goal.returns-after-loop-rest
returns-after-loop-rest c =
    let l = c.loop-rest in
    let h = c.args.html.now in
    let g = l.invariant.0 in
    record {
      out_after = going_end h l.out l.state l.rest.now g (search (rules, tests));
      len_in_bounds = omega (arith, len_most h l.out l.state l.rest.now g, l.invariant.1, c.requires.0);
    }

-- `tag_of` meets its contract: each arm is a row of the table by its number, and the last one is for a number of no row.
-- Assumes nothing.
use borrow.Author.Rules.{rules}
use mathlib.Core.Path.{sym, ◌∙◌}
use Rattle.html.specs.State.{tags}
use Rattle.html.specs.Names.{writing, table}
use Rattle.html.proofs.NameLaws.{says_found, says_long, says_none}
use Rattle.html.proofs.names.tag_of.Goals as goal

pub returns-in-174180310129 : goal.returns-in-174180310129
unfolding table writing tags
returns-in-174180310129 c = says_found _ (sym c.key.ensures ∙ c.in-Some.is) c.in-174180310129.is

pub returns-in-2299349426 : goal.returns-in-2299349426
unfolding table writing tags
returns-in-2299349426 c = says_found _ (sym c.key.ensures ∙ c.in-Some.is) c.in-2299349426.is

pub returns-in-4334 : goal.returns-in-4334
unfolding table writing tags
returns-in-4334 c = says_found _ (sym c.key.ensures ∙ c.in-Some.is) c.in-4334.is

pub returns-in-4335 : goal.returns-in-4335
unfolding table writing tags
returns-in-4335 c = says_found _ (sym c.key.ensures ∙ c.in-Some.is) c.in-4335.is

pub returns-in-4336 : goal.returns-in-4336
unfolding table writing tags
returns-in-4336 c = says_found _ (sym c.key.ensures ∙ c.in-Some.is) c.in-4336.is

pub returns-in-4337 : goal.returns-in-4337
unfolding table writing tags
returns-in-4337 c = says_found _ (sym c.key.ensures ∙ c.in-Some.is) c.in-4337.is

pub returns-in-4338 : goal.returns-in-4338
unfolding table writing tags
returns-in-4338 c = says_found _ (sym c.key.ensures ∙ c.in-Some.is) c.in-4338.is

pub returns-in-4339 : goal.returns-in-4339
unfolding table writing tags
returns-in-4339 c = says_found _ (sym c.key.ensures ∙ c.in-Some.is) c.in-4339.is

pub returns-in-65 : goal.returns-in-65
unfolding table writing tags
returns-in-65 c = says_found _ (sym c.key.ensures ∙ c.in-Some.is) c.in-65.is

pub returns-in-310607 : goal.returns-in-310607
unfolding table writing tags
returns-in-310607 c = says_found _ (sym c.key.ensures ∙ c.in-Some.is) c.in-310607.is

pub returns-in-4382965425423649586 : goal.returns-in-4382965425423649586
unfolding table writing tags
returns-in-4382965425423649586 c = says_found _ (sym c.key.ensures ∙ c.in-Some.is) c.in-4382965425423649586.is

pub returns-in-2324238210 : goal.returns-in-2324238210
unfolding table writing tags
returns-in-2324238210 c = says_found _ (sym c.key.ensures ∙ c.in-Some.is) c.in-2324238210.is

pub returns-in-4399 : goal.returns-in-4399
unfolding table writing tags
returns-in-4399 c = says_found _ (sym c.key.ensures ∙ c.in-Some.is) c.in-4399.is

pub returns-in-380586 : goal.returns-in-380586
unfolding table writing tags
returns-in-380586 c = says_found _ (sym c.key.ensures ∙ c.in-Some.is) c.in-380586.is

pub returns-in-3943 : goal.returns-in-3943
unfolding table writing tags
returns-in-3943 c = says_found _ (sym c.key.ensures ∙ c.in-Some.is) c.in-3943.is

pub returns-in-5381 : goal.returns-in-5381
unfolding table writing tags
returns-in-5381 c = says_found _ (sym c.key.ensures ∙ c.in-Some.is) c.in-5381.is

pub returns-in-4925 : goal.returns-in-4925
unfolding table writing tags
returns-in-4925 c = says_found _ (sym c.key.ensures ∙ c.in-Some.is) c.in-4925.is

pub returns-in-4694 : goal.returns-in-4694
unfolding table writing tags
returns-in-4694 c = says_found _ (sym c.key.ensures ∙ c.in-Some.is) c.in-4694.is

pub returns-in-5311 : goal.returns-in-5311
unfolding table writing tags
returns-in-5311 c = says_found _ (sym c.key.ensures ∙ c.in-Some.is) c.in-5311.is

pub returns-in-5297 : goal.returns-in-5297
unfolding table writing tags
returns-in-5297 c = says_found _ (sym c.key.ensures ∙ c.in-Some.is) c.in-5297.is

pub returns-in-5301 : goal.returns-in-5301
unfolding table writing tags
returns-in-5301 c = says_found _ (sym c.key.ensures ∙ c.in-Some.is) c.in-5301.is

pub returns-in-174747501612 : goal.returns-in-174747501612
unfolding table writing tags
returns-in-174747501612 c = says_found _ (sym c.key.ensures ∙ c.in-Some.is) c.in-174747501612.is

pub returns-in-51 : goal.returns-in-51
unfolding table writing tags
returns-in-51 c = says_found _ (sym c.key.ensures ∙ c.in-Some.is) c.in-51.is

pub returns-in-4166 : goal.returns-in-4166
unfolding table writing tags
returns-in-4166 c = says_found _ (sym c.key.ensures ∙ c.in-Some.is) c.in-4166.is

pub returns-in-58 : goal.returns-in-58
unfolding table writing tags
returns-in-58 c = says_found _ (sym c.key.ensures ∙ c.in-Some.is) c.in-58.is

pub returns-in-23200498 : goal.returns-in-23200498
unfolding table writing tags
returns-in-23200498 c = says_found _ (sym c.key.ensures ∙ c.in-Some.is) c.in-23200498.is

pub returns-in_default : goal.returns-in_default
returns-in_default c = says_long _ (sym c.key.ensures ∙ c.in_default.is)

pub returns-in_default-number : goal.returns-in_default-number
unfolding table writing tags
returns-in_default-number c = says_none _ (sym c.key.ensures ∙ c.in-Some.is) (search rules)

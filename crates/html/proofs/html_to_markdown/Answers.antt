-- `html_to_markdown` meets its contract.
-- Assumes nothing.
use mathlib.Core.Path.{refl, sym, ◌∙◌}
use Rattle.std.proofs.lemmas.Result.{err_from_is_err_and}
use native.Mathlib.Omega.{arith}
use lib.Seq.{length-take-le}
use Rattle.html.specs.declared.PageError.TheVariants.{NotUtf8, SmallWork, SmallResult, TooManyLists}
use Rattle.std.specs.Prelude.{Ok, Err}
use Rattle.html.proofs.FinishLaws.{Cut, cut_small, cut_within, read_scalars, call_1, call_2, call_3, call_4, call_empty, call_wrote, promised}
use Rattle.html.proofs.html_to_markdown.Goals as goal
use Rattle.html.proofs.html_to_markdown.Goals.{After-cut_len-n}

-- what is read of the page
cut : (c : After-cut_len-n) → Cut c.args.page.now c.cut_len-n.result
cut c = record { utf8 = sym c.is_utf8.ensures ∙ c.if-not-is_utf8.false; is = c.cut_len-n.ensures }

pub returns-then-not-is_utf8 : goal.returns-then-not-is_utf8
returns-then-not-is_utf8 c = promised _ _ (Err NotUtf8) _ _ _ _ (call_1 _ _ _ (sym c.is_utf8.ensures ∙ c.if-not-is_utf8.true)) refl refl refl refl

pub overflow_mul-n : goal.overflow_mul-n
overflow_mul-n c = omega (arith, cut_small _ _ (cut c))

pub overflow_add-n : goal.overflow_add-n
overflow_add-n c = omega (arith, cut_small _ _ (cut (goal.at.overflow_add-n c).After-cut_len-n))

pub returns-then-work-n : goal.returns-then-work-n
returns-then-work-n c =
    let k = cut (goal.at.returns-then-work-n c).After-cut_len-n in
    promised _ _ (Err SmallWork) _ _ _ _ (call_2 _ _ k _ _ c.if-work-n.true) refl refl refl refl

pub returns-then-res : goal.returns-then-res
returns-then-res c =
    let k = cut (goal.at.returns-then-res c).After-cut_len-n in
    promised _ _ (Err SmallResult) _ _ _ _ (call_3 _ _ k _ _ c.if-work-n.false c.if-res.true) refl refl refl refl

pub returns-then-n-eq0 : goal.returns-then-n-eq0
returns-then-n-eq0 c =
    let k = cut (goal.at.returns-then-n-eq0 c).After-cut_len-n in
    promised _ _ (Ok 0) _ _ _ _ (call_empty _ _ k _ _ c.if-work-n.false c.if-res.false c.if-n-eq0.true) refl refl refl refl

pub slice_bounds-convert-end : goal.slice_bounds-convert-end
slice_bounds-convert-end c = sym (length-take-le _ _ (cut_within _ _ (cut (goal.at.slice_bounds-convert-end c).After-cut_len-n)))

pub convert-requires : goal.convert-requires
convert-requires c =
    let k = cut (goal.at.convert-requires c).After-cut_len-n in
    (omega (arith, length-take-le _ _ (cut_within _ _ k), c.if-work-n.false), read_scalars _ _ k)

pub returns-in_err-c : goal.returns-in_err-c
returns-in_err-c c =
    let k = cut (goal.at.returns-in_err-c c).After-cut_len-n in
    let q = err_from_is_err_and c.from_residual.result c.from_residual.ensures.1 in
    rw (q.1, q.2) (promised _ _ (Err TooManyLists) _ _ _ _ (call_4 _ _ k _ _ c.if-work-n.false c.if-res.false c.in_err-c.ensures.out_after) refl refl refl refl)

pub returns : goal.returns
returns c =
    let k = cut (goal.at.returns c).After-cut_len-n in
    let t = c.in_ok-c in
    let f = c.finish in
    let made = call_wrote _ _ k _ _ c.if-work-n.false c.if-res.false t.c _ t.ensures.out_after t.ensures.len_in_bounds in
    promised _ _ (Ok f.result) _ _ _ _ made refl f.ensures.0 f.ensures.1 refl

use Rattle.std.proofs.Common.{arith, sym}
use Rattle.std.proofs.lemmas.List.{length-take-le, take_all}
use Rattle.redo_page.proofs.whole.first_of.Goals as goal

pub slice_bounds-result-end : goal.slice_bounds-result-end
slice_bounds-result-end g c = sym (length-take-le 500 c.args.rows.now (omega (arith, c.if-rows-gt-MOST_ROWS.true)))

pub returns-else-rows-gt-MOST_ROWS : goal.returns-else-rows-gt-MOST_ROWS
returns-else-rows-gt-MOST_ROWS g c = sym (take_all 500 c.args.rows.now c.if-rows-gt-MOST_ROWS.false)

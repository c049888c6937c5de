use Rattle.std.proofs.Common.{◌∙◌, arith, sym}
use Rattle.redo_which.proofs.PassedLemmas.{count-all, few-dots}
use Rattle.redo_which.proofs.candidates.count_by.Goals as goal

pub overflow_add-result : goal.overflow_add-result
overflow_add-result c =
    let count = c.requires.dots in
    let few = few-dots c.args.dir.now c.args.end.now (sym c.fits.ensures ∙ c.if-fits.true) in
    omega (arith, count, few)

pub returns-then-fits : goal.returns-then-fits
returns-then-fits c =
    let count = c.requires.dots in
    let all = count-all c.args.dir.now c.args.end.now c.requires.part (sym c.fits.ensures ∙ c.if-fits.true) in
    omega (arith, count, all)

use Rattle.std.proofs.Common.{◌∙◌, sym}
use Rattle.redo_ood.specs.inside.Verdicts.{in_table}
use Rattle.redo_ood.proofs.StepLemmas.{step-sound, step-more, row-items}
use Rattle.redo_ood.proofs.verdicts.step.Goals as goal

pub returns-clause-sound : goal.returns-clause-sound
returns-clause-sound c =
    step-sound c.args.book.now c.args.table.now c.requires.sound c.args.number c.requires.within c.verdict_at.result
    c.of_items-verdict.result c.verdict_at.ensures (sym c.is_some.ensures ∙ c.if-is_some.false)
    (c.of_items-verdict.ensures ∙ row-items c.args.book.now (in_table c.args.table.now) c.args.number
    c.index-book-number.result c.deref.result.now c.requires.within c.deref.ensures.value) c.if-is_none.ensures

pub returns-clause-more : goal.returns-clause-more
returns-clause-more c = λ _.
    step-more c.args.book.now c.args.table.now c.requires.sound c.args.number c.requires.within c.verdict_at.result
    c.of_items-verdict.result c.verdict_at.ensures (sym c.is_some.ensures ∙ c.if-is_some.false)
    (c.of_items-verdict.ensures ∙ row-items c.args.book.now (in_table c.args.table.now) c.args.number
    c.index-book-number.result c.deref.result.now c.requires.within c.deref.ensures.value) c.if-is_none.ensures

use Rattle.std.proofs.Common.{◌∙◌, ap, sym}
use Rattle.redo_ood.specs.inside.Lines.{holds}
use Rattle.redo_ood.specs.inside.Verdicts.{in_table}
use Rattle.redo_ood.proofs.ScanLemmas.{not-false, open-more}
use Rattle.redo_ood.proofs.words.first_open.Goals as goal

pub loop-at-preserved : goal.loop-at-preserved
loop-at-preserved c =
    c.loop-at.invariant
    ∙ open-more (in_table c.args.table.now) c.args.entries.now c.args.items.now c.loop-at.at _ c.requires c.loop-at-test.true
    (ap holds (sym c.mark_of-mark.ensures) ∙ not-false _ c.if-is_open.ensures)

use Rattle.std.proofs.Common.{◌∙◌, ap, sym}
use Rattle.redo_ood.specs.inside.Lines.{drops}
use Rattle.redo_ood.specs.inside.Verdicts.{in_table}
use Rattle.redo_ood.proofs.ScanLemmas.{drop-more}
use Rattle.redo_ood.proofs.words.first_drop.Goals as goal

pub loop-at-preserved : goal.loop-at-preserved
loop-at-preserved c =
    c.loop-at.invariant
    ∙ drop-more (in_table c.args.table.now) c.args.entries.now c.args.items.now c.loop-at.at _ c.requires c.loop-at-test.true
    (ap drops (sym c.mark_of.ensures) ∙ sym c.if-is_dropped.ensures)

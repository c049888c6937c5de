use Rattle.redo_short.proofs.ShortLemmas.{told_short}
use Rattle.redo_short.proofs.lines.short_text.Goals as goal

pub returns : goal.returns
returns c =
    told_short c.in_ok-text.text.items c.in_ok-begun.begun c.deref.result.now c.args.report.now.begun.items
    c.deref-2.result.now c.args.report.now.rows.items c.in_ok-text.ensures c.in_ok-begun.ensures.among
    c.deref.ensures.value c.deref-2.ensures.value

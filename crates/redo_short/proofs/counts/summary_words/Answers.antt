use Rattle.std.proofs.Common.{rules}
use Rattle.redo_short.proofs.ShortLemmas.{told_summary}
use Rattle.redo_short.proofs.counts.summary_words.Goals as goal

pub returns : goal.returns
returns c =
    told_summary _ c.in_ok-begun.begun _ c.args.report.now.begun.items _ c.args.report.now.rows.items
    c.in_ok-words.ensures c.in_ok-begun.ensures.among (search rules) (search rules)

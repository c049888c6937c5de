use Rattle.std.proofs.Common.{rules}
use Rattle.redo_dot.proofs.GraphLemmas.{drawn}
use Rattle.redo_dot.proofs.graph.dot.Goals as goal

pub returns : goal.returns
returns c =
    drawn _ c.in_ok-begun.begun _ c.args.report.now.begun.items c.args.with_rules _ c.args.report.now.rows.items
    c.in_ok-text.ensures c.in_ok-begun.ensures.among (search rules) (search rules)

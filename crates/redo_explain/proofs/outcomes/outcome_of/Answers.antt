use Rattle.std.proofs.Common.{ap, sym}
use Rattle.std.specs.Prelude.{option_map}
use Rattle.redo_report.specs.declared.report.Row.{Row}
use Rattle.redo_explain.proofs.RowLemmas.{no-row, row-there}
use Rattle.redo_explain.proofs.outcomes.outcome_of.Goals as goal

pub returns-in-Ok : goal.returns-in-Ok
returns-in-Ok c = λ in_order.
    let rows = c.args.rows.now in
    let row = c.index-rows-at.result in
    sym (ap (option_map (λ (r : Row). r.outcome)) (row-there rows c.args.path.now c.in-Ok.at row in_order c.in-Ok.ensures.within (c.in-Ok.ensures.place row)))

pub returns-in-Err : goal.returns-in-Err
returns-in-Err c = λ in_order.
    sym (ap (option_map (λ (r : Row). r.outcome)) (no-row c.args.rows.now c.args.path.now c.in-Err.field-0 in_order c.in-Err.ensures.place))

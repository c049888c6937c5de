use Rattle.std.proofs.Common.{map, rules}
use Rattle.redo_explain.specs.Views.{begun_view}
use Rattle.redo_json.proofs.ToldLemmas.{same-known}
use Rattle.redo_json.proofs.known.Known.of.Goals as goal

pub returns : goal.returns
returns c =
    same-known c.args.past.now _ _ c.in_ok-reasons.reasons c.in_ok-diagnoses.diagnoses c.in_ok-failed.failed
    c.args.rows.now (map begun_view c.args.begun.now) c.args.diagnoses.now (search rules) (search rules)
    c.in_ok-reasons.ensures c.in_ok-diagnoses.ensures c.in_ok-failed.ensures

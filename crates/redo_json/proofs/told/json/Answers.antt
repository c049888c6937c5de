use Rattle.std.proofs.Common.{map, rules}
use Rattle.redo_explain.specs.Views.{begun_view}
use Rattle.redo_json.proofs.ToldLemmas.{told-text}
use Rattle.redo_json.proofs.told.json.Goals as goal

pub returns : goal.returns
returns c = record {
  begun = map begun_view c.in_ok-begun.begun.items;
  text_is =
      told-text c.in_ok-text.text.items c.in_ok-tokens.tokens _ c.args.past.now c.args.told.now _ c.deref.result.now
      c.args.report.now.rows.items _ c.in_ok-begun.begun.items c.args.told.now.diagnoses.now c.in_ok-text.ensures
      c.in_ok-tokens.ensures c.in_ok-known.ensures (search rules) (search rules) (search rules);
  reasons = c.in_ok-begun.ensures;
}

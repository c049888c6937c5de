use Rattle.std.proofs.Common.{◌∙◌, sym, subst}
use Rattle.redo_tree.specs.Tree.{HasNoDefaults}
use Rattle.redo_tree.proofs.NotedLemmas.{none-noted, unnoted}
use Rattle.redo_tree.proofs.entries.Tree.holds_defaults.Goals as goal

pub returns : goal.returns
returns c = record {
  none = λ h.
      let inside = c.self.inside in
      let dir = c.args.dir.now in
      let out = unnoted inside.defaults dir c.number_by_text.result c.number_by_text.ensures (sym c.is_some.ensures ∙ h) in
      subst (λ t. HasNoDefaults t dir) c.self.view_is (none-noted inside.defaults _ dir c.self.invariant.noted out);
}

use Rattle.std.proofs.Common.{rules, ◌≡◌, ◌∙◌, ◌∷◌, [], inr, refl}
use Rattle.redo_tree.specs.Tree.{without}
use Rattle.redo_which.specs.Candidates.{journal_path}
use Rattle.redo_mend.proofs.MendLemmas.{book-over, own-over}
use Rattle.redo_mend.proofs.mending.pass_over.Goals as goal

pub returns-clause-left : goal.returns-clause-left
returns-clause-left c =
    let tree = c.args.tree.now in
    let mended = c.in_ok-tree.tree in
    let own : c.push.new.self.items ≡ journal_path ∷ [] = search rules in
    let same : mended ≡ without tree (journal_path ∷ []) = search rules in
    record {
      journal = refl;
      book = book-over tree c.is_tree.ensures mended same;
      own = own ∙ own-over tree c.is_tree.ensures mended same;
      settle = inr (c.requires, search rules);
    }

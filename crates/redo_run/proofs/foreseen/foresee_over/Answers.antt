use Rattle.std.proofs.Common.{◌≡◌, Err, inr, refl, rules, subst, sym}
use Rattle.std.specs.Arc.{arc_value}
use Rattle.std.specs.Prelude.{IfErr}
use Rattle.redo_mend.specs.Mended.{MendsTo}
use Rattle.redo_rules.specs.Results.{IsOfTree}
use Rattle.redo_tree.specs.Tree.{Tree}
use Rattle.redo_run.specs.Directories.{IsBuilt, to_build}
use Rattle.redo_run.specs.Storing.{clearing}
use Rattle.redo_run.specs.declared.storing.Plan.{Plan}
use Rattle.redo_run.specs.inside.Foreseen.{IsUnforeseenOver}
use Rattle.redo_run.specs.inside.Storing.{steps_left}
use Rattle.redo_run.proofs.StoringLemmas.{left_is_cleared, new_is_stored_by}
use Rattle.redo_run.proofs.foreseen.foresee_over.Goals as goal

-- the mended tree isn't built
pub returns-in_err-mended-clause-refused : goal.returns-in_err-mended-clause-refused
returns-in_err-mended-clause-refused g c =
    let options = c.args.options.now in
    let fault = c.in_err-mended.field-0.0 in
    let result : Err fault ≡ c.from_residual-in_err-mended.result = search rules in
    subst (λ r. IfErr r (IsUnforeseenOver options c.args.tree)) result
    (inr (c.in_ok-tree.field-0.tree, c.in_ok-tree.ensures.mends, c.in_err-mended.ensures.refused))

-- what was built is the mended tree, as it was shared
pub returns-clause-foreseen : goal.returns-clause-foreseen
returns-clause-foreseen g c =
    let options = c.args.options.now in let loaded = c.args.tree in
    let mended = c.in_ok-mended.field-0.mended in let built = c.in_ok-mended.field-0.built in
    let same : arc_value mended ≡ c.in_ok-tree.field-0.tree = c.in_ok-mended.ensures.mended in
    let plan : Plan = record {
      left = c.in_ok-tree.field-0.left;
      over = c.has_book-over.result;
      new = c.in_ok-new.new;
      workers = options.workers;
    } in
    let cleared = left_is_cleared loaded c.in_ok-tree.field-0.tree c.has_book-over.result c.in_ok-tree.field-0.left c.has_book-over.ensures
    c.in_ok-tree.ensures.journal c.in_ok-tree.ensures.book c.in_ok-tree.ensures.own in
    let read : c.deref.result.now ≡ arc_value mended = search rules in
    record {
      is_tree = c.is_tree.ensures;
      counted = refl;
      mends = subst (MendsTo loaded) (sym same) c.in_ok-tree.ensures.mends;
      past = subst (λ (t : Tree). IsOfTree (to_build options t) built.past) (sym same) c.in_ok-mended.ensures.past;
      built = subst (λ (t : Tree). IsBuilt (to_build options t) options built.report built.book built.exit) (sym same) c.in_ok-mended.ensures.built;
      left = subst (λ (t : Tree). steps_left plan ≡ clearing loaded t) (sym same) cleared;
      new = new_is_stored_by c.deref.result.now (arc_value mended) (arc_value mended) c.in_ok-new.new c.deref-2.result.now built.report.files.items built.book c.in_ok-new.ensures read refl c.deref-2.ensures.value;
    }

use Rattle.std.proofs.Common.{◌≡◌, ◌∙◌, ap, rules, sym, Some, None}
use Rattle.std.specs.Prelude.{option_map}
use Rattle.redo_path.specs.Names.{parent_of}
use Rattle.redo_tree.specs.Tree.{Directory, node_at}
use Rattle.redo_which.specs.Rule.{Rule, chosen_of, missing_of}
use Rattle.redo_which.specs.Views.{place_of}
use Rattle.redo_which.proofs.RuleLemmas.{counted_missing, rule_found}
use Rattle.redo_which.proofs.lookup.find.Goals as goal

-- The rule was found, and each of its parts is as it is meant.
pub returns-in_ok-rule_by-in-Some-chosen : goal.returns-in_ok-rule_by-in-Some-chosen
returns-in_ok-rule_by-in-Some-chosen c =
    let tree = c.args.tree.now in
    let target = c.args.target.now in
    let place = place_of c.in-Some-chosen.candidate in
    let none : node_at tree target ≡ None = search rules in
    let parent : parent_of target ≡ Some c.in-Some.dir.now = search rules in
    let above : node_at tree c.in-Some.dir.now ≡ Some Directory = search rules in
    let chosen : chosen_of tree target ≡ Some place = sym c.in_ok-count.ensures.chosen ∙ ap (option_map place_of) c.in-Some-chosen.is in
    let missing : c.in_ok-missing.missing ≡ missing_of tree target = c.in_ok-missing.ensures ∙ counted_missing tree target c.in_ok-count.field-0.count c.in_ok-count.ensures.count in
    let told = c.in_ok-rule_by-in-Some-chosen.ensures in
    (λ i. Rule (told.do_file i) ((told.missing ∙ missing) i) (told.args i)) ∙ sym (rule_found tree target c.in-Some.dir.now place none parent above chosen)

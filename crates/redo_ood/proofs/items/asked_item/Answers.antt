use Rattle.std.proofs.Common.{◌≡◌, false, rules}
use Rattle.redo_which.specs.Candidates.{is_do_file}
use Rattle.redo_which.specs.Rule.{found_of, is_rule}
use Rattle.redo_ood.proofs.ItemLemmas.{ruleless-item}
use Rattle.redo_ood.proofs.items.asked_item.Goals as goal

pub returns-else-branch : goal.returns-else-branch
returns-else-branch c = λ request limits same.
    let other : is_do_file c.args.path.now ≡ false = search rules in
    let rule : is_rule (found_of c.args.past.now.sources c.args.path.now) ≡ false = search rules in
    ruleless-item c.args.past.now request limits c.args.state.now c.args.path.now c.requires other rule

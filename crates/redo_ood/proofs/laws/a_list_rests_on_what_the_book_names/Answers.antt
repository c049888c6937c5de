use Rattle.redo_ood.proofs.SameLemmas.{same_list}
use Rattle.redo_ood.proofs.laws.a_list_rests_on_what_the_book_names.Goals as goal

pub returns : goal.returns
returns c = λ given now listed is_one is_two is_past is_now alike book same is.
    same_list given now is_one is_two is_past is_now alike book same listed is

use Rattle.redo_reads.proofs.ResultLemmas.{given_result, same_refusal}
use Rattle.redo_reads.proofs.laws.results_rest_on_what_they_name.Goals as goal

pub returns-clause-result : goal.returns-clause-result
returns-clause-result c = λ one two request limits given paths result is_one is_two of alike agree has is covered.
    given_result c.more_answers.ensures one two request limits given paths result is_one is_two of alike agree has
    is covered

pub returns-clause-refused : goal.returns-clause-refused
returns-clause-refused c = λ one two paths n agree m refused. same_refusal one two paths n agree m refused

use Rattle.redo_query.proofs.LawLemmas.{same_answer}
use Rattle.redo_query.proofs.laws.answers_rest_on_the_book.Goals as goal

pub returns : goal.returns
returns c = λ past other question answer are is. same_answer past other are question answer is

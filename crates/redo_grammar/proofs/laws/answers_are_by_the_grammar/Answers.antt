use Rattle.redo_grammar.specs.Texts.{tree_of}
use Rattle.redo_grammar.proofs.AnswerLemmas.{given_found, given_only, given_refused, given_memory}
use Rattle.redo_grammar.proofs.laws.answers_are_by_the_grammar.Goals as goal

pub returns : goal.returns
returns c = record {
  found = λ text answer h. given_found tree_of text answer h;
  only = λ text answer script h s. given_only tree_of text answer h script s;
  refused = λ text answer h. given_refused tree_of text answer h;
  memory = λ text answer h. given_memory tree_of text answer h;
}

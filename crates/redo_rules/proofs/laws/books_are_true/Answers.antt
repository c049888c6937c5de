use Rattle.redo_rules.specs.TreeSources.{IsTrueOfTrees}
use Rattle.redo_rules.proofs.LeftBookLemmas.{book-true, looked-up}
use Rattle.redo_rules.proofs.laws.books_are_true.Goals as goal

pub returns-clause-left : goal.returns-clause-left
returns-clause-left c = λ given result is is_tree old.
    book-true given is.report is.with_book.book is_tree is.built is.with_book.new old

pub returns-clause-found : goal.returns-clause-found
returns-clause-found c = λ file_bytes book all p r e. looked-up (IsTrueOfTrees file_bytes) book all p r e

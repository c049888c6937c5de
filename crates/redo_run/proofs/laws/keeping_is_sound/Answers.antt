use Rattle.redo_run.proofs.SoundLemmas.{sound-on, unsafe-on}
use Rattle.redo_run.proofs.laws.keeping_is_sound.Goals as goal

pub returns-clause-sound : goal.returns-clause-sound
returns-clause-sound c = λ tree request limits result is_tree is.
    sound-on c.true_books_skip_soundly.ensures c.books_are_true.ensures.left c.a_tree_has_one_past.ensures c.a_tree_without_files_is_a_tree.ensures c.no_other_file_is_taken_out.ensures
    tree request limits result is_tree is

pub returns-clause-within : goal.returns-clause-within
returns-clause-within c = λ tree request limits many.
    unsafe-on c.true_books_skip_soundly.ensures c.books_are_true.ensures.left c.a_tree_has_one_past.ensures c.a_tree_without_files_is_a_tree.ensures c.no_other_file_is_taken_out.ensures
    tree request limits many

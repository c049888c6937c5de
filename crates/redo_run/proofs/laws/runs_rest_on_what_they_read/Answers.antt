use Rattle.redo_run.proofs.MendingLemmas.{mended_alike}
use Rattle.redo_run.proofs.ReadingLemmas.{built_there, steps_there}
use Rattle.redo_run.proofs.laws.runs_rest_on_what_they_read.Goals as goal

pub returns-clause-mended : goal.returns-clause-mended
returns-clause-mended c = λ one two mended paths is_one is_two alike agree has mends.
    mended_alike one two paths is_one is_two alike agree has mended mends

pub returns-clause-built : goal.returns-clause-built
returns-clause-built c = λ one two paths options report book exit is_one is_two alike agree has.
    built_there c.results_rest_on_what_they_name.ensures.result c.keeping_is_sound.ensures.sound
    c.a_tree_without_files_is_a_tree.ensures one two paths options report book exit is_one is_two alike agree has

pub returns-clause-steps : goal.returns-clause-steps
returns-clause-steps c =
    λ one two mended other paths options report book exit is_one is_two alike agree has mends read.
    steps_there one two mended other paths is_one is_two alike agree has mends report book read.has_places

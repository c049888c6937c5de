use Rattle.redo_build.proofs.SoundLemmas.{opening-sound, run-sound}
use Rattle.redo_build.proofs.StillLemmas.{take-none-due}
use Rattle.redo_build.specs.Schedule.{run, opening}
use Rattle.redo_build.proofs.laws.takes_make_none_due.Goals as goal

pub returns : goal.returns
returns c = λ r lawful request events which all_open none below.
    take-none-due r lawful request (run r events (opening r request))
    (run-sound r lawful request (opening r request) events (opening-sound r lawful request) all_open) none which below

use Rattle.redo_build.proofs.SoundLemmas.{opening-sound, run-sound}
use Rattle.redo_build.proofs.LookingLemmas.{looks-settle}
use Rattle.redo_build.specs.Schedule.{run, opening}
use Rattle.redo_build.proofs.laws.looks_settle.Goals as goal

pub returns : goal.returns
returns c = λ r lawful request limit events all_open few.
    looks-settle r lawful request limit (run r events (opening r request))
    (run-sound r lawful request (opening r request) events (opening-sound r lawful request) all_open) few

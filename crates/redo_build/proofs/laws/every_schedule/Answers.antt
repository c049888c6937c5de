use Rattle.redo_build.proofs.SoundLemmas.{opening-sound, run-sound}
use Rattle.redo_build.proofs.QuietLemmas.{is_part, shows}
use Rattle.redo_build.specs.Schedule.{run, opening}
use Rattle.redo_build.proofs.laws.every_schedule.Goals as goal

pub returns-clause-part : goal.returns-clause-part
returns-clause-part c = λ r lawful request limit events all_open.
    let sound = run-sound r lawful request (opening r request) events (opening-sound r lawful request) all_open in
    is_part r lawful request (run r events (opening r request)) sound limit

pub returns-clause-quiet : goal.returns-clause-quiet
returns-clause-quiet c = λ r lawful request limit events all_open quiet looked few.
    let sound = run-sound r lawful request (opening r request) events (opening-sound r lawful request) all_open in
    shows r lawful request (run r events (opening r request)) sound limit quiet looked few

use Rattle.redo_build.proofs.SoundLemmas.{opening-sound, run-sound}
use Rattle.redo_build.proofs.StillLemmas.{looked-out, looked-count, takes-looks}
use Rattle.redo_build.specs.Schedule.{run, opening}
use Rattle.redo_build.proofs.laws.looks_leave_jobs.Goals as goal

pub returns-clause-out : goal.returns-clause-out
returns-clause-out c = λ r lawful request events looks target turn all_open.
    looked-out r lawful request looks (run r events (opening r request))
    (run-sound r lawful request (opening r request) events (opening-sound r lawful request) all_open) target turn

pub returns-clause-count : goal.returns-clause-count
returns-clause-count c = λ r lawful request events looks all_open.
    looked-count r lawful request looks (run r events (opening r request))
    (run-sound r lawful request (opening r request) events (opening-sound r lawful request) all_open)

pub returns-clause-taken : goal.returns-clause-taken
returns-clause-taken c = λ r events looks s are. takes-looks r events looks s are

use Rattle.redo_build.proofs.SoundLemmas.{opening-sound, run-sound}
use Rattle.redo_build.proofs.LookingLemmas.{looks-lead, looked_out-one}
use Rattle.redo_build.specs.Schedule.{run, opening}
use Rattle.redo_build.proofs.laws.looks_lead_on.Goals as goal

pub returns-clause-led : goal.returns-clause-led
returns-clause-led c = λ r lawful request events looks all_open.
    looks-lead r lawful request looks (run r events (opening r request))
    (run-sound r lawful request (opening r request) events (opening-sound r lawful request) all_open)

pub returns-clause-one : goal.returns-clause-one
returns-clause-one c = λ r s first second one other. looked_out-one r s first second one other

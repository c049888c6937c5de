use Rattle.redo_build.proofs.SoundLemmas.{opening-sound}
use Rattle.redo_build.proofs.OnceLemmas.{takes-once}
use Rattle.redo_build.proofs.CountedLemmas.{once-counted}
use Rattle.redo_build.specs.Schedule.{opening}
use Rattle.redo_build.specs.Takes.{takes}
use Rattle.redo_build.proofs.laws.takes_once.Goals as goal

pub returns-clause-once : goal.returns-clause-once
returns-clause-once c = λ r lawful request events all_open.
    takes-once r lawful request events (opening r request) (opening-sound r lawful request) all_open

pub returns-clause-counted : goal.returns-clause-counted
returns-clause-counted c = λ r lawful request events all_open.
    once-counted (takes r events (opening r request))
    (takes-once r lawful request events (opening r request) (opening-sound r lawful request) all_open)

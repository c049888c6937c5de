use Rattle.redo_build.proofs.SoundLemmas.{opening-sound, run-sound}
use Rattle.redo_build.proofs.CountLemmas.{look-left}
use Rattle.redo_build.specs.Schedule.{run, opening}
use Rattle.redo_build.proofs.laws.looks_end.Goals as goal

pub returns : goal.returns
returns c = λ r lawful request limit events target all_open due few.
    let sound = run-sound r lawful request (opening r request) events (opening-sound r lawful request) all_open in
    look-left r lawful request (run r events (opening r request)) sound target limit due few

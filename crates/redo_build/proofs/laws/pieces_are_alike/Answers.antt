use Rattle.redo_build.proofs.SoundLemmas.{opening-sound, run-sound}
use Rattle.redo_build.proofs.HandoverLemmas.{out-advanced, out-piece}
use Rattle.redo_build.specs.Schedule.{run, opening, advanced}
use Rattle.redo_build.proofs.laws.pieces_are_alike.Goals as goal

pub returns-clause-piece : goal.returns-clause-piece
returns-clause-piece c = λ r lawful request events target turn now all_open out piece.
    let sound = run-sound r lawful request (opening r request) events (opening-sound r lawful request) all_open in
    out-advanced r lawful request (run r events (opening r request)) sound target turn out now piece

pub returns-clause-boards : goal.returns-clause-boards
returns-clause-boards c = λ r lawful request other events others target turn all_open all_open' out there.
    let sound = run-sound r lawful request (opening r request) events (opening-sound r lawful request) all_open in
    let sound' = run-sound r lawful other (opening r other) others (opening-sound r lawful other) all_open' in
    let state = run r others (opening r other) in
    out-advanced r lawful request (run r events (opening r request)) sound target turn out
    (advanced r state.entries there.entry) (out-piece r lawful other state sound' target turn there)

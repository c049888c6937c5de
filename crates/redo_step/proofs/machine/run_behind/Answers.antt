use Rattle.redo_script.specs.Syntax.{finish}
use Rattle.redo_step.specs.Place.{all_of}
use Rattle.redo_step.proofs.ComesLemmas.{comes_after, comes_default, if_ok_map}
use Rattle.redo_step.proofs.machine.run_behind.Goals as goal

pub returns-in-Finished : goal.returns-in-Finished
returns-in-Finished g c =
    let ran = rw c.in-Finished.is at (c.in_ok-progress.ensures.comes _ _ c.requires.line c.requires.words c.requires.here) in
    if_ok_map c.run_from.result (λ p h. comes_after _ _ _ _ _ (all_of _ finish) _ _ _ p ran h) c.run_from.ensures

pub returns-in_default : goal.returns-in_default
returns-in_default g c =
    comes_default _ _ _ _ _ _ _ _ c.in_ok-progress.progress c.in_default.not-Finished (c.in_ok-progress.ensures.comes _ _ c.requires.line c.requires.words c.requires.here)

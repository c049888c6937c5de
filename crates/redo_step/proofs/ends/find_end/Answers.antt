use Rattle.std.proofs.Common.{rules}
use Rattle.redo_step.proofs.WalkLemmas.{no_end}
use Rattle.redo_step.proofs.ends.find_end.Goals as goal

pub returns-clause-none : goal.returns-clause-none
returns-clause-none g c =
    let walked = rw (c.shell-shell.ensures.setting, c.shell-shell.ensures.answers, c.deref.ensures.value) at c.in_ok-place.ensures in
    no_end _ _ _ _ _ c.in_ok-place.field-0 (search rules) c.in-Past.is walked

use Rattle.std.proofs.Common.{subst, sym}
use Rattle.redo_dir.specs.Loaded.{AreNamesIn}
use Rattle.redo_run.specs.declared.directory.Round.{Round}
use Rattle.redo_run.proofs.directory.foresee.Goals as goal
use Rattle.redo_run.proofs.directory.foresee.Goals.{then-round+in-Err-Load+in_ok-round, else-round}

-- the names stay as they were found
pub foresee_part-requires-clause-names : goal.foresee_part-requires-clause-names
foresee_part-requires-clause-names g c κs within =
    let dir = c.args.dir.now in
    elim c.if-round.branch [
      | then-round+in-Err-Load+in_ok-round w ↦
          subst (λ (r : Round). AreNamesIn (g.D.DirView.lists dir) (g.D.DirView.looks dir) r.names) (sym w.round-is) w.attempt_all.ensures.names
      | else-round w ↦
          subst (λ (r : Round). AreNamesIn (g.D.DirView.lists dir) (g.D.DirView.looks dir) r.names) (sym w.round-is) c.in_ok-names.ensures.names
    ]

use Rattle.std.proofs.Common.{[], ◌∷◌}
use Rattle.redo_step.specs.Outputs.{joined}
use Rattle.redo_step.proofs.AddingLemmas.{adds-trans}
use Rattle.redo_step.proofs.ComesLemmas.{if_ok_map}
use Rattle.redo_step.proofs.writing.echo.Goals as goal

pub returns : goal.returns
returns c = if_ok_map c.add.result (λ _ adds. adds-trans (joined c.args.texts.now) (10 ∷ []) _ _ _ c.in_ok-add_joined.ensures adds) c.add.ensures

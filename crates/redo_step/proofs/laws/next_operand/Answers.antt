use Rattle.redo_step.specs.Agreeing.{IsFollowed}
use Rattle.redo_step.specs.Runs.{end_state}
use Rattle.redo_step.specs.Statements.{meaning}
use Rattle.redo_step.proofs.AgreeingLemmas.{meaning_follows}
use Rattle.redo_step.proofs.FollowedLemmas.{followed-next}
use Rattle.redo_step.proofs.laws.next_operand.Goals as goal

pub returns : goal.returns
returns c = λ one two a b script front back p alike is all.
    let law : IsFollowed one a two b (end_state (meaning two b script)).entries
    (end_state (meaning one a script)).entries = (meaning_follows one two a b alike script).declares in
    followed-next one two a b (end_state (meaning two b script)).entries front back p (rw is at law) all

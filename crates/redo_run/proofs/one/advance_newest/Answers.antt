use Rattle.redo_run.proofs.RefusalLemmas.{too_many_after_take}
use Rattle.redo_run.proofs.one.advance_newest.Goals as goal

pub returns-in-Err-TooMany-clause-too_many : goal.returns-in-Err-TooMany-clause-too_many
returns-in-Err-TooMany-clause-too_many c = λ _.
    too_many_after_take c.args.board.now c.take.new.self c.hand_in.new.self _ c.in_ok-piece.piece c.in-Err-TooMany.field-0 c.in_ok-work.ensures.ok c.requires.running
    c.in-Err-TooMany.ensures.err c.in-Err-TooMany.field-0-is

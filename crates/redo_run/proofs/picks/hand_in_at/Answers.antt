use Rattle.std.proofs.Common.{rules, ◌<◌, ◌≤◌, length}
use Rattle.redo_run.proofs.RefusalLemmas.{no_stranger, too_many_running}
use Rattle.redo_run.proofs.StaysOutLemmas.{handed-out, handed-picked, piece-belongs, piece-out, shut-piece}
use Rattle.redo_run.proofs.picks.hand_in_at.Goals as goal

pub returns-then-which-len-clause-picked : goal.returns-then-which-len-clause-picked
returns-then-which-len-clause-picked c =
    let above : length c.args.out.now.items ≤ c.args.which = search rules in
    shut-piece c.args.board.now c.args.out.now.items c.args.which above

pub hand_in-requires : goal.hand_in-requires
hand_in-requires c =
    let below : c.args.which < length c.args.out.now.items = search rules in
    piece-belongs c.args.board.now c.args.out.now.items c.args.which c.remove.result c.requires.out below c.remove.ensures.value c.in_ok-piece.piece c.in_ok-piece.ensures.place

pub returns-in-Ok-clause-picked : goal.returns-in-Ok-clause-picked
returns-in-Ok-clause-picked c =
    let below : c.args.which < length c.args.out.now.items = search rules in
    handed-picked c.args.board.now c.args.out.now.items c.args.which c.remove.result c.requires.out below c.remove.ensures.value c.in_ok-piece.piece c.in_ok-piece.ensures.place
    c.hand_in.new.self c.remove.new.self.items c.remove.ensures.items c.in-Ok.ensures.ok

pub returns-in-Ok-clause-out : goal.returns-in-Ok-clause-out
returns-in-Ok-clause-out c =
    let below : c.args.which < length c.args.out.now.items = search rules in
    handed-out c.args.board.now c.args.out.now.items c.args.which c.remove.result c.requires.out below c.remove.ensures.value c.in_ok-piece.piece c.in_ok-piece.ensures.place
    c.hand_in.new.self c.remove.new.self.items c.remove.ensures.items c.in-Ok.ensures.ok
    c.looks_leave_jobs.ensures.out (c.books_over_trees_are_lawful.ensures.book c.args.board.now.given) c.requires.come

-- the board goes on with what it had taken
pub returns-in-Ok-clause-come : goal.returns-in-Ok-clause-come
returns-in-Ok-clause-come c =
    let come = c.requires.come in
    (come.0, c.what_was_taken.ensures.hand_in c.args.board.now c.hand_in.new.self come.0 _ _ come.1 c.in-Ok.ensures.open c.in-Ok.ensures.ok)

pub returns-in-Err-TooMany-clause-too_many : goal.returns-in-Err-TooMany-clause-too_many
returns-in-Err-TooMany-clause-too_many c = λ _.
    too_many_running c.args.board.now c.hand_in.new.self c.in_ok-piece.piece c.requires.running c.in-Err-TooMany.field-0 c.in-Err-TooMany.ensures.err c.in-Err-TooMany.field-0-is

pub unreachable-requires : goal.unreachable-requires
unreachable-requires c =
    let below : c.args.which < length c.args.out.now.items = search rules in
    no_stranger c.args.board.now c.hand_in.new.self c.in_ok-piece.piece c.requires.running c.in-Err-Stranger.field-0 c.in-Err-Stranger.field-0-0
    c.in-Err-Stranger.ensures.err c.in-Err-Stranger.field-0-is
    (piece-out c.args.board.now c.args.out.now.items c.args.which c.remove.result c.requires.out below c.remove.ensures.value c.in_ok-piece.piece c.in_ok-piece.ensures.place)

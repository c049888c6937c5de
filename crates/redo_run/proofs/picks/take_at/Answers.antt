use Rattle.std.proofs.Common.{rules, ◌<◌, ◌≤◌, ◌++◌, ◌∷◌, [], sym, subst}
use Rattle.redo_core.specs.Taken.{HasTaken}
use Rattle.redo_core.specs.Views.{BoardView, ready_count}
use Rattle.redo_run.proofs.StaysOutLemmas.{out-taken, shut-take, taken-picked}
use Rattle.redo_run.proofs.picks.take_at.Goals as goal

pub returns-then-which-ready-clause-picked : goal.returns-then-which-ready-clause-picked
returns-then-which-ready-clause-picked c =
    let above : ready_count c.args.board.now ≤ c.args.which = search rules in
    shut-take c.args.board.now c.args.out.now.items c.args.which c.requires.running above

pub returns-clause-picked : goal.returns-clause-picked
returns-clause-picked c =
    taken-picked c.args.board.now c.take.new.self c.args.out.now.items c.push.new.self.items c.args.which c.in_ok-take.field-0
    c.in_ok-take.ensures.ok c.in_ok-take.ensures.work c.in_ok-push.ensures.items

pub returns-clause-out : goal.returns-clause-out
returns-clause-out c =
    out-taken c.args.board.now c.take.new.self c.args.out.now.items c.push.new.self.items c.args.which c.in_ok-take.field-0 c.requires.running c.requires.out
    c.in_ok-take.ensures.ok c.in_ok-take.ensures.work c.in_ok-take.ensures.is_out c.in_ok-take.ensures.one_more c.in_ok-push.ensures.items

-- the board has taken one more
pub returns-clause-come : goal.returns-clause-come
returns-clause-come c =
    let come = c.requires.come in let w = c.in_ok-take.field-0 in
    let below : c.args.which < ready_count c.args.board.now = search rules in
    let more = come.0 ++ (w.target, w.turn) ∷ [] in
    let P : BoardView → Type 0 = λ b. HasTaken b more in
    (more, subst P (sym c.in_ok-take.ensures.ok) (c.what_was_taken.ensures.take c.args.board.now come.0 c.args.which w come.1 below c.in_ok-take.ensures.work))

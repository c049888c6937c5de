use Rattle.std.proofs.Common.{◌≡◌, ◌<◌, ℕ, List, cond, map, is_some, length, slice_get, Some, refl, ap, subst, ◌∙◌, arith}
use Rattle.redo_core.specs.inside.Slots.{IsKept, path_at}
use Rattle.redo_core.specs.Views.{BoardView}
use Rattle.redo_core.proofs.SlotLemmas.{slice_get-map}
use Rattle.redo_core.proofs.TakeLemmas.{running, staged-below}
use Rattle.redo_core.proofs.board.Board.ready_at.Goals as goal
use Rattle.redo_core.proofs.board.Board.ready_at.Goals.{After-ready_at-at}

count : (c : After-ready_at-at) → c.args.which < cond (is_some c.self.inside.stopped) 0 (length (map (path_at c.self.inside.table.targets) c.self.inside.table.schedule.ready))
count c = rw (← c.self.view_is) at c.requires

kept : (c : After-ready_at-at) → IsKept c.self.inside
kept c = c.self.invariant.kept (running c.self.inside.stopped _ c.args.which (count c))

pub at-requires : goal.at-requires
at-requires c =
    let d = (goal.at-at-requires c).After-ready_at-at in
    omega (arith, (kept d).at_rest.table.one_each, staged-below d.self.inside (kept d) d.ready_at-at.result d.ready_at-at.ensures.is)

pub returns : goal.returns
returns c =
    let d = (goal.at-returns c).After-ready_at-at in
    let targets = d.self.inside.table.targets in
    let P : BoardView → Type 0 = λ v. slice_get v.state.ready c.args.which ≡ Some c.at.result.now in
    let at : path_at targets d.ready_at-at.result ≡ c.at.result.now = rw c.at.ensures refl in
    subst P c.self.view_is (slice_get-map (path_at targets) d.self.inside.table.schedule.ready c.args.which d.ready_at-at.result d.ready_at-at.ensures.number
    ∙ ap (λ (p : List ℕ). Some p) at)

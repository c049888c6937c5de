use Rattle.std.proofs.Common.{rules, ◌≡◌}
use Rattle.redo_dir.specs.Stored.{steps_of}
use Rattle.redo_dir.proofs.CallLemmas.{told_same}
use Rattle.redo_dir.proofs.system.SystemDir.make_room.Goals as goal

pub invariant_of-self : goal.invariant_of-self
invariant_of-self g c =
    let self = c.args.self.now in
    let same : steps_of c.reserve.new.self.items ≡ steps_of self.done.items = search rules in
    record { told = told_same g.C.Calls.after g.C.Closed.ClosedFile.stood self.view.top.now self.synced self.view.calls (steps_of self.done.items) (steps_of c.reserve.new.self.items) self.told same }

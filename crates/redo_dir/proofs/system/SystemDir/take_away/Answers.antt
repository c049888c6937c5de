use Rattle.std.proofs.Common.{rules, ◌≡◌, ◌++◌, ◌∷◌, [], inl, ap}
use Rattle.std.specs.Path.{path_buf_bytes}
use Rattle.redo_dir.specs.Called.{Follows, IsPart, Keeps, Unlinks}
use Rattle.redo_dir.specs.Stored.{Removes, steps_of}
use Rattle.redo_dir.proofs.CallLemmas.{seen_by, told_same, told_kept, told_more}
use Rattle.redo_dir.proofs.system.SystemDir.take_away.Goals as goal

pub invariant_of-self : goal.invariant_of-self
invariant_of-self g c =
    let S = g.C.Closed.ClosedFile.stood in
    let same : steps_of c.reserve.new.self.items ≡ steps_of c.args.self.now.done.items = search rules in
    record { told = told_same g.C.Calls.after S c.args.self.now.view.top.now c.args.self.now.synced c.args.self.now.view.calls (steps_of c.args.self.now.done.items) (steps_of c.reserve.new.self.items) c.args.self.now.told same }

pub invariant_of-self-in-Break-branch-3 : goal.invariant_of-self-in-Break-branch-3
invariant_of-self-in-Break-branch-3 g c =
    let S = g.C.Closed.ClosedFile.stood in
    let same : steps_of c.reserve.new.self.items ≡ steps_of c.args.self.now.done.items = search rules in
    let kept : Keeps g.C.Calls.after c.args.self.now.view.calls c.unlink.new.self = search rules in
    record { told = told_kept g.C.Calls.after S c.args.self.now.view.top.now c.args.self.now.synced c.args.self.now.view.calls c.unlink.new.self (steps_of c.args.self.now.done.items) (steps_of c.reserve.new.self.items) c.args.self.now.told kept same }

pub invariant_of-self-2 : goal.invariant_of-self-2
invariant_of-self-2 g c =
    let S = g.C.Closed.ClosedFile.stood in
    let path = c.args.path.now in
    let more : steps_of c.note.new.done.items ≡ steps_of c.args.self.now.done.items ++ Removes path ∷ [] = search rules in
    let gone : Follows g.C.Calls.after c.args.self.now.view.calls (Unlinks (path_buf_bytes c.args.place.now) ∷ []) c.unlink.new.self = search rules in
    let part : IsPart (seen_by S) c.args.self.now.view.top.now c.args.self.now.synced (steps_of c.args.self.now.done.items) (Unlinks (path_buf_bytes c.args.place.now) ∷ []) (Removes path ∷ []) = inl (c.requires.other.0, c.requires.other.1, ap (λ p. Unlinks p ∷ []) c.requires.place) in
    record { told = told_more g.C.Calls.after S c.args.self.now.view.top.now c.args.self.now.synced c.args.self.now.view.calls c.unlink.new.self (Unlinks (path_buf_bytes c.args.place.now) ∷ []) (steps_of c.args.self.now.done.items) (Removes path ∷ []) (steps_of c.note.new.done.items) c.args.self.now.told gone part more }

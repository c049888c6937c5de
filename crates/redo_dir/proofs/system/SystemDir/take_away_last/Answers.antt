use Rattle.std.proofs.Common.{rules, ◌≡◌, ◌++◌, ◌∷◌, [], Err, inl, map, subst}
use Rattle.std.specs.Path.{path_buf_bytes, path_join}
use Rattle.redo_dir.specs.Called.{AreOnDisk, Follows, Keeps, Unlinks}
use Rattle.redo_dir.specs.Stored.{Removes, steps_of}
use Rattle.std.specs.IoError.{error_kind}
use Rattle.std.specs.Prelude.{IfErr}
use Rattle.redo_dir.specs.Refused.{AnyFails, IsUnchanged}
use Rattle.redo_dir.proofs.CallLemmas.{told_same}
use Rattle.redo_dir.proofs.WaitLemmas.{told_removal, told_waits}
use Rattle.redo_dir.proofs.RefusedLemmas.{anywhere}
use Rattle.redo_dir.proofs.system.SystemDir.take_away_last.Goals as goal

pub invariant_of-self : goal.invariant_of-self
invariant_of-self g c =
    let S = g.C.Closed.ClosedFile.stood in
    let self = c.args.self.now in
    let same : steps_of c.reserve.new.self.items ≡ steps_of self.done.items = search rules in
    record { told = told_same g.C.Calls.after S self.view.top.now self.synced self.view.calls (steps_of self.done.items) (steps_of c.reserve.new.self.items) self.told same }

pub invariant_of-self-in-Break-branch-3 : goal.invariant_of-self-in-Break-branch-3
invariant_of-self-in-Break-branch-3 g c =
    let S = g.C.Closed.ClosedFile.stood in
    let self = c.args.self.now in
    let A = g.C.Calls.after in
    let same : steps_of c.reserve.new.self.items ≡ steps_of self.done.items = search rules in
    let waits = c.sync_each.ensures.waited.0 in
    record {
      told = told_waits A S self.view.top.now self.synced self.view.calls c.sync_each.new.calls c.sync_each.new.calls waits (steps_of self.done.items) (steps_of c.reserve.new.self.items)
          self.told c.sync_each.ensures.waited.1 (λ log h. h) same;
    }

pub invariant_of-self-in-Break-branch-4 : goal.invariant_of-self-in-Break-branch-4
invariant_of-self-in-Break-branch-4 g c =
    let S = g.C.Closed.ClosedFile.stood in
    let self = c.args.self.now in
    let A = g.C.Calls.after in
    let same : steps_of c.reserve.new.self.items ≡ steps_of self.done.items = search rules in
    let waits = c.sync_each.ensures.waited.0 in
    let kept : Keeps A c.sync_each.new.calls c.unlink.new.self = search rules in
    record {
      told = told_waits A S self.view.top.now self.synced self.view.calls c.sync_each.new.calls c.unlink.new.self waits (steps_of self.done.items) (steps_of c.reserve.new.self.items)
          self.told c.sync_each.ensures.waited.1 kept same;
    }

pub invariant_of-self-2 : goal.invariant_of-self-2
invariant_of-self-2 g c =
    let S = g.C.Closed.ClosedFile.stood in
    let self = c.args.self.now in
    let A = g.C.Calls.after in
    let top = self.view.top.now in
    let steps = steps_of self.done.items in
    let path = c.args.path.now in
    let waits = c.sync_each.ensures.waited.0 in
    let on : AreOnDisk (map path_buf_bytes c.args.dirs.now) waits = search rules in
    let all : steps_of c.note.new.done.items ≡ steps ++ Removes path ∷ [] = search rules in
    let gone : Follows A c.sync_each.new.calls (Unlinks (path_buf_bytes c.args.place.now) ∷ []) c.unlink.new.self = search rules in
    let at : Follows A c.sync_each.new.calls (Unlinks (path_join top path) ∷ []) c.unlink.new.self = subst (λ p. Follows A c.sync_each.new.calls (Unlinks p ∷ []) c.unlink.new.self) c.requires.place gone in
    record {
      told = told_removal A S top self.synced self.view.calls c.sync_each.new.calls c.unlink.new.self (map path_buf_bytes c.args.dirs.now) waits path steps (steps_of c.note.new.done.items)
          self.told c.sync_each.ensures.waited.1 on c.requires.last c.requires.top c.requires.dirs at all;
    }

pub returns-in_err-sync_each-clause-refused : goal.returns-in_err-sync_each-clause-refused
returns-in_err-sync_each-clause-refused g c =
    let fails = AnyFails g.C.ReadCalls.fails g.C.Closed.ClosedFile.made g.C.Closed.ClosedFile.fails g.C.Closed.ClosedFile.gone in
    let top = c.args.self.now.view.top.now in
    let path = c.args.path.now in
    let error = c.in_err-sync_each.field-0.0 in
    let kind = error_kind error in
    let why = c.in_err-sync_each.ensures.refused in
    let result : Err error ≡ c.from_residual-in_err-sync_each.result = search rules in
    subst (λ r. IfErr r (λ error. IsUnchanged fails top path (error_kind error))) result
    (anywhere fails top path why.0 kind c.requires.last (inl (c.sync_each.new.calls, why.1)))

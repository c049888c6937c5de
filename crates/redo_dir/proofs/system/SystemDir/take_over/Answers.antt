use Rattle.std.proofs.Common.{rules, ◌≡◌, ◌++◌, ◌∷◌, [], Err, inl, map, subst}
use Rattle.std.specs.Path.{path_buf_bytes, path_join}
use Rattle.redo_dir.specs.Called.{AreOnDisk, Follows, Keeps, Renames}
use Rattle.redo_dir.specs.Stored.{Finishes, steps_of}
use Rattle.redo_which.specs.Candidates.{book_path, journal_path}
use Rattle.std.specs.IoError.{error_kind}
use Rattle.std.specs.Prelude.{IfErr}
use Rattle.redo_dir.specs.Refused.{AnyFails, IsUnchanged}
use Rattle.redo_dir.proofs.CallLemmas.{told_same}
use Rattle.redo_dir.proofs.WaitLemmas.{told_finish, told_waits}
use Rattle.redo_dir.proofs.RefusedLemmas.{at_path}
use Rattle.redo_dir.proofs.system.SystemDir.take_over.Goals as goal

pub invariant_of-self : goal.invariant_of-self
invariant_of-self g c =
    let S = g.C.Closed.ClosedFile.stood in
    let self = c.args.self.now in
    let same : steps_of c.reserve.new.self.items ≡ steps_of self.done.items = search rules in
    record { told = told_same g.C.Calls.after S self.view.top.now self.synced self.view.calls (steps_of self.done.items) (steps_of c.reserve.new.self.items) self.told same }

pub invariant_of-self-in-Break-branch-2 : goal.invariant_of-self-in-Break-branch-2
invariant_of-self-in-Break-branch-2 g c =
    let S = g.C.Closed.ClosedFile.stood in
    let self = c.args.self.now in
    let A = g.C.Calls.after in
    let same : steps_of c.reserve.new.self.items ≡ steps_of self.done.items = search rules in
    let waits = c.sync_each.ensures.waited.0 in
    record {
      told = told_waits A S self.view.top.now self.synced self.view.calls c.sync_each.new.calls c.sync_each.new.calls waits (steps_of self.done.items) (steps_of c.reserve.new.self.items)
          self.told c.sync_each.ensures.waited.1 (λ log h. h) same;
    }

pub invariant_of-self-in-Break-branch-3 : goal.invariant_of-self-in-Break-branch-3
invariant_of-self-in-Break-branch-3 g c =
    let S = g.C.Closed.ClosedFile.stood in
    let self = c.args.self.now in
    let A = g.C.Calls.after in
    let same : steps_of c.reserve.new.self.items ≡ steps_of self.done.items = search rules in
    let waits = c.sync_each.ensures.waited.0 in
    let kept : Keeps A c.sync_each.new.calls c.rename.new.self = search rules in
    record {
      told = told_waits A S self.view.top.now self.synced self.view.calls c.sync_each.new.calls c.rename.new.self waits (steps_of self.done.items) (steps_of c.reserve.new.self.items)
          self.told c.sync_each.ensures.waited.1 kept same;
    }

pub invariant_of-self-2 : goal.invariant_of-self-2
invariant_of-self-2 g c =
    let S = g.C.Closed.ClosedFile.stood in
    let self = c.args.self.now in
    let A = g.C.Calls.after in
    let top = self.view.top.now in
    let steps = steps_of self.done.items in
    let waits = c.sync_each.ensures.waited.0 in
    let on : AreOnDisk (map path_buf_bytes c.args.dirs.now) waits = search rules in
    let all : steps_of c.note.new.done.items ≡ steps ++ Finishes ∷ [] = search rules in
    let gone : Follows A c.sync_each.new.calls (Renames (path_buf_bytes c.args.journal.now) (path_buf_bytes c.args.book.now) ∷ []) c.rename.new.self = search rules in
    let from : Follows A c.sync_each.new.calls (Renames (path_join top journal_path) (path_buf_bytes c.args.book.now) ∷ []) c.rename.new.self = subst (λ p. Follows A c.sync_each.new.calls (Renames p (path_buf_bytes c.args.book.now) ∷ []) c.rename.new.self) c.requires.journal gone in
    let to : Follows A c.sync_each.new.calls (Renames (path_join top journal_path) (path_join top book_path) ∷ []) c.rename.new.self = subst (λ p. Follows A c.sync_each.new.calls (Renames (path_join top journal_path) p ∷ []) c.rename.new.self) c.requires.book from in
    record {
      told = told_finish A S top self.synced self.view.calls c.sync_each.new.calls c.rename.new.self (map path_buf_bytes c.args.dirs.now) waits steps (steps_of c.note.new.done.items)
          self.told c.sync_each.ensures.waited.1 on c.requires.dirs to all;
    }

pub returns-in_err-rename-clause-refused : goal.returns-in_err-rename-clause-refused
returns-in_err-rename-clause-refused g c =
    let fails = AnyFails g.C.ReadCalls.fails g.C.Closed.ClosedFile.made g.C.Closed.ClosedFile.fails g.C.Closed.ClosedFile.gone in
    let top = c.args.self.now.view.top.now in
    let error = c.in_err-rename.field-0.0 in
    let kind = error_kind error in
    let result : Err error ≡ c.from_residual-in_err-rename.result = search rules in
    subst (λ r. IfErr r (λ error. IsUnchanged fails top book_path (error_kind error))) result
    (at_path fails top book_path (path_buf_bytes c.args.book.now) kind c.requires.book (inl (c.rename.new.self, c.in_err-rename.ensures.refused)))

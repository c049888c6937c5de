use Rattle.std.proofs.Common.{◌≡◌, ◌⊎◌, List, inl, map, refl, ℕ}
use Rattle.std.specs.IoError.{error_kind}
use Rattle.std.specs.Path.{path_buf_bytes}
use Rattle.redo_which.specs.Candidates.{book_path, journal_path}
use Rattle.redo_dir.specs.Refused.{AnyFails, IsUnchanged}
use Rattle.redo_dir.specs.Stored.{steps_of}
use Rattle.redo_dir.proofs.RefusedLemmas.{anywhere, err_to}
use Rattle.redo_dir.proofs.WaitLemmas.{has_settled, on_settled, told_waits}
use Rattle.redo_dir.proofs.system.SystemDir.wait_for.Goals as goal

pub invariant_of-self : goal.invariant_of-self
invariant_of-self g c =
    let S = g.C.Closed.ClosedFile.stood in
    let self = c.args.self.now in
    let steps = steps_of self.done.items in
    record {
      told = told_waits g.C.Calls.after S self.view.top.now self.synced self.view.calls c.sync_each.new.calls c.sync_each.new.calls c.sync_each.ensures.waited.0 steps steps
          self.told c.sync_each.ensures.waited.1 (λ log h. h) refl;
    }

pub returns-clause-settled : goal.returns-clause-settled
returns-clause-settled g c =
    let self = c.args.self.now in
    let S = g.C.Closed.ClosedFile.stood in
    let A = g.C.Calls.after in
    let top = self.view.top.now in
    let places = map path_buf_bytes c.args.places.now in
    let waits = c.sync_each.ensures.waited.0 in
    on_settled A top c.sync_each.new.calls places waits c.sync_each.result (λ path on is. has_settled A S top self.synced self.view.calls c.sync_each.new.calls places waits (steps_of self.done.items) path self.told c.sync_each.ensures.waited.1 on is) c.sync_each.ensures.waited.2

pub returns-clause-refused : goal.returns-clause-refused
returns-clause-refused g c =
    let fails = AnyFails g.C.ReadCalls.fails g.C.Closed.ClosedFile.made g.C.Closed.ClosedFile.fails g.C.Closed.ClosedFile.gone in
    let top = c.args.self.now.view.top.now in
    err_to (λ error. (place : List ℕ) × g.C.ReadCalls.fails c.sync_each.new.calls place (error_kind error))
    (λ error. (path : List ℕ) → (path ≡ journal_path) ⊎ (path ≡ book_path) → IsUnchanged fails top path (error_kind error))
    c.sync_each.result c.sync_each.ensures.refused (λ error why path is. anywhere fails top path why.0 (error_kind error) is (inl (c.sync_each.new.calls, why.1)))

use Rattle.std.proofs.Common.{rules, ◌≡◌, ◌++◌, ◌∷◌, [], Bool, Err, inl, Option, ℕ, true, ◌∙◌, ap, subst}
use Rattle.std.proofs.Math.Logic.{∥∥₁_elim, ∥∥₁_prop}
use Rattle.std.specs.Path.{path_buf_bytes, path_join}
use Rattle.redo_dir.specs.Called.{Follows, IsPart, IsReady, IsWaitedAs, Keeps, Names}
use Rattle.redo_dir.specs.Stored.{Puts, steps_of}
use Rattle.std.specs.IoError.{error_kind}
use Rattle.std.specs.Prelude.{IfErr}
use Rattle.redo_dir.specs.Refused.{AnyFails, IsUnchanged}
use Rattle.redo_dir.proofs.CallLemmas.{ready_by, seen_by, told_kept, told_more, told_same}
use Rattle.redo_dir.proofs.RefusedLemmas.{at_path}
use Rattle.redo_dir.proofs.system.SystemDir.name_over.Goals as goal

pub invariant_of-self : goal.invariant_of-self
invariant_of-self g c =
    let S = g.C.Closed.ClosedFile.stood in
    let A = g.C.Calls.after in
    let top = c.args.self.now.view.top.now in
    let waits = c.args.self.now.synced in
    let old = c.args.self.now.view.calls in
    let steps = steps_of c.args.self.now.done.items in
    let same : steps_of c.reserve.new.self.items ≡ steps_of c.args.self.now.done.items = search rules in
    record { told = told_same A S top waits old steps (steps_of c.reserve.new.self.items) c.args.self.now.told same }

pub invariant_of-self-in-Break-branch-4 : goal.invariant_of-self-in-Break-branch-4
invariant_of-self-in-Break-branch-4 g c =
    let S = g.C.Closed.ClosedFile.stood in
    let A = g.C.Calls.after in
    let top = c.args.self.now.view.top.now in
    let waits = c.args.self.now.synced in
    let old = c.args.self.now.view.calls in
    let steps = steps_of c.args.self.now.done.items in
    let same : steps_of c.reserve.new.self.items ≡ steps_of c.args.self.now.done.items = search rules in
    let kept : Keeps A old c.name.new.self = search rules in
    record { told = told_kept A S top waits old c.name.new.self steps (steps_of c.reserve.new.self.items) c.args.self.now.told kept same }

pub invariant_of-self-2 : goal.invariant_of-self-2
invariant_of-self-2 g c =
    let S = g.C.Closed.ClosedFile.stood in
    let A = g.C.Calls.after in
    let top = c.args.self.now.view.top.now in
    let waits = c.args.self.now.synced in
    let old = c.args.self.now.view.calls in
    let steps = steps_of c.args.self.now.done.items in
    let same : steps_of c.reserve.new.self.items ≡ steps_of c.args.self.now.done.items = search rules in
    let D = c.args.draft.now in
    let beside = path_buf_bytes D.beside in
    let place = path_join top D.path in
    let at : path_buf_bytes D.place ≡ place = D.placed ∙ ap (λ t. path_join t D.path) c.requires.top in
    let more : steps_of c.note.new.done.items ≡ steps ++ Puts D.path D.content true ∷ [] = search rules in
    record {
      told = ∥∥₁_elim D.written ∥∥₁_prop (λ (w : (waited : Bool) × (mode : Option ℕ) × IsWaitedAs D.synced D.path waited × IsReady (S D.file) (path_buf_bytes D.place) mode × g.C.Closed.ClosedFile.holds D.file beside D.content waited × g.C.Closed.ClosedFile.has D.file mode).
          let f : Follows A old (Names beside D.content w.0 w.1 (path_buf_bytes D.place) ∷ []) c.name.new.self = c.in_ok-name.ensures.named D.content w.0 w.1 w.4 w.5 in
          let part : IsPart (seen_by S) top waits steps (Names beside D.content w.0 w.1 (path_buf_bytes D.place) ∷ []) (Puts D.path D.content true ∷ []) =
          (beside, w.0, w.1, subst (λ a. IsWaitedAs a D.path w.0) c.requires.synced w.2, ready_by S D.file (path_buf_bytes D.place) place w.1 w.3 at, ap (λ p. Names beside D.content w.0 w.1 p ∷ []) at) in
          told_more A S top waits old c.name.new.self (Names beside D.content w.0 w.1 (path_buf_bytes D.place) ∷ []) steps (Puts D.path D.content true ∷ []) (steps_of c.note.new.done.items) c.args.self.now.told f part more);
    }

pub returns-in_err-name-clause-refused : goal.returns-in_err-name-clause-refused
returns-in_err-name-clause-refused g c =
    let fails = AnyFails g.C.ReadCalls.fails g.C.Closed.ClosedFile.made g.C.Closed.ClosedFile.fails g.C.Closed.ClosedFile.gone in
    let top = c.args.self.now.view.top.now in
    let D = c.args.draft.now in
    let error = c.in_err-name.field-0.0 in
    let kind = error_kind error in
    let at : path_buf_bytes D.place ≡ path_join top D.path = D.placed ∙ ap (λ t. path_join t D.path) c.requires.top in
    let result : Err error ≡ c.from_residual-in_err-name.result = search rules in
    subst (λ r. IfErr r (λ error. IsUnchanged fails top D.path (error_kind error))) result
    (at_path fails top D.path (path_buf_bytes D.place) kind at (inl (c.name.new.self, c.in_err-name.ensures.refused)))

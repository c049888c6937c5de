use Rattle.std.proofs.Common.{rules, ◌≡◌, ◌⊎◌, ◌++◌, ◌∷◌, [], inl, inr, Bool, Err, Option, ℕ, false, ◌∙◌, ap, subst}
use Rattle.std.proofs.Math.Logic.{∥∥₁_elim, ∥∥₁_prop}
use Rattle.std.specs.Path.{path_buf_bytes, path_join}
use Rattle.std.specs.declared.io.ErrorKind.TheVariants.{AlreadyExists}
use Rattle.redo_dir.specs.Called.{Finds, Follows, IsFree, IsPart, IsReady, IsWaitedAs, Keeps, Names}
use Rattle.redo_dir.specs.Stored.{Puts, steps_of}
use Rattle.std.specs.IoError.{error_kind}
use Rattle.std.specs.Prelude.{IfErr}
use Rattle.redo_dir.specs.Refused.{AnyFails, IsUnchanged}
use Rattle.redo_dir.proofs.CallLemmas.{follows_both, follows_kept, ready_by, seen_by, told_idle, told_more, told_same}
use Rattle.redo_dir.proofs.RefusedLemmas.{at_path, taken_at_path}
use Rattle.redo_dir.proofs.system.SystemDir.name_new.Goals as goal

pub invariant_of-self : goal.invariant_of-self
invariant_of-self g c =
    let S = g.C.Closed.ClosedFile.stood in
    let A = g.C.Calls.after in
    let top = c.args.self.now.view.top.now in
    let waits = c.args.self.now.synced in
    let old = c.args.self.now.view.calls in
    let steps = steps_of c.args.self.now.done.items in
    let same : steps_of c.reserve.new.self.items ≡ steps_of c.args.self.now.done.items = search rules in
    record { told = told_same A S top waits old steps (steps_of c.reserve.new.self.items) c.args.self.now.told same }

pub invariant_of-self-in-Break-branch-4 : goal.invariant_of-self-in-Break-branch-4
invariant_of-self-in-Break-branch-4 g c =
    let S = g.C.Closed.ClosedFile.stood in
    let A = g.C.Calls.after in
    let top = c.args.self.now.view.top.now in
    let waits = c.args.self.now.synced in
    let old = c.args.self.now.view.calls in
    let steps = steps_of c.args.self.now.done.items in
    let same : steps_of c.reserve.new.self.items ≡ steps_of c.args.self.now.done.items = search rules in
    let found = c.check_free.ensures.found.0 in
    record { told = told_idle A S top waits old c.check_free.new.calls (Finds (path_buf_bytes c.args.draft.now.place) found ∷ []) steps (steps_of c.reserve.new.self.items) c.args.self.now.told c.check_free.ensures.found.1 (inl (tt, tt)) same }

pub invariant_of-self-in-Break-branch-5 : goal.invariant_of-self-in-Break-branch-5
invariant_of-self-in-Break-branch-5 g c =
    let S = g.C.Closed.ClosedFile.stood in
    let A = g.C.Calls.after in
    let top = c.args.self.now.view.top.now in
    let waits = c.args.self.now.synced in
    let old = c.args.self.now.view.calls in
    let steps = steps_of c.args.self.now.done.items in
    let same : steps_of c.reserve.new.self.items ≡ steps_of c.args.self.now.done.items = search rules in
    let found = c.check_free.ensures.found.0 in
    let kept : Keeps A c.check_free.new.calls c.name.new.self = search rules in
    let f = follows_kept A old c.check_free.new.calls c.name.new.self (Finds (path_buf_bytes c.args.draft.now.place) found ∷ []) c.check_free.ensures.found.1 kept in
    record { told = told_idle A S top waits old c.name.new.self (Finds (path_buf_bytes c.args.draft.now.place) found ∷ []) steps (steps_of c.reserve.new.self.items) c.args.self.now.told f (inl (tt, tt)) same }

pub invariant_of-self-2 : goal.invariant_of-self-2
invariant_of-self-2 g c =
    let S = g.C.Closed.ClosedFile.stood in
    let A = g.C.Calls.after in
    let top = c.args.self.now.view.top.now in
    let waits = c.args.self.now.synced in
    let old = c.args.self.now.view.calls in
    let steps = steps_of c.args.self.now.done.items in
    let same : steps_of c.reserve.new.self.items ≡ steps_of c.args.self.now.done.items = search rules in
    let D = c.args.draft.now in
    let beside = path_buf_bytes D.beside in
    let place = path_join top D.path in
    let at : path_buf_bytes D.place ≡ place = D.placed ∙ ap (λ t. path_join t D.path) c.requires.top in
    let found = c.check_free.ensures.found.0 in
    let free : IsFree found = search rules in
    let more : steps_of c.note.new.done.items ≡ steps ++ Puts D.path D.content false ∷ [] = search rules in
    record {
      told = ∥∥₁_elim D.written ∥∥₁_prop (λ (w : (waited : Bool) × (mode : Option ℕ) × IsWaitedAs D.synced D.path waited × IsReady (S D.file) (path_buf_bytes D.place) mode × g.C.Closed.ClosedFile.holds D.file beside D.content waited × g.C.Closed.ClosedFile.has D.file mode).
          let names = Names beside D.content w.0 w.1 (path_buf_bytes D.place) ∷ [] in
          let calls = Finds (path_buf_bytes D.place) found ∷ names in
          let n : Follows A c.check_free.new.calls names c.name.new.self = c.in_ok-name.ensures.named D.content w.0 w.1 w.4 w.5 in
          let f : Follows A old calls c.name.new.self = follows_both A old c.check_free.new.calls c.name.new.self (Finds (path_buf_bytes D.place) found ∷ []) names c.check_free.ensures.found.1 n in
          let part : IsPart (seen_by S) top waits steps calls (Puts D.path D.content false ∷ []) =
          (beside, w.0, w.1, subst (λ a. IsWaitedAs a D.path w.0) c.requires.synced w.2, ready_by S D.file (path_buf_bytes D.place) place w.1 w.3 at, found, free, ap (λ p. Finds p found ∷ Names beside D.content w.0 w.1 p ∷ []) at) in
          told_more A S top waits old c.name.new.self calls steps (Puts D.path D.content false ∷ []) (steps_of c.note.new.done.items) c.args.self.now.told f part more);
    }

pub returns-in_err-check_free-clause-refused : goal.returns-in_err-check_free-clause-refused
returns-in_err-check_free-clause-refused g c =
    let fails = AnyFails g.C.ReadCalls.fails g.C.Closed.ClosedFile.made g.C.Closed.ClosedFile.fails g.C.Closed.ClosedFile.gone in
    let top = c.args.self.now.view.top.now in
    let D = c.args.draft.now in
    let place = path_buf_bytes D.place in
    let error = c.in_err-check_free.field-0.0 in
    let kind = error_kind error in
    let at : place ≡ path_join top D.path = D.placed ∙ ap (λ t. path_join t D.path) c.requires.top in
    let why : (kind ≡ AlreadyExists) ⊎ fails place kind = elim c.in_err-check_free.ensures.refused [ inl is ↦ inl is | inr h ↦ inr (inl (c.check_free.new.calls, h)) ] in
    let result : Err error ≡ c.from_residual-in_err-check_free.result = search rules in
    subst (λ r. IfErr r (λ error. IsUnchanged fails top D.path (error_kind error))) result (taken_at_path fails top D.path place kind at why)

pub returns-in_err-name-clause-refused : goal.returns-in_err-name-clause-refused
returns-in_err-name-clause-refused g c =
    let fails = AnyFails g.C.ReadCalls.fails g.C.Closed.ClosedFile.made g.C.Closed.ClosedFile.fails g.C.Closed.ClosedFile.gone in
    let top = c.args.self.now.view.top.now in
    let D = c.args.draft.now in
    let error = c.in_err-name.field-0.0 in
    let kind = error_kind error in
    let at : path_buf_bytes D.place ≡ path_join top D.path = D.placed ∙ ap (λ t. path_join t D.path) c.requires.top in
    let result : Err error ≡ c.from_residual-in_err-name.result = search rules in
    subst (λ r. IfErr r (λ error. IsUnchanged fails top D.path (error_kind error))) result
    (at_path fails top D.path (path_buf_bytes D.place) kind at (inl (c.name.new.self, c.in_err-name.ensures.refused)))

use Rattle.std.proofs.Common.{rules, ◌≡◌, ◌∙◌, Err, inr, subst}
use Rattle.std.specs.Fs.{permissions_mode}
use Rattle.std.specs.IoError.{error_kind}
use Rattle.std.specs.Path.{path_buf_bytes, path_join, path_with_file_name}
use Rattle.std.specs.Prelude.{IfErr, option_map, string_bytes}
use Rattle.redo_dir.specs.Called.{IsReady, IsWaitedAs}
use Rattle.redo_dir.specs.Refused.{AnyFails, IsRefusedFor}
use Rattle.redo_dir.proofs.RefusedLemmas.{any_of, beside}
use Rattle.redo_dir.proofs.system.SystemDirWorkDir.draft.Goals as goal

pub invariant_of-result : goal.invariant_of-result
invariant_of-result g c =
    let same : c.args.path.now ≡ c.in_ok-path.path = search rules in
    let waits : IsWaitedAs c.args.self.now.synced c.in_ok-path.path c.waits_for-synced.result = subst (λ p. IsWaitedAs c.args.self.now.synced p c.waits_for-synced.result) same c.waits_for-synced.ensures in
    let mode = option_map permissions_mode c.in_ok-permissions_at.field-0 in
    let ready : IsReady (g.C.Closed.ClosedFile.stood c.in_ok-file.file) (path_buf_bytes c.in_ok-place.place) mode =
    (c.in_ok-permissions_at.ensures.ready.0, c.in_ok-file.ensures.stood _ _ c.in_ok-permissions_at.ensures.ready.1, c.in_ok-permissions_at.ensures.ready.2) in
    let holds : g.C.Closed.ClosedFile.holds c.in_ok-file.file (path_buf_bytes c.in_ok-beside.beside) c.in_ok-kept.kept c.waits_for-synced.result = search rules in
    let has : g.C.Closed.ClosedFile.has c.in_ok-file.file mode = search rules in
    let made : g.C.Closed.ClosedFile.made c.in_ok-file.file (path_buf_bytes c.in_ok-beside.beside) = search rules in
    record { placed = search rules; made = ∣ made ∣₁; written = ∣ (c.waits_for-synced.result, mode, waits, ready, holds, has) ∣₁ }

pub returns-in_err-file-clause-refused : goal.returns-in_err-file-clause-refused
returns-in_err-file-clause-refused g c =
    let fails = AnyFails g.C.ReadCalls.fails g.C.Closed.ClosedFile.made g.C.Closed.ClosedFile.fails g.C.Closed.ClosedFile.gone in
    let self = c.args.self.now in
    let top = self.view.top.now in
    let path = c.args.path.now in
    let place = path_buf_bytes c.in_ok-beside.beside in
    let name = string_bytes c.in_ok-name.name in
    let error = c.in_err-file.field-0.0 in
    let kind = error_kind error in
    let at : place ≡ path_with_file_name (path_join top path) name = c.in_ok-beside.ensures ∙ search rules in
    let why = any_of g.C.ReadCalls.fails g.C.Closed.ClosedFile.made g.C.Closed.ClosedFile.fails g.C.Closed.ClosedFile.gone self.view.calls place kind c.in_err-file.ensures.refused in
    let result : Err error ≡ c.from_residual-in_err-file.result = search rules in
    subst (λ r. IfErr r (λ error. IsRefusedFor (g.C.ReadCalls.fails self.view.calls) (g.C.ReadCalls.opens self.view.calls) fails top path (error_kind error))) result
    (inr (beside fails top path place name kind at why))

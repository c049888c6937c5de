use Rattle.std.proofs.Common.{rules, ◌≡◌, ◌∙◌, Err, ap, inl, inr, refl, subst, sym}
use Rattle.std.specs.IoError.{error_kind}
use Rattle.std.specs.Path.{path_buf_bytes, path_join}
use Rattle.std.specs.Fs.{permissions_mode}
use Rattle.std.specs.Prelude.{IfErr, option_map}
use Rattle.redo_which.specs.Candidates.{book_path, journal_path}
use Rattle.redo_dir.specs.Called.{IsReady}
use Rattle.redo_dir.specs.Refused.{AnyFails, IsRefusedFor, IsUnchanged}
use Rattle.redo_dir.proofs.RefusedLemmas.{any_of, anywhere}
use Rattle.redo_dir.proofs.system.SystemDirWorkDir.journal.Goals as goal

pub returns-in_err-permissions_at-clause-refused : goal.returns-in_err-permissions_at-clause-refused
returns-in_err-permissions_at-clause-refused g c =
    let fails = AnyFails g.C.ReadCalls.fails g.C.Closed.ClosedFile.made g.C.Closed.ClosedFile.fails g.C.Closed.ClosedFile.gone in
    let self = c.args.self.now in
    let top = self.view.top.now in
    let error = c.in_err-permissions_at.field-0.0 in
    let kind = error_kind error in
    let result : Err error ≡ c.from_residual-in_err-permissions_at.result = search rules in
    subst (λ r. IfErr r (λ error. IsRefusedFor (g.C.ReadCalls.fails self.view.calls) (g.C.ReadCalls.opens self.view.calls) fails top journal_path (error_kind error))) result
    (inr (anywhere fails top journal_path (path_buf_bytes c.in_ok-book.book) kind (inl refl) (inl (c.make_room.new.self.view.calls, c.in_err-permissions_at.ensures.refused))))

pub returns-in_err-file-clause-refused : goal.returns-in_err-file-clause-refused
returns-in_err-file-clause-refused g c =
    let fails = AnyFails g.C.ReadCalls.fails g.C.Closed.ClosedFile.made g.C.Closed.ClosedFile.fails g.C.Closed.ClosedFile.gone in
    let self = c.args.self.now in
    let top = self.view.top.now in
    let error = c.in_err-file.field-0.0 in
    let kind = error_kind error in
    let result : Err error ≡ c.from_residual-in_err-file.result = search rules in
    subst (λ r. IfErr r (λ error. IsRefusedFor (g.C.ReadCalls.fails self.view.calls) (g.C.ReadCalls.opens self.view.calls) fails top journal_path (error_kind error))) result
    (inr (anywhere fails top journal_path (path_buf_bytes c.in_ok-place.place) kind (inl refl)
    (any_of g.C.ReadCalls.fails g.C.Closed.ClosedFile.made g.C.Closed.ClosedFile.fails g.C.Closed.ClosedFile.gone c.make_room.new.self.view.calls (path_buf_bytes c.in_ok-place.place) kind c.in_err-file.ensures.refused)))

pub returns-in_err-leave-clause-refused : goal.returns-in_err-leave-clause-refused
returns-in_err-leave-clause-refused g c =
    let fails = AnyFails g.C.ReadCalls.fails g.C.Closed.ClosedFile.made g.C.Closed.ClosedFile.fails g.C.Closed.ClosedFile.gone in
    let self = c.args.self.now in
    let top = self.view.top.now in
    let error = c.in_err-leave.field-0.0 in
    let kind = error_kind error in
    let result : Err error ≡ c.from_residual-in_err-leave.result = search rules in
    subst (λ r. IfErr r (λ error. IsRefusedFor (g.C.ReadCalls.fails self.view.calls) (g.C.ReadCalls.opens self.view.calls) fails top journal_path (error_kind error))) result
    (inr (subst (λ t. IsUnchanged fails t journal_path kind) c.make_room.ensures.top c.in_err-leave.ensures.refused))

pub leave-requires-clause-ready : goal.leave-requires-clause-ready
leave-requires-clause-ready g c =
    let mode = option_map permissions_mode c.in_ok-permissions_at.field-0 in
    let stood = g.C.Closed.ClosedFile.stood c.in_ok-file.file in
    let has : g.C.Closed.ClosedFile.has c.in_ok-file.file mode = search rules in
    let at : path_buf_bytes c.in_ok-book.book ≡ path_join c.make_room.new.self.view.top.now book_path = c.in_ok-book.ensures.place ∙ ap (λ t. path_join t book_path) (sym c.make_room.ensures.top) in
    let ready : IsReady stood (path_buf_bytes c.in_ok-book.book) mode =
    (c.in_ok-permissions_at.ensures.ready.0, c.in_ok-file.ensures.stood _ _ c.in_ok-permissions_at.ensures.ready.1, c.in_ok-permissions_at.ensures.ready.2) in
    (mode, has, subst (λ p. IsReady stood p mode) at ready)

pub leave-requires-clause-place : goal.leave-requires-clause-place
leave-requires-clause-place g c = c.in_ok-place.ensures.place ∙ ap (λ t. path_join t journal_path) (sym c.make_room.ensures.top)

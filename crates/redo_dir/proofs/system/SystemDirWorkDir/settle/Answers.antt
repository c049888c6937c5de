use Rattle.std.proofs.Common.{◌≡◌, ◌⊎◌, List, inl, inr, refl, ℕ}
use Rattle.std.specs.IoError.{error_kind}
use Rattle.redo_which.specs.Candidates.{book_path, journal_path}
use Rattle.redo_dir.specs.Refused.{AnyFails, IsRefusedFor, IsUnchanged}
use Rattle.redo_dir.proofs.RefusedLemmas.{err_to}
use Rattle.redo_dir.proofs.system.SystemDirWorkDir.settle.Goals as goal

pub returns-clause-refused : goal.returns-clause-refused
returns-clause-refused g c =
    let fails = AnyFails g.C.ReadCalls.fails g.C.Closed.ClosedFile.made g.C.Closed.ClosedFile.fails g.C.Closed.ClosedFile.gone in
    let calls = c.args.self.now.view.calls in
    let top = c.args.self.now.view.top.now in
    let refuses = IsRefusedFor (g.C.ReadCalls.fails calls) (g.C.ReadCalls.opens calls) fails top in
    err_to (λ error. (path : List ℕ) → (path ≡ journal_path) ⊎ (path ≡ book_path) → IsUnchanged fails top path (error_kind error))
    (λ error. refuses book_path (error_kind error) × refuses journal_path (error_kind error))
    c.wait_for.result c.wait_for.ensures.refused (λ error h. (inr (h book_path (inr refl)), inr (h journal_path (inl refl))))

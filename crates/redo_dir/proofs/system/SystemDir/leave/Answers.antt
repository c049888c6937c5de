use Rattle.std.proofs.Common.{rules, ◌≡◌, ◌++◌, ◌∷◌, [], false, inl, refl, subst, true}
use Rattle.std.specs.Prelude.{OnOk}
use Rattle.std.specs.Path.{path_buf_bytes, path_join}
use Rattle.redo_dir.specs.Called.{Follows, IsPart, Stays, Syncs, Unlinks, is_waited_for}
use Rattle.redo_dir.specs.Stored.{Journals, steps_of}
use Rattle.redo_which.specs.Candidates.{book_path, journal_path}
use Rattle.std.specs.IoError.{error_kind}
use Rattle.redo_dir.specs.Refused.{AnyFails}
use Rattle.redo_dir.proofs.CallLemmas.{ready_by, seen_by, told_more, told_undone, follows_both}
use Rattle.redo_dir.proofs.RefusedLemmas.{anywhere}
use Rattle.redo_dir.proofs.system.SystemDir.leave.Goals as goal

pub invariant_of-self : goal.invariant_of-self
invariant_of-self g c =
    let S = g.C.Closed.ClosedFile.stood in
    let A = g.C.Calls.after in
    let top = c.args.self.now.view.top.now in
    let waits = c.args.self.now.synced in
    let old = c.args.self.now.view.calls in
    let steps = steps_of c.args.self.now.done.items in
    let place = path_buf_bytes c.args.place.now in
    let j = path_join top journal_path in
    let text = c.args.text in
    let answer = c.sync_names.ensures.waited.0 in
    let mode = c.requires.ready.0 in
    let f : Follows A old (Stays j text true mode ∷ []) c.keep.new.self = subst (λ p. Follows A old (Stays p text true mode ∷ []) c.keep.new.self) c.requires.place (c.keep.ensures text true mode c.requires.written c.requires.ready.1) in
    let s : Follows A c.keep.new.self (Syncs (path_join top []) answer ∷ []) c.sync_names.new.calls = subst (λ p. Follows A c.keep.new.self (Syncs p answer ∷ []) c.sync_names.new.calls) c.requires.top c.sync_names.ensures.waited.1 in
    let w : is_waited_for answer ≡ false = search rules in
    let gone : OnOk c.unlink-removed.result (Follows A c.sync_names.new.calls (Unlinks j ∷ []) c.unlink-removed.new.self) = subst (λ p. OnOk c.unlink-removed.result (Follows A c.sync_names.new.calls (Unlinks p ∷ []) c.unlink-removed.new.self)) c.requires.place c.unlink-removed.ensures.unlinked in
    record { told = told_undone A S top waits old c.keep.new.self c.sync_names.new.calls c.unlink-removed.new.self text mode answer steps c.unlink-removed.result c.args.self.now.told f s w gone c.unlink-removed.ensures.kept }

pub invariant_of-self-2 : goal.invariant_of-self-2
invariant_of-self-2 g c =
    let S = g.C.Closed.ClosedFile.stood in
    let A = g.C.Calls.after in
    let top = c.args.self.now.view.top.now in
    let waits = c.args.self.now.synced in
    let old = c.args.self.now.view.calls in
    let steps = steps_of c.args.self.now.done.items in
    let j = path_join top journal_path in
    let text = c.args.text in
    let answer = c.sync_names.ensures.waited.0 in
    let mode = c.requires.ready.0 in
    let f : Follows A old (Stays j text true mode ∷ []) c.keep.new.self = subst (λ p. Follows A old (Stays p text true mode ∷ []) c.keep.new.self) c.requires.place (c.keep.ensures text true mode c.requires.written c.requires.ready.1) in
    let s : Follows A c.keep.new.self (Syncs (path_join top []) answer ∷ []) c.sync_names.new.calls = subst (λ p. Follows A c.keep.new.self (Syncs p answer ∷ []) c.sync_names.new.calls) c.requires.top c.sync_names.ensures.waited.1 in
    let w : is_waited_for answer ≡ true = search rules in
    let more : steps_of c.note.new.done.items ≡ steps ++ Journals text ∷ [] = search rules in
    let calls = Stays j text true mode ∷ Syncs (path_join top []) answer ∷ [] in
    let part : IsPart (seen_by S) top waits steps calls (Journals text ∷ []) = (answer, mode, w, ready_by S c.args.file.now (path_join top book_path) (path_join top book_path) mode c.requires.ready.2 refl, refl) in
    record { told = told_more A S top waits old c.sync_names.new.calls calls steps (Journals text ∷ []) (steps_of c.note.new.done.items) c.args.self.now.told (follows_both A old c.keep.new.self c.sync_names.new.calls (Stays j text true mode ∷ []) (Syncs (path_join top []) answer ∷ []) f s) part more }

pub returns-in-Err-clause-refused : goal.returns-in-Err-clause-refused
returns-in-Err-clause-refused g c =
    let fails = AnyFails g.C.ReadCalls.fails g.C.Closed.ClosedFile.made g.C.Closed.ClosedFile.fails g.C.Closed.ClosedFile.gone in
    let top = c.args.self.now.view.top.now in
    anywhere fails top journal_path (path_buf_bytes c.args.top.now) (error_kind c.in-Err.error) (inl refl) (inl (c.sync_names.new.calls, c.in-Err.ensures.refused))

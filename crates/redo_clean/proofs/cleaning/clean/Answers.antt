use Rattle.std.proofs.Common.{◌≡◌, ◌++◌, ◌∷◌, [], List, Err, length, map, refl, rules, subst}
use Rattle.std.specs.Prelude.{IfErr}
use Rattle.redo_which.specs.Candidates.{book_path}
use Rattle.redo_dir.specs.Loaded.{Leads}
use Rattle.redo_clean.specs.Cleaned.{AnsweredWhile, MeetFates, IsBrokenOff, removals}
use Rattle.redo_clean.specs.Planned.{File}
use Rattle.redo_clean.specs.inside.Files.{IsFaultAt}
use Rattle.redo_clean.proofs.CleanLemmas.{broken-at-book, broken-at-file, broken-at-left, fault-by}
use Rattle.redo_clean.proofs.cleaning.clean.Goals as goal

pub returns-in_err-clear_left-clause-fault : goal.returns-in_err-clear_left-clause-fault
returns-in_err-clear_left-clause-fault g c =
    let done = g.D.WorkDir.done in
    let leads = AnsweredWhile done (λ d. Leads (g.D.DirView.looks d) (g.D.DirView.reads d)) in
    let refuses = AnsweredWhile done g.D.DirView.refuses in
    let plan = c.args.plan.now in
    let before = done c.args.dir.now in
    let after = done c.clear_left.new.dir in
    let fates = c.clear.new.self.items in
    let error = c.in_err-clear_left.field-0.0 in
    let result : Err error ≡ c.from_residual.result = search rules in
    subst (λ r. IfErr r (IsBrokenOff leads refuses plan before after fates)) result
    (broken-at-left leads refuses plan before (λ path kind. (d : g.row.D.Denot) × g.D.DirView.refuses d path kind) after fates error
    c.clear.ensures.items (λ path kind h. (done h.0, (h.0, refl, h.1))) c.in_err-clear_left.ensures.fault)

pub returns-in_err-clean_files-clause-fault : goal.returns-in_err-clean_files-clause-fault
returns-in_err-clean_files-clause-fault g c =
    let done = g.D.WorkDir.done in
    let leads = AnsweredWhile done (λ d. Leads (g.D.DirView.looks d) (g.D.DirView.reads d)) in
    let refuses = AnsweredWhile done g.D.DirView.refuses in
    let plan = c.args.plan.now in
    let before = done c.args.dir.now in
    let mid = done c.clear_left.new.dir in
    let after = done c.clean_files.new.dir in
    let fates = c.clean_files.new.fates.items in
    let error = c.in_err-clean_files.field-0.0 in
    let same = c.deref.ensures.value in
    let met = subst (λ (fs : List File). MeetFates leads refuses mid fs fates) same c.clean_files.ensures.met in
    let log = subst (λ (fs : List File). after ≡ mid ++ removals fs fates) same c.clean_files.ensures.removed in
    let is = subst (λ (fs : List File). IsFaultAt (refuses after) (map (λ f. f.0) fs) (length fates) error) same c.in_err-clean_files.ensures.fault in
    let result : Err error ≡ c.from_residual-in_err-clean_files.result = search rules in
    subst (λ r. IfErr r (IsBrokenOff leads refuses plan before after fates)) result
    (broken-at-file leads refuses plan before mid after fates error c.in_ok-clear_left.ensures.cleared met log is)

pub returns-in_err-remove_book-clause-fault : goal.returns-in_err-remove_book-clause-fault
returns-in_err-remove_book-clause-fault g c =
    let done = g.D.WorkDir.done in
    let leads = AnsweredWhile done (λ d. Leads (g.D.DirView.looks d) (g.D.DirView.reads d)) in
    let refuses = AnsweredWhile done g.D.DirView.refuses in
    let plan = c.args.plan.now in
    let before = done c.args.dir.now in
    let mid = done c.clear_left.new.dir in
    let last = done c.clean_files.new.dir in
    let after = done c.remove_book.new.dir in
    let fates = c.clean_files.new.fates.items in
    let error = c.in_err-remove_book.field-0.0 in
    let same = c.deref.ensures.value in
    let met = subst (λ (fs : List File). MeetFates leads refuses mid fs fates) same c.clean_files.ensures.met in
    let all = subst (λ (fs : List File). length fates ≡ length fs) same c.in_ok-clean_files.ensures.all in
    let log = subst (λ (fs : List File). last ≡ mid ++ removals fs fates) same c.clean_files.ensures.removed in
    let is = fault-by (g.D.DirView.refuses c.clean_files.new.dir) (refuses last) (book_path ∷ []) 0 error (λ path kind h. (c.clean_files.new.dir, refl, h)) c.in_err-remove_book.ensures.fault in
    let result : Err error ≡ c.from_residual-in_err-remove_book.result = search rules in
    subst (λ r. IfErr r (IsBrokenOff leads refuses plan before after fates)) result
    (broken-at-book leads refuses plan before mid last after fates error c.in_ok-clear_left.ensures.cleared met all log c.in_err-remove_book.ensures.kept is)

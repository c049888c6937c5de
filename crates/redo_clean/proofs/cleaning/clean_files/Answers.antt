use Rattle.std.proofs.Common.{◌≡◌, ◌∙◌, ◌+◌, ◌++◌, ◌∷◌, [], List, Some, ap, append_assoc, append-nil, length, length-append, map, refl, subst, sym}
use Rattle.std.proofs.lemmas.Option.{slice_get_read}
use Rattle.std.specs.Prelude.{slice_get}
use Rattle.redo_dir.specs.Loaded.{Leads}
use Rattle.redo_clean.specs.Cleaned.{AnsweredWhile, MeetFates, removal, removals}
use Rattle.redo_clean.specs.Planned.{File}
use Rattle.redo_clean.proofs.CleanLemmas.{met-more, met-none, fate-while, fault-at, path-at, removals-more, removals-none}
use Rattle.redo_clean.proofs.cleaning.clean_files.Goals as goal

pub loop-path-init : goal.loop-path-init
loop-path-init g c =
    let done = g.D.WorkDir.done in
    let leads = AnsweredWhile done (λ d. Leads (g.D.DirView.looks d) (g.D.DirView.reads d)) in
    let refuses = AnsweredWhile done g.D.DirView.refuses in
    let log = done c.args.dir.now in
    let files = c.args.files.now in
    let none = c.requires.none in
    record {
      count = ap length none;
      met = subst (MeetFates leads refuses log files) (sym none) (met-none leads refuses log files);
      removed = sym (append-nil log) ∙ ap (λ ss. log ++ ss) (sym (ap (removals files) none ∙ removals-none files));
    }

pub returns-in-Err-clause-fault : goal.returns-in-Err-clause-fault
returns-in-Err-clause-fault g c =
    let done = g.D.WorkDir.done in
    let refuses = AnsweredWhile done g.D.DirView.refuses in
    let files : List File = c.args.files.now in
    let file : File = c.loop-path-item.result in
    let i = c.loop-path.path-index in
    let count : length c.reserve.new.self.items ≡ i = ap length c.in_ok-reserve.ensures.items ∙ c.loop-path.invariant.count in
    let there = path-at files i file (slice_get_read files (length files) i file refl c.loop-path-test.true c.loop-path-item.is) in
    let at = subst (λ n. slice_get (map (λ (f : File). f.0) files) n ≡ Some file.0) (sym count) there in
    fault-at (refuses (done c.clean_file.new.dir)) (map (λ (f : File). f.0) files) (length c.reserve.new.self.items) file.0 c.in-Err.kind c.fault_at.result
    c.fault_at.ensures at (c.loop-path.dir, sym c.in-Err.ensures.kept, c.in-Err.ensures.refused)

pub loop-path-preserved : goal.loop-path-preserved
loop-path-preserved g c =
    let done = g.D.WorkDir.done in
    let leads = AnsweredWhile done (λ d. Leads (g.D.DirView.looks d) (g.D.DirView.reads d)) in
    let refuses = AnsweredWhile done g.D.DirView.refuses in
    let before = c.loop-path.invariant in
    let log = done c.args.dir.now in
    let files : List File = c.args.files.now in
    let fates = c.loop-path.fates.items in
    let i = c.loop-path.path-index in
    let file : File = c.loop-path-item.result in
    let fate = c.in-Ok.fate in
    let there = slice_get_read files (length files) i file refl c.loop-path-test.true c.loop-path-item.is in
    let at = subst (λ n. slice_get files n ≡ Some file) (sym before.count) there in
    let here = fate-while done (λ d. Leads (g.D.DirView.looks d) (g.D.DirView.reads d)) g.D.DirView.refuses c.loop-path.dir (log ++ removals files fates) file fate before.removed c.in-Ok.ensures.fate in
    let pushed : c.push_reserved.new.self.items ≡ fates ++ fate ∷ [] = c.push_reserved.ensures.items ∙ ap (λ xs. xs ++ fate ∷ []) c.in_ok-reserve.ensures.items in
    let more = ap (removals files) pushed ∙ removals-more files fates file fate at in
    record {
      count = ap length pushed ∙ length-append fates (fate ∷ []) ∙ ap (λ n. n + 1) before.count;
      met = subst (MeetFates leads refuses log files) (sym pushed) (met-more leads refuses log files fates file fate at before.met here);
      removed =
          c.in-Ok.ensures.removed ∙ ap (λ l. l ++ removal file fate) before.removed
          ∙ append_assoc log (removals files fates) (removal file fate) ∙ ap (λ ss. log ++ ss) (sym more);
    }

use Rattle.std.proofs.Common.{◌≡◌, ◌++◌, ◌∙◌, ℕ, List, ap, rules, subst, Err}
use Rattle.std.proofs.lemmas.Result.{err_from_is_err_and}
use Rattle.std.specs.Arc.{arc_value}
use Rattle.std.specs.Prelude.{IfErr}
use Rattle.std.specs.declared.io.ErrorKind.{ErrorKind}
use Rattle.redo_run.specs.Directories.{IsFaultOf, steps_of}
use Rattle.redo_run.specs.Storing.{clearing, storing, to_store}
use Rattle.redo_run.specs.inside.Storing.{IsPart, steps_left, steps_new}
use Rattle.redo_run.proofs.DirectoryLemmas.{undone_fault, unforeseen}
use Rattle.redo_run.proofs.directory.run_dir.Goals as goal

-- nothing was foreseen, and nothing done
pub returns-in_err-run-clause-fault : goal.returns-in_err-run-clause-fault
returns-in_err-run-clause-fault g c =
    let lists = g.D.DirView.lists c.args.dir.now in
    let looks = g.D.DirView.looks c.args.dir.now in
    let reads = g.D.DirView.reads c.args.dir.now in
    let lacks = g.D.DirView.lacks c.args.dir.now in
    let refuses = g.D.DirView.refuses c.args.dir.now in
    let told : List ℕ → ErrorKind → Type 0 = λ path kind. (d : g.row.D.Denot) × g.D.DirView.refuses d path kind in
    let options = c.args.options.now in
    let before = g.D.WorkDir.done c.args.dir.now in
    let fault = c.in_err-run.field-0.0 in
    let result : Err fault ≡ c.from_residual.result = search rules in
    subst (λ r. IfErr r (IsFaultOf lists looks reads lacks refuses told options before before)) result
    (unforeseen lists looks reads lacks refuses told options before fault c.in_err-run.ensures.fault)

-- some of the steps were done
pub returns-in_err-carry_out-clause-fault : goal.returns-in_err-carry_out-clause-fault
returns-in_err-carry_out-clause-fault g c =
    let lists = g.D.DirView.lists c.args.dir.now in
    let looks = g.D.DirView.looks c.args.dir.now in
    let reads = g.D.DirView.reads c.args.dir.now in
    let lacks = g.D.DirView.lacks c.args.dir.now in
    let refuses = g.D.DirView.refuses c.args.dir.now in
    let told : List ℕ → ErrorKind → Type 0 = λ path kind. (d : g.row.D.Denot) × g.D.DirView.refuses d path kind in
    let options = c.args.options.now in
    let before = g.D.WorkDir.done c.args.dir.now in let after = g.D.WorkDir.done c.carry_out.new.dir in
    let run = c.in_ok-run.field-0.run in let plan = c.in_ok-run.field-0.plan in
    let decided = c.in_ok-run.ensures.decided in let foreseen = decided.foreseen in
    let tree = arc_value c.in_ok-run.field-0.mended in
    let read : c.deref.result.now ≡ tree = search rules in
    let fault = c.in_err-carry_out.field-0.0 in
    let planned = subst (λ t. IsPart told (steps_left plan) (steps_new t plan) before after fault) read c.in_err-carry_out.ensures.part in
    let part = subst (λ ss. IsPart told ss (storing tree (to_store tree run.report.files.items run.book)) before after fault) foreseen.left
    (subst (λ ss. IsPart told (steps_left plan) ss before after fault) foreseen.new planned) in
    let p = err_from_is_err_and c.from_residual-in_err-carry_out.result c.from_residual-in_err-carry_out.ensures.1 in
    rw (p.1, p.2) (undone_fault lists looks reads lacks refuses told options before (record {
      paths = decided.paths;
      loaded = decided.loaded;
      passed = run.passed;
      is_loaded = decided.is_loaded;
      own = decided.own;
      mended = tree;
      mends = foreseen.mends;
      report = run.report;
      book = run.book;
      exit = run.exit;
      built = foreseen.built;
      decides = decided.decides;
    }) after fault part)

-- all steps were done
pub returns-in_err-write_report-clause-fault : goal.returns-in_err-write_report-clause-fault
returns-in_err-write_report-clause-fault g c =
    let p = err_from_is_err_and c.from_residual-in_err-write_report.result c.from_residual-in_err-write_report.ensures.1 in
    let lists = g.D.DirView.lists c.args.dir.now in
    let looks = g.D.DirView.looks c.args.dir.now in
    let reads = g.D.DirView.reads c.args.dir.now in
    let lacks = g.D.DirView.lacks c.args.dir.now in
    let refuses = g.D.DirView.refuses c.args.dir.now in
    let told : List ℕ → ErrorKind → Type 0 = λ path kind. (d : g.row.D.Denot) × g.D.DirView.refuses d path kind in
    let options = c.args.options.now in
    let before = g.D.WorkDir.done c.args.dir.now in let after = g.D.WorkDir.done c.carry_out.new.dir in
    let run = c.in_ok-run.field-0.run in let plan = c.in_ok-run.field-0.plan in
    let decided = c.in_ok-run.ensures.decided in let foreseen = decided.foreseen in
    let tree = arc_value c.in_ok-run.field-0.mended in
    let read : c.deref.result.now ≡ tree = search rules in
    let done : after ≡ before ++ steps_of decided.loaded tree run.report run.book =
    c.in_ok-carry_out.ensures.all ∙ ap (λ t. before ++ (steps_left plan ++ steps_new t plan)) read
    ∙ ap (λ ss. before ++ (ss ++ steps_new tree plan)) foreseen.left
    ∙ ap (λ ss. before ++ (clearing decided.loaded tree ++ ss)) foreseen.new in
    rw (p.1, p.2) (
      record {
        paths = decided.paths;
        loaded = decided.loaded;
        passed = run.passed;
        is_loaded = decided.is_loaded;
        own = decided.own;
        mended = tree;
        mends = foreseen.mends;
        report = run.report;
        book = run.book;
        exit = run.exit;
        built = foreseen.built;
        decides = decided.decides;
      },
      done,
    )

use Rattle.std.proofs.Common.{◌≡◌, Err, rules, subst}
use Rattle.std.specs.Arc.{arc_value}
use Rattle.std.specs.Prelude.{IfErr}
use Rattle.redo_run.specs.Directories.{FallsInPreview}
use Rattle.redo_run.specs.declared.dir_fault.RunDirFault.TheVariants.{Device}
use Rattle.redo_run.proofs.directory.preview_dir.Goals as goal

-- the report of the build wasn't written to its end
pub returns-in_err-write_report-clause-fault : goal.returns-in_err-write_report-clause-fault
returns-in_err-write_report-clause-fault g c =
    let lists = g.D.DirView.lists c.args.dir.now in
    let looks = g.D.DirView.looks c.args.dir.now in
    let reads = g.D.DirView.reads c.args.dir.now in
    let refuses = g.D.DirView.refuses c.args.dir.now in
    let lacks = g.D.DirView.lacks c.args.dir.now in
    let options = c.args.options.now in
    let run = c.in_ok-preview.field-0.run in
    let decided = c.in_ok-preview.ensures.decided in
    let result : Err Device ≡ c.from_residual-in_err-write_report.result = search rules in
    subst (λ r. IfErr r (FallsInPreview lists looks reads lacks refuses options)) result (record {
      paths = decided.paths;
      loaded = decided.loaded;
      passed = run.passed;
      is_loaded = decided.is_loaded;
      own = decided.own;
      mended = arc_value c.in_ok-preview.field-0.mended;
      mends = decided.foreseen.mends;
      report = run.report;
      book = run.book;
      exit = run.exit;
      built = decided.foreseen.built;
      decides = decided.decides;
    })

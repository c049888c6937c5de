use Rattle.std.proofs.Common.{rules, arith, ◌++◌, ◌+◌, drop}
use Rattle.std.proofs.lemmas.Grind.{common_steps}
use Rattle.std.specs.Prelude.{flat_map}
use Rattle.std.proofs.KnownBytes.{Appends-trans}
use Rattle.redo_report.specs.ReportText.{dep_line}
use Rattle.redo_report.proofs.WritingLemmas.{split-next, writes-failed}
use Rattle.redo_report.proofs.text.write_deps.Goals as goal

pub loop-dep-preserved : goal.loop-dep-preserved
loop-dep-preserved g c =
    let before = c.loop-dep.invariant in
    let item = c.dep-item.result in
    record {
      works = grind (arith, common_steps);
      done = before.done ++ dep_line item;
      split = split-next dep_line c.args.deps.now c.loop-dep.dep-index item item before.done _ (search rules) c.dep-item.is before.split;
      gone = Appends-trans _ _ _ _ _ before.gone c.in_ok-write_dep.ensures.writes;
    }

pub returns-in_err-write_dep-clause-writes : goal.returns-in_err-write_dep-clause-writes
returns-in_err-write_dep-clause-writes g c =
    let before = c.loop-dep.invariant in
    let item = c.dep-item.result in
    let rest = flat_map dep_line (drop (c.loop-dep.dep-index + 1) c.args.deps.now) in
    writes-failed _ c.in_err-write_dep.field-0.0 c.from_residual.result c.from_residual.ensures.1 _ _ _ before.done (dep_line item) rest _
    (split-next dep_line c.args.deps.now c.loop-dep.dep-index item item before.done _ (search rules) c.dep-item.is before.split)
    before.gone c.in_err-write_dep.ensures.writes

use Rattle.std.proofs.Common.{rules, arith, ◌≡◌, ◌++◌, ◌+◌, ◌∙◌, drop, subst, sym}
use Rattle.std.proofs.lemmas.Grind.{common_steps}
use Rattle.std.specs.Prelude.{Err, flat_map}
use Rattle.std.specs.Io.KnownBytes.{Appends}
use Rattle.std.proofs.KnownBytes.{Appends-trans}
use Rattle.redo_bundle.specs.Bundle.{Writes}
use Rattle.redo_bundle.specs.declared.ends.Broken.{Broken}
use Rattle.redo_report.proofs.WritingLemmas.{split-next, writes-failed}
use Rattle.redo_past.proofs.NotedLemmas.{dep_text, text-each}
use Rattle.redo_past.proofs.records.write_own.Goals as goal

pub loop-dep-preserved : goal.loop-dep-preserved
loop-dep-preserved g c =
    let before = c.loop-dep.invariant in
    let item = c.dep-item.result in
    let f = dep_text c.args.states.now in
    record {
      works = grind (arith, common_steps);
      done = before.done ++ f item;
      split = split-next f c.args.own.now c.loop-dep.dep-index item item before.done _ (search rules) c.dep-item.is before.split;
      gone = Appends-trans _ _ _ _ _ before.gone (subst (λ s. Appends (g.W.ByteOut.held c.loop-dep.out) (g.W.ByteOut.held c.write_entry.new.out) (dep_text s item)) before.same c.in_ok-write_entry.ensures.writes);
      same = c.in_ok-write_entry.ensures.same ∙ before.same;
    }

pub returns-in_err-write_entry-clause-writes : goal.returns-in_err-write_entry-clause-writes
returns-in_err-write_entry-clause-writes g c =
    let before = c.loop-dep.invariant in
    let item = c.dep-item.result in
    let f = dep_text c.args.states.now in
    let rest = flat_map f (drop (c.loop-dep.dep-index + 1) c.args.own.now) in
    writes-failed _ c.in_err-write_entry.field-0.0 c.from_residual.result c.from_residual.ensures.1 _ _ _ before.done (f item) rest _
    (text-each c.args.states.now c.args.own.now ∙ split-next f c.args.own.now c.loop-dep.dep-index item item before.done _ (search rules) c.dep-item.is before.split)
    before.gone (subst (λ s. Writes {E = Broken} (g.W.ByteOut.held c.loop-dep.out) (g.W.ByteOut.held c.write_entry.new.out) (Err c.in_err-write_entry.field-0.0) (dep_text s item)) before.same c.in_err-write_entry.ensures.writes)

pub returns-clause-writes : goal.returns-clause-writes
returns-clause-writes g c =
    let before = c.loop-dep.invariant in
    let f = dep_text c.args.states.now in
    let whole : before.done ≡ flat_map f c.args.own.now = let e = c.loop-dep-test.false in grind (arith, common_steps) in
    subst (Appends _ _) (whole ∙ sym (text-each c.args.states.now c.args.own.now)) before.gone

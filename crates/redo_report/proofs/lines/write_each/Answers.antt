use Rattle.std.proofs.Common.{rules, arith, ◌≡◌, ◌++◌, ◌∷◌, [], take}
use Rattle.std.proofs.lemmas.Grind.{common_steps}
use Rattle.std.proofs.lemmas.Result.{err_from_is_err_and}
use Rattle.std.specs.Prelude.{Err}
use Rattle.std.specs.Iterator.Adapters.{take_count, take_source}
use Rattle.std.proofs.KnownBytes.{Appends-trans}
use Rattle.redo_bundle.proofs.PieceLemmas.{Writes-then, Writes-cut}
use Rattle.redo_which.specs.Lines.{lines_of}
use Rattle.redo_report.proofs.WritingLemmas.{one-more}
use Rattle.redo_report.proofs.lines.write_each.Goals as goal

pub loop-candidate-preserved : goal.loop-candidate-preserved
loop-candidate-preserved g c =
    let before = c.loop-candidate.invariant in
    let front = c.args.front.now in
    let text = front ++ c.in-Some.candidate.do_file ++ 10 ∷ [] in
    let left = lines_of front (take (take_count c.next.new.self) (take_source c.next.new.self)) in
    let next : lines_of front (take (take_count c.loop-candidate.candidate-iterator) (take_source c.loop-candidate.candidate-iterator)) ≡ text ++ left = search rules in
    record {
      works = grind (arith, common_steps);
      done = before.done ++ text;
      split = one-more _ before.done _ text left before.split next;
      gone = Appends-trans _ _ _ _ _ before.gone c.in_ok-write_line.ensures.writes;
    }

pub returns-in_err-write_line-clause-writes : goal.returns-in_err-write_line-clause-writes
returns-in_err-write_line-clause-writes g c =
    let before = c.loop-candidate.invariant in
    let front = c.args.front.now in
    let text = front ++ c.in-Some.candidate.do_file ++ 10 ∷ [] in
    let left = lines_of front (take (take_count c.next.new.self) (take_source c.next.new.self)) in
    let next : lines_of front (take (take_count c.loop-candidate.candidate-iterator) (take_source c.loop-candidate.candidate-iterator)) ≡ text ++ left = search rules in
    let f = c.in_err-write_line.field-0.0 in
    let p = err_from_is_err_and c.from_residual.result c.from_residual.ensures.1 in
    rw p.1 (Writes-cut f p.0 _ _ (before.done ++ text) left _ (one-more _ before.done _ text left before.split next)
    (Writes-then (Err f) _ _ _ before.done text before.gone c.in_err-write_line.ensures.writes))

use Rattle.std.proofs.Common.{rules, arith, ◌++◌}
use Rattle.std.proofs.lemmas.Grind.{common_steps}
use Rattle.std.proofs.lemmas.Result.{err_from_is_err_and}
use Rattle.std.specs.Prelude.{Err}
use Rattle.std.proofs.KnownBytes.{Appends-trans}
use Rattle.redo_bundle.proofs.PieceLemmas.{Writes-then, Writes-cut, piece-more}
use Rattle.redo_bundle.proofs.writing.write_each.Goals as goal

pub loop-part-preserved : goal.loop-part-preserved
loop-part-preserved g c =
    let before = c.loop-part.invariant in
    record {
      works = grind (arith, common_steps);
      done = before.done ++ _;
      split = piece-more (λ part. part.now) _ before.done c.args.parts.now c.loop-part.part-index _ (search rules) before.split;
      gone = Appends-trans _ _ _ _ _ before.gone c.in_ok-write_all.ensures.writes;
    }

pub returns-in_err-write_all-clause-writes : goal.returns-in_err-write_all-clause-writes
returns-in_err-write_all-clause-writes g c =
    let before = c.loop-part.invariant in
    let f = c.in_err-write_all.field-0.0 in
    let p = err_from_is_err_and c.from_residual.result c.from_residual.ensures.1 in
    rw p.1 (Writes-cut f p.0 _ _ _ _ _ (piece-more (λ part. part.now) _ before.done c.args.parts.now c.loop-part.part-index _ (search rules) before.split)
    (Writes-then (Err f) _ _ _ before.done _ before.gone c.in_err-write_all.ensures.writes))

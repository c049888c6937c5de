use Rattle.std.proofs.Common.{arith, ◌++◌, take}
use Rattle.std.proofs.lemmas.Grind.{common_steps}
use Rattle.std.proofs.lemmas.List.{take_rest}
use Rattle.std.proofs.KnownBytes.{Appends-trans}
use Rattle.redo_bundle.proofs.PieceLemmas.{split-more}
use Rattle.redo_bundle.proofs.writing.write_all.Goals as goal

pub loop-rest-preserved : goal.loop-rest-preserved
loop-rest-preserved g c =
    let before = c.loop-rest.invariant in
    let rest = c.loop-rest.rest.now in
    let n = c.in_ok-count.count in
    record {
      works = grind (arith, common_steps);
      done = before.done ++ take n rest;
      split = split-more _ before.done rest _ n before.split (take_rest rest n);
      gone = Appends-trans _ _ _ _ _ before.gone c.in_ok-count.ensures.bytes;
    }

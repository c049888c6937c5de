use Rattle.std.proofs.Common.{arith}
use Rattle.std.proofs.lemmas.Grind.{common_steps}
use Rattle.redo_script.proofs.OpenLemmas.{loops_are}
use Rattle.redo_script.proofs.open.count_loops.Goals as goal

pub returns : goal.returns
returns c = rw (loops_are c.args.opens.now) (grind (arith, common_steps))

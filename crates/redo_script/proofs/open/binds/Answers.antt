use Rattle.std.proofs.Common.{arith}
use Rattle.std.proofs.lemmas.Grind.{common_steps}
use Rattle.redo_script.proofs.OpenLemmas.{bound_are}
use Rattle.redo_script.proofs.open.binds.Goals as goal

pub returns : goal.returns
returns c = rw (bound_are c.args.name.now c.args.opens.now) (grind (arith, common_steps))

pub returns-in-Loop : goal.returns-in-Loop
returns-in-Loop c = rw (bound_are c.args.name.now c.args.opens.now) (grind (arith, common_steps))

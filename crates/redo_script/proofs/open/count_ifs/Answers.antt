use Rattle.std.proofs.Common.{arith}
use Rattle.std.proofs.lemmas.Grind.{common_steps}
use Rattle.redo_script.proofs.OpenLemmas.{ifs_are}
use Rattle.redo_script.proofs.open.count_ifs.Goals as goal

pub returns : goal.returns
returns c = rw (ifs_are c.args.opens.now) (grind (arith, common_steps))

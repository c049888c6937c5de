use Rattle.redo_dir.proofs.CallLemmas.{noted}
use Rattle.redo_dir.proofs.system.note.Goals as goal

pub returns : goal.returns
returns c = noted c.push-noted.result c.args.done.now.items c.push-noted.new.self.items c.args.change c.push-noted.ensures.items (c.push-noted.ensures.succeeds c.requires)

use Rattle.std.proofs.Common.{refl}
use Rattle.redo_record.proofs.SearchLemmas.{found-always, found-change, found-create}
use Rattle.redo_record.proofs.record.is_found.Goals as goal

pub returns-in-Change : goal.returns-in-Change
returns-in-Change c = rw (c.in-Change.is, found-change c.args.rule.now.missing c.args.rule.now.do_file c.args.dep.now.path) c.eq.ensures

pub returns-in-Create : goal.returns-in-Create
returns-in-Create c = rw (c.in-Create.is, found-create c.args.rule.now.missing c.args.rule.now.do_file c.args.dep.now.path) c.contains.ensures

pub returns-in-Always : goal.returns-in-Always
returns-in-Always c = rw (c.in-Always.is, found-always c.args.rule.now.missing c.args.rule.now.do_file c.args.dep.now.path) refl

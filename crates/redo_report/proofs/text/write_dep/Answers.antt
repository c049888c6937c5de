use Rattle.redo_report.proofs.text.write_dep.Goals as goal

pub returns-in-Change-clause-writes : goal.returns-in-Change-clause-writes
returns-in-Change-clause-writes g c = rw c.in-Change.is c.write_path_line.ensures.writes

pub returns-in-Create-clause-writes : goal.returns-in-Create-clause-writes
returns-in-Create-clause-writes g c = rw c.in-Create.is c.write_path_line-in-Create.ensures.writes

pub returns-in-Always-clause-writes : goal.returns-in-Always-clause-writes
returns-in-Always-clause-writes g c = rw c.in-Always.is c.write_all.ensures.writes

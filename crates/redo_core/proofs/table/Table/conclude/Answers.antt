use Rattle.std.proofs.lemmas.Result.{on_ok_weaker}
use Rattle.redo_core.proofs.ConcludeSteps.{concluded-settled, concluded-standing, concluded-table}
use Rattle.redo_core.proofs.table.Table.conclude.Goals as goal

pub settle-requires-clause-table : goal.settle-requires-clause-table
settle-requires-clause-table c =
    concluded-table c.args.build.now c.args.self.now c.decide.new.self c.args.at c.args.fact c.requires c.in_ok-known.known c.in_ok-known.ensures c.in_ok-decide.ensures

pub settle-requires-clause-standing : goal.settle-requires-clause-standing
settle-requires-clause-standing c =
    concluded-standing c.args.build.now c.args.self.now c.decide.new.self c.args.at c.args.fact c.requires c.in_ok-known.known c.in_ok-known.ensures c.in_ok-decide.ensures

pub returns : goal.returns
returns c =
    on_ok_weaker c.settle.result
    (concluded-settled c.args.build.now c.args.self.now c.decide.new.self c.args.at c.args.fact c.requires c.in_ok-known.known c.in_ok-known.ensures c.in_ok-decide.ensures c.settle.new.self)
    c.settle.ensures

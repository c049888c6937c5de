use Rattle.std.proofs.Common.{◌≡◌, ◌<◌, length, slice_get, Some, rules}
use Rattle.std.proofs.lemmas.Result.{on_ok_weaker}
use Rattle.redo_table.proofs.TargetLemmas.{index-there, read-there}
use Rattle.redo_core.proofs.GoOnSteps.{answered-below, answered-check, answered-else, answered-fed, answered-in_hand, answered-long}
use Rattle.redo_core.proofs.GoOnSteps.{made_ready-gone_on, resumed-gone_on}
use Rattle.redo_core.proofs.table.Table.go_on.Goals as goal
use Rattle.redo_core.proofs.table.Table.go_on.Goals.{After-index}

there : (c : After-index) → slice_get c.args.self.now.slots.items c.args.at ≡ Some c.index.result.now
there c = read-there c.args.self.now.slots.items c.args.at c.index.result.now
    (answered-below c.args.build.now c.args.self.now c.args.at c.args.on.now c.requires) c.index.ensures

pub make_ready-requires-clause-fed : goal.make_ready-requires-clause-fed
make_ready-requires-clause-fed c =
    let d = (goal.at-make_ready-requires-clause-fed c).After-index in
    answered-fed c.args.build.now c.args.self.now c.args.at c.args.on.now c.requires c.index.result.now (there d) c.in-Waiting.field-0 c.in-Waiting.is

pub bounds-on-0 : goal.bounds-on-0
bounds-on-0 c =
    let d = (goal.at-bounds-on-0 c).After-index in
    let long : 0 < length c.args.on.now =
    answered-long c.args.build.now c.args.self.now c.args.at c.args.on.now c.requires c.index.result.now (there d) c.in-Checking.field-0 c.in-Checking.is in
    search rules

pub resume-requires-clause-in_hand : goal.resume-requires-clause-in_hand
resume-requires-clause-in_hand c = answered-in_hand c.args.build.now c.args.self.now c.args.at c.args.on.now c.requires

pub resume-requires-clause-answered : goal.resume-requires-clause-answered
resume-requires-clause-answered c =
    let d = (goal.at-resume-requires-clause-answered c).After-index in
    let long = answered-long c.args.build.now c.args.self.now c.args.at c.args.on.now c.requires c.index.result.now (there d) c.in-Checking.field-0 c.in-Checking.is in
    answered-check c.args.build.now c.args.self.now c.args.at c.args.on.now c.requires c.index.result.now (there d) c.in-Checking.field-0 c.in-Checking.is
    _ (index-there c.args.on.now 0 0 long)

pub unreachable-requires : goal.unreachable-requires
unreachable-requires c =
    let d = (goal.at-unreachable-requires c).After-index in
    answered-else c.args.build.now c.args.self.now c.args.at c.args.on.now c.requires c.index.result.now (there d) c.in_default.not-Waiting c.in_default.not-Checking

pub returns-in-Waiting : goal.returns-in-Waiting
returns-in-Waiting c =
    on_ok_weaker c.make_ready.result
    (made_ready-gone_on c.args.build.now c.args.self.now c.args.at c.args.on.now c.requires c.make_ready.new.self) c.make_ready.ensures

pub returns-in-Checking : goal.returns-in-Checking
returns-in-Checking c =
    on_ok_weaker c.resume.result
    (resumed-gone_on c.args.build.now c.args.self.now c.args.at c.args.on.now c.requires c.resume.new.self) c.resume.ensures

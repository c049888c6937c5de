use Rattle.std.proofs.Common.{ap, ◌∙◌}
use Rattle.redo_core.specs.Views.{FactView}
use Rattle.std.proofs.lemmas.Option.{slice_get_within}
use Rattle.redo_table.proofs.TargetLemmas.{read-there}
use Rattle.redo_core.proofs.ResumeSteps.{goes-on}
use Rattle.redo_core.proofs.table.Table.goes_on.Goals as goal

pub returns : goal.returns
returns c =
    let t = c.args.self.now in
    let below = slice_get_within t.slots.items c.args.place c.requires.decided.0 c.requires.decided.1 in
    let there = read-there t.slots.items c.args.place c.index-slot.result.now below c.index-slot.ensures in
    goes-on c.args.build.now t c.args.place c.args.check.now c.go_on.new.self c.in-Decided.fact c.given.result.now c.outcome.result.now
    (c.index-slot.result.now, there, c.in-Decided.is) c.given.ensures (c.outcome.ensures ∙ ap (λ (f : FactView). f.outcome) c.read.ensures)
    c.go_on.ensures.asked c.go_on.result c.go_on.ensures.stands c.go_on.ensures.falls

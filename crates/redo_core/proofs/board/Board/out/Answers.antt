use Rattle.std.proofs.Common.{◌≡◌, sym, ◌∙◌, is_some, false}
use Rattle.redo_core.specs.inside.Slots.{outcomes_at_limit, rules_inside}
use Rattle.redo_core.proofs.AgreeLemmas.{out-same}
use Rattle.redo_core.proofs.SlotLemmas.{out_count-slots, IsNone-from}
use Rattle.redo_core.proofs.board.Board.out.Goals as goal

pub returns-else-is_some : goal.returns-else-is_some
returns-else-is_some c =
    let b = c.self.inside in
    let on : is_some b.stopped ≡ false = sym c.is_some.ensures ∙ c.if-is_some.false in
    let kept = c.self.invariant.kept (IsNone-from b.stopped on) in
    rw (← c.self.view_is) (rw on (c.out.ensures ∙
    out-same (rules_inside b) b.table.targets b.table.slots.items b.table.schedule.stages kept.at_rest.table.agreed kept.at_rest.resting.put_back ∙
    sym (out_count-slots (rules_inside b) (outcomes_at_limit b.build) b.table.targets b.table.slots.items kept.at_rest.table.one_each)))

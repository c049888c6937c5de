use Rattle.std.proofs.Common.{◌+◌, ◌∙◌, [], ap, map, sym, take}
use Rattle.redo_record.specs.Entries.{with_all}
use Rattle.redo_skip.specs.Checks.{shown}
use Rattle.redo_core.specs.inside.Checking.{entries_of_record}
use Rattle.redo_core.proofs.CheckSteps.{shown-some}
use Rattle.redo_core.proofs.check.Check.seen.Goals as goal

pub returns : goal.returns
returns c =
    let es = c.record_of.result.now.entries.items in
    let n = c.args.self.now.stood + 1 in
    c.of_entries.ensures ∙ c.in_ok-all_shown.ensures ∙
    ap (λ l. with_all [] (map shown l)) (c.up_to-seen.ensures ∙ ap (take n) c.deref.ensures.value) ∙
    shown-some es n c.record_of.ensures.is_record.once ∙ ap (λ o. map shown (take n (entries_of_record o))) (sym c.record_of.ensures.there)

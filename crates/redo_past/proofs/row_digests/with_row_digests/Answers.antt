use Rattle.std.proofs.Common.{rules, ◌∙◌, refl}
use Rattle.std.proofs.lemmas.List.{places, with_items_is}
use Rattle.redo_past.proofs.row_digests.with_row_digests.Goals as goal

pub returns : goal.returns
returns c =
    let same = c.keep_fours.ensures ∙ c.deref_mut.ensures.value in
    record { rows = with_items_is c.args.report.rows c.keep_fours.new.values (search (rules, places)) ∙ same; files = refl; begun = refl }

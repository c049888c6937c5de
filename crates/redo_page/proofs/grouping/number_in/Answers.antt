use Rattle.std.proofs.Common.{subst, sym}
use Rattle.redo_page.specs.inside.Grouping.{Grows}
use Rattle.redo_page.proofs.GroupingLemmas.{grows-with, in-any-case}
use Rattle.redo_page.proofs.grouping.number_in.Goals as goal

pub returns-clause-grown : goal.returns-clause-grown
returns-clause-grown c =
    let old = c.args.paths.now in
    in-any-case c.ok_or.result (Grows old c.insert.new.self)
    (subst (Grows old) (sym c.in_ok-number.ensures.paths) (grows-with old c.in_ok-clone.field-0))

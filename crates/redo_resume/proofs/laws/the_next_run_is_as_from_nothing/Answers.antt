use Rattle.std.proofs.Common.{sym, subst}
use Rattle.redo_tree.specs.Tree.{Tree}
use Rattle.redo_recover.specs.Opening.{AreTwins}
use Rattle.redo_recover.proofs.BreakLemmas.{sources-same}
use Rattle.redo_recover.proofs.OpenLemmas.{goes-on-opened}
use Rattle.redo_recover.proofs.TwinLemmas.{twin-sources}
use Rattle.redo_resume.proofs.NextLemmas.{as-from-nothing}
use Rattle.redo_resume.proofs.laws.the_next_run_is_as_from_nothing.Goals as goal

pub returns-clause-unedited : goal.returns-clause-unedited
returns-clause-unedited c = λ given result is start broken off past opens request limits next result_on.
    let on = goes-on-opened c.a_text_has_one_book.ensures given result is start broken off.journal off.book past opens in
    as-from-nothing c.keeping_is_sound.ensures.sound c.a_tree_has_one_past.ensures past on.mended.is_tree on.is_past
    given.past.sources (sources-same c.a_text_has_one_book.ensures given result is start broken off past on)
    request limits next result_on

pub returns-clause-edited : goal.returns-clause-edited
returns-clause-edited c = λ given result is start before began alike now twin twins past opens other other_past e request limits next result_on.
    let on = goes-on-opened c.a_text_has_one_book.ensures given result is start now twins.journal twins.old past opens in
    as-from-nothing c.keeping_is_sound.ensures.sound c.a_tree_has_one_past.ensures past on.mended.is_tree on.is_past
    other.sources
    (twin-sources c.a_text_has_one_book.ensures given result is start before began alike now past on other other_past
    (subst (λ (t : Tree). AreTwins given result is now before t) (sym e) twins))
    request limits next result_on

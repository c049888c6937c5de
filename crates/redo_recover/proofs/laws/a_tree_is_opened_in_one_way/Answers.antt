use Rattle.redo_recover.proofs.AgainLemmas.{again}
use Rattle.redo_recover.proofs.OpenLemmas.{goes-on-opened, opened-once}
use Rattle.redo_recover.proofs.laws.a_tree_is_opened_in_one_way.Goals as goal

pub returns-clause-one : goal.returns-clause-one
returns-clause-one c = opened-once c.a_text_has_one_book.ensures c.a_tree_has_one_past.ensures

pub returns-clause-broken : goal.returns-clause-broken
returns-clause-broken c = λ given result is start broken off past opens.
    goes-on-opened c.a_text_has_one_book.ensures given result is start broken off.journal off.book past opens

pub returns-clause-again : goal.returns-clause-again
returns-clause-again c = again

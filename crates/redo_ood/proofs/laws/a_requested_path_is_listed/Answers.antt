use Rattle.std.proofs.Common.{refl}
use Rattle.redo_ood.specs.Foreseen.{is_new, is_unknown}
use Rattle.redo_ood.specs.Listing.{Itself}
use Rattle.redo_ood.proofs.ReportLemmas.{in-list, new-at, silent-at, unknown-at}
use Rattle.redo_ood.proofs.laws.a_requested_path_is_listed.Goals as goal

pub returns-clause-silent : goal.returns-clause-silent
returns-clause-silent c = silent-at

pub returns-clause-new : goal.returns-clause-new
returns-clause-new c = λ given listed list p asked other rule none.
    in-list given listed list p is_new (Itself asked) (new-at given p is_new refl other rule none)

pub returns-clause-unknown : goal.returns-clause-unknown
returns-clause-unknown c = λ given listed list p asked other rule none.
    in-list given listed list p is_unknown (Itself asked) (unknown-at given p is_unknown refl asked other rule none)

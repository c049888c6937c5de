use Rattle.redo_rules.specs.Build.{last_run_of, sources_for}
use Rattle.redo_rules.proofs.Public.{rules_lawful, trees-good}
use Rattle.redo_ood.proofs.ForeseenLemmas.{needed-known}
use Rattle.redo_ood.proofs.ReportLemmas.{all-begun, rests-kept, ring-told}
use Rattle.redo_ood.proofs.laws.a_list_tells_of_its_run.Goals as goal

pub returns-clause-known : goal.returns-clause-known
returns-clause-known c = λ given report is. needed-known given is.within

pub returns-clause-begun : goal.returns-clause-begun
returns-clause-begun c = λ given report listed is list.
    all-begun given report is listed list
    (c.a_word_tells_of_its_run.ensures.begun (sources_for given) (last_run_of given.past) given.request given.limits.targets
    (rules_lawful given.past.sources given.limits) (trees-good given.past.sources given.limits) is.within)

pub returns-clause-kept : goal.returns-clause-kept
returns-clause-kept c = λ given report listed is list.
    rests-kept given report is listed list
    (c.a_word_tells_of_its_run.ensures.kept (sources_for given) (last_run_of given.past) given.request given.limits.targets
    (rules_lawful given.past.sources given.limits) (trees-good given.past.sources given.limits) is.within)

pub returns-clause-ring : goal.returns-clause-ring
returns-clause-ring c = λ given report listed is list.
    ring-told given report is listed list
    (c.a_word_tells_of_its_run.ensures.ring (sources_for given) (last_run_of given.past) given.request given.limits.targets
    (rules_lawful given.past.sources given.limits) (trees-good given.past.sources given.limits) is.within)

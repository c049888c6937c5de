use Rattle.std.proofs.Common.{ap, refl, ◌∙◌}
use Rattle.redo_core.specs.Views.{FactView}
use Rattle.redo_core.proofs.AdvanceLemmas.{ended-end, fact-parts, stopped-end}
use Rattle.redo_core.proofs.work.Begun.advance.Goals as goal

pub fact_of-requires : goal.fact_of-requires
fact_of-requires c =
    fact-parts c.args.given.now c.args.self.job c.args.self.facts c.requires.work c.in-Ended.done (rw c.in-Ended.is at c.in_ok-done.ensures)
    c.args.given.now c.args.target.now c.in-Ended.done.deps refl c.requires.target refl

pub returns-in_ok-fact-in-Ended-clause-end : goal.returns-in_ok-fact-in-Ended-clause-end
returns-in_ok-fact-in-Ended-clause-end c =
    let fact = c.in_ok-fact-in-Ended.ensures in
    ended-end c.args.given.now c.args.self.job c.args.self.facts c.requires.work c.in-Ended.done (rw c.in-Ended.is at c.in_ok-done.ensures)
    c.in_ok-fact-in-Ended.fact c.into_asked.result (ap (λ (f : FactView). f.outcome) fact) (ap (λ (f : FactView). f.deps) fact) c.into_asked.ensures
    (ap (λ (f : FactView). f.given) fact) (ap (λ (f : FactView). f.target) fact ∙ c.requires.target)

pub returns-in_ok-begun-in-Asks-clause-end : goal.returns-in_ok-begun-in-Asks-clause-end
returns-in_ok-begun-in-Asks-clause-end c =
    stopped-end c.args.given.now c.args.self.job c.args.self.facts c.requires.work c.in-Asks.job c.in-Asks.paths.items
    (rw c.in-Asks.is at c.in_ok-done.ensures) c.args.self.loops_long c.in_ok-begun-in-Asks.begun c.in-Asks.paths
    c.in_ok-begun-in-Asks.ensures.ok refl

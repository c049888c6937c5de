use Rattle.std.proofs.Common.{◌≡◌, inl, inr, rules, subst, not}
use Rattle.redo_names.specs.Paths.{IsAmong, is_among, with_path}
use Rattle.redo_names.proofs.PathLemmas.{was-there, with_path-cases}
use Rattle.redo_query.proofs.needing.visit.Goals as goal

pub returns-then-needs-clause-only : goal.returns-then-needs-clause-only
returns-then-needs-clause-only c = λ t m.
    let x = c.args.made.now.target in
    let put : c.insert.new.self ≡ with_path c.args.found.now x = search rules in
    elim (with_path-cases c.args.found.now x t (subst (λ ps. IsAmong ps t) put m)) [
      | inl there ↦ inl there
      | inr same ↦ inr (c.needs.ensures.0 c.if-needs.true, same)
    ]

pub returns-then-needs-clause-there : goal.returns-then-needs-clause-there
returns-then-needs-clause-there c = λ none _.
    let x = c.args.made.now.target in
    let told : c.in_ok-new.new ≡ not (is_among c.args.found.now x) = search rules in
    was-there c.args.found.now x c.in_ok-new.new told none

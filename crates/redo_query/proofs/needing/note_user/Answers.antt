use Rattle.std.proofs.Common.{◌≡◌, ◌∙◌, inl, inr, rules, subst, sym}
use Rattle.redo_names.specs.Paths.{IsAmong, with_path}
use Rattle.redo_names.proofs.PathLemmas.{with_path-cases}
use Rattle.redo_query.proofs.needing.note_user.Goals as goal

pub returns-then-names : goal.returns-then-names
returns-then-names c = λ t m.
    let x = c.args.made.now.target in
    let put : c.insert.new.self ≡ with_path c.args.found.now x = search rules in
    elim (with_path-cases c.args.found.now x t (subst (λ ps. IsAmong ps t) put m)) [
      | inl there ↦ inl there
      | inr same ↦ inr (sym c.names.ensures ∙ c.if-names.true, same)
    ]

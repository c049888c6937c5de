use Rattle.std.proofs.Common.{◌≡◌, ◌∙◌, rules, sym}
use Rattle.std.specs.List.{list_any}
use Rattle.redo_book.specs.Book.{record_of}
use Rattle.redo_query.specs.inside.Found.{names_one}
use Rattle.redo_query.proofs.NeedLemmas.{needs-told, told-needs}
use Rattle.redo_query.proofs.needing.needs.Goals as goal

pub returns-else-names : goal.returns-else-names
returns-else-names c =
    let r = record_of c.args.made.now in
    let none = sym c.names.ensures ∙ c.if-names.false in
    let told : c.name_found.result ≡ list_any (names_one c.args.found.now) r.entries = search rules in (
      λ t. needs-told c.args.found.now c.args.path.now r none (sym told ∙ t),
      λ n. told ∙ told-needs c.args.found.now c.args.path.now r none n,
    )

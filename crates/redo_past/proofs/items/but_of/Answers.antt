use Rattle.std.proofs.Common.{rules, ◌≡◌, ◌∙◌, ◌∷◌, List, ap, subst, sym}
use Rattle.redo_book.specs.Book.{IsBook, Record}
use Rattle.redo_past.specs.inside.Books.{joined}
use Rattle.redo_past.proofs.JoinLemmas.{joined-skip, rest-book}
use Rattle.redo_past.proofs.items.but_of.Goals as goal

pub returns-then-eq-clause-joined : goal.returns-then-eq-clause-joined
returns-then-eq-clause-joined c = λ keeps not built.
    let first : Record = c.in-Some.first.now in
    let rest : List Record = c.in-Some.rest.now in
    let split : c.args.records.now ≡ first ∷ rest = search rules in
    let same : first.target ≡ c.args.target.now = search rules in
    joined-skip keeps built first rest (not first same) ∙ ap (joined keeps built) (sym split)

pub returns-then-eq-clause-book : goal.returns-then-eq-clause-book
returns-then-eq-clause-book c = λ book.
    let first : Record = c.in-Some.first.now in
    let rest : List Record = c.in-Some.rest.now in
    let split : c.args.records.now ≡ first ∷ rest = search rules in
    rest-book first rest (subst IsBook split book)

use Rattle.std.proofs.Common.{◌<◌, ◌≡◌, ◌∙◌, ap, length, slice_get, slice_index_or, subst, sym}
use Rattle.std.specs.Cmp.Lexicographic.{slice_cmp}
use Rattle.std.specs.List.Sorted.{IsBinarySearchResult}
use Rattle.std.specs.Ordering.{nat_cmp}
use Rattle.std.specs.Prelude.{Err}
use Rattle.std.specs.declared.cmp.Ordering.TheVariants.{Equal}
use Rattle.redo_book.specs.Book.{record_at}
use Rattle.redo_book.proofs.FindLemmas.{at_place, not_found}
use Rattle.redo_book.proofs.book.Book.number_of.Goals as goal

pub returns-in-Ok-clause-found : goal.returns-in-Ok-clause-found
returns-in-Ok-clause-found c =
    let items = c.self.inside.records.items in
    let t = c.args.target.now in
    let at = c.in-Ok.at in
    let same = c.deref.ensures.value in
    subst (λ b. slice_get b at ≡ record_at b t) c.self.view_is
    (at_place items t at c.self.invariant.sorted (subst (λ l. at < length l) same c.in-Ok.ensures.within)
    (λ d. subst (λ l. slice_cmp nat_cmp (slice_index_or l at d).target t ≡ Equal) same (c.in-Ok.ensures.place d)))

pub returns-in-Err-clause-found : goal.returns-in-Err-clause-found
returns-in-Err-clause-found c =
    let items = c.self.inside.records.items in
    let t = c.args.target.now in
    let n = c.in-Err.field-0 in
    let place = subst (λ l. IsBinarySearchResult (λ r. slice_cmp nat_cmp r.target t) l (Err n)) c.deref.ensures.value c.in-Err.ensures.place in
    sym (ap (λ b. record_at b t) (sym c.self.view_is) ∙ not_found items t n c.self.invariant.sorted place)

use Rattle.std.proofs.Common.{◌∙◌, ◌≡◌, ap, refl}
use Rattle.std.proofs.lemmas.Fn.{answers_by}
use Rattle.std.specs.Cmp.Lexicographic.{slice_cmp}
use Rattle.std.specs.Ordering.{nat_cmp}
use Rattle.redo_explain.proofs.outcomes.search.Goals as goal

-- the closure keeps the path that it compares with
pub returns-clause-place : goal.returns-clause-place
returns-clause-place c =
    c.binary_search_by.ensures.position (λ row. slice_cmp nat_cmp row.path c.args.path.now)
    (answers_by _ _ (λ f. f.0 ≡ c.args.path) (λ f a r g called same. (called.met.1 ∙ ap (λ t. slice_cmp nat_cmp a.0.now.path t.now) same, called.met.0 ∙ same)) _ refl)

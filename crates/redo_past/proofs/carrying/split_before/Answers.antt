use Rattle.std.proofs.Common.{◌≤◌, ◌∙◌, ap, drop, length, subst, sym, take}
use Rattle.std.proofs.lemmas.List.Sums.{prefix_len-le-length}
use Rattle.redo_past.specs.inside.Books.{is_before}
use Rattle.redo_past.proofs.JoinLemmas.{back-left, front-kept}
use Rattle.redo_past.proofs.carrying.split_before.Goals as goal

pub split_at-requires : goal.split_at-requires
split_at-requires c =
    subst (λ n. n ≤ length c.args.records.now) (sym c.count_before.ensures)
    (prefix_len-le-length (is_before c.args.path.now) c.args.records.now)

pub returns-clause-front : goal.returns-clause-front
returns-clause-front c =
    c.split_at.ensures.front ∙ ap (λ n. take n c.args.records.now) c.count_before.ensures
    ∙ front-kept c.args.path.now c.args.records.now c.requires.sorted

pub returns-clause-left : goal.returns-clause-left
returns-clause-left c =
    c.split_at.ensures.back ∙ ap (λ n. drop n c.args.records.now) c.count_before.ensures
    ∙ back-left c.args.path.now c.args.records.now c.requires.sorted

use Rattle.std.proofs.Common.{◌∙◌, ◌||◌, ap, sym, take}
use Rattle.std.specs.List.{list_any}
use Rattle.redo_names.specs.Paths.{is_among}
use Rattle.redo_names.proofs.PathLemmas.{or-assoc}
use Rattle.redo_query.specs.Names.{is_of}
use Rattle.redo_query.proofs.AnyLemmas.{any-more}
use Rattle.redo_query.proofs.named.add_named.Goals as goal

pub loop-entry-preserved : goal.loop-entry-preserved
loop-entry-preserved c = λ path.
    let items = c.deref-entry-items.result.now in
    let i = c.loop-entry.entry-index in
    let e = c.entry-item.result in
    c.in_ok-add_path.ensures path ∙ ap (λ b. b || is_of path e) (c.loop-entry.invariant path)
    ∙ or-assoc (is_among c.args.named.now path) (list_any (is_of path) (take i items)) (is_of path e)
    ∙ ap (λ b. is_among c.args.named.now path || b) (sym (any-more (is_of path) items i e c.loop-entry-test.true c.entry-item.is))

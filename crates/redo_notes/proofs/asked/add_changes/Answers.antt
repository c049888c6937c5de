use Rattle.std.proofs.Common.{◌∙◌, ◌||◌, ap, sym, take}
use Rattle.redo_names.specs.Paths.{is_among}
use Rattle.redo_names.proofs.PathLemmas.{or-assoc}
use Rattle.redo_record.specs.Progress.{changes}
use Rattle.redo_notes.specs.inside.Changes.{is_change_of}
use Rattle.redo_notes.proofs.AskedLemmas.{change-more}
use Rattle.redo_notes.proofs.asked.add_changes.Goals as goal

pub loop-dep-preserved : goal.loop-dep-preserved
loop-dep-preserved c = λ path.
    let deps = c.args.deps.now in
    let i = c.loop-dep.dep-index in
    let d = c.dep-item.result in
    c.in_ok-add_change.ensures path ∙ ap (λ b. b || is_change_of path d) (c.loop-dep.invariant path)
    ∙ or-assoc (is_among c.args.asked.now path) (is_among (changes (take i deps)) path) (is_change_of path d)
    ∙ ap (λ b. is_among c.args.asked.now path || b) (sym (change-more deps i d path c.loop-dep-test.true c.dep-item.is))

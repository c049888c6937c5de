use Rattle.std.proofs.Common.{◌∙◌, sym}
use Rattle.redo_past.specs.NewBook.{state_after}
use Rattle.redo_past.proofs.NotedLemmas.{change-sized, change-top-sized, state-is}
use Rattle.redo_past.proofs.sizes.changed_size.Goals as goal

pub returns-then-is_top : goal.returns-then-is_top
returns-then-is_top c = change-top-sized c.args.files.now c.args.path.now (sym c.is_top.ensures.top ∙ c.if-is_top.true)

pub returns : goal.returns
returns c =
    let files = c.args.files.now in
    let path = c.args.path.now in
    change-sized files path c.change_size.result (sym c.is_top.ensures.top ∙ c.if-is_top.false) c.is_top.ensures.path
    (c.change_size.ensures (state_after files.sources files.rows path) (state-is _) (sym c.has_file.ensures))

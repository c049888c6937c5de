use Rattle.std.proofs.Common.{◌<◌, length, subst, sym, rules}
use Rattle.std.proofs.lemmas.List.{get_or_read}
use Rattle.redo_rings.specs.inside.Walks.{IsIn}
use Rattle.redo_rings.proofs.WalkLemmas.{index-in}
use Rattle.redo_rings.proofs.graph.chosen.Goals as goal

pub returns-then-place-len-clause-some : goal.returns-then-place-len-clause-some
returns-then-place-len-clause-some c =
    let ns = c.args.asks.now.numbers.items in
    let under : c.args.place < length ns = search rules in
    let is = get_or_read ns c.args.place c.index.result.now under c.index.ensures 0 in
    subst (IsIn ns) (sym is) (index-in ns c.args.place under)

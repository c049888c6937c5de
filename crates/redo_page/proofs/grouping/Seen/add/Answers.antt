use Rattle.std.proofs.Common.{rules}
use Rattle.redo_alike.specs.declared.graph.Node.{Node}
use Rattle.redo_page.proofs.grouping.Seen.add.Goals as goal

pub returns-clause-added : goal.returns-clause-added
returns-clause-added c =
    let node : Node = record { kind = c.in_ok-kind.kind; alone = c.is_alone-alone.result; needs = c.in_ok-needs.needs } in
    let kind = c.in_ok-kind.ensures.kind in (
      node,
      search rules,
      record { needs = search rules; alone = c.is_alone-alone.ensures },
      record { rule = kind.rule; directory = kind.directory; outcome = kind.outcome },
    )

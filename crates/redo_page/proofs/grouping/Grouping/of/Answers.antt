use Rattle.std.proofs.Common.{refl, subst, sym}
use Rattle.redo_alike.specs.Alike.{IsGraph}
use Rattle.redo_page.specs.Grouping.{AreNodes}
use Rattle.redo_page.specs.inside.Links.{known_by}
use Rattle.redo_page.proofs.GroupingLemmas.{are-nodes, is-graph}
use Rattle.redo_page.proofs.grouping.Grouping.of.Goals as goal

pub group-requires : goal.group-requires
group-requires c =
    subst IsGraph (sym c.deref.ensures.value)
    (is-graph (known_by c.args.links.now) c.args.rows.now c.in_ok-seen.seen c.requires.links c.in_ok-seen.ensures)

pub returns : goal.returns
returns c = λ others.
    let are = c.in_ok-grouped.ensures in
    let grouped = c.in_ok-grouped.grouped in
    let known = known_by c.args.links.now in
    let rows = c.args.rows.now in
    record {
      nodes = c.deref.result.now;
      are_nodes =
          subst (AreNodes known rows) (sym c.deref.ensures.value) (are-nodes known rows c.in_ok-seen.seen c.in_ok-seen.ensures);
      heights = grouped.heights.items;
      height = λ n. refl;
      heights_are = are.heights;
      groups = grouped.groups.items;
      group = λ n. refl;
      same_kind = are.same_kind;
      same_needs = are.same_needs;
      alone = are.alone;
      whole = are.together;
    }

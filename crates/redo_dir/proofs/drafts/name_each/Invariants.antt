use Rattle.std.proofs.Common.{◌≡◌, ◌++◌}
use Rattle.std.specs.Prelude.{OnErr}
use Rattle.redo_dir.specs.inside.Batches.{GivesUpRest, Names, asked}
use Rattle.redo_dir.proofs.drafts.name_each.Given as goal

-- the drafts so far got their names, or those before one that didn't
abbrev pub invariant-drafts : goal.invariant-drafts
invariant-drafts g l = record {
  names : Names (λ path kind. (d : g.row.D.Denot) × g.D.DirView.refuses d path kind) (g.D.WorkDir.done l.fn.dir) (asked l.yielded) (g.D.WorkDir.done l.dir) l.outcome;
  gone : OnErr l.outcome (GivesUpRest g.D.Draft.Drafted.gone (g.D.WorkDir.done l.fn.dir) l.yielded (g.D.WorkDir.done l.dir));
  left : l.fn.drafts.items ≡ l.yielded ++ l.draft-iterator.rest.items;
}

use Rattle.std.proofs.Common.{rules}
use Rattle.redo_dir.specs.inside.Levels.{progress}
use Rattle.redo_dir.proofs.ListingLemmas.{none_of}
use Rattle.redo_dir.proofs.LevelLemmas.{between_first, between_last, between_next}
use Rattle.redo_dir.proofs.listing.list_names.Goals as goal

pub loop-init : goal.loop-init
loop-init g c = between_first (g.D.DirView.lists c.args.dir.now) (g.D.DirView.looks c.args.dir.now) (progress c.in_ok-walk.walk) c.in_ok-walk.ensures

pub returns-then-is_empty-clause-names : goal.returns-then-is_empty-clause-names
returns-then-is_empty-clause-names g c =
    let none = none_of c.loop.walk.waiting.items (search rules) in
    between_last (g.D.DirView.lists c.args.dir.now) (g.D.DirView.looks c.args.dir.now) (progress c.loop.walk) c.loop.invariant none

pub loop-preserved : goal.loop-preserved
loop-preserved g c =
    between_next (g.D.DirView.lists c.args.dir.now) (g.D.DirView.looks c.args.dir.now) (g.D.DirView.refuses c.args.dir.now) (progress c.loop.walk) (progress c.list_level.new.self) (progress c.enter_level.new.self) c.loop.invariant c.in_ok-list_level.ensures.listed c.in_ok-enter_level.ensures.all

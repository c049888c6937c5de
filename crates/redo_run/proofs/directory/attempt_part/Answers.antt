use Rattle.std.proofs.Common.{◌≡◌, rules, subst, true}
use Rattle.std.specs.Prelude.{IfSome}
use Rattle.redo_dir.specs.Loaded.{IsLoaded, Leads, ReadIf, wants}
use Rattle.redo_run.specs.Directories.{AreFilesOrNone}
use Rattle.redo_run.specs.Reading.{HasMended}
use Rattle.redo_run.proofs.DirectoryLemmas.{decided_part}
use Rattle.redo_run.proofs.directory.attempt_part.Goals as goal

-- all that was looked into was read
pub returns-then-branch-clause-decided : goal.returns-then-branch-clause-decided
returns-then-branch-clause-decided g c =
    let dir = c.args.dir.now in let f = c.in-Ok.foreseen in let round = c.load_part.new.round in
    let lists = g.D.DirView.lists dir in let looks = g.D.DirView.looks dir in let reads = g.D.DirView.reads dir in
    let paths = wants round.wanted in let passed = round.names.passed in
    let loaded = subst (λ o. IfSome o (λ tree. IsLoaded lists (Leads looks (ReadIf paths reads)) tree passed))
    c.in-Some.is c.in_ok-tree.ensures.loaded in
    let lacks = g.D.DirView.lacks dir in
    let own = subst (λ o. IfSome o (AreFilesOrNone lacks)) c.in-Some.is c.in_ok-tree.ensures.own in
    let mended = subst (λ o. IfSome o (HasMended paths)) c.in-Some.is c.in_ok-tree.ensures.mended in
    let all : c.in_ok-is_covered-in-Ok.field-0 ≡ true = search rules in
    decided_part c.runs_rest_on_what_they_read.ensures.mended c.runs_rest_on_what_they_read.ensures.built
    c.runs_rest_on_what_they_read.ensures.steps c.a_tree_has_one_past.ensures lists looks reads lacks c.args.options.now f
    paths c.in-Some.tree passed (c.in_ok-is_covered-in-Ok.ensures all) mended loaded own c.in-Ok.ensures.foreseen

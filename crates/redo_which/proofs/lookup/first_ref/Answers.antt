use Rattle.std.proofs.Common.{arith, ◌≡◌, ◌∙◌, ◌+◌, false, sym, rules}
use Rattle.redo_which.specs.inside.Passed.{Passes}
use Rattle.redo_which.specs.Rule.{is_file}
use Rattle.redo_which.proofs.PassedLemmas.{passes-chosen, passes-few, passes-first, passes-missing, passes-more}
use Rattle.redo_which.proofs.lookup.first_ref.Goals as goal

pub loop-candidate-preserved : goal.loop-candidate-preserved
loop-candidate-preserved c =
    let tree = c.args.tree.now in
    let before = c.loop-candidate.invariant in
    let old = c.loop-candidate.candidates in
    let new = c.skip_directories.new.self in
    let no_file : is_file tree c.in-Some.candidate.do_file ≡ false = sym c.in_ok-is_file.ensures.file ∙ c.if-branch.false in
    let passes : Passes tree (1 + c.skip_directories.result) old new = passes-more tree 1 c.skip_directories.result old c.next.new.self new (passes-first tree c.in-Some.candidate old c.next.new.self (search rules) no_file) c.skip_directories.ensures in
    let missing = passes-missing tree (1 + c.skip_directories.result) old new passes in
    let fewer = passes-few tree (1 + c.skip_directories.result) old new passes in
    let all = before.missing in
    let few = before.few in
    record {
      missing = omega (arith, missing, all);
      chosen = sym (passes-chosen tree (1 + c.skip_directories.result) old new passes) ∙ before.chosen;
      few = omega (arith, fewer, few);
    }

use Rattle.std.proofs.Common.{rules, ◌≡◌, ℕ, List, Err, ap, sym, ◌∙◌}
use Rattle.redo_rules.specs.Results.{IsGiven, IsResultOn, NeedsTooMany}
use Rattle.redo_core.specs.declared.opening.OpenFault.TheVariants as faults
use Rattle.redo_step.specs.Limits.{LimitsView}
use Rattle.redo_tree.specs.Tree.{IsTree, Tree}
use Rattle.redo_run.proofs.OpenedLemmas.{of_others, of_these, runs, stopped_at_limit}
use Rattle.redo_run.proofs.workers.build_over.Goals as goal

-- the board is of the build that the type names
pub run_build-requires-clause-of_build : goal.run_build-requires-clause-of_build
run_build-requires-clause-of_build g c κs within =
    let P : Tree → List (List ℕ) → LimitsView → Type 0 = λ t r l. IsGiven t r l c.in_ok-board.board.given in
    of_others P _ _ _ _ _ _ c.requires.of_build c.in_ok-board.ensures.ok.given

-- a board that was just opened runs
pub run_build-requires-clause-running : goal.run_build-requires-clause-running
run_build-requires-clause-running g c κs within = runs c.in_ok-board.board c.in_ok-board.ensures.ok.is

-- a board that was just opened has taken nothing
pub run_build-requires-clause-opened : goal.run_build-requires-clause-opened
run_build-requires-clause-opened g c κs within =
    let board = c.in_ok-board.board in c.what_was_taken.ensures.opened board.given board c.in_ok-board.ensures.ok.is

-- no board is opened: too many targets are needed, or memory runs out
pub returns-in_err-board-clause-built : goal.returns-in_err-board-clause-built
returns-in_err-board-clause-built g c =
    let tree = c.args.past.tree in let request = c.args.request.now in let limits = c.args.limits in
    let many : Err faults.TooMany ≡ c.from_residual.result → NeedsTooMany tree request limits = λ is.
    let made = rw (sym is) at c.from_residual.ensures in
    let stop = stopped_at_limit c.in_err-board.field-0.0 made.1 in
    c.over.ensures.too_many (c.in_err-board.was ∙ ap Err stop) in
    record {
      report = search rules;
      sound = search rules;
      none_left = search rules;
      once = search rules;
      begun = search rules;
      book = search rules;
      too_many = λ is. many (sym is);
      only_unsafe = λ is. c.keeping_is_sound.ensures.within tree request limits (many (sym is));
    }

-- the build stops at too many targets, or for want of memory
pub returns-in_err-run_build-clause-built : goal.returns-in_err-run_build-clause-built
returns-in_err-run_build-clause-built g c =
    let tree = c.args.past.tree in let request = c.args.request.now in let limits = c.args.limits in
    let many : Err faults.TooMany ≡ c.from_residual-in_err-run_build.result → NeedsTooMany tree request limits = λ is.
    let made = rw (sym is) at c.from_residual-in_err-run_build.ensures in
    let stop = stopped_at_limit c.in_err-run_build.field-0.0 made.1 in
    of_these NeedsTooMany _ _ _ _ _ _ c.requires.of_build (c.run_build.ensures.too_many (c.in_err-run_build.was ∙ ap Err stop)) in
    record {
      report = search rules;
      sound = search rules;
      none_left = search rules;
      once = search rules;
      begun = search rules;
      book = search rules;
      too_many = λ is. many (sym is);
      only_unsafe = λ is. c.keeping_is_sound.ensures.within tree request limits (many (sym is));
    }

-- the report is that of the build; where keeping is safe, it agrees with that of the sources
pub returns-clause-built : goal.returns-clause-built
returns-clause-built g c =
    let run = c.in_ok-run_build.field-0 in
    let tree = c.args.past.tree in let request = c.args.request.now in let limits = c.args.limits in
    let P : Tree → List (List ℕ) → LimitsView → Type 0 = λ t r l. IsResultOn t r l run.0 in
    let is : IsResultOn tree request limits run.0 = of_these P _ _ _ _ _ _ c.requires.of_build c.in_ok-run_build.ensures.report in
    let is_tree : IsTree tree = search rules in
    record {
      report = is;
      sound = c.keeping_is_sound.ensures.sound tree request limits run.0 is_tree is;
      none_left = c.in_ok-run_build.ensures.none_left;
      once = c.in_ok-run_build.ensures.once;
      begun = c.in_ok-run_build.ensures.begun;
      book = λ n is. absurd cc;
      too_many = λ is. absurd cc;
      only_unsafe = λ is. absurd cc;
    }

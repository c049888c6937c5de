use Rattle.std.proofs.Common.{rules, ◌≡◌, ℕ, [], Err, List, length, refl, ap, subst, ◌∙◌}
use Rattle.redo_core.specs.Views.{WorkView}
use Rattle.redo_rules.specs.Results.{NeedsTooMany}
use Rattle.redo_tree.specs.Tree.{Tree}
use Rattle.redo_run.specs.Picks.{IsDrivenOver, driven_on}
use Rattle.redo_run.proofs.DrivingLemmas.{begins, ends, goes-on, stops}
use Rattle.redo_run.proofs.OpenedLemmas.{given_to, never_book, runs, stopped_at_limit, too_many_of}
use Rattle.redo_run.proofs.picks.drive.Goals as goal

pub loop-done-init : goal.loop-done-init
loop-done-init c =
    let board = c.in_ok-board.board in
    let is = c.in_ok-board.ensures.ok.is in
    record {
      running = runs board is;
      build = refl;
      out = search rules;
      come = ([], c.what_was_taken.ensures.opened board.given board is);
      leads =
          begins board.given c.args.picks.now (driven_on board []) board c.new-out.result.items
          (ap (λ (works : List WorkView). driven_on board works) c.new-out.ensures.items);
    }

-- the next pick was done
pub loop-done-preserved : goal.loop-done-preserved
loop-done-preserved c =
    let first = c.in_ok-board.board in
    record {
      running = search rules;
      build = search rules;
      out = search rules;
      come = search rules;
      leads =
          goes-on first.given c.args.picks.now (driven_on first []) c.loop-done.board c.loop-done.out.items c.loop-done.done c.loop-done.invariant.build c.loop-done.invariant.leads
          c.perform.new.board c.perform.new.out.items _ (search rules) (search rules) c.in_ok-perform.field-0 c.in_ok-perform.ensures.picked (search rules);
    }

pub returns-in_err-board-clause-book : goal.returns-in_err-board-clause-book
returns-in_err-board-clause-book c = λ n is.
    let made = rw is at c.from_residual-in_err-board.ensures in
    absurd (never_book c.in_err-board.field-0.0 n made.1)

pub returns-in_err-board-clause-too_many : goal.returns-in_err-board-clause-too_many
returns-in_err-board-clause-too_many c = λ is.
    let made = rw is at c.from_residual-in_err-board.ensures in
    let stop = stopped_at_limit c.in_err-board.field-0.0 made.1 in
    let P : Tree → Type 0 = λ t. NeedsTooMany t c.args.request.now c.args.limits in
    subst P c.in_ok-past.ensures.tree (c.over.ensures.too_many (c.in_err-board.was ∙ ap Err stop))

pub returns-in_err-perform-clause-book : goal.returns-in_err-perform-clause-book
returns-in_err-perform-clause-book c = λ n is.
    let made = rw is at c.from_residual-in_err-perform.ensures in
    absurd (never_book c.in_err-perform.field-0.0 n made.1)

pub returns-in_err-perform-clause-too_many : goal.returns-in_err-perform-clause-too_many
returns-in_err-perform-clause-too_many c = λ is.
    let made = rw is at c.from_residual-in_err-perform.ensures in
    let stop = stopped_at_limit c.in_err-perform.field-0.0 made.1 in
    too_many_of c.args.tree _ c.in_ok-past.ensures.tree c.args.request.now c.args.limits c.in_ok-board.board c.in_ok-board.ensures.ok
    c.loop-done.board c.loop-done.invariant.build (c.perform.ensures.too_many (c.in_err-perform.was ∙ ap Err stop))

pub returns-then-not-branch-clause-ok : goal.returns-then-not-branch-clause-ok
returns-then-not-branch-clause-ok c =
    let first = c.in_ok-board.board in
    let done = stops first.given c.args.picks.now first c.in_ok-board.ensures.ok.is c.loop-done.board c.loop-done.out.items c.loop-done.done
    c.loop-done.invariant.running c.loop-done.invariant.build c.loop-done.invariant.leads c.perform.new.board c.perform.new.out.items _ c.in_ok-perform.field-0
    (search rules) (search rules) c.in_ok-perform.ensures.picked (search rules) in
    (first.given, given_to c.args.tree _ c.in_ok-past.ensures.tree c.args.request.now c.args.limits first c.in_ok-board.ensures.ok first refl, done)

pub returns-clause-ok : goal.returns-clause-ok
returns-clause-ok c =
    let first = c.in_ok-board.board in
    let at : c.loop-done.done ≡ length c.args.picks.now = search rules in
    let done = ends first.given c.args.picks.now first c.in_ok-board.ensures.ok.is c.loop-done.board c.loop-done.out.items c.loop-done.done
    c.loop-done.invariant.running c.loop-done.invariant.build c.loop-done.invariant.leads (search rules) in
    let P : ℕ → Type 0 = IsDrivenOver first.given c.args.picks.now c.loop-done.board in
    (first.given, given_to c.args.tree _ c.in_ok-past.ensures.tree c.args.request.now c.args.limits first c.in_ok-board.ensures.ok first refl, subst P at done)

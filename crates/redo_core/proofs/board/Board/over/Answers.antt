use Rattle.std.proofs.Common.{◌≡◌, ◌≤◌, ℕ, Err, None, length, refl, sym, ap, subst, ◌∙◌}
use Rattle.redo_rules.specs.Results.{IsGiven}
use Rattle.redo_core.specs.inside.Slots.{IsKept, state_of, GivenView}
use Rattle.redo_core.specs.declared.board.Board.TheInside.{Inside}
use Rattle.redo_core.proofs.GivenLemmas.{given-of}
use Rattle.redo_core.proofs.TakeLemmas.{part-inside, length-entries}
use Rattle.redo_core.proofs.OpeningLemmas.{opened-kept, opened-left, opened-looked, opened-out, opening-many}
use Rattle.redo_core.proofs.board.Board.over.Goals as goal
use Rattle.redo_core.proofs.board.Board.over.Goals.{In_ok-look_ahead, In_ok-build}

opened-board : (c : In_ok-look_ahead) → Inside
opened-board c = record { alloc = c.alloc-alloc.result; build = c.in_ok-build.build; table = c.look_ahead.new.self; stopped = None }

kept : (c : In_ok-look_ahead) → IsKept (opened-board c)
unfolding opened-board
kept c = opened-kept (opened-board c) c.in_ok-table.table c.in_ok-table.ensures.ok c.in_ok-look_ahead.ensures.ok
    c.in_ok-look_ahead.ensures.none_due

-- the build is given what the caller gave
given : (c : In_ok-build) → IsGiven c.args.past.tree c.args.request.now c.args.limits c.in_ok-build.build
given c = given-of c.args.past.tree c.args.request.now c.args.limits c.args.past c.is_past.ensures refl
    c.in_ok-build.build (c.in_ok-build.ensures ∙ c.in_ok-given.ensures)

-- the limits are those of the caller
limits : (c : In_ok-build) → c.in_ok-build.build.limits ≡ c.args.limits
limits c = ap (λ (g : GivenView). g.limits) (c.in_ok-build.ensures ∙ c.in_ok-given.ensures)

pub returns-in_err-table-clause-too_many : goal.returns-in_err-table-clause-too_many
returns-in_err-table-clause-too_many c = λ is.
    let d = (goal.at-returns-in_err-table-clause-too_many c).In_ok-build in
    let made = rw is at c.from_residual-in_err-table.ensures in
    let many = c.open.ensures.too_many (c.in_err-table.was ∙ ap Err (sym made.1)) in
    (c.in_ok-build.build, given d, opening-many c.in_ok-build.build c.in_ok-build.build.request many)

pub returns-in_err-look_ahead-clause-too_many : goal.returns-in_err-look_ahead-clause-too_many
returns-in_err-look_ahead-clause-too_many c = λ is.
    let d = (goal.at-returns-in_err-look_ahead-clause-too_many c).In_ok-build in
    let made = rw is at c.from_residual-in_err-look_ahead.ensures in
    let many = c.look_ahead.ensures.too_many (c.in_err-look_ahead.was ∙ ap Err (sym made.1)) in
    (c.in_ok-build.build, given d, many)

pub returns-clause-within : goal.returns-clause-within
unfolding opened-board
returns-clause-within c =
    let d = (goal.at-returns-clause-within c).In_ok-look_ahead in
    let e = (goal.at-returns-clause-within c).In_ok-build in
    let P : ℕ → Type 0 = λ n. length (state_of (opened-board d)).entries ≤ n in
    subst P (ap (λ l. l.targets) (limits e)) (length-entries (opened-board d) (kept d))

pub returns-clause-part : goal.returns-clause-part
unfolding opened-board
returns-clause-part c =
    let d = (goal.at-returns-clause-part c).In_ok-look_ahead in part-inside (opened-board d) (kept d)

pub returns-clause-none_out : goal.returns-clause-none_out
unfolding opened-board
returns-clause-none_out c =
    let d = (goal.at-returns-clause-none_out c).In_ok-look_ahead in
    opened-out (opened-board d) d.in_ok-table.table d.in_ok-table.ensures.ok d.in_ok-look_ahead.ensures.ok
    d.in_ok-look_ahead.ensures.none_due

pub returns-clause-left : goal.returns-clause-left
unfolding opened-board
returns-clause-left c =
    let d = (goal.at-returns-clause-left c).In_ok-look_ahead in
    opened-left (opened-board d) d.in_ok-table.table d.in_ok-table.ensures.ok d.in_ok-look_ahead.ensures.ok
    d.in_ok-look_ahead.ensures.none_due (length-entries (opened-board d) (kept d))

-- the table's state is one that looks lead to from the opening, and what is given is what the caller said
pub returns-clause-ok : goal.returns-clause-ok
unfolding opened-board
returns-clause-ok c =
    let d = (goal.at-returns-clause-ok c).In_ok-look_ahead in
    let e = (goal.at-returns-clause-ok c).In_ok-build in
    record {
      given = given e;
      is = record {
        given = refl;
        stopped = refl;
        looked = opened-looked (opened-board d) d.in_ok-table.table d.in_ok-table.ensures.ok d.in_ok-look_ahead.ensures.ok
            d.in_ok-look_ahead.ensures.none_due;
      };
    }

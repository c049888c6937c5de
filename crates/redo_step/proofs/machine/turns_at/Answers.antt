use Rattle.std.proofs.Common.{refl, arith, inl, inr, ◌≤◌, length}
use Rattle.redo_step.proofs.ComesLemmas.{has_turns, no_turn_past, no_turn_left, no_turn_simple, no_turn_if}
use Rattle.redo_step.proofs.machine.turns_at.Goals as goal
use Rattle.redo_step.proofs.machine.turns_at.Goals.{then-index-stmts-via-then-index-stmts}
use Rattle.redo_step.proofs.machine.turns_at.Goals.{then-index-stmts-via-else-index-stmts+then-turn-as_slice}

pub returns-then-index-stmts-clause-none : goal.returns-then-index-stmts-clause-none
returns-then-index-stmts-clause-none c = elim c.then-index-stmts.branch [
  | then-index-stmts-via-then-index-stmts w ↦ no_turn_past c.args.stmts.now c.args.index c.args.values.now c.args.turn (omega arith)
  | then-index-stmts-via-else-index-stmts+then-turn-as_slice w ↦
      let past : length c.args.values.now ≤ c.args.turn = rw w.as_slice.ensures at w.if-turn-as_slice.true in
      no_turn_left c.args.stmts.now c.args.index c.args.values.now c.args.turn past
]

pub returns-in-Simple-clause-none : goal.returns-in-Simple-clause-none
returns-in-Simple-clause-none c = elim c.in-Simple.is [
  | inl a ↦ no_turn_simple c.args.stmts.now c.args.index c.index-stmts-index.result a.0 a.1 c.args.values.now c.args.turn (omega arith) c.index-stmts-index.is a.2
  | inr a ↦ no_turn_if c.args.stmts.now c.args.index c.index-stmts-index.result a.0 a.1 a.2 a.3 c.args.values.now c.args.turn (omega arith) c.index-stmts-index.is a.4
]

pub returns-in-Loop-clause-found : goal.returns-in-Loop-clause-found
returns-in-Loop-clause-found c =
    has_turns c.args.stmts.now c.args.index c.index-stmts-index.result c.in-Loop.field-0 c.in-Loop.name c.in-Loop.field-2 c.in-Loop.body _ (omega arith) c.index-stmts-index.is c.in-Loop.is refl refl c.deref.ensures.value

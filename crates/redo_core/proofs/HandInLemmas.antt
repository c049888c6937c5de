-- A piece that is handed in leaves the board in the state that the schedule says.
use Rattle.std.proofs.Common.{◌≡◌, ℕ, ◌<◌, List, length, Option, Some, None, refl, sym, ap, subst}
use Rattle.std.proofs.Common.{◌∙◌}
use Rattle.redo_build.specs.Outcomes.{IsTooMany}
use Rattle.redo_build.specs.Schedule.{IsReached, Entry, Event, State, entry_of, happens, IsOutAt}
use Rattle.redo_build.specs.Schedule.Event.{Hand_in}
use Rattle.redo_build.specs.Schedule.Phase.{Script}
use Rattle.redo_build.specs.Looking.{IsLookedOut, looked}
use Rattle.redo_rules.proofs.Public.{lawful_for}
use Rattle.redo_table.specs.Schedule.{NoneDue}
use Rattle.redo_core.specs.Views.{BoardView, PieceView, rules_on}
use Rattle.redo_core.specs.Faults.{fault_of, IsSameBuild, RefusedRunning}
use Rattle.redo_core.specs.declared.board.Stop.{Stop}
use Rattle.redo_core.specs.declared.board.Stop.TheVariants.{TooMany, Memory}
use Rattle.redo_core.specs.inside.Ends.{IsEndAt}
use Rattle.redo_core.specs.inside.Slots.{outcomes_at_limit, rules_inside, state_of, path_at, slot_entry, is_stage_out}
use Rattle.redo_core.specs.inside.Slots.{IsKept, IsOutSlotAt, MayTakeIn, IsAtRest, IsLookedOn, IsMovedOn, IsTakenIn}
use Rattle.redo_core.specs.inside.Slots.{state_after, table_state, GivenView, rules_for, Table}
use Rattle.redo_build.proofs.SoundLemmas.{IsSound, happens-sound}
use Rattle.redo_build.proofs.QuietLemmas.{is_part}
use Rattle.redo_core.proofs.EntryLemmas.{entry-there, rest-sound}
use Rattle.redo_core.specs.declared.board.Board.TheInside.{Inside}
use Rattle.redo_core.specs.declared.work.End.{End}
use Rattle.redo_core.proofs.GainSteps.{out-stage}
use Rattle.redo_core.proofs.LookLemmas.{none_due}
use Rattle.redo_core.proofs.SlotLemmas.{entry_of-slots}
use Rattle.redo_core.proofs.MakeReadySteps.{slot-of-path}
use Rattle.redo_build.proofs.ReachedLemmas.{reached-more}
use Rattle.redo_core.proofs.TakeLemmas.{distinct-inside}

-- what was out is taken in: the table is at rest, or the build needs too many
module _ (given : GivenView) (t : Table) (at : ℕ) (end : End) (may : MayTakeIn given t at end) where
  abbrev before : State
  before = table_state given t

  before-sound : IsSound (rules_for given) given.request before
  before-sound = rest-sound given t may.at_rest

  abbrev out-slot : Entry
  out-slot = slot_entry (rules_for given) (outcomes_at_limit given) (path_at t.targets at) may.slot

  was-out : IsOutAt before (path_at t.targets at) may.slot.turn
  was-out = record {
    entry = out-slot;
    at = entry-there given t t.schedule.stages may.at_rest.table given.request before-sound.standing at may.slot may.there;
    is_out = ap is_stage_out may.is_out;
    at_turn = refl;
  }

  pub taken-in-rest : (u : Table) → IsTakenIn given (state_after given Script t at) u → IsAtRest given u
  taken-in-rest u taken =
      let P : State → Type 0 = IsReached (rules_for given) given.request in
      record {
        reached = subst P (sym taken.state) (reached-more (rules_for given) given.request before
            (Hand_in (path_at t.targets at) may.slot.turn) may.at_rest.reached was-out);
        table = taken.table;
        resting = taken.resting;
      }

  pub too-many-taken : given.limits.targets < length (state_after given Script t at).entries →
      IsTooMany (rules_for given) given.request given.limits.targets
  too-many-taken many =
      let r = rules_for given in
      let event : Event = Hand_in (path_at t.targets at) may.slot.turn in
      let sound = happens-sound r (lawful_for given) given.request before event before-sound was-out in
      (is_part r (lawful_for given) given.request (happens r before event) sound given.limits.targets).too_many many

pub moved-on : (given : GivenView) (after : State) (u v : Table) → IsTakenIn given after u → IsLookedOn given u v → NoneDue v.schedule →
    IsMovedOn given after v
moved-on given after u v taken ahead none = record {
  at_rest = ahead.at_rest;
  looks = ahead.looks;
  state = ahead.state ∙ ap (looked (rules_for given) ahead.looks) taken.state;
  none_due = none;
}

module _ (b : Inside) (kept : IsKept b) (target : List ℕ) (turn at : ℕ) (o : IsOutSlotAt b.table target turn at) where
  path-is : path_at b.table.targets at ≡ target
  path-is = rw o.path refl

  entry-out : entry_of (state_of b).entries target ≡ Some (slot_entry (rules_inside b) (outcomes_at_limit b.build) target o.slot)
  entry-out = entry_of-slots (rules_inside b) (outcomes_at_limit b.build) b.table.targets b.table.slots.items at target o.slot (distinct-inside b kept) o.path o.there

  pub open-out : IsOutAt (state_of b) target turn
  open-out = record {
    entry = slot_entry (rules_inside b) (outcomes_at_limit b.build) target o.slot;
    at = entry-out;
    is_out = ap is_stage_out o.is_out;
    at_turn = o.at_turn;
  }

  pub may-take : (end : End) → IsEndAt b.build target turn end → MayTakeIn b.build b.table at end
  may-take end is =
      let P : List ℕ → Type 0 = λ p. IsEndAt b.build p o.slot.turn end in
      let Q : ℕ → Type 0 = λ n. IsEndAt b.build target n end in
      record {
        at_rest = kept.at_rest;
        slot = o.slot;
        there = o.there;
        is_out = o.is_out;
        is_end = subst P (sym path-is) (subst Q (sym o.at_turn) is);
      }

  pub after-is : state_after b.build Script b.table at ≡ happens (rules_inside b) (state_of b) (Hand_in target turn)
  after-is = let H : List ℕ → State = λ p. happens (rules_inside b) (state_of b) (Hand_in p turn) in ap H path-is

  pub moved-state : (u : Table) (moved : IsMovedOn b.build (state_after b.build Script b.table at) u) →
      state_of (record b { table = u }) ≡
      looked (rules_inside b) moved.looks (happens (rules_inside b) (state_of b) (Hand_in target turn))
  moved-state u moved = moved.state ∙ ap (looked (rules_inside b) moved.looks) after-is

  pub moved-kept : (u : Table) → IsMovedOn b.build (state_after b.build Script b.table at) u → IsKept (record b { table = u })
  moved-kept u moved = record { at_rest = moved.at_rest; none_due = moved.none_due }

  -- the board is behind the piece, with nothing more to look at
  pub moved-looked : (u : Table) → IsMovedOn b.build (state_after b.build Script b.table at) u →
      IsLookedOut (rules_inside b) (happens (rules_inside b) (state_of b) (Hand_in target turn)) (state_of (record b { table = u }))
  moved-looked u moved = record {
    looks = moved.looks;
    is = moved-state u moved;
    none_due = none_due b.build u moved.at_rest moved.none_due;
  }

-- where no slot is out for a piece, its target isn't out
pub stranger : (b : Inside) (kept : IsKept b) (target : List ℕ) (turn : ℕ) → ((at : ℕ) → IsOutSlotAt b.table target turn at → ⊥) → IsOutAt (state_of b) target turn → ⊥
stranger b kept target turn none out =
    let found = slot-of-path (rules_inside b) (outcomes_at_limit b.build) b.table.targets b.table.slots.items target out.entry out.at in
    none found.0 (record {
      slot = found.1;
      path = found.2;
      there = found.3;
      is_out = out-stage found.1.stage (sym (ap (λ (x : Entry). x.is_out) found.4) ∙ out.is_out);
      at_turn = sym (ap (λ (x : Entry). x.turn) found.4) ∙ out.at_turn;
    })

pub none-stopped : (o : Option Stop) → ((s : Stop) → o ≡ Some s → ⊥) → o ≡ None
none-stopped None h = refl
none-stopped (Some s) h = absurd (h s refl)

-- what a board that ran answers once it has stopped
pub refused-after : (old new : BoardView) (piece : PieceView) (stop : Stop) → IsOutAt old.state piece.target piece.turn → IsSameBuild old new → new.stopped ≡ Some stop →
    (stop ≡ TooMany → IsTooMany (rules_on old) old.given.request old.given.limits.targets) → RefusedRunning old new piece (fault_of stop)
refused-after old new piece TooMany out same is many = (same, is, many refl, out)
refused-after old new piece Memory out same is many = (same, is, out)

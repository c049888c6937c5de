use Rattle.std.proofs.Common.{◌≡◌, ℕ, List, Option, Some, None, Err, MatchOption, refl}
use Rattle.std.proofs.Common.{sym, ap, subst, ◌∙◌}
use Rattle.redo_build.specs.Schedule.{IsOutAt}
use Rattle.redo_core.specs.inside.Ends.{IsEndAt}
use Rattle.redo_core.specs.Faults.{fault_of, Refused, RefusedRunning}
use Rattle.redo_core.specs.inside.Slots.{IsKept, IsOutSlotAt, state_of, GivenView}
use Rattle.redo_core.specs.Views.{BoardView, PieceView, IsHandedIn}
use Rattle.redo_core.specs.declared.board.Stop.{Stop}
use Rattle.redo_core.specs.declared.board.Stop.TheVariants.{TooMany}
use Rattle.redo_core.specs.declared.board.HandFault.{HandFault}
use Rattle.redo_core.specs.declared.board.HandFault.TheVariants.{Stranger}
use Rattle.redo_core.proofs.SlotLemmas.{IsNone-from}
use Rattle.redo_core.proofs.TakeLemmas.{view_of, distinct-inside, part-inside, length-entries}
use Rattle.redo_core.proofs.BoardCountLemmas.{one_fewer, left_no_more}
use Rattle.redo_core.proofs.HandInLemmas.{moved-kept, moved-looked, moved-state, open-out, may-take, stranger}
use Rattle.redo_core.proofs.HandInLemmas.{none-stopped, refused-after}
use Rattle.redo_core.proofs.board.Board.hand_in.Goals as goal
use Rattle.redo_core.proofs.board.Board.hand_in.Goals.{In_default, In-Some-out_at}

on : (c : In_default) → c.self.inside.stopped ≡ None
on c = none-stopped c.self.inside.stopped c.in_default.not-Some

kept : (c : In_default) → IsKept c.self.inside
kept c = c.self.invariant.kept (IsNone-from c.self.inside.stopped (ap Rattle.std.specs.Prelude.is_some (on c)))

pub out_at-requires-clause-distinct : goal.out_at-requires-clause-distinct
out_at-requires-clause-distinct c =
    let d = (goal.at-out_at-requires-clause-distinct c).In_default in
    distinct-inside c.self.inside (kept d)

pub returns-in_default-out_at-clause-err : goal.returns-in_default-out_at-clause-err
returns-in_default-out_at-clause-err c =
    let d = (goal.at-returns-in_default-out_at-clause-err c).In_default in
    let b = c.self.inside in
    let piece : PieceView = c.args.piece in
    let N : List ℕ → ℕ → Type 0 = λ p n. (at : ℕ) → IsOutSlotAt b.table p n at → ⊥ in
    let A : List ℕ → Type 0 = λ p. N p c.turn-turn.result in
    let B : ℕ → Type 0 = λ n. N piece.target n in
    let none = subst B c.turn-turn.ensures (subst A c.target.ensures c.in_default-out_at.ensures) in
    let P : BoardView → Type 0 = λ v. Refused v v piece (Stranger piece) in
    let Q : Option Stop → Type 0 = λ o. MatchOption o (RefusedRunning (view_of b) (view_of b) piece (Stranger piece)) (λ stop. (Stranger piece ≡ fault_of stop) × (view_of b ≡ view_of b)) in
    subst P c.self.view_is (subst Q (sym (on d)) (refl, refl, stranger b (kept d) piece.target piece.turn none))

slot : (c : In-Some-out_at) → IsOutSlotAt c.self.inside.table c.args.piece.target c.args.piece.turn c.in-Some-out_at.at
slot c =
    let A : List ℕ → Type 0 = λ p. IsOutSlotAt c.self.inside.table p c.turn-turn.result c.in-Some-out_at.at in
    let B : ℕ → Type 0 = λ n. IsOutSlotAt c.self.inside.table c.args.piece.target n c.in-Some-out_at.at in
    subst B c.turn-turn.ensures (subst A c.target.ensures c.in-Some-out_at.ensures)

pub move_on-requires : goal.move_on-requires
move_on-requires c =
    let d = (goal.at-move_on-requires c).In_default in
    let e = (goal.at-move_on-requires c).In-Some-out_at in
    let b = c.self.inside in
    let given : c.args.piece.given ≡ b.build = c.requires ∙ ap (λ (v : BoardView). v.given) (sym c.self.view_is) in
    let A : GivenView → Type 0 = λ g. IsEndAt g c.args.piece.target c.args.piece.turn c.into_end.result in
    may-take b (kept d) c.args.piece.target c.args.piece.turn c.in-Some-out_at.at (slot e) c.into_end.result (subst A given c.into_end.ensures)

pub invariant_of-self : goal.invariant_of-self
invariant_of-self c =
    let d = (goal.at-invariant_of-self c).In_default in
    let e = (goal.at-invariant_of-self c).In-Some-out_at in
    record {
      kept = λ _. moved-kept c.self.inside (kept d) c.args.piece.target c.args.piece.turn c.in-Some-out_at.at (slot e) c.move_on.new.self c.in-Ok.ensures.ok;
      too_many = c.self.invariant.too_many;
    }

pub invariant_of-self-in-Err : goal.invariant_of-self-in-Err
invariant_of-self-in-Err c =
    let d = (goal.at-invariant_of-self-in-Err c).In_default in
    let e = (goal.at-invariant_of-self-in-Err c).In-Some-out_at in
    record {
      kept = λ stopped. absurd (let no : Rattle.std.specs.Prelude.is_some (Some c.in-Err.stop) ≡ Rattle.std.proofs.Common.false = stopped in cc);
      too_many = λ is.
          let same : c.in-Err.stop ≡ TooMany = cc in
          c.in-Err.ensures.too_many (ap Err same);
    }

pub returns-in-Ok-clause-open : goal.returns-in-Ok-clause-open
returns-in-Ok-clause-open c =
    let d = (goal.at-returns-in-Ok-clause-open c).In_default in
    let e = (goal.at-returns-in-Ok-clause-open c).In-Some-out_at in
    let P : BoardView → Type 0 = λ v. IsOutAt v.state c.args.piece.target c.args.piece.turn in
    subst P c.self.view_is (open-out c.self.inside (kept d) c.args.piece.target c.args.piece.turn c.in-Some-out_at.at (slot e))

pub returns-in-Ok-clause-ok : goal.returns-in-Ok-clause-ok
returns-in-Ok-clause-ok c =
    let d = (goal.at-returns-in-Ok-clause-ok c).In_default in
    let e = (goal.at-returns-in-Ok-clause-ok c).In-Some-out_at in
    let b = c.self.inside in
    let P : BoardView → Type 0 = λ v. IsHandedIn v c.args.piece.target c.args.piece.turn
    (view_of (record b { table = c.move_on.new.self })) in
    subst P c.self.view_is (record {
      given = refl;
      stopped = refl;
      looked = moved-looked b (kept d) c.args.piece.target c.args.piece.turn c.in-Some-out_at.at (slot e) c.move_on.new.self
          c.in-Ok.ensures.ok;
    })

pub returns-in-Ok-clause-within : goal.returns-in-Ok-clause-within
returns-in-Ok-clause-within c =
    let new = (invariant_of-self c).kept (IsNone-from c.self.inside.stopped (ap Rattle.std.specs.Prelude.is_some (on (goal.at-returns-in-Ok-clause-within c).In_default))) in
    length-entries _ new

pub returns-in-Ok-clause-part : goal.returns-in-Ok-clause-part
returns-in-Ok-clause-part c =
    let new = (invariant_of-self c).kept (IsNone-from c.self.inside.stopped (ap Rattle.std.specs.Prelude.is_some (on (goal.at-returns-in-Ok-clause-part c).In_default))) in
    part-inside _ new

pub returns-in-Err-clause-err : goal.returns-in-Err-clause-err
returns-in-Err-clause-err c =
    let d = (goal.at-returns-in-Err-clause-err c).In_default in
    let e = (goal.at-returns-in-Err-clause-err c).In-Some-out_at in
    let b = c.self.inside in
    let new : BoardView = view_of (record b { table = c.move_on.new.self; stopped = Some c.in-Err.stop }) in
    let out = open-out b (kept d) c.args.piece.target c.args.piece.turn c.in-Some-out_at.at (slot e) in
    let running = refused-after (view_of b) new c.args.piece c.in-Err.stop out refl refl (λ is.
    c.in-Err.ensures.too_many (ap Err is)) in
    let F : HandFault → Type 0 = λ f. Refused c.args.self.now new c.args.piece f in
    let P : BoardView → Type 0 = λ v. Refused v new c.args.piece (fault_of c.in-Err.stop) in
    let Q : Option Stop → Type 0 = λ o. MatchOption o (RefusedRunning (view_of b) new c.args.piece (fault_of c.in-Err.stop)) (λ stop. (fault_of c.in-Err.stop ≡ fault_of stop) × (new ≡ view_of b)) in
    subst F (sym c.from-in-Err.ensures) (subst P c.self.view_is (subst Q (sym (on d)) running))

pub returns-in-Ok-clause-one_fewer : goal.returns-in-Ok-clause-one_fewer
returns-in-Ok-clause-one_fewer c =
    let d = (goal.at-returns-in-Ok-clause-one_fewer c).In_default in
    let e = (goal.at-returns-in-Ok-clause-one_fewer c).In-Some-out_at in
    let b = c.self.inside in
    one_fewer b (kept d) (ap Rattle.std.specs.Prelude.is_some (on d)) c.args.piece.target c.args.piece.turn
    (open-out b (kept d) c.args.piece.target c.args.piece.turn c.in-Some-out_at.at (slot e)) _ c.self.view_is
    c.in-Ok.ensures.ok.looks (state_of (record b { table = c.move_on.new.self })) (moved-state b (kept d) c.args.piece.target c.args.piece.turn c.in-Some-out_at.at (slot e) c.move_on.new.self c.in-Ok.ensures.ok)

pub returns-in-Ok-clause-left : goal.returns-in-Ok-clause-left
returns-in-Ok-clause-left c =
    let d = (goal.at-returns-in-Ok-clause-left c).In_default in
    let e = (goal.at-returns-in-Ok-clause-left c).In-Some-out_at in
    let b = c.self.inside in
    left_no_more b (kept d) (ap Rattle.std.specs.Prelude.is_some (on d)) c.args.piece.target c.args.piece.turn
    (open-out b (kept d) c.args.piece.target c.args.piece.turn c.in-Some-out_at.at (slot e)) _ c.self.view_is
    c.in-Ok.ensures.ok.looks (state_of (record b { table = c.move_on.new.self })) (moved-state b (kept d) c.args.piece.target c.args.piece.turn c.in-Some-out_at.at (slot e) c.move_on.new.self c.in-Ok.ensures.ok)
    (returns-in-Ok-clause-within c)

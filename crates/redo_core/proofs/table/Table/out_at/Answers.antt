use Rattle.std.proofs.Common.{◌≡◌, ◌<◌, ℕ, rules, length, slice_get, Some, true, sym, ap, subst, ◌∙◌, arith}
use Rattle.redo_names.proofs.PathLemmas.{place-among}
use Rattle.std.proofs.lemmas.Option.{slice_get_within}
use Rattle.redo_table.proofs.TargetLemmas.{read-there}
use Rattle.redo_core.proofs.NewlyReadyLemmas.{distinct-place}
use Rattle.std.proofs.lemmas.Bool.{both_ways}
use Rattle.redo_core.specs.inside.Slots.{is_stage_out, Slot}
use Rattle.redo_core.proofs.GainSteps.{out-stage}
use Rattle.redo_core.proofs.table.Table.out_at.Goals as goal
use Rattle.redo_core.proofs.table.Table.out_at.Goals.{else-is_out-via-then-is_out+else-slot-turn, else-is_out-via-else-is_out}

pub returns-in_default : goal.returns-in_default
returns-in_default c = λ at o. c.in_default.ensures (place-among c.args.self.now.targets at c.args.target.now o.path)

pub index-slot-requires : goal.index-slot-requires
index-slot-requires c =
    let below : c.in-Some.at < length c.args.self.now.slots.items =
    omega (arith, c.requires.one_each, slice_get_within c.args.self.now.targets c.in-Some.at c.args.target.now c.in-Some.ensures) in
    search rules

pub returns-then-slot-turn : goal.returns-then-slot-turn
returns-then-slot-turn c =
    let below : c.in-Some.at < length c.args.self.now.slots.items =
    omega (arith, c.requires.one_each, slice_get_within c.args.self.now.targets c.in-Some.at c.args.target.now c.in-Some.ensures) in
    record {
      slot = c.index-slot.result.now;
      path = c.in-Some.ensures;
      there = read-there c.args.self.now.slots.items c.in-Some.at c.index-slot.result.now below c.index-slot.ensures;
      is_out = out-stage c.index-slot.result.now.stage (sym c.if-is_out.ensures);
      at_turn = c.if-slot-turn.true;
    }

pub returns : goal.returns
returns c = λ at o.
    let below : c.in-Some.at < length c.args.self.now.slots.items =
    omega (arith, c.requires.one_each, slice_get_within c.args.self.now.targets c.in-Some.at c.args.target.now c.in-Some.ensures) in
    let there = read-there c.args.self.now.slots.items c.in-Some.at c.index-slot.result.now below c.index-slot.ensures in
    let same : at ≡ c.in-Some.at = distinct-place c.args.self.now.targets at c.in-Some.at c.args.target.now c.requires.distinct o.path c.in-Some.ensures in
    let P : ℕ → Type 0 = λ k. slice_get c.args.self.now.slots.items k ≡ Some o.slot in
    let both : Some o.slot ≡ Some c.index-slot.result.now = sym (subst P same o.there) ∙ there in
    let slot : o.slot ≡ c.index-slot.result.now = cc in
    elim c.else-is_out.branch [
      | else-is_out-via-then-is_out+else-slot-turn w ↦ w.if-slot-turn.false (sym (ap (λ (y : Slot). y.turn) slot) ∙ o.at_turn)
      | else-is_out-via-else-is_out w ↦
          let out : is_stage_out c.index-slot.result.now.stage ≡ true = sym (ap (λ (y : Slot). is_stage_out y.stage) slot) ∙ ap is_stage_out o.is_out in
          both_ways _ (sym w.if-is_out.ensures) out
    ]

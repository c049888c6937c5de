use Rattle.std.proofs.Common.{rules, ◌≡◌, ◌<◌, ◌≤◌, length, refl}
use Rattle.redo_names.proofs.PathLemmas.{place-among}
use Rattle.redo_core.proofs.EnterSteps.{entered-new, entered-old, entered-room, number-new, full, room-left}
use Rattle.redo_core.proofs.table.Table.enter.Goals as goal

pub returns-in-Some-clause-ok : goal.returns-in-Some-clause-ok
returns-in-Some-clause-ok c = entered-old c.args.build.now c.args.self.now c.args.path.now c.requires.table
    (place-among c.args.self.now.targets c.in-Some.at c.args.path.now c.in-Some.ensures)

pub returns-in-Some-clause-too_many : goal.returns-in-Some-clause-too_many
returns-in-Some-clause-too_many c = (
  λ is. absurd cc,
  λ many. absurd (entered-room c.args.build.now c.args.self.now c.args.self.now c.args.path.now
      (entered-old c.args.build.now c.args.self.now c.args.path.now c.requires.table
      (place-among c.args.self.now.targets c.in-Some.at c.args.path.now c.in-Some.ensures)) many),
)

pub returns-then-len-targets-clause-too_many : goal.returns-then-len-targets-clause-too_many
returns-then-len-targets-clause-too_many c =
    let most : c.args.build.now.limits.targets ≤ length c.args.self.now.slots.items = search rules in
    (λ _. full c.args.build.now c.args.self.now c.args.path.now c.requires.table c.in_default.ensures most, λ _. refl)

pub returns-in-Ok-clause-ok : goal.returns-in-Ok-clause-ok
returns-in-Ok-clause-ok c =
    let room : length c.args.self.now.slots.items < c.args.build.now.limits.targets = search rules in
    entered-new c.args.build.now c.args.self.now c.enter_new.new.self c.args.path.now c.requires.table
    room c.in_default.ensures c.in-Ok.ensures

pub returns-in-Ok-clause-number : goal.returns-in-Ok-clause-number
returns-in-Ok-clause-number c =
    let room : length c.args.self.now.slots.items < c.args.build.now.limits.targets = search rules in
    let end : c.len-at.result ≡ length c.args.self.now.slots.items = search rules in
    number-new c.args.build.now c.args.self.now c.enter_new.new.self c.args.path.now c.requires.table
    room c.in_default.ensures c.in-Ok.ensures c.len-at.result end

pub returns-in-Ok-clause-too_many : goal.returns-in-Ok-clause-too_many
returns-in-Ok-clause-too_many c =
    let room : length c.args.self.now.slots.items < c.args.build.now.limits.targets = search rules in (
      λ is. absurd cc,
      λ many. absurd (room-left c.args.build.now c.args.self.now c.args.path.now c.requires.table room many),
    )

pub returns-in-Err-clause-too_many : goal.returns-in-Err-clause-too_many
returns-in-Err-clause-too_many c =
    let room : length c.args.self.now.slots.items < c.args.build.now.limits.targets = search rules in (
      λ is. absurd cc,
      λ many. absurd (room-left c.args.build.now c.args.self.now c.args.path.now c.requires.table room many),
    )

use Rattle.std.proofs.Common.{ℕ, List, ◌≡◌, ◌<◌, refl, sym, ap, subst, ◌∙◌, inl, inr, slice_set, length, Some, length-set, arith, rules}
use Rattle.std.specs.Box.{with_value}
use Rattle.std.specs.Vec.{with_item}
use Rattle.std.proofs.lemmas.Result.{on_ok_weaker}
use Rattle.redo_core.specs.Views.{WorkView}
use Rattle.redo_core.specs.inside.Slots.{GainsOne, GoesOnWith, IsAnsweredAs, IsFallen, path_at, InCheck, Slot, Due}
use Rattle.redo_core.specs.inside.Slots.{Ready, Table}
use Rattle.std.proofs.lemmas.Option.{slice_get_within}
use Rattle.redo_table.proofs.TargetLemmas.{read-there}
use Rattle.redo_core.proofs.ResumeSteps.{answer-there, answered-here, check-within, held-due, held-fallen, held-ready}
use Rattle.redo_core.proofs.TableLemmas.{put-again}
use Rattle.redo_core.proofs.table.Table.resume.Goals as goal
use Rattle.redo_core.proofs.table.Table.resume.Goals.{After-replace-stage, In-Checking, In_ok-stands}

abbrev gone : After-replace-stage → Slot
gone c = record {
  looks = c.index_mut.result.now.looks;
  turn = c.index_mut.result.now.turn;
  stage = c.replace-stage.new.dest;
}

abbrev left : After-replace-stage → Table
left c = record c.args.self.now { slots = with_item c.args.self.now.slots c.args.at (gone c) }

answer : (c : In-Checking) → IsAnsweredAs c.args.build.now c.args.self.now c.args.at c.args.place c.index_mut.result.now c.in-Checking.awaiting
answer c =
    let below = slice_get_within c.args.self.now.slots.items c.args.at c.requires.answered.0 c.requires.answered.2.there in
    answered-here c.args.build.now c.args.self.now c.args.at c.args.place c.index_mut.result.now c.in-Checking.awaiting c.requires.answered
    (read-there c.args.self.now.slots.items c.args.at c.index_mut.result.now below c.index_mut.ensures.value)
    (sym c.replace-stage.ensures.value ∙ c.in-Checking.is)

-- the slot that is written to
within : (c : In-Checking) → c.args.at < length (slice_set c.args.self.now.slots.items c.args.at (gone (goal.at-In-Checking c).After-replace-stage))
within c = omega (
  arith,
  length-set c.args.self.now.slots.items c.args.at (gone (goal.at-In-Checking c).After-replace-stage),
  slice_get_within c.args.self.now.slots.items c.args.at c.index_mut.result.now (answer c).there,
)

-- the check with its answer
abbrev held : In_ok-stands → InCheck
held c = record { rule = c.deref_mut.result.now.rule; check = c.goes_on.new.check; facts = c.gain_one.new.facts }

gains : (c : In_ok-stands) → GainsOne (left (goal.at-In_ok-stands c).After-replace-stage) c.args.place c.in-Checking.awaiting.held.value.facts c.gain_one.new.facts
gains c =
    let G : InCheck → Type 0 = λ h. GainsOne (left (goal.at-In_ok-stands c).After-replace-stage) c.args.place h.facts c.gain_one.new.facts in
    subst G c.deref_mut.ensures.value c.in_ok-gain_one.ensures

goes : (c : In_ok-stands) → GoesOnWith c.args.build.now (left (goal.at-In_ok-stands c).After-replace-stage) c.args.place c.in-Checking.awaiting.held.value.check c.goes_on.new.check c.in_ok-stands.stands
goes c =
    let W : InCheck → Type 0 = λ h. GoesOnWith c.args.build.now (left (goal.at-In_ok-stands c).After-replace-stage) c.args.place h.check c.goes_on.new.check c.in_ok-stands.stands in
    subst W c.deref_mut.ensures.value c.in_ok-stands.ensures

pub gain_one-requires : goal.gain_one-requires
gain_one-requires c =
    let d = (goal.at-gain_one-requires c).After-replace-stage in
    answer-there c.args.build.now c.args.self.now c.args.at c.args.place c.index_mut.result.now c.in-Checking.awaiting (answer (goal.at-gain_one-requires c).In-Checking)
    (left d) (gone d) c.replace-stage.ensures.after refl

pub goes_on-requires-clause-decided : goal.goes_on-requires-clause-decided
goes_on-requires-clause-decided c =
    let d = (goal.at-goes_on-requires-clause-decided c).After-replace-stage in
    answer-there c.args.build.now c.args.self.now c.args.at c.args.place c.index_mut.result.now c.in-Checking.awaiting (answer (goal.at-goes_on-requires-clause-decided c).In-Checking)
    (left d) (gone d) c.replace-stage.ensures.after refl

pub goes_on-requires-clause-within : goal.goes_on-requires-clause-within
goes_on-requires-clause-within c =
    rw c.deref_mut.ensures.value (check-within c.args.build.now c.args.self.now c.args.at c.args.place c.index_mut.result.now c.in-Checking.awaiting
    (answer (goal.at-goes_on-requires-clause-within c).In-Checking))

pub returns-then-stands : goal.returns-then-stands
returns-then-stands c =
    let given = c.args.build.now in
    let t = c.args.self.now in
    let slot = c.index_mut.result.now in
    let awaiting = c.in-Checking.awaiting in
    let d = (goal.at-returns-then-stands c).After-replace-stage in
    let e = (goal.at-returns-then-stands c).In_ok-stands in
    let f = (goal.at-returns-then-stands c).In-Checking in
    let answered = answer f in
    let rule = ap (λ (h : InCheck). h.rule) c.deref_mut.ensures.value in
    let again = read-there (slice_set t.slots.items c.args.at (gone d)) c.args.at c.index_mut-then-stands.result.now (within f) c.index_mut-then-stands.ensures.value in
    let box = with_value awaiting.held (held e) in
    on_ok_weaker c.make_due.result (λ now. record {
      old = slot;
      awaiting = awaiting;
      stage = Due box;
      there = answered.there;
      was = answered.was;
      is_open = inl refl;
      fits = held-due given t c.args.at c.args.place slot awaiting answered (left d) (gone d) c.replace-stage.ensures.after refl
          c.gain_one.new.facts (gains e) c.goes_on.new.check c.in_ok-stands.stands (goes e) (held e) rule refl refl c.if-stands.true;
      deps = (goes e).asked;
      targets = refl;
      slots = put-again t.slots.items c.args.at slot (gone d) c.index_mut-then-stands.result.now answered.there
          (ap (λ st. record slot { stage = st }) c.replace-stage.ensures.after) again (Due box);
      schedule = now;
    }) c.make_due.ensures

pub at-requires : goal.at-requires
at-requires c =
    let path = (answer (goal.at-at-requires c).In-Checking).path in
    let below : c.args.at < length c.args.self.now.targets = slice_get_within c.args.self.now.targets c.args.at (path_at c.args.self.now.targets c.args.at) path in
    below

pub fallen-requires : goal.fallen-requires
fallen-requires c =
    let given = c.args.build.now in
    let t = c.args.self.now in
    let d = (goal.at-fallen-requires c).After-replace-stage in
    let e = (goal.at-fallen-requires c).In_ok-stands in
    let answered = answer (goal.at-fallen-requires c).In-Checking in
    let rule = ap (λ (h : InCheck). h.rule) c.deref_mut.ensures.value in
    let paths : Some c.at.result.now ≡ Some (path_at t.targets c.args.at) = sym c.at.ensures ∙ answered.path in
    let path : c.at.result.now ≡ path_at t.targets c.args.at = cc in
    let P : List ℕ → Type 0 = λ p. IsFallen given p (held e) in
    subst P (sym (c.in_ok-target.ensures.cases ∙ path)) (held-fallen given t c.args.at c.args.place c.index_mut.result.now c.in-Checking.awaiting answered (left d) (gone d) c.replace-stage.ensures.after refl
    c.gain_one.new.facts (gains e) c.goes_on.new.check c.in_ok-stands.stands (goes e) (held e) rule refl refl c.if-stands.false)

pub index_mut-requires-2 : goal.index_mut-requires-2
index_mut-requires-2 c =
    let below : c.args.at < length c.args.self.now.slots.items = slice_get_within c.args.self.now.slots.items c.args.at c.requires.answered.0 c.requires.answered.2.there in
    search rules

pub returns : goal.returns
returns c =
    let given = c.args.build.now in
    let t = c.args.self.now in
    let slot = c.index_mut.result.now in
    let awaiting = c.in-Checking.awaiting in
    let d = (goal.at-returns c).After-replace-stage in
    let e = (goal.at-returns c).In_ok-stands in
    let f = (goal.at-returns c).In-Checking in
    let answered = answer f in
    let rule = ap (λ (h : InCheck). h.rule) c.deref_mut.ensures.value in
    let again = read-there (slice_set t.slots.items c.args.at (gone d)) c.args.at c.index_mut-2.result.now (within f) c.index_mut-2.ensures.value in
    let paths : Some c.at.result.now ≡ Some (path_at t.targets c.args.at) = sym c.at.ensures ∙ answered.path in
    let path : c.at.result.now ≡ path_at t.targets c.args.at = cc in
    let work = c.in_ok-work.work in
    let is = c.in_ok-work.ensures in
    let deps = ap (λ (x : WorkView). x.deps) is in
    on_ok_weaker c.make_ready.result (λ now. record {
      old = slot;
      awaiting = awaiting;
      stage = Ready work;
      there = answered.there;
      was = answered.was;
      is_open = inr refl;
      fits = held-ready given t c.args.at c.args.place slot awaiting answered (left d) (gone d) c.replace-stage.ensures.after refl
          c.gain_one.new.facts (gains e) c.goes_on.new.check c.in_ok-stands.stands (goes e) (held e) rule refl refl c.if-stands.false
          work (ap (λ (x : WorkView). x.given) is) (ap (λ (x : WorkView). x.target) is ∙ c.in_ok-target.ensures.cases ∙ path) (ap (λ (x : WorkView). x.turn) is) deps;
      deps = deps ∙ (goes e).asked;
      targets = refl;
      slots = put-again t.slots.items c.args.at slot (gone d) c.index_mut-2.result.now answered.there
          (ap (λ st. record slot { stage = st }) c.replace-stage.ensures.after) again (Ready work);
      schedule = now;
    }) c.make_ready.ensures

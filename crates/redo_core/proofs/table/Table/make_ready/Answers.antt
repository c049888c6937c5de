use Rattle.std.proofs.Common.{◌≡◌, ◌<◌, refl, sym, ap, subst, ◌∙◌, slice_get, slice_set, length, Some}
use Rattle.std.proofs.Common.{length-set, arith, rules}
use Rattle.std.specs.Arc.{arc_value}
use Rattle.std.specs.Vec.{with_item}
use Rattle.std.proofs.lemmas.Result.{on_ok_weaker}
use Rattle.redo_record.specs.Entries.{with_all}
use Rattle.redo_core.specs.inside.Slots.{IsFedAs, Gains, Slot, Ready}
use Rattle.redo_core.specs.inside.Works.{all_asked, job_deps}
use Rattle.redo_core.specs.declared.work.Begun.{Begun}
use Rattle.redo_core.specs.Views.{WorkView}
use Rattle.std.proofs.lemmas.Option.{slice_get_within}
use Rattle.redo_table.proofs.TargetLemmas.{read-there}
use Rattle.redo_core.proofs.TableLemmas.{put-again}
use Rattle.redo_core.proofs.MakeReadySteps.{fed-here, gain-decided, fed-work}
use Rattle.redo_core.proofs.table.Table.make_ready.Goals as goal
use Rattle.redo_core.proofs.table.Table.make_ready.Goals.{After-replace-stage}

there : (c : After-replace-stage) → slice_get c.args.self.now.slots.items c.args.at ≡ Some c.index_mut-slot.result.now
there c = read-there c.args.self.now.slots.items c.args.at c.index_mut-slot.result.now
    (slice_get_within c.args.self.now.slots.items c.args.at c.requires.fed.0 c.requires.fed.2.there) c.index_mut-slot.ensures.value

gone : (c : After-replace-stage) → Slot
gone c = record { looks = c.index_mut-slot.result.now.looks; turn = c.index_mut-slot.result.now.turn; stage = c.replace-stage.new.dest }

pub gain-requires : goal.gain-requires
unfolding gone
gain-requires c =
    let t = c.args.self.now in
    let slot = c.index_mut-slot.result.now in
    let d = (goal.at-gain-requires c).After-replace-stage in
    let fed : IsFedAs c.args.build.now t c.args.at c.args.on.now slot c.in-Waiting.begun =
    fed-here c.args.build.now t c.args.at c.args.on.now slot c.in-Waiting.begun c.requires.fed (there d) (sym c.replace-stage.ensures.value ∙ c.in-Waiting.is) in
    gain-decided c.args.build.now t c.args.at c.args.on.now slot c.in-Waiting.begun fed
    (record t { slots = with_item t.slots c.args.at (gone d) }) (gone d) c.replace-stage.ensures.after refl refl

pub index_mut-slot-requires-2 : goal.index_mut-slot-requires-2
index_mut-slot-requires-2 c =
    let below : c.args.at < length c.args.self.now.slots.items = slice_get_within c.args.self.now.slots.items c.args.at c.requires.fed.0 c.requires.fed.2.there in
    search rules

pub of-requires : goal.of-requires
unfolding gone
of-requires c =
    let t = c.args.self.now in
    let slot = c.index_mut-slot.result.now in
    let d = (goal.at-of-requires c).After-replace-stage in
    let fed : IsFedAs c.args.build.now t c.args.at c.args.on.now slot c.in-Waiting.begun =
    fed-here c.args.build.now t c.args.at c.args.on.now slot c.in-Waiting.begun c.requires.fed (there d) (sym c.replace-stage.ensures.value ∙ c.in-Waiting.is) in
    let inside : c.deref_mut.result.now ≡ c.in-Waiting.begun.value = c.deref_mut.ensures.value in
    let own : arc_value c.in_ok-own.own ≡ c.args.build.now = c.in_ok-own.ensures in
    let u = record t { slots = with_item t.slots c.args.at (gone d) } in
    let Q : Begun → Type 0 = λ b. Gains u c.args.on.now b.facts c.gain.new.facts in
    rw (own, inside) (fed-work c.args.build.now t c.args.at c.args.on.now slot c.in-Waiting.begun fed
    u (gone d) c.replace-stage.ensures.after refl refl c.gain.new.facts (subst Q inside c.in_ok-gain.ensures))

pub returns : goal.returns
unfolding gone
returns c =
    let t = c.args.self.now in
    let slot = c.index_mut-slot.result.now in
    let d = (goal.at-returns c).After-replace-stage in
    let len = length-set t.slots.items c.args.at (gone d) in
    let again = read-there (slice_set t.slots.items c.args.at (gone d)) c.args.at c.index_mut-slot-2.result.now
    (omega (arith, len, slice_get_within t.slots.items c.args.at slot (there d))) c.index_mut-slot-2.ensures.value in
    on_ok_weaker c.make_ready.result (λ now. record {
      old = slot;
      begun = c.in-Waiting.begun;
      work = c.of.result;
      there = there d;
      was = sym c.replace-stage.ensures.value ∙ c.in-Waiting.is;
      same = (
        ap (λ (w : WorkView). w.given) c.of.ensures ∙ c.in_ok-own.ensures,
        ap (λ (w : WorkView). w.target) c.of.ensures ∙ ap (λ (b : Begun). b.job.target) c.deref_mut.ensures.value,
        ap (λ (w : WorkView). w.turn) c.of.ensures ∙ ap (λ (b : Begun). b.job.turn) c.deref_mut.ensures.value,
        ap (λ (w : WorkView). w.deps) c.of.ensures ∙ ap (λ ds. with_all ds (job_deps c.deref_mut.result.now.job)) c.in_ok-gain.ensures.asked ∙
            ap (λ (b : Begun). all_asked b.job b.facts) c.deref_mut.ensures.value,
      );
      targets = refl;
      slots = put-again t.slots.items c.args.at slot (gone d) c.index_mut-slot-2.result.now (there d)
          (ap (λ st. record slot { stage = st }) c.replace-stage.ensures.after) again (Ready c.of.result);
      schedule = now;
    }) c.make_ready.ensures

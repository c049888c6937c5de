-- What is ready goes behind the queue, and the table shows what the schedule enqueues.
use Rattle.std.proofs.Common.{map, ◌≡◌, ℕ, ◌+◌, List, [], ◌∷◌, ◌++◌, Some}
use Rattle.std.proofs.Common.{inl, inr, refl, sym, ap, subst, ◌∙◌}
use Rattle.std.proofs.Common.{arith, Vec, Global}
use Rattle.std.proofs.lemmas.Bool.{cases_lt}
use Rattle.std.proofs.lemmas.List.{map-append}
use Rattle.redo_record.specs.Paths.{AreDistinct}
use Rattle.redo_build.specs.Rules.{Rules}
use Rattle.redo_build.specs.Schedule.{Entry, State, enqueued}
use Rattle.redo_build.specs.inside.Standing.{AreStanding}
use Rattle.redo_table.specs.Schedule.{StageView, EachLacks, IsQueue, stage_at, times}
use Rattle.redo_table.specs.Schedule.StageView.{InHand as AtHand, Ready as AtReady}
use Rattle.redo_table.proofs.NumberLemmas.{times-append}
use Rattle.redo_core.specs.inside.Slots.{AreEnqueued, IsPutBackThere, IsResting, IsTakenIn, IsTableOf, path_at}
use Rattle.redo_core.specs.inside.Slots.{table_entries, table_state, GivenView, rules_for, Slot, Table}
use Rattle.redo_core.proofs.EntryLemmas.{keys-distinct}
use Rattle.redo_core.proofs.NewlyReadyLemmas.{newly_ready-paths}
use Rattle.redo_core.proofs.PlaceLemmas.{IsPlace, increasing-ascends, place-times}
use Rattle.std.proofs.lemmas.Option.{slice_get_within}
use Rattle.redo_table.proofs.TargetLemmas.{there-below}

module _ (given : GivenView) (request : List (List ℕ)) (t u : Table) (table : IsTableOf given t)
    (standing : AreStanding (rules_for given) request (table_entries given t))
    (lacks : EachLacks t.schedule.stages) (w : AreEnqueued t u) where
  abbrev r : Rules
  r = rules_for given

  distinct : AreDistinct t.targets
  distinct = keys-distinct given t t.schedule.stages table request standing

  slots : u.slots.items ≡ t.slots.items
  slots = ap (λ (v : Vec Slot Global). v.items) w.slots

  pub enqueued-table : IsTableOf given u
  enqueued-table = rw (w.targets, slots, w.enqueued.stages) table

  pub enqueued-resting : ((k : ℕ) → stage_at t.schedule k ≡ Some AtHand → ⊥) → IsResting u.schedule
  enqueued-resting put_back =
      let before : (k : ℕ) (s : StageView) → stage_at u.schedule k ≡ Some s → stage_at t.schedule k ≡ Some s =
      λ k s h. sym (ap (λ ss. Rattle.std.proofs.Common.slice_get ss k) w.enqueued.stages) ∙ h in
      record {
        lacks = subst EachLacks (sym w.enqueued.stages) lacks;
        put_back = λ k h. put_back k (before k AtHand h);
        queue = w.after;
        queued = λ k h.
            let behind = ap (times k) w.enqueued.behind ∙ times-append k t.schedule.ready w.enqueued.more in
            elim (cases_lt 0 (times k t.schedule.ready)) [
              | inl queued ↦ omega (arith, behind, queued)
              | inr none ↦ omega (arith, behind, (w.enqueued.are_more k).1 (before k AtReady h, omega (arith, none)))
            ];
      }

  pub enqueued-state : table_state given u ≡ enqueued (rules_for given) (table_state given t)
  enqueued-state =
      let more = w.enqueued.more in
      let paths = newly_ready-paths given t more table distinct lacks w.before (increasing-ascends more w.enqueued.ascending) w.enqueued.are_more in
      let S : List (List ℕ) → State = λ qs. record { entries = table_entries given t; ready = qs } in
      let first : table_state given u ≡ S (map (path_at t.targets) (t.schedule.ready ++ more)) = rw (w.targets, slots, w.enqueued.behind) refl in
      first ∙ ap S (map-append (path_at t.targets) t.schedule.ready more ∙ ap (λ qs. map (path_at t.targets) t.schedule.ready ++ qs) (sym paths))

map-same : (f g : ℕ → List ℕ) (xs : List ℕ) → ((k : ℕ) → IsPlace xs k → f k ≡ g k) → map f xs ≡ map g xs
map-same f g [] h = refl
map-same f g (x ∷ xs) h =
    let rest = map-same f g xs (λ k m. h k (inr m)) in
    ap (λ y. y ∷ map f xs) (h x (inl refl)) ∙ ap (λ ys. g x ∷ ys) rest

-- all the steps together, where the state enqueues what may run among these entries
pub taken-in : (given : GivenView) (request : List (List ℕ)) (after : State) (es : List Entry) (t u v : Table) →
    IsTableOf given t → IsQueue t.schedule → AreStanding (rules_for given) request after.entries →
    after ≡ enqueued (rules_for given) (record { entries = es; ready = map (path_at t.targets) t.schedule.ready }) → after.entries ≡ es →
    IsPutBackThere given after t u → AreEnqueued u v → IsTakenIn given after v
taken-in given request after es t u v table queue stands is same put w =
    let r = rules_for given in
    let S : List Entry → Type 0 = AreStanding r request in
    let standing = subst S (sym put.entries) stands in
    let T : List Entry → List (List ℕ) → State = λ xs ps. record { entries = xs; ready = ps } in
    let names : map (path_at u.targets) u.schedule.ready ≡ map (path_at t.targets) t.schedule.ready =
    ap (map (path_at u.targets)) put.ready ∙ map-same (path_at u.targets) (path_at t.targets) t.schedule.ready (λ k m.
    let staged = slice_get_within t.schedule.stages k AtReady (queue.are_ready k (place-times t.schedule.ready k m)) in
    let found = there-below t.targets k (omega (arith, table.one_each, table.agreed.one_each, staged)) in
    rw (put.keys_kept k found.0 found.1, found.1) refl) in
    let before : table_state given u ≡ T es (map (path_at t.targets) t.schedule.ready) =
    ap (λ xs. T xs (map (path_at u.targets) u.schedule.ready)) (put.entries ∙ same) ∙ ap (T es) names in
    record {
      table = enqueued-table given request u v put.table standing put.lacks w;
      resting = enqueued-resting given request u v put.table standing put.lacks w put.put_back;
      state = enqueued-state given request u v put.table standing put.lacks w ∙ ap (enqueued r) before ∙ sym is;
    }

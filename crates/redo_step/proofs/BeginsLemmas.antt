-- A run under an ask is a beginning of the run under each ask that keeps its answers.
use Rattle.std.proofs.Common.{◌≡◌, ℕ, Bool, true, false, cond, inl, inr, Result, Ok, Err, List, [], ◌∷◌, refl, sym, ◌∙◌}
use Rattle.redo_script.specs.Syntax.{Command, write, test, change, create, always, always_true, always_false, exit}
use Rattle.redo_script.specs.Syntax.{Script, finish, simple, choice, loop}
use Rattle.redo_record.specs.declared.deps.DepKind.TheVariants as kinds
use Rattle.redo_record.specs.declared.outcome.Why.TheVariants as why
use Rattle.redo_record.specs.Paths.{Path}
use Rattle.redo_step.specs.Setting.{Setting, with_value}
use Rattle.redo_step.specs.Runs.{State, End, exited, faulted, stopped, Run, goes, ends, end_state, ◌>>=◌}
use Rattle.redo_step.specs.Words.{texts_of, paths_of}
use Rattle.redo_step.specs.Declaring.{declaring, lacks, lacking, any_failed, waited, changed, free_paths, created}
use Rattle.redo_step.specs.Outputs.{written}
use Rattle.redo_step.specs.Files.{tested}
use Rattle.redo_step.specs.Statements.{with_status, with_state, command_run, condition_result, then_run, chosen}
use Rattle.redo_step.specs.Statements.{turns, looped, run}
use Rattle.redo_record.specs.Answers.{Ask}
use Rattle.redo_record.specs.declared.deps.Dep.{Dep}
use Rattle.redo_step.specs.Reach.{Keeps}
use Rattle.redo_record.specs.Entries.{Extends}
use Rattle.redo_step.specs.Begins.{AreKnown, Awaits, Begins}
use Rattle.redo_record.proofs.EntryLemmas.{Extends-refl, Extends-trans, Extends-with_entries, AllEntered}
use Rattle.redo_record.proofs.EntryLemmas.{AllEntered-with_entries}
use Rattle.redo_step.proofs.RunLemmas.{Keeps-extends, Keeps-turn}
use Rattle.redo_step.proofs.StableLemmas.{lacking-nil, lacking-answered, answered_later}
use Rattle.redo_step.proofs.StepLemmas.{command_goes, command_stays, written_entries}
use Rattle.redo_step.proofs.SettledLemmas.{IsEnd, IsOver, over_bind, Settled, texts_over, paths_over, free_over}
use Rattle.redo_step.proofs.SettledLemmas.{written_settled, tested_settled, condition_settled}
use Rattle.redo_step.proofs.KnownLemmas.{known_changes, known_creates, known_always, answered_or, known_later}

-- Entries only grow

then_extends : (es : List Dep) (r : Run) (f : State → Run) → Extends es (end_state r).entries → ((t : State) → Extends t.entries (end_state (f t)).entries) → Extends es (end_state (then_run r f)).entries
then_extends es (goes t) f x k = Extends-trans es t.entries (end_state (f t)).entries x (k t)
then_extends es (ends e t) f x k = x

command_extends : (setting : Setting) (ask : Ask) (line : ℕ) (c : Command) (s : State) → Extends s.entries (end_state (command_run setting ask line c s)).entries
command_extends setting ask line c s =
    (elim (command_run setting ask line c s) as (λ (r : Run). command_run setting ask line c s ≡ r → Extends s.entries (end_state r).entries) [
      | goes t ↦ λ e. (command_goes setting ask line c s t e).extends
      | ends w t ↦ λ e. (command_stays setting ask line c s t w e).extends
    ]) refl

chosen_extends : (r : Result Bool End) (f g : State → Run) (s : State) → Extends s.entries (end_state (f s)).entries → Extends s.entries (end_state (g s)).entries → Extends s.entries (end_state (chosen r f g s)).entries
chosen_extends (Ok true) f g s x y = x
chosen_extends (Ok false) f g s x y = y
chosen_extends (Err e) f g s x y = Extends-refl s.entries

turns_extends : (turn : List ℕ → State → Run) → ((value : List ℕ) (s : State) → Extends s.entries (end_state (turn value s)).entries) → (values : List (List ℕ)) (s : State) → Extends s.entries (end_state (turns turn values s)).entries
turns_extends turn k [] s = Extends-refl s.entries
turns_extends turn k (value ∷ values) s = then_extends s.entries (turn value s) (turns turn values) (k value s) (turns_extends turn k values)

looped_extends : (r : Result (List (List ℕ)) End) (turn : List ℕ → State → Run) → ((value : List ℕ) (s : State) → Extends s.entries (end_state (turn value s)).entries) → (s : State) → Extends s.entries (end_state (looped r turn s)).entries
looped_extends (Err e) turn k s = Extends-refl s.entries
looped_extends (Ok values) turn k s = turns_extends turn k values s

pub run_extends : (setting : Setting) (ask : Ask) (c : Script) (s : State) → Extends s.entries (end_state (run setting ask c s)).entries
unfolding run
run_extends setting ask finish s = Extends-refl s.entries
run_extends setting ask (simple line c rest) s =
    then_extends s.entries (command_run setting ask line c s) (run setting ask rest) (command_extends setting ask line c s) (run_extends setting ask rest)
run_extends setting ask (choice line c first second rest) s =
    then_extends s.entries (chosen (condition_result setting ask line c s) (run setting ask first) (run setting ask second) s) (run setting ask rest)
    (chosen_extends (condition_result setting ask line c s) (run setting ask first) (run setting ask second) s (run_extends setting ask first s) (run_extends setting ask second s))
    (run_extends setting ask rest)
run_extends setting ask (loop line name ws body rest) s =
    then_extends s.entries (looped (texts_of setting line ws) (λ value. run (with_value setting name value) ask body) s) (run setting ask rest)
    (looped_extends (texts_of setting line ws) (λ value. run (with_value setting name value) ask body) (λ value. run_extends (with_value setting name value) ask body) s)
    (run_extends setting ask rest)

waited_extends : (setting : Setting) (ask : Ask) (line : ℕ) (ps qs : List Path) (s : State) → Extends s.entries (end_state (waited setting ask line ps qs s)).entries
waited_extends setting ask line ps [] s = elim (any_failed setting ask ps) as (λ (v : Bool). Extends s.entries (end_state (cond v (ends (faulted (why.Depends line)) s) (goes s))).entries) [ true ↦ Extends-refl s.entries | false ↦ Extends-refl s.entries ]
waited_extends setting ask line ps (q ∷ qs) s = Extends-refl s.entries

module _ (setting : Setting) (ask later : Ask) where
  -- one after the other
  then_begins : (r r' : Run) (f g : State → Run) → Keeps setting (end_state (then_run r f)).entries ask later →
      ((t : State) → Extends t.entries (end_state (f t)).entries) → ((t : State) → Extends t.entries (end_state (g t)).entries) →
      (Keeps setting (end_state r).entries ask later → Begins setting ask later r r') →
      ((t : State) → AreKnown setting ask t.entries → Keeps setting (end_state (f t)).entries ask later → Begins setting ask later (f t) (g t)) →
      Begins setting ask later (then_run r f) (then_run r' g)
  then_begins (goes t) r' f g keeps x y now next =
      let first : (r' ≡ goes t) × AreKnown setting ask t.entries = now (Keeps-extends setting t.entries (end_state (f t)).entries ask later (x t) keeps) in
      rw first.0 (next t first.1 keeps)
  then_begins (ends (exited n) t) r' f g keeps x y now next = let first : (r' ≡ ends (exited n) t) × AreKnown setting ask t.entries = now keeps in (rw first.0 refl, first.1)
  then_begins (ends (faulted w) t) r' f g keeps x y now next = let first : (r' ≡ ends (faulted w) t) × AreKnown setting ask t.entries = now keeps in (rw first.0 refl, first.1)
  then_begins (ends (stopped ps) t) r' f g keeps x y now next =
      let first : Awaits setting ask later t r' = now keeps in
      record {
        lacking = first.lacking;
        extends = then_extends t.entries r' g first.extends y;
        stays = λ p h l. let there = first.stays p h l in (there.0, rw there.1 refl);
      }

  -- Commands

  over_begins : (e : End) (s : State) → IsEnd e → AreKnown setting ask s.entries → Begins setting ask later (ends e s) (ends e s)
  over_begins (exited n) s h known = (refl, known)
  over_begins (faulted w) s h known = (refl, known)
  over_begins (stopped ps) s h known = absurd h

  status_begins : (r q : Result Bool End) (s : State) → Settled r q → AreKnown setting ask s.entries → Begins setting ask later (with_status r s) (with_status q s)
  status_begins (Ok true) q s st known = rw st.same (refl, known)
  status_begins (Ok false) q s st known = rw st.same (refl, known)
  status_begins (Err e) q s st known = rw st.same (over_begins e s st.over known)

  state_begins : (r q : Result State End) (s : State) → Settled r q → AreKnown setting ask s.entries → ((t : State) → r ≡ Ok t → t.entries ≡ s.entries) → Begins setting ask later (with_state r s) (with_state q s)
  state_begins (Ok t) q s st known same = rw st.same (let e : t.entries ≡ s.entries = same t refl in (refl, rw e known))
  state_begins (Err e) q s st known same = rw st.same (over_begins e s st.over known)

  created_begins : (r : Result (List Path) End) (s : State) → IsOver r → AreKnown setting ask s.entries → Begins setting ask later (created r s) (created r s)
  created_begins (Ok ps) s over known = (refl, known_creates setting ask s.entries ps known)
  created_begins (Err e) s over known = over_begins e s over known

  all_there : (line : ℕ) (ps : List Path) (s t : State) (v : Bool) → lacking setting ask [] ps ≡ [] → any_failed setting ask ps ≡ v → AllEntered t.entries kinds.Change ps → AreKnown setting ask s.entries → Keeps setting (end_state (cond v (ends (faulted (why.Depends line)) t) (goes t))).entries ask later →
      waited setting later line ps (lacking setting later [] ps) t ≡ cond v (ends (faulted (why.Depends line)) t) (goes t)
  all_there line ps s t v none failed entered known k =
      let keeps : Keeps setting t.entries ask later = (elim v as (λ (b : Bool). Keeps setting (end_state (cond b (ends (faulted (why.Depends line)) t) (goes t))).entries ask later → Keeps setting t.entries ask later) [ true ↦ λ x. x | false ↦ λ x. x ]) k in
      let too = answered_later setting ask later t.entries ps keeps entered (lacking-nil setting ask [] ps none).1 in
      rw (lacking-answered setting later [] ps too.0, too.1, failed) refl

  changed_begins : (line : ℕ) (r : Result (List Path) End) (s : State) → IsOver r → AreKnown setting ask s.entries → Keeps setting (end_state (changed setting ask line r s)).entries ask later →
      Begins setting ask later (changed setting ask line r s) (changed setting later line r s)
  changed_begins line (Err e) s over known keeps = over_begins e s over known
  changed_begins line (Ok ps) s over known keeps =
      let t : State = declaring s kinds.Change ps in
      let entered : AllEntered t.entries kinds.Change ps = AllEntered-with_entries s.entries kinds.Change ps in
      (elim (lacking setting ask [] ps) as (λ (qs : List Path). lacking setting ask [] ps ≡ qs → Keeps setting (end_state (waited setting ask line ps qs t)).entries ask later → Begins setting ask later (waited setting ask line ps qs t) (waited setting later line ps (lacking setting later [] ps) t)) [
        | [] ↦ λ none. (elim (any_failed setting ask ps) as (λ (v : Bool). any_failed setting ask ps ≡ v → Keeps setting (end_state (cond v (ends (faulted (why.Depends line)) t) (goes t))).entries ask later → Begins setting ask later (cond v (ends (faulted (why.Depends line)) t) (goes t)) (waited setting later line ps (lacking setting later [] ps) t)) [
          | true ↦ λ failed k. (all_there line ps s t true none failed entered known k, known_changes setting ask s.entries ps known (lacking-nil setting ask [] ps none).1)
          | false ↦ λ failed k. (all_there line ps s t false none failed entered known k, known_changes setting ask s.entries ps known (lacking-nil setting ask [] ps none).1)
        ]) refl
        | q ∷ qs ↦ λ some k. record {
          lacking = elim (answered_or setting ask t.entries ps entered) [
            | inl all ↦ absurd (let none : lacking setting ask [] ps ≡ [] = lacking-answered setting ask [] ps all in let bad : ◌≡◌ {A = List Path} [] (q ∷ qs) = sym none ∙ some in cc)
            | inr found ↦ found
          ];
          extends = waited_extends setting later line ps (lacking setting later [] ps) t;
          stays = λ p h l.
              (elim (lacking setting later [] ps) as (λ (xs : List Path). lacking setting later [] ps ≡ xs → (ys : List Path) × (waited setting later line ps xs t ≡ ends (stopped ys) t)) [
                | [] ↦ λ none.
                    let before : AreKnown setting later s.entries = known_later setting ask later s.entries (Keeps-extends setting s.entries t.entries ask later (Extends-with_entries s.entries kinds.Change ps) k) known in
                    let there : AreKnown setting later t.entries = known_changes setting later s.entries ps before (lacking-nil setting later [] ps none).1 in
                    let is : lacks setting later p ≡ false = there.known p h in
                    absurd (let bad : true ≡ false = sym l ∙ is in cc)
                | x ∷ xs ↦ λ _. (x ∷ xs, refl)
              ]) refl;
        }
      ]) refl keeps

  command_begins : (line : ℕ) (c : Command) (s : State) → AreKnown setting ask s.entries → Keeps setting (end_state (command_run setting ask line c s)).entries ask later →
      Begins setting ask later (command_run setting ask line c s) (command_run setting later line c s)
  command_begins line (write w r) s known keeps =
      let before : Keeps setting s.entries ask later = Keeps-extends setting s.entries (end_state (command_run setting ask line (write w r) s)).entries ask later (command_extends setting ask line (write w r) s) keeps in
      state_begins (written setting ask line w r s) (written setting later line w r s) s (written_settled setting ask later s.entries before known line w r s refl) known (λ t e. written_entries setting ask line w r s t e)
  command_begins line (test t) s known keeps =
      let before : Keeps setting s.entries ask later = Keeps-extends setting s.entries (end_state (command_run setting ask line (test t) s)).entries ask later (command_extends setting ask line (test t) s) keeps in
      status_begins (tested setting ask line t s) (tested setting later line t s) s (tested_settled setting ask later s.entries before known line t s refl) known
  command_begins line (change ws) s known keeps =
      changed_begins line (texts_of setting line ws >>= paths_of setting line) s (over_bind (texts_of setting line ws) (paths_of setting line) (texts_over setting line ws) (paths_over setting line)) known keeps
  command_begins line (create ws) s known keeps =
      created_begins (texts_of setting line ws >>= free_paths setting line) s (over_bind (texts_of setting line ws) (free_paths setting line) (texts_over setting line ws) (free_over setting line)) known
  command_begins line always s known keeps = (refl, known_always setting ask s.entries [] known)
  command_begins line always_true s known keeps = (refl, known)
  command_begins line always_false s known keeps = (refl, known)
  command_begins line (exit n) s known keeps = (refl, known)

  -- Statements

  chosen_begins : (r q : Result Bool End) (f f' g g' : State → Run) (s : State) → Settled r q → AreKnown setting ask s.entries →
      Keeps setting (end_state (chosen r f g s)).entries ask later →
      (Keeps setting (end_state (f s)).entries ask later → Begins setting ask later (f s) (f' s)) →
      (Keeps setting (end_state (g s)).entries ask later → Begins setting ask later (g s) (g' s)) →
      Begins setting ask later (chosen r f g s) (chosen q f' g' s)
  chosen_begins (Ok true) q f f' g g' s st known keeps x y = rw st.same (x keeps)
  chosen_begins (Ok false) q f f' g g' s st known keeps x y = rw st.same (y keeps)
  chosen_begins (Err e) q f f' g g' s st known keeps x y = rw st.same (over_begins e s st.over known)

  turns_begins : (f g : List ℕ → State → Run) → ((value : List ℕ) (t : State) → Extends t.entries (end_state (f value t)).entries) → ((value : List ℕ) (t : State) → Extends t.entries (end_state (g value t)).entries) →
      ((value : List ℕ) (t : State) → AreKnown setting ask t.entries → Keeps setting (end_state (f value t)).entries ask later → Begins setting ask later (f value t) (g value t)) →
      (values : List (List ℕ)) (s : State) → AreKnown setting ask s.entries → Keeps setting (end_state (turns f values s)).entries ask later → Begins setting ask later (turns f values s) (turns g values s)
  turns_begins f g x y k [] s known keeps = (refl, known)
  turns_begins f g x y k (value ∷ values) s known keeps =
      then_begins (f value s) (g value s) (turns f values) (turns g values) keeps (turns_extends f x values) (turns_extends g y values) (k value s known) (turns_begins f g x y k values)

  looped_begins : (r : Result (List (List ℕ)) End) (f g : List ℕ → State → Run) → IsOver r → ((value : List ℕ) (t : State) → Extends t.entries (end_state (f value t)).entries) → ((value : List ℕ) (t : State) → Extends t.entries (end_state (g value t)).entries) →
      ((value : List ℕ) (t : State) → AreKnown setting ask t.entries → Keeps setting (end_state (f value t)).entries ask later → Begins setting ask later (f value t) (g value t)) →
      (s : State) → AreKnown setting ask s.entries → Keeps setting (end_state (looped r f s)).entries ask later → Begins setting ask later (looped r f s) (looped r g s)
  looped_begins (Err e) f g over x y k s known keeps = over_begins e s over known
  looped_begins (Ok values) f g over x y k s known keeps = turns_begins f g x y k values s known keeps

-- What is known in a turn of a loop is known round it.
module _ (setting : Setting) (name value : List ℕ) (ask later : Ask) where
  known_inside : (es : List Dep) → AreKnown setting ask es → AreKnown (with_value setting name value) ask es
  known_inside es k = record { known = λ p h. k.known p h }

  known_outside : (es : List Dep) → AreKnown (with_value setting name value) ask es → AreKnown setting ask es
  known_outside es k = record { known = λ p h. k.known p h }

  begins_outside : (r r' : Run) → Begins (with_value setting name value) ask later r r' → Begins setting ask later r r'
  begins_outside (goes s) r' b = (b.0, known_outside s.entries b.1)
  begins_outside (ends (exited n) s) r' b = (b.0, known_outside s.entries b.1)
  begins_outside (ends (faulted w) s) r' b = (b.0, known_outside s.entries b.1)
  begins_outside (ends (stopped ps) s) r' b = record { lacking = b.lacking; extends = b.extends; stays = λ p h l. b.stays p h l }

-- The law: from any state whose operands have answers.
pub run_begins : (setting : Setting) (ask later : Ask) (c : Script) (s : State) → AreKnown setting ask s.entries → Keeps setting (end_state (run setting ask c s)).entries ask later → Begins setting ask later (run setting ask c s) (run setting later c s)
unfolding run
run_begins setting ask later finish s known keeps = (refl, known)
run_begins setting ask later (simple line c rest) s known keeps =
    then_begins setting ask later (command_run setting ask line c s) (command_run setting later line c s) (run setting ask rest) (run setting later rest) keeps
    (run_extends setting ask rest) (run_extends setting later rest) (command_begins setting ask later line c s known) (run_begins setting ask later rest)
run_begins setting ask later (choice line c first second rest) s known keeps =
    let r : Run = chosen (condition_result setting ask line c s) (run setting ask first) (run setting ask second) s in
    let inside : Extends s.entries (end_state r).entries = chosen_extends (condition_result setting ask line c s) (run setting ask first) (run setting ask second) s (run_extends setting ask first s) (run_extends setting ask second s) in
    then_begins setting ask later r (chosen (condition_result setting later line c s) (run setting later first) (run setting later second) s) (run setting ask rest) (run setting later rest) keeps
    (run_extends setting ask rest) (run_extends setting later rest)
    (λ k.
    let before : Keeps setting s.entries ask later = Keeps-extends setting s.entries (end_state r).entries ask later inside k in
    chosen_begins setting ask later (condition_result setting ask line c s) (condition_result setting later line c s) (run setting ask first) (run setting later first) (run setting ask second) (run setting later second) s
    (condition_settled setting ask later s.entries before known line c s refl) known k (run_begins setting ask later first s known) (run_begins setting ask later second s known))
    (run_begins setting ask later rest)
run_begins setting ask later (loop line name ws body rest) s known keeps =
    then_begins setting ask later (looped (texts_of setting line ws) (λ value. run (with_value setting name value) ask body) s) (looped (texts_of setting line ws) (λ value. run (with_value setting name value) later body) s) (run setting ask rest) (run setting later rest) keeps
    (run_extends setting ask rest) (run_extends setting later rest)
    (looped_begins setting ask later (texts_of setting line ws) (λ value. run (with_value setting name value) ask body) (λ value. run (with_value setting name value) later body) (texts_over setting line ws)
    (λ value. run_extends (with_value setting name value) ask body) (λ value. run_extends (with_value setting name value) later body)
    (λ value t known' keeps'.
    begins_outside setting name value ask later (run (with_value setting name value) ask body t) (run (with_value setting name value) later body t)
    (run_begins (with_value setting name value) ask later body t (known_inside setting name value ask later t.entries known') (Keeps-turn setting name value (end_state (run (with_value setting name value) ask body t)).entries ask later keeps')))
    s known)
    (run_begins setting ask later rest)

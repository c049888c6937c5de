-- What a run declared before it ended with a status is met.
use Rattle.std.proofs.Common.{◌≡◌, ℕ, zero, Bool, true, false, ◌&&◌, ◌||◌, cond, inl, inr, Option, Some, None, Result}
use Rattle.std.proofs.Common.{Ok, Err}
use Rattle.std.proofs.Common.{List, [], ◌∷◌, refl}
use Rattle.std.specs.Prelude.{is_some, is_none}
use Rattle.redo_script.specs.Syntax.{Command, write, test, change, create, always, always_true, always_false, exit}
use Rattle.redo_script.specs.Syntax.{Script, finish, simple, choice, loop}
use Rattle.redo_record.specs.declared.deps.Dep.{Dep}
use Rattle.redo_record.specs.declared.deps.DepKind.{DepKind}
use Rattle.redo_record.specs.declared.deps.DepKind.TheVariants as kinds
use Rattle.redo_record.specs.declared.outcome.Outcome.{Outcome}
use Rattle.redo_record.specs.declared.outcome.Outcome.TheVariants as outcomes
use Rattle.redo_record.specs.declared.outcome.Why.{Why}
use Rattle.redo_record.specs.declared.outcome.Why.TheVariants as why
use Rattle.redo_record.specs.Paths.{Path}
use Rattle.redo_record.specs.Answers.{Ask, is_failure}
use Rattle.redo_record.specs.Entries.{with_entry, with_entries}
use Rattle.redo_step.specs.Setting.{Setting, with_value}
use Rattle.redo_step.specs.Runs.{State, End, faulted, Run, goes, ends, end_state, ◌>>=◌}
use Rattle.redo_step.specs.Words.{texts_of, paths_of}
use Rattle.redo_step.specs.Declaring.{declaring, lacking, any_failed, waited, changed, obstacle, free_of, free_paths}
use Rattle.redo_step.specs.Declaring.{created}
use Rattle.redo_step.specs.Outputs.{written}
use Rattle.redo_step.specs.Files.{tested}
use Rattle.redo_step.specs.Statements.{with_status, with_state, command_run, condition_result, then_run, chosen}
use Rattle.redo_step.specs.Statements.{turns, looped, run}
use Rattle.redo_step.specs.Agreeing.{held_in, IsFree, IsMet, AllMet, status_of}
use Rattle.redo_record.proofs.FoundLemmas.{entered_cases}
use Rattle.redo_step.proofs.StableLemmas.{AllAnswered, lacking-nil}
use Rattle.redo_step.proofs.StepLemmas.{written_entries}

-- a run that ended with a status, or goes on, has met what it declared
abbrev pub Met : Setting → Ask → Run → Type 0
Met setting ask r = (n : ℕ) → status_of r ≡ Some n → AllMet setting ask (end_state r).entries

-- all of these paths are met
abbrev Each : Setting → Ask → DepKind → List Path → Type 0
Each setting ask k [] = Unit {0}
Each setting ask k (p ∷ ps) = IsMet setting ask k p × Each setting ask k ps

-- a path that has an answer and hasn't failed holds something
answered_held : (source : Option (List ℕ)) (o : Option Outcome) → (is_none source && is_none o) ≡ false →
    (is_none source && is_failure o) ≡ false → (content : Option (List ℕ)) × (held_in source o ≡ Some content)
answered_held (Some bytes) o there fine = (Some bytes, refl)
answered_held None None there fine = absurd cc
answered_held None (Some outcomes.Source) there fine = (None, refl)
answered_held None (Some (outcomes.Built file)) there fine = (file, refl)
answered_held None (Some (outcomes.Failed w)) there fine = absurd cc
answered_held None (Some outcomes.Cyclic) there fine = absurd cc

or_false : (a b : Bool) → (a || b) ≡ false → (a ≡ false) × (b ≡ false)
or_false true b e = absurd cc
or_false false b e = (refl, e)

module _ (setting : Setting) (ask : Ask) where
  met-entry : (es : List Dep) (k : DepKind) (q : Path) → AllMet setting ask es → IsMet setting ask k q →
      AllMet setting ask (with_entry es k q)
  met-entry es k q all here = record {
    met = λ j p h. elim (entered_cases es k j q p h) [
      | inl old ↦ all.met j p old
      | inr new ↦ let kind : k ≡ j = new.0 in let path : q ≡ p = new.1 in rw (← kind, ← path) here
    ];
  }

  met-entries : (es : List Dep) (k : DepKind) (ps : List Path) → AllMet setting ask es → Each setting ask k ps →
      AllMet setting ask (with_entries es k ps)
  met-entries es k [] all each = all
  met-entries es k (p ∷ ps) all each = met-entries (with_entry es k p) k ps (met-entry es k p all each.0) each.1

  met-same : (es xs : List Dep) → xs ≡ es → AllMet setting ask es → AllMet setting ask xs
  met-same es xs e all = rw e all

  -- redo-ifchange

  each_held : (ps : List Path) → AllAnswered setting ask ps → any_failed setting ask ps ≡ false →
      Each setting ask kinds.Change ps
  each_held [] there fine = tt
  each_held (p ∷ ps) there fine = let both = or_false _ _ fine in
      (answered_held (setting.source p) (ask p) there.0 both.0, each_held ps there.1 both.1)

  changed_met : (line : ℕ) (r : Result (List Path) End) (s : State) → AllMet setting ask s.entries →
      Met setting ask (changed setting ask line r s)
  changed_met line (Err e) s all = λ n h. all
  changed_met line (Ok ps) s all =
      let t : State = declaring s kinds.Change ps in
      (elim (lacking setting ask [] ps) as
      (λ (qs : List Path). lacking setting ask [] ps ≡ qs → Met setting ask (waited setting ask line ps qs t)) [
        | [] ↦ λ none.
            (elim (any_failed setting ask ps) as
            (λ (v : Bool). any_failed setting ask ps ≡ v →
            Met setting ask (cond v (ends (faulted (why.Depends line)) t) (goes t))) [
              | true ↦ λ failed n h. absurd cc
              | false ↦ λ fine n h.
                  met-entries s.entries kinds.Change ps all (each_held ps (lacking-nil setting ask [] ps none).1 fine)
            ]) refl
        | q ∷ qs ↦ λ some n h. absurd cc
      ]) refl

  -- redo-ifcreate

  obstacle-first : (line : ℕ) (p : Path) (ps : List Path) → obstacle setting line (p ∷ ps) ≡ None →
      IsFree setting p × (obstacle setting line ps ≡ None)
  obstacle-first line p ps e =
      (elim (setting.source p) as
      (λ (o : Option (List ℕ)). setting.source p ≡ o →
      cond (is_some o || setting.is_directory p) (Some (why.Exists line))
      (cond (setting.has_rule p) (Some (why.Buildable line)) (obstacle setting line ps)) ≡ None →
      IsFree setting p × (obstacle setting line ps ≡ None)) [
        | Some bytes ↦ λ n bad. absurd cc
        | None ↦ λ n.
            (elim (setting.is_directory p) as
            (λ (v : Bool). setting.is_directory p ≡ v →
            cond v (Some (why.Exists line))
            (cond (setting.has_rule p) (Some (why.Buildable line)) (obstacle setting line ps)) ≡ None →
            IsFree setting p × (obstacle setting line ps ≡ None)) [
              | true ↦ λ d bad. absurd cc
              | false ↦ λ d.
                  (elim (setting.has_rule p) as
                  (λ (v : Bool). setting.has_rule p ≡ v →
                  cond v (Some (why.Buildable line)) (obstacle setting line ps) ≡ None →
                  IsFree setting p × (obstacle setting line ps ≡ None)) [
                    | true ↦ λ r bad. absurd cc
                    | false ↦ λ r rest. (record { no_source = n; no_directory = d; no_rule = r }, rest)
                  ]) refl
            ]) refl
      ]) refl e

  each_free : (line : ℕ) (ps : List Path) → obstacle setting line ps ≡ None → Each setting ask kinds.Create ps
  each_free line [] e = tt
  each_free line (p ∷ ps) e = let h = obstacle-first line p ps e in (h.0, each_free line ps h.1)

  taken_met : (line : ℕ) (ps : List Path) (s : State) → AllMet setting ask s.entries →
      Met setting ask (created (free_of ps (obstacle setting line ps)) s)
  taken_met line ps s all =
      (elim (obstacle setting line ps) as
      (λ (o : Option Why). obstacle setting line ps ≡ o → Met setting ask (created (free_of ps o) s)) [
        | None ↦ λ none n h. met-entries s.entries kinds.Create ps all (each_free line ps none)
        | Some w ↦ λ _ n h. all
      ]) refl

  paths_met : (line : ℕ) (r : Result (List Path) End) (s : State) → AllMet setting ask s.entries →
      Met setting ask (created (r >>= λ ps. free_of ps (obstacle setting line ps)) s)
  paths_met line (Ok ps) s all = taken_met line ps s all
  paths_met line (Err e) s all = λ n h. all

  created_met : (line : ℕ) (r : Result (List (List ℕ)) End) (s : State) → AllMet setting ask s.entries →
      Met setting ask (created (r >>= free_paths setting line) s)
  created_met line (Ok texts) s all = paths_met line (paths_of setting line texts) s all
  created_met line (Err e) s all = λ n h. all

  -- Commands

  state_met : (r : Result State End) (s : State) → ((t : State) → r ≡ Ok t → t.entries ≡ s.entries) →
      AllMet setting ask s.entries → Met setting ask (with_state r s)
  state_met (Ok t) s k all = λ n h. met-same s.entries t.entries (k t refl) all
  state_met (Err e) s k all = λ n h. all

  status_met : (r : Result Bool End) (s : State) → AllMet setting ask s.entries → Met setting ask (with_status r s)
  status_met (Ok true) s all = λ n h. all
  status_met (Ok false) s all = λ n h. all
  status_met (Err e) s all = λ n h. all

  pub command_met : (line : ℕ) (c : Command) (s : State) → AllMet setting ask s.entries →
      Met setting ask (command_run setting ask line c s)
  command_met line (write w r) s all =
      state_met (written setting ask line w r s) s (λ t e. written_entries setting ask line w r s t e) all
  command_met line (test t) s all = status_met (tested setting ask line t s) s all
  command_met line (change ws) s all = changed_met line (texts_of setting line ws >>= paths_of setting line) s all
  command_met line (create ws) s all = created_met line (texts_of setting line ws) s all
  command_met line always s all = λ n h. met-entries s.entries kinds.Always ([] ∷ []) all (tt, tt)
  command_met line always_true s all = λ n h. all
  command_met line always_false s all = λ n h. all
  command_met line (exit n) s all = λ m h. all

  -- Statements

  then_met : (r : Run) (f : State → Run) → Met setting ask r →
      ((t : State) → AllMet setting ask t.entries → Met setting ask (f t)) → Met setting ask (then_run r f)
  then_met (goes t) f m k = k t (m zero refl)
  then_met (ends e t) f m k = m

  pub chosen_met : (r : Result Bool End) (f g : State → Run) (s : State) → AllMet setting ask s.entries →
      Met setting ask (f s) → Met setting ask (g s) → Met setting ask (chosen r f g s)
  chosen_met (Ok true) f g s all x y = x
  chosen_met (Ok false) f g s all x y = y
  chosen_met (Err e) f g s all x y = λ n h. all

  turns_met : (turn : List ℕ → State → Run) →
      ((value : List ℕ) (t : State) → AllMet setting ask t.entries → Met setting ask (turn value t)) →
      (values : List (List ℕ)) (s : State) → AllMet setting ask s.entries → Met setting ask (turns turn values s)
  turns_met turn k [] s all = λ n h. all
  turns_met turn k (value ∷ values) s all =
      then_met (turn value s) (turns turn values) (k value s all) (turns_met turn k values)

  pub looped_met : (r : Result (List (List ℕ)) End) (turn : List ℕ → State → Run) →
      ((value : List ℕ) (t : State) → AllMet setting ask t.entries → Met setting ask (turn value t)) → (s : State) →
      AllMet setting ask s.entries → Met setting ask (looped r turn s)
  looped_met (Err e) turn k s all = λ n h. all
  looped_met (Ok values) turn k s all = turns_met turn k values s all

-- What is met in a turn of a loop is met round it.
module _ (setting : Setting) (name value : List ℕ) (ask : Ask) where
  one-inside : (k : DepKind) (p : Path) → IsMet setting ask k p → IsMet (with_value setting name value) ask k p
  one-inside kinds.Change p h = h
  one-inside kinds.Create p h = record { no_source = h.no_source; no_directory = h.no_directory; no_rule = h.no_rule }
  one-inside kinds.Always p h = tt

  one-outside : (k : DepKind) (p : Path) → IsMet (with_value setting name value) ask k p → IsMet setting ask k p
  one-outside kinds.Change p h = h
  one-outside kinds.Create p h = record { no_source = h.no_source; no_directory = h.no_directory; no_rule = h.no_rule }
  one-outside kinds.Always p h = tt

  pub met_inside : (es : List Dep) → AllMet setting ask es → AllMet (with_value setting name value) ask es
  met_inside es all = record { met = λ k p h. one-inside k p (all.met k p h) }

  pub met_outside : (r : Run) → Met (with_value setting name value) ask r → Met setting ask r
  met_outside r m = λ n e. record { met = λ k p h. one-outside k p ((m n e).met k p h) }

-- the law, from any state whose entries are met
pub run_met : (setting : Setting) (ask : Ask) (c : Script) (s : State) → AllMet setting ask s.entries →
    Met setting ask (run setting ask c s)
unfolding run
run_met setting ask finish s all = λ n h. all
run_met setting ask (simple line c rest) s all =
    then_met setting ask (command_run setting ask line c s) (run setting ask rest)
    (command_met setting ask line c s all) (run_met setting ask rest)
run_met setting ask (choice line c first second rest) s all =
    then_met setting ask
    (chosen (condition_result setting ask line c s) (run setting ask first) (run setting ask second) s)
    (run setting ask rest)
    (chosen_met setting ask (condition_result setting ask line c s) (run setting ask first)
    (run setting ask second) s all (run_met setting ask first s all) (run_met setting ask second s all))
    (run_met setting ask rest)
run_met setting ask (loop line name ws body rest) s all =
    then_met setting ask (looped (texts_of setting line ws) (λ value. run (with_value setting name value) ask body) s)
    (run setting ask rest)
    (looped_met setting ask (texts_of setting line ws) (λ value. run (with_value setting name value) ask body)
    (λ value t inner. met_outside setting name value ask (run (with_value setting name value) ask body t)
    (run_met (with_value setting name value) ask body t (met_inside setting name value ask t.entries inner))) s all)
    (run_met setting ask rest)

-- What holds of each target's record: it begins with the entries of the search, and what is made in any case has the
-- top directory for its path.
use Rattle.std.proofs.Common.{◌≡◌, ℕ, Bool, true, false, cond, inl, inr, Result, Ok, Err}
use Rattle.std.proofs.Common.{List, [], ◌∷◌, refl, sym, subst}
use Rattle.redo_script.specs.declared.fault.ScriptFault.{ScriptFault}
use Rattle.redo_script.specs.Syntax.{Command, write, test, change, create, always, always_true, always_false, exit}
use Rattle.redo_script.specs.Syntax.{Script, finish, simple, choice, loop}
use Rattle.redo_record.specs.declared.deps.Dep.{Dep}
use Rattle.redo_record.specs.declared.deps.DepKind.{DepKind}
use Rattle.redo_record.specs.declared.deps.DepKind.TheVariants as kinds
use Rattle.redo_record.specs.declared.outcome.Why.TheVariants as why
use Rattle.redo_record.specs.Paths.{Path}
use Rattle.redo_record.specs.Answers.{Ask}
use Rattle.redo_record.specs.Entries.{is_entered, search_deps, with_all, with_entry, with_entries}
use Rattle.redo_step.specs.Setting.{Setting, with_value}
use Rattle.redo_step.specs.Runs.{State, End, faulted, Run, goes, ends, end_state, start, ◌>>=◌}
use Rattle.redo_step.specs.Words.{texts_of, paths_of}
use Rattle.redo_step.specs.Declaring.{declaring, lacking, any_failed, waited, changed, free_paths, created}
use Rattle.redo_step.specs.Outputs.{written}
use Rattle.redo_step.specs.Files.{tested}
use Rattle.redo_step.specs.Results.{by_script}
use Rattle.redo_step.specs.Statements.{with_status, with_state, command_run, condition_result, then_run, chosen}
use Rattle.redo_step.specs.Statements.{turns, looped, run, meaning}
use Rattle.redo_record.proofs.BehindLemmas.{IsBeginning, beginning-refl, beginning-trans, entry-begins}
use Rattle.redo_record.proofs.FoundLemmas.{entered_cases}
use Rattle.redo_record.proofs.OperandLemmas.{all_cases}
use Rattle.redo_step.proofs.FollowedLemmas.{entered-other}
use Rattle.redo_step.proofs.StepLemmas.{written_entries}

-- The entries of the search stand first

all-begin : (ds es : List Dep) → IsBeginning ds (with_all ds es)
all-begin ds [] = beginning-refl ds
all-begin ds (e ∷ es) =
    beginning-trans ds (with_entry ds e.kind e.path) (with_all (with_entry ds e.kind e.path) es)
    (entry-begins ds e.kind e.path) (all-begin (with_entry ds e.kind e.path) es)

pub script-begins : (setting : Setting) (ask : Ask) (ds : List Dep) (parsed : Result Script ScriptFault) →
    IsBeginning ds (by_script setting ds parsed ask).deps
script-begins setting ask ds (Ok script) = all-begin ds (end_state (meaning setting ask script)).entries
script-begins setting ask ds (Err fault) = beginning-refl ds

-- What is made in any case

-- these entries have the top directory for their path
abbrev AreAtTop : List Dep → Type 0
AreAtTop es = (p : Path) → is_entered es kinds.Always p ≡ true → p ≡ []

abbrev EndsAtTop : Run → Type 0
EndsAtTop r = AreAtTop (end_state r).entries

other_top : (es : List Dep) (k : DepKind) (ps : List Path) → (k ≡ kinds.Always → ⊥) → AreAtTop es →
    AreAtTop (with_entries es k ps)
other_top es k ps other all p h = all p (entered-other es k kinds.Always ps p other h)

always_top : (es : List Dep) → AreAtTop es → AreAtTop (with_entry es kinds.Always [])
always_top es all p h = elim (entered_cases es kinds.Always kinds.Always [] p h) [
  | inl old ↦ all p old
  | inr new ↦ sym new.1
]

module _ (setting : Setting) (ask : Ask) where
  waited_top : (line : ℕ) (ps qs : List Path) (s : State) → AreAtTop s.entries →
      EndsAtTop (waited setting ask line ps qs s)
  waited_top line ps [] s all =
      elim (any_failed setting ask ps) as
      (λ (v : Bool). EndsAtTop (cond v (ends (faulted (why.Depends line)) s) (goes s))) [ true ↦ all | false ↦ all ]
  waited_top line ps (q ∷ qs) s all = all

  changed_top : (line : ℕ) (r : Result (List Path) End) (s : State) → AreAtTop s.entries →
      EndsAtTop (changed setting ask line r s)
  changed_top line (Err e) s all = all
  changed_top line (Ok ps) s all =
      waited_top line ps (lacking setting ask [] ps) (declaring s kinds.Change ps)
      (other_top s.entries kinds.Change ps (λ bad. cc) all)

  created_top : (r : Result (List Path) End) (s : State) → AreAtTop s.entries → EndsAtTop (created r s)
  created_top (Err e) s all = all
  created_top (Ok ps) s all = other_top s.entries kinds.Create ps (λ bad. cc) all

  state_top : (r : Result State End) (s : State) → ((t : State) → r ≡ Ok t → t.entries ≡ s.entries) →
      AreAtTop s.entries → EndsAtTop (with_state r s)
  state_top (Ok t) s k all = subst AreAtTop (sym (k t refl)) all
  state_top (Err e) s k all = all

  status_top : (r : Result Bool End) (s : State) → AreAtTop s.entries → EndsAtTop (with_status r s)
  status_top (Ok true) s all = all
  status_top (Ok false) s all = all
  status_top (Err e) s all = all

  command_top : (line : ℕ) (c : Command) (s : State) → AreAtTop s.entries →
      EndsAtTop (command_run setting ask line c s)
  command_top line (write w r) s all =
      state_top (written setting ask line w r s) s (λ t e. written_entries setting ask line w r s t e) all
  command_top line (test t) s all = status_top (tested setting ask line t s) s all
  command_top line (change ws) s all = changed_top line (texts_of setting line ws >>= paths_of setting line) s all
  command_top line (create ws) s all = created_top (texts_of setting line ws >>= free_paths setting line) s all
  command_top line always s all = always_top s.entries all
  command_top line always_true s all = all
  command_top line always_false s all = all
  command_top line (exit n) s all = all

then_top : (r : Run) (f : State → Run) → EndsAtTop r → ((t : State) → AreAtTop t.entries → EndsAtTop (f t)) →
    EndsAtTop (then_run r f)
then_top (goes t) f m k = k t m
then_top (ends e t) f m k = m

chosen_top : (r : Result Bool End) (f g : State → Run) (s : State) → AreAtTop s.entries →
    EndsAtTop (f s) → EndsAtTop (g s) → EndsAtTop (chosen r f g s)
chosen_top (Ok true) f g s all x y = x
chosen_top (Ok false) f g s all x y = y
chosen_top (Err e) f g s all x y = all

turns_top : (turn : List ℕ → State → Run) →
    ((value : List ℕ) (t : State) → AreAtTop t.entries → EndsAtTop (turn value t)) →
    (values : List (List ℕ)) (s : State) → AreAtTop s.entries → EndsAtTop (turns turn values s)
turns_top turn k [] s all = all
turns_top turn k (value ∷ values) s all =
    then_top (turn value s) (turns turn values) (k value s all) (turns_top turn k values)

looped_top : (r : Result (List (List ℕ)) End) (turn : List ℕ → State → Run) →
    ((value : List ℕ) (t : State) → AreAtTop t.entries → EndsAtTop (turn value t)) → (s : State) →
    AreAtTop s.entries → EndsAtTop (looped r turn s)
looped_top (Err e) turn k s all = all
looped_top (Ok values) turn k s all = turns_top turn k values s all

run_top : (setting : Setting) (ask : Ask) (c : Script) (s : State) → AreAtTop s.entries →
    EndsAtTop (run setting ask c s)
unfolding run
run_top setting ask finish s all = all
run_top setting ask (simple line c rest) s all =
    then_top (command_run setting ask line c s) (run setting ask rest)
    (command_top setting ask line c s all) (run_top setting ask rest)
run_top setting ask (choice line c first second rest) s all =
    then_top (chosen (condition_result setting ask line c s) (run setting ask first) (run setting ask second) s)
    (run setting ask rest)
    (chosen_top (condition_result setting ask line c s) (run setting ask first) (run setting ask second) s all
    (run_top setting ask first s all) (run_top setting ask second s all))
    (run_top setting ask rest)
run_top setting ask (loop line name ws body rest) s all =
    then_top (looped (texts_of setting line ws) (λ value. run (with_value setting name value) ask body) s)
    (run setting ask rest)
    (looped_top (texts_of setting line ws) (λ value. run (with_value setting name value) ask body)
    (λ value t inner. run_top (with_value setting name value) ask body t inner) s all)
    (run_top setting ask rest)

meaning_top : (setting : Setting) (ask : Ask) (script : Script) → EndsAtTop (meaning setting ask script)
unfolding meaning
meaning_top setting ask script = run_top setting ask script start (λ p h. absurd cc)

search_top : (missing : List Path) (do_file : Path) → AreAtTop (search_deps missing do_file)
search_top missing do_file p h =
    elim (entered_cases (with_entries [] kinds.Create missing) kinds.Change kinds.Always do_file p h) [
      | inl old ↦ absurd (let bad : false ≡ true =
          entered-other [] kinds.Create kinds.Always missing p (λ e. cc) old in cc)
      | inr new ↦ absurd (let other : kinds.Change ≡ kinds.Always = new.0 in cc)
    ]

-- no record says of another path that its target is made in any case
pub always_at_top : (setting : Setting) (ask : Ask) (missing : List Path) (do_file : Path)
    (parsed : Result Script ScriptFault) (p : Path) →
    is_entered (by_script setting (search_deps missing do_file) parsed ask).deps kinds.Always p ≡ true → p ≡ []
always_at_top setting ask missing do_file (Err fault) p h = search_top missing do_file p h
always_at_top setting ask missing do_file (Ok script) p h =
    elim (all_cases (search_deps missing do_file) (end_state (meaning setting ask script)).entries kinds.Always p h) [
      | inl first ↦ search_top missing do_file p first
      | inr own ↦ meaning_top setting ask script p own
    ]

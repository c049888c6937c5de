-- How far a target comes depends on names and on the files that its record has under `change`.
use Rattle.std.proofs.Common.{◌≡◌, ℕ, true, inl, inr, Option, Some, None, Result, Ok, Err}
use Rattle.std.proofs.Common.{List, [], ◌∷◌, refl, sym, ap, subst, ◌∙◌}
use Rattle.std.specs.Prelude.{is_some, unwrap_or}
use Rattle.redo_script.specs.declared.fault.ScriptFault.{ScriptFault}
use Rattle.redo_script.specs.Syntax.{Script}
use Rattle.redo_script.specs.Texts.{script_in}
use Rattle.redo_tree.specs.Tree.{Tree, file_at, node_at}
use Rattle.redo_which.specs.Rule.{Found, Source, Directory, NoDirectory, NoRule, Rule, Arguments, found_of, is_rule}
use Rattle.redo_record.specs.Answers.{Ask}
use Rattle.redo_record.specs.Entries.{is_entered, search_deps, with_entries}
use Rattle.redo_record.specs.Paths.{Path}
use Rattle.redo_record.specs.Progress.{Gains}
use Rattle.redo_record.specs.declared.deps.Dep.{Dep}
use Rattle.redo_record.specs.declared.deps.DepKind.{DepKind}
use Rattle.redo_record.specs.declared.deps.DepKind.TheVariants.{Change, Create}
use Rattle.redo_record.specs.declared.outcome.Outcome.{Outcome}
use Rattle.redo_record.proofs.Public.{change_entered, whole_cases, whole_first, whole_second}
use Rattle.redo_step.specs.Begins.{AreKnown, Begins}
use Rattle.redo_step.specs.Path.{resolved}
use Rattle.redo_step.specs.Reach.{Keeps}
use Rattle.redo_step.specs.Results.{after_run, by_script}
use Rattle.redo_step.specs.Runs.{State, Run, goes, ends, exited, faulted, stopped, end_state, start}
use Rattle.redo_step.specs.Setting.{Setting, has_directory, setting_by, value_in}
use Rattle.redo_step.specs.Statements.{meaning, run}
use Rattle.redo_rules.specs.Build.{progress_by, progress_of}
use Rattle.redo_reads.specs.Reads.{AreNamedAlike}
use Rattle.redo_reads.proofs.RunReadLemmas.{AreRead, meaning_reads, same_everywhere, with_files}
use Rattle.redo_reads.proofs.SearchLemmas.{directory_alike, file_alike, found_alike}

-- The record of a script

-- it begins with the entries of the search
record_first : (setting : Setting) (deps : List Dep) (parsed : Result Script ScriptFault) (ask : Ask) (k : DepKind)
    (p : Path) → is_entered deps k p ≡ true → is_entered (by_script setting deps parsed ask).deps k p ≡ true
record_first setting deps (Err fault) ask k p h = h
record_first setting deps (Ok script) ask k p h =
    whole_first deps (end_state (meaning setting ask script)).entries k p h

-- which have the .do file
do_file_entered : (setting : Setting) (missing : List Path) (do_file : Path) (parsed : Result Script ScriptFault)
    (ask : Ask) → is_entered (by_script setting (search_deps missing do_file) parsed ask).deps Change do_file ≡ true
do_file_entered setting missing do_file parsed ask =
    record_first setting (search_deps missing do_file) parsed ask Change do_file
    (change_entered (with_entries [] Create missing) (do_file ∷ []) do_file (inl refl))

-- More answers

-- a run with some answers is a beginning of the run with any answers that keep them
abbrev pub RunsBegin : Type 0
RunsBegin = (setting : Setting) (ask later : Ask) (script : Script) (s : State) → AreKnown setting ask s.entries →
    Keeps setting (end_state (run setting ask script s)).entries ask later →
    Begins setting ask later (run setting ask script s) (run setting later script s)

begun_grows : (setting : Setting) (a b : Ask) (r q : Run) → Begins setting a b r q → (k : DepKind) (p : Path) →
    is_entered (end_state r).entries k p ≡ true → is_entered (end_state q).entries k p ≡ true
begun_grows setting a b (goes s) q begins k p h =
    subst (λ (x : Run). is_entered (end_state x).entries k p ≡ true) (sym begins.0) h
begun_grows setting a b (ends (exited n) s) q begins k p h =
    subst (λ (x : Run). is_entered (end_state x).entries k p ≡ true) (sym begins.0) h
begun_grows setting a b (ends (faulted w) s) q begins k p h =
    subst (λ (x : Run). is_entered (end_state x).entries k p ≡ true) (sym begins.0) h
begun_grows setting a b (ends (stopped ps) s) q begins k p h = begins.extends.still k p h

module _ (runs_begin : RunsBegin) where
  meaning_grows : (setting : Setting) (a b : Ask) (script : Script) →
      ((p : Path) (o : Outcome) → setting.source p ≡ None → a p ≡ Some o → b p ≡ Some o) → (k : DepKind) (p : Path) →
      is_entered (end_state (meaning setting a script)).entries k p ≡ true →
      is_entered (end_state (meaning setting b script)).entries k p ≡ true
  unfolding meaning
  meaning_grows setting a b script gains k p h =
      begun_grows setting a b (run setting a script start) (run setting b script start)
      (runs_begin setting a b script start (record { known = λ x none. absurd cc })
      (record { same = λ x o n entered e. gains x o n e })) k p h

  script_grows : (setting : Setting) (deps : List Dep) (parsed : Result Script ScriptFault) (a b : Ask) →
      ((p : Path) (o : Outcome) → setting.source p ≡ None → a p ≡ Some o → b p ≡ Some o) → (k : DepKind) (p : Path) →
      is_entered (by_script setting deps parsed a).deps k p ≡ true →
      is_entered (by_script setting deps parsed b).deps k p ≡ true
  script_grows setting deps (Err fault) a b gains k p h = h
  script_grows setting deps (Ok script) a b gains k p h =
      let now : List Dep = (end_state (meaning setting b script)).entries in
      elim (whole_cases deps (end_state (meaning setting a script)).entries k p h) [
        | inl first ↦ whole_first deps now k p first
        | inr own ↦ whole_second deps now k p (meaning_grows setting a b script gains k p own)
      ]

  -- with more answers a target's record has no fewer entries
  pub progress_grows : (tree : Tree) (bytes : ℕ) (target : Path) (a b : Ask) →
      Gains (λ p. is_some (file_at tree p)) a b → (k : DepKind) (p : Path) →
      is_entered (progress_of tree bytes target a).deps k p ≡ true →
      is_entered (progress_of tree bytes target b).deps k p ≡ true
  unfolding setting_by
  progress_grows tree bytes target a b gains = by_found (found_of tree target)
    where
      by_found : (f : Found) (k : DepKind) (p : Path) →
          is_entered (progress_by tree (found_of tree) bytes target f a).deps k p ≡ true →
          is_entered (progress_by tree (found_of tree) bytes target f b).deps k p ≡ true
      by_found Source k p h = h
      by_found Directory k p h = h
      by_found NoDirectory k p h = h
      by_found (NoRule missing) k p h = h
      by_found (Rule do_file missing arguments) k p h =
          script_grows (setting_by tree (found_of tree) bytes target arguments) (search_deps missing do_file)
          (script_in (unwrap_or (file_at tree do_file) [])) a b
          (λ x o none e. gains x o (ap (λ (file : Option (List ℕ)). is_some file) none) e) k p h

-- Two trees

module _ (one two : Tree) (alike : AreNamedAlike one two) (bytes : ℕ) where
  settings_alike : (target : Path) (arguments : Arguments) →
      setting_by two (found_of two) bytes target arguments ≡
      with_files (setting_by one (found_of one) bytes target arguments) (file_at two)
  unfolding setting_by
  settings_alike target arguments =
      let directories : (λ (p : Path). has_directory (node_at two p)) ≡
      (λ (p : Path). has_directory (node_at one p)) =
      same_everywhere _ _ (directory_alike one two alike) in
      let rules : (λ (p : Path). is_rule (found_of two p)) ≡ (λ (p : Path). is_rule (found_of one p)) =
      same_everywhere _ _ (λ p. ap is_rule (found_alike one two alike p)) in
      λ i. record {
        source = file_at two;
        is_directory = directories i;
        has_rule = rules i;
        target = target;
        directory = arguments.dir;
        stands_for = value_in arguments;
        third = resolved arguments.dir arguments.three;
        limit = bytes;
        bound = [];
      }

  module _ (target : Path) (ask : Ask) where
    script_reads : (arguments : Arguments) (deps : List Dep) (parsed : Result Script ScriptFault) →
        AreRead (file_at one) (file_at two)
        (by_script (setting_by one (found_of one) bytes target arguments) deps parsed ask).deps →
        by_script (with_files (setting_by one (found_of one) bytes target arguments) (file_at two)) deps parsed ask ≡
        by_script (setting_by one (found_of one) bytes target arguments) deps parsed ask
    unfolding setting_by
    script_reads arguments deps (Err fault) read = refl
    script_reads arguments deps (Ok script) read =
        let setting : Setting = setting_by one (found_of one) bytes target arguments in
        ap (after_run deps)
        (meaning_reads setting (file_at two) ask (file_alike one two alike) script
        (λ p h. read p (whole_second deps (end_state (meaning setting ask script)).entries Change p h)))

    found_reads : (f : Found) →
        AreRead (file_at one) (file_at two) (progress_by one (found_of one) bytes target f ask).deps →
        progress_by two (found_of two) bytes target f ask ≡ progress_by one (found_of one) bytes target f ask
    found_reads Source read = refl
    found_reads Directory read = refl
    found_reads NoDirectory read = refl
    found_reads (NoRule missing) read = refl
    found_reads (Rule do_file missing arguments) read =
        let setting : Setting = setting_by one (found_of one) bytes target arguments in
        let search : List Dep = search_deps missing do_file in
        let parsed : Result Script ScriptFault = script_in (unwrap_or (file_at one do_file) []) in
        let text : file_at two do_file ≡ file_at one do_file =
        read do_file (do_file_entered setting missing do_file parsed ask) in
        ap (λ (x : Setting). by_script x search (script_in (unwrap_or (file_at two do_file) [])) ask)
        (settings_alike target arguments)
        ∙ ap (λ (file : Option (List ℕ)).
        by_script (with_files setting (file_at two)) search (script_in (unwrap_or file [])) ask) text
        ∙ script_reads arguments search parsed read

    -- a target comes as far in the other tree, if that has the files that its record has under `change`
    pub progress_reads : AreRead (file_at one) (file_at two) (progress_of one bytes target ask).deps →
        progress_of two bytes target ask ≡ progress_of one bytes target ask
    progress_reads read =
        ap (λ (f : Found). progress_by two (found_of two) bytes target f ask) (found_alike one two alike target)
        ∙ found_reads (found_of one target) read

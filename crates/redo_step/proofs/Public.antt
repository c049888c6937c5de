-- What the proofs of crates above may cite of scripts, beside the contracts. No other module of proofs is for them.
use Rattle.std.specs.Prelude.{◌≡◌, ℕ, true, false, List, [], ◌∷◌, ◌++◌, Option, Some, None, Result, filter}
use Rattle.redo_tree.specs.Tree.{Tree, Directory, node_at}
use Rattle.redo_which.specs.Candidates.{is_do_file}
use Rattle.redo_which.specs.Rule.{Rule, Arguments, found_of, is_file, is_rule}
use Rattle.redo_script.specs.Syntax.{Script}
use Rattle.redo_script.specs.declared.fault.ScriptFault.{ScriptFault}
use Rattle.redo_record.specs.declared.deps.Dep.{Dep}
use Rattle.redo_record.specs.declared.deps.DepKind.{DepKind}
use Rattle.redo_record.specs.declared.deps.DepKind.TheVariants.{Always, Change, Create}
use Rattle.redo_record.specs.declared.outcome.Outcome.TheVariants.{Built}
use Rattle.redo_record.proofs.BehindLemmas.{IsBeginning}
use Rattle.redo_step.specs.Setting.{is_source, Setting, setting_of}
use Rattle.redo_record.specs.Progress.{IsLawful, changes}
use Rattle.redo_record.specs.Entries.{is_entered, search_deps}
use Rattle.redo_record.specs.Answers.{Ask}
use Rattle.redo_record.specs.Paths.{IsAmong, Path}
use Rattle.redo_step.specs.Agreeing.{AreAlike, IsMet, AllAgree, IsFollowed, held_in}
use Rattle.redo_step.specs.Declaring.{lacks}
use Rattle.redo_step.specs.Results.{by_script}
use Rattle.redo_step.specs.Runs.{State, ends, stopped}
use Rattle.redo_step.specs.Statements.{meaning}
use Rattle.redo_step.proofs.AgreeingLemmas as agreeing
use Rattle.redo_step.proofs.DoFileLemmas as named
use Rattle.redo_step.proofs.FollowedLemmas as followed
use Rattle.redo_step.proofs.LawfulScriptLemmas as lawful
use Rattle.redo_step.proofs.RecordLemmas as recorded
use Rattle.redo_step.proofs.SameRuleLemmas as same
use Rattle.redo_step.proofs.StopLemmas as stops
use Rattle.redo_step.proofs.TopDirectoryLemmas as top

-- a target's progress by its script follows the answers to what it asks for, where its .do file is a source
pub progress_is_lawful : (setting : Setting) (missing : List Path) (do_file : Path)
    (parsed : Result Script ScriptFault) → is_source setting do_file ≡ true →
    IsLawful (is_source setting) (by_script setting (search_deps missing do_file) parsed)
progress_is_lawful = lawful.script-lawful

-- a script that stops for want of answers lacks those that its entries lack, in their order
pub stop_lacks : (setting : Setting) (ask : Ask) (script : Script) (paths : List Path) (t : State) →
    meaning setting ask script ≡ ends (stopped paths) t → paths ≡ filter (lacks setting ask) (changes t.entries)
stop_lacks = stops.stopped-lacks

-- Records

-- the .do file of a rule has the name of one
pub rule_named : (tree : Tree) (target do_file : Path) (missing : List Path) (arguments : Arguments) →
    found_of tree target ≡ Rule do_file missing arguments → is_do_file do_file ≡ true
rule_named = named.rule_named

-- a record begins with the entries of the search
pub record_begins : (setting : Setting) (ask : Ask) (deps : List Dep) (parsed : Result Script ScriptFault) →
    IsBeginning deps (by_script setting deps parsed ask).deps
record_begins = recorded.script-begins

-- an entry for what is made in any case has the top directory for its path
pub always_at_top : (setting : Setting) (ask : Ask) (missing : List Path) (do_file : Path)
    (parsed : Result Script ScriptFault) (p : Path) →
    is_entered (by_script setting (search_deps missing do_file) parsed ask).deps Always p ≡ true → p ≡ []
always_at_top = recorded.always_at_top

-- Two trees

-- one target by one rule in two trees
pub settings_alike : (one two : Tree) (limit : ℕ) (target : Path) (arguments : Arguments) →
    AreAlike (setting_of one limit target arguments) (setting_of two limit target arguments)
settings_alike = same.settings_alike

-- the same rule is found where what was missing is missing too, and the .do file is there
pub same_rule : (one two : Tree) (target do_file : Path) (missing : List Path) (arguments : Arguments) →
    found_of one target ≡ Rule do_file missing arguments → is_rule (found_of two target) ≡ true →
    ((p : Path) → IsAmong missing p → is_file two p ≡ false) → is_file two do_file ≡ true →
    found_of two target ≡ Rule do_file missing arguments
same_rule = same.same_rule

-- a target that was built is built the same where its whole record agrees
pub records_agree : (one two : Setting) (a b : Ask) → AreAlike one two →
    (deps : List Dep) (parsed : Result Script ScriptFault) (file : Option (List ℕ)) →
    (by_script one deps parsed a).outcome ≡ Some (Built file) →
    AllAgree one a two b (by_script one deps parsed a).deps → by_script two deps parsed b ≡ by_script one deps parsed a
records_agree = agreeing.script_agrees

-- the record under the one ask is followed by that under the other
pub records_follow : (one two : Setting) (a b : Ask) → AreAlike one two →
    (deps : List Dep) (parsed : Result Script ScriptFault) →
    IsFollowed one a two b (by_script two deps parsed b).deps (by_script one deps parsed a).deps
records_follow = agreeing.script_follows

-- of entries that others follow, the operand behind the first that agree is one of the others
pub followed_next : (one two : Setting) (a b : Ask) (others front back : List Dep) (p : Path) →
    IsFollowed one a two b others (front ++ record { kind = Change; path = p } ∷ back) → AllAgree one a two b front →
    is_entered others Change p ≡ true
followed_next = followed.followed-next

-- what a built target's record has beside the entries of the search is met
pub recorded_met : (setting : Setting) (ask : Ask) (deps : List Dep) (parsed : Result Script ScriptFault)
    (file : Option (List ℕ)) → (by_script setting deps parsed ask).outcome ≡ Some (Built file) →
    (kind : DepKind) (p : Path) → is_entered (by_script setting deps parsed ask).deps kind p ≡ true →
    is_entered deps kind p ≡ false → IsMet setting ask kind p
recorded_met = agreeing.script_met

-- it has no entry about the top directory
pub top_unchanged : (tree : Tree) (limit : ℕ) (target : Path) (arguments : Arguments) →
    node_at tree [] ≡ Some Directory → (do_file : Path) (missing : List Path) →
    found_of tree target ≡ Rule do_file missing arguments →
    (parsed : Result Script ScriptFault) (ask : Ask) (file : Option (List ℕ)) →
    (by_script (setting_of tree limit target arguments) (search_deps missing do_file) parsed ask).outcome ≡ Some
    (Built file) → held_in None (ask []) ≡ None →
    is_entered (by_script (setting_of tree limit target arguments)
    (search_deps missing do_file) parsed ask).deps Change [] ≡ false
top_unchanged = top.top_unchanged

pub top_not_created : (tree : Tree) (limit : ℕ) (target : Path) (arguments : Arguments) →
    node_at tree [] ≡ Some Directory → (do_file : Path) (missing : List Path) →
    found_of tree target ≡ Rule do_file missing arguments →
    (parsed : Result Script ScriptFault) (ask : Ask) (file : Option (List ℕ)) →
    (by_script (setting_of tree limit target arguments) (search_deps missing do_file) parsed ask).outcome ≡ Some
    (Built file) →
    is_entered (by_script (setting_of tree limit target arguments)
    (search_deps missing do_file) parsed ask).deps Create [] ≡ false
top_not_created = top.top_not_created

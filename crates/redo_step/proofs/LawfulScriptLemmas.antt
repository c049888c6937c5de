-- A target's progress by its script follows the laws.
use Rattle.std.proofs.Common.{◌≡◌, ℕ, zero, suc, true, false, ◌&&◌, not, inl, inr, List, Option, Some, None, Result, Ok}
use Rattle.std.proofs.Common.{Err, refl, sym, ◌∙◌}
use Rattle.std.specs.Prelude.{is_some, is_none}
use Rattle.std.proofs.lemmas.Bool.{both_ways, not-true}
use Rattle.redo_names.proofs.ListLemmas.{filter-passes}
use Rattle.redo_script.specs.Syntax.{Script}
use Rattle.redo_script.specs.declared.fault.ScriptFault.{ScriptFault}
use Rattle.redo_record.specs.declared.deps.Dep.{Dep}
use Rattle.redo_record.specs.declared.deps.DepKind.TheVariants.{Change}
use Rattle.redo_record.specs.declared.outcome.Outcome.{Outcome}
use Rattle.redo_record.specs.declared.outcome.Outcome.TheVariants.{Failed}
use Rattle.redo_record.specs.declared.outcome.Why.TheVariants as why
use Rattle.redo_record.specs.Paths.{Path, IsAmong, AreDistinct}
use Rattle.redo_step.specs.Setting.{Setting, is_source}
use Rattle.redo_step.specs.Runs.{State, exited, faulted, stopped, Run, goes, ends, end_state, start}
use Rattle.redo_step.specs.Statements.{meaning}
use Rattle.redo_step.specs.Declaring.{lacks}
use Rattle.redo_record.specs.Answers.{Ask}
use Rattle.redo_record.specs.Entries.{is_entered, Extends, with_all, search_deps}
use Rattle.redo_step.specs.Reach.{Keeps}
use Rattle.redo_step.specs.Begins.{AreKnown, Begins}
use Rattle.redo_step.specs.Results.{after_run, by_script}
use Rattle.redo_record.specs.Progress.{changes, operands, Gains, IsLawful}
use Rattle.redo_step.proofs.RunLemmas.{Keeps-refl}
use Rattle.redo_record.proofs.EntryLemmas.{Extends-refl}
use Rattle.redo_step.proofs.BeginsLemmas.{run_begins}
use Rattle.redo_record.proofs.OperandLemmas.{all_cases, all_second, distinct-all, distinct-operands}
use Rattle.redo_record.proofs.OperandLemmas.{operand-entered, entered-operand}
use Rattle.redo_record.proofs.LawfulLemmas.{at_once-lawful, search_distinct, search_entry, sources-asked}

-- Runs and progress

stopped_none : (deps : List Dep) (r : Run) (ps : List Path) (s : State) → r ≡ ends (stopped ps) s → after_run deps r ≡ record { outcome = None; deps = with_all deps s.entries }
stopped_none deps r ps s e = rw e refl

module _ (setting : Setting) (ask later : Ask) (deps : List Dep) where
  -- of a run that ended the record has every answer
  ended-known : (r : Run) (o : Outcome) → Begins setting ask later r r → (after_run deps r).outcome ≡ Some o → AreKnown setting ask (end_state r).entries
  ended-known (goes s) o b e = b.1
  ended-known (ends (exited n) s) o b e = b.1
  ended-known (ends (faulted w) s) o b e = b.1
  ended-known (ends (stopped ps) s) o b e = absurd cc

  -- one that stopped lacks an answer
  stopped-lacks : (r r' : Run) → Begins setting ask later r r' → (after_run deps r).outcome ≡ None → (p : Path) × (is_entered (end_state r).entries Change p ≡ true) × (lacks setting ask p ≡ true)
  stopped-lacks (goes s) r' b e = absurd cc
  stopped-lacks (ends (exited zero) s) r' b e = absurd cc
  stopped-lacks (ends (exited (suc n)) s) r' b e = absurd cc
  stopped-lacks (ends (faulted w) s) r' b e = absurd cc
  stopped-lacks (ends (stopped ps) s) r' b e = b.lacking

  -- where the asks agree on what is asked for, the runs come equally far
  alike : (r r' : Run) → Begins setting ask later r r' → ((p : Path) → is_entered (end_state r).entries Change p ≡ true → lacks setting ask p ≡ true → lacks setting later p ≡ true) → after_run deps r ≡ after_run deps r'
  alike (goes s) r' b same = rw b.0 refl
  alike (ends (exited n) s) r' b same = rw b.0 refl
  alike (ends (faulted w) s) r' b same = rw b.0 refl
  alike (ends (stopped ps) s) r' b same =
      let lacking = b.lacking in
      let there = b.stays lacking.0 lacking.1 (same lacking.0 lacking.1 lacking.2) in
      sym (stopped_none deps r' there.0 s there.1)

  -- with more answers it asks for no less
  more : (r r' : Run) → Begins setting ask later r r' → Extends (end_state r).entries (end_state r').entries
  more (goes s) r' b = rw b.0 (Extends-refl s.entries)
  more (ends (exited n) s) r' b = rw b.0 (Extends-refl s.entries)
  more (ends (faulted w) s) r' b = rw b.0 (Extends-refl s.entries)
  more (ends (stopped ps) s) r' b = b.extends

  -- while one answer lacks it stays
  waiting : (r r' : Run) (p : Path) → Begins setting ask later r r' → is_entered (end_state r).entries Change p ≡ true → lacks setting later p ≡ true → after_run deps r' ≡ after_run deps r
  waiting (goes s) r' p b h l = rw b.0 refl
  waiting (ends (exited n) s) r' p b h l = rw b.0 refl
  waiting (ends (faulted w) s) r' p b h l = rw b.0 refl
  waiting (ends (stopped ps) s) r' p b h l =
      let there = b.stays p h l in
      stopped_none deps r' there.0 s there.1

none_lacks : (source : Option (List ℕ)) (o : Option Outcome) → (is_none source && is_none o) ≡ true → (source ≡ None) × (o ≡ None)
none_lacks None None e = (refl, refl)
none_lacks None (Some a) e = absurd cc
none_lacks (Some b) o e = absurd cc

none_source : (o : Option (List ℕ)) → is_some o ≡ false → o ≡ None
none_source None e = refl
none_source (Some b) e = absurd cc

module _ (setting : Setting) (script : Script) (deps : List Dep) (sources : (q : Path) → is_entered deps Change q ≡ true → is_some (setting.source q) ≡ true) where
  run_under : Ask → Run
  run_under a = meaning setting a script

  asked_from : (a : Ask) (q : Path) → IsAmong (operands (is_source setting) (after_run deps (run_under a)).deps) q → (is_some (setting.source q) ≡ false) × (is_entered (end_state (run_under a)).entries Change q ≡ true)
  asked_from a q m =
      let target_too : is_some (setting.source q) ≡ false = not-true _ (filter-passes (λ p. not (is_some (setting.source p))) (changes (after_run deps (run_under a)).deps) q m) in (
        target_too,
        elim (all_cases deps (end_state (run_under a)).entries Change q (operand-entered (is_source setting) (after_run deps (run_under a)).deps q m)) [
          | inl first ↦ absurd (both_ways _ target_too (sources q first))
          | inr own ↦ own
        ],
      )

  asked_to : (a : Ask) (q : Path) → is_some (setting.source q) ≡ false → is_entered (end_state (run_under a)).entries Change q ≡ true → IsAmong (operands (is_source setting) (after_run deps (run_under a)).deps) q
  asked_to a q s h = entered-operand (is_source setting) (after_run deps (run_under a)).deps q s (all_second deps (end_state (run_under a)).entries Change q h)

  lack_from : (a : Ask) (q : Path) → lacks setting a q ≡ true → (is_some (setting.source q) ≡ false) × (a q ≡ None)
  lack_from a q l =
      let both = none_lacks (setting.source q) (a q) l in
      (rw both.0 refl, both.1)

  lack_to : (a : Ask) (q : Path) → is_some (setting.source q) ≡ false → a q ≡ None → lacks setting a q ≡ true
  lack_to a q s none = rw (none_source (setting.source q) s, none) refl

  begins : (a b : Ask) → Keeps setting (end_state (run_under a)).entries a b → Begins setting a b (run_under a) (run_under b)
  unfolding run_under meaning
  begins a b keeps = run_begins setting a b script start (record { known = λ p h. absurd cc }) keeps

  keeps-agreeing : (a b : Ask) → ((q : Path) → IsAmong (operands (is_source setting) (after_run deps (run_under a)).deps) q → a q ≡ b q) → Keeps setting (end_state (run_under a)).entries a b
  keeps-agreeing a b same = record { same = λ p x n h e. sym (same p (asked_to a p (rw n refl) h)) ∙ e }

  keeps-extending : (a b : Ask) → Gains (is_source setting) a b → Keeps setting (end_state (run_under a)).entries a b
  keeps-extending a b x = record { same = λ p y n h e. x p y (rw n refl) e }

  run-lawful : AreDistinct (changes deps) → IsLawful (is_source setting) (λ a. after_run deps (run_under a))
  run-lawful once = record {
    local = λ a b same. alike setting a b deps (run_under a) (run_under b) (begins a b (keeps-agreeing a b same)) (λ p h l.
        let lack = lack_from a p l in lack_to b p lack.0 (sym (same p (asked_to a p lack.0 h)) ∙ lack.1));
    answered = λ q a o e m none.
        let known = ended-known setting a a deps (run_under a) o (begins a a (Keeps-refl setting (end_state (run_under a)).entries a)) e in
        let asked = asked_from a q m in
        both_ways _ (known.known q asked.1) (lack_to a q asked.0 none);
    lacking = λ a e.
        let found = stopped-lacks setting a a deps (run_under a) (run_under a) (begins a a (Keeps-refl setting (end_state (run_under a)).entries a)) e in
        let lack = lack_from a found.0 found.2 in
        (found.0, asked_to a found.0 lack.0 found.1, lack.1);
    grows = λ q a b x m.
        let asked = asked_from a q m in
        asked_to b q asked.0 ((more setting a b deps (run_under a) (run_under b) (begins a b (keeps-extending a b x))).still Change q asked.1);
    waits = λ q a b x m none.
        let asked = asked_from a q m in
        waiting setting a b deps (run_under a) (run_under b) q (begins a b (keeps-extending a b x)) asked.1 (lack_to b q asked.0 none);
    distinct = λ a. distinct-operands (is_source setting) (after_run deps (run_under a)).deps (distinct-all deps (end_state (run_under a)).entries once);
  }

-- The record of the search

search_sources : (setting : Setting) (missing : List Path) (do_file : Path) → is_some (setting.source do_file) ≡ true → (q : Path) → is_entered (search_deps missing do_file) Change q ≡ true → is_some (setting.source q) ≡ true
search_sources setting missing do_file fit q h = let same = search_entry missing do_file q h in rw (← same) fit

pub script-lawful : (setting : Setting) (missing : List Path) (do_file : Path) (parsed : Result Script ScriptFault) → is_some (setting.source do_file) ≡ true → IsLawful (is_source setting) (by_script setting (search_deps missing do_file) parsed)
unfolding run_under
script-lawful setting missing do_file (Err fault) found = at_once-lawful (is_source setting) (Failed (why.Script fault)) (search_deps missing do_file) (sources-asked (is_source setting) (search_deps missing do_file) (search_sources setting missing do_file found))
script-lawful setting missing do_file (Ok script) found = run-lawful setting script (search_deps missing do_file) (search_sources setting missing do_file found) (search_distinct missing do_file)

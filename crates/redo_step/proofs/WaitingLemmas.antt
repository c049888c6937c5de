-- A wait for operands is a wait for those of them that are no sources.
use Rattle.std.proofs.Common.{◌≡◌, ℕ, suc, ◌+◌, ◌<◌, Bool, true, false, ◌&&◌, ◌||◌, cond, List, [], ◌∷◌}
use Rattle.std.proofs.Common.{length, drop, get_or, Result, Ok, Err, refl, sym, ap, ◌∙◌, add-one}
use Rattle.std.specs.Prelude.{is_none, Some, IfSome}
use Rattle.std.proofs.Math.Seq.{drop-cons}
use Rattle.std.specs.List.{filter}
use Rattle.redo_record.specs.declared.deps.DepKind.TheVariants as kinds
use Rattle.redo_step.specs.declared.halt.Halt.{Halt}
use Rattle.redo_record.specs.Paths.{Path, with_new, with_path}
use Rattle.redo_script.specs.Syntax.{Word, Command, change}
use Rattle.redo_step.specs.declared.halt.Halt.TheVariants as stops
use Rattle.redo_step.specs.declared.wait.WaitingChange.{WaitingChange}
use Rattle.redo_step.specs.inside.Machine.{kept_by, run_by, IsMeant}
use Rattle.redo_step.specs.inside.Kept.{HasOperands}
use Rattle.redo_record.proofs.EntryLemmas.{with_entries-again}
use Rattle.redo_step.specs.Setting.{Setting}
use Rattle.redo_step.specs.Runs.{State, End, stopped, ends}
use Rattle.redo_step.specs.Declaring.{declaring, lacking, lacks, any_failed, waited, changed}
use Rattle.redo_step.specs.Words.{operands_of}
use Rattle.redo_step.specs.Statements.{command_run}
use Rattle.redo_record.specs.Answers.{Ask, is_failure}
use Rattle.redo_step.specs.inside.Waiting.{targets_in, unanswered, any_failure, waited_on}

-- what stops for want of answers keeps this wait
abbrev pub KeptOnStop : {X : Type 0} → WaitingChange → Result X Halt → Type 0
KeptOnStop w result = (s : State) (ps : List Path) → run_by result s ≡ Some (ends (stopped ps) s) → kept_by result ≡ Some w

module _ (setting : Setting) (ask : Ask) where
  filtered : (ps : List Path) → filter (lacks setting ask) ps ≡ filter (λ p. is_none (ask p)) (targets_in setting ps)
  filtered [] = refl
  filtered (p ∷ ps) =
      elim (is_none (setting.source p)) as (λ (v : Bool). cond (v && is_none (ask p)) (p ∷ filter (lacks setting ask) ps) (filter (lacks setting ask) ps) ≡ filter (λ p. is_none (ask p)) (cond v (p ∷ targets_in setting ps) (targets_in setting ps)))
      [ true ↦ (λ i. cond (is_none (ask p)) (p ∷ filtered ps i) (filtered ps i)) | false ↦ filtered ps ]

  pub lacking_is : (found ps : List Path) → lacking setting ask found ps ≡ unanswered ask found (targets_in setting ps)
  lacking_is found ps = ap (with_new found) (filtered ps)

  pub any_failed_is : (ps : List Path) → any_failed setting ask ps ≡ any_failure ask (targets_in setting ps)
  any_failed_is [] = refl
  any_failed_is (p ∷ ps) =
      elim (is_none (setting.source p)) as (λ (v : Bool). ((v && is_failure (ask p)) || any_failed setting ask ps) ≡ any_failure ask (cond v (p ∷ targets_in setting ps) (targets_in setting ps)))
      [ true ↦ rw (any_failed_is ps) refl | false ↦ any_failed_is ps ]

  waited_by : (line : ℕ) (ps qs : List Path) (s : State) → waited setting ask line ps qs s ≡ waited_on ask line (targets_in setting ps) qs s
  waited_by line ps [] s = rw (any_failed_is ps) refl
  waited_by line ps (q ∷ qs) s = refl

  pub waited_is : (line : ℕ) (ps : List Path) (s : State) → waited setting ask line ps (lacking setting ask [] ps) s ≡ waited_on ask line (targets_in setting ps) (unanswered ask [] (targets_in setting ps)) s
  waited_is line ps s = waited_by line ps (lacking setting ask [] ps) s ∙ ap (λ qs. waited_on ask line (targets_in setting ps) qs s) (lacking_is [] ps)

  -- a redo-ifchange whose operands are declared
  pub changed_is : (line : ℕ) (meant : Result (List Path) End) (ps targets : List Path) (s t : State) → meant ≡ Ok ps → targets ≡ targets_in setting ps → t ≡ declaring s kinds.Change ps → changed setting ask line meant s ≡ waited_on ask line targets (unanswered ask [] targets) t
  changed_is line meant ps targets s t m g d = rw (m, g, d) (waited_is line ps (declaring s kinds.Change ps))

  -- what was waited for is kept
  pub keeps_waiting : {X : Type 0} (line : ℕ) (c : Command) (w : WaitingChange) (result : Result X Halt) (t : State) → HasOperands setting line c t w → KeptOnStop w result → IfSome (kept_by result) (HasOperands setting line c t)
  keeps_waiting line c w (Err (stops.Waits ps v)) t has h = let same : v ≡ w = cc (h t ps.items refl) in rw same has
  keeps_waiting line c w result t has h = tt

  again : (s t : State) (ps : List Path) → t ≡ declaring s kinds.Change ps → declaring t kinds.Change ps ≡ t
  again s t ps d = rw d (ap (λ es. record s { entries = es }) (with_entries-again s.entries kinds.Change ps))

  pub changed_runs : {X : Type 0} (line : ℕ) (words : List Word) (ps targets : List Path) (s t : State) (result : Result X Halt) → operands_of setting line words ≡ Ok ps → targets ≡ targets_in setting ps → t ≡ declaring s kinds.Change ps → IsMeant (run_by result t) (waited_on ask line targets (unanswered ask [] targets) t) → IsMeant (run_by result t) (changed setting ask line (operands_of setting line words) s)
  changed_runs line words ps targets s t result m g d h = rw (changed_is line (operands_of setting line words) ps targets s t m g d) h

  pub changed_keeps : {X : Type 0} (line : ℕ) (words : List Word) (ps : List Path) (w : WaitingChange) (s t : State) (result : Result X Halt) → operands_of setting line words ≡ Ok ps → w.line ≡ line → w.targets.items ≡ targets_in setting ps → t ≡ declaring s kinds.Change ps → KeptOnStop w result → IfSome (kept_by result) (HasOperands setting line (change words) t)
  changed_keeps line words ps w s t result m l g d h =
      keeps_waiting line (change words) w result t (record { words = words; operands = ps; same_line = l; same_command = refl; names = m; waits_for = g; declared = again s t ps d }) h

  -- a redo-ifchange that waited, when it goes on
  pub first_is : (line : ℕ) (c : Command) (w : WaitingChange) (s : State) → HasOperands setting line c s w → command_run setting ask line c s ≡ waited_on ask w.line w.targets.items (unanswered ask [] w.targets.items) s
  first_is line c w s has = rw (has.same_command, has.same_line) (changed_is line (operands_of setting line has.words) has.operands w.targets.items s s has.names has.waits_for (sym has.declared))

-- Gathering what has no answer

module _ (ask : Ask) where
  new_goes : (found ps : List Path) (p : Path) → is_none (ask p) ≡ true → unanswered ask found (p ∷ ps) ≡ unanswered ask (with_path found p) ps
  new_goes found ps p h = rw h refl

  known_goes : (found ps : List Path) (p : Path) → is_none (ask p) ≡ false → unanswered ask found (p ∷ ps) ≡ unanswered ask found ps
  known_goes found ps p h = rw h refl

  module _ (paths : List Path) (i : ℕ) (p : Path) (lt : i < length paths) (is : p ≡ get_or paths i p) (found : List Path) (total : List Path) (before : unanswered ask found (drop i paths) ≡ total) where
    split : drop i paths ≡ p ∷ drop (i + 1) paths
    split = rw add-one (drop-cons paths i p lt ∙ ap (λ q. q ∷ drop (suc i) paths) (sym is))

    pub set_goes : (new : List Path) → is_none (ask p) ≡ true → new ≡ with_path found p → unanswered ask new (drop (i + 1) paths) ≡ total
    set_goes new h n = rw n (sym (ap (unanswered ask found) split ∙ new_goes found (drop (i + 1) paths) p h) ∙ before)

    pub some_goes : (new : List Path) → is_none (ask p) ≡ false → new ≡ found → unanswered ask new (drop (i + 1) paths) ≡ total
    some_goes new h n = rw n (sym (ap (unanswered ask found) split ∙ known_goes found (drop (i + 1) paths) p h) ∙ before)

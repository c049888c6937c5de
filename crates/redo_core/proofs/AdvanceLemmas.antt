-- A work that is advanced comes to what its piece says.
use Rattle.std.proofs.Common.{◌≡◌, ℕ, ◌+◌, ◌↔◌, List, [], ◌∷◌, filter, Option, Some, None, inl, inr, Bool, true, not}
use Rattle.std.proofs.Common.{◌&&◌, refl, sym, ap, subst, ◌∙◌, Global}
use Rattle.std.specs.Prelude.{is_none, is_some, Box}
use Rattle.std.specs.declared.vec.Vec.{Vec}
use Rattle.std.proofs.lemmas.Bool.{and_from, cases_Bool}
use Rattle.redo_build.proofs.QueueLemmas.{filter-keeps}
use Rattle.redo_record.specs.declared.deps.Dep.{Dep}
use Rattle.redo_record.specs.declared.outcome.Outcome.{Outcome}
use Rattle.redo_step.specs.declared.job.Done.{Done}
use Rattle.redo_record.specs.Progress.{Progress, changes}
use Rattle.redo_tree.specs.Tree.{Tree, file_at}
use Rattle.redo_step.specs.Setting.{Setting, is_rule, setting_by}
use Rattle.redo_step.specs.Reach.{Keeps}
use Rattle.redo_step.specs.JobView.{JobView, job_setting, progress_of, record_so_far}
use Rattle.redo_step.specs.Job.{AsksFor, EndsAs, with_rest}
use Rattle.redo_record.specs.Paths.{IsAmong}
use Rattle.redo_build.specs.Rules.{Ask, Rules, AreLawful, asked_under, operands}
use Rattle.redo_build.specs.Outcomes.{outcome_at}
use Rattle.redo_build.specs.Schedule.{only}
use Rattle.redo_build.specs.inside.Turns.{IsPiece, progress_at_turn}
use Rattle.redo_rules.specs.Build.{GivenView, rules_for}
use Rattle.redo_rules.proofs.Public.{lawful_for}
use Rattle.redo_core.specs.inside.Works.{IsWorkWith, IsJobOf, IsStopped, all_asked, job_deps, told_in, waited_by}
use Rattle.redo_core.specs.inside.Decided.{IsDecided}
use Rattle.redo_build.specs.Lacking.{lacking_under}
use Rattle.redo_core.specs.inside.Ends.{IsEndAt, end_progress}
use Rattle.redo_core.specs.Views.{FactView}
use Rattle.redo_core.specs.declared.work.End.{End}
use Rattle.redo_core.specs.declared.work.End.TheVariants.{Ended, Stopped}
use Rattle.redo_core.specs.declared.work.Begun.{Begun}
use Rattle.redo_core.specs.declared.facts.Facts.{Facts}
use Rattle.redo_build.proofs.DepthLemmas.{cases_Option}
use Rattle.redo_build.proofs.HandoverLemmas.{piece-begun, piece-fact}
use Rattle.redo_core.proofs.AllAskedLemmas.{asked-first}
use Rattle.redo_core.proofs.JobLemmas.{job_progress}
use Rattle.redo_record.specs.Entries.{with_all}
use Rattle.redo_step.proofs.Public.{stop_lacks}
use Rattle.redo_build.proofs.TurnLemmas.{only-among, only-some}

-- What lacks

none_passes : (f : List ℕ → Bool) (ps : List (List ℕ)) → ((q : List ℕ) → IsAmong ps q → f q ≡ true → ⊥) → filter f ps ≡ []
none_passes f [] h = refl
none_passes f (p ∷ ps) h = elim (cases_Bool (f p)) [
  | inl t ↦ absurd (h p (inl refl) t)
  | inr not_it ↦ rw not_it (none_passes f ps (λ q m t. h q (inr m) t))
]

one_passes : (f : List ℕ → Bool) (ps : List (List ℕ)) (q : List ℕ) → IsAmong ps q → f q ≡ true → filter f ps ≡ [] → ⊥
one_passes f ps q m t e = let P : List (List ℕ) → Type 0 = λ xs. IsAmong xs q in subst P e (filter-keeps f ps q m t)

none_is : (o : Option Outcome) → is_none o ≡ true → o ≡ None
none_is None h = refl
none_is (Some x) h = cc

-- a target has ended exactly where it lacks nothing
pub ended-lacks : (r : Rules) → AreLawful r → (p : List ℕ) (ask : Ask) → ((r.progress p ask).outcome ≡ None → ⊥) ↔ (lacking_under r p ask ≡ [])
ended-lacks r lawful p ask = (
  λ ended. elim (cases_Option (r.progress p ask).outcome) [
    | inl none ↦ absurd (ended none)
    | inr some ↦ none_passes (λ q. is_none (ask q)) (asked_under r p ask) (λ q m t. (lawful.each p).answered q ask some.0 some.1 m (none_is (ask q) t))
  ],
  λ nothing stopped.
      let found = (lawful.each p).lacking ask stopped in
      one_passes (λ q. is_none (ask q)) (asked_under r p ask) found.0 found.1 (rw found.2 refl) nothing,
)

-- what has a source is left out, and then what has an answer
no-sources : (source : List ℕ → Option (List ℕ)) (ask : Ask) (ps : List (List ℕ)) →
    filter (λ q. is_none (source q) && is_none (ask q)) ps ≡ filter (λ q. is_none (ask q)) (filter (λ q. not (is_some (source q))) ps)
no-sources source ask [] = refl
no-sources source ask (p ∷ ps) = elim (cases_Option (source p)) [
  | inl none ↦ elim (cases_Bool (is_none (ask p))) [
    | inl t ↦ rw (none, t) (ap (λ qs. p ∷ qs) (no-sources source ask ps))
    | inr f ↦ rw (none, f) (no-sources source ask ps)
  ]
  | inr some ↦ rw some.1 (no-sources source ask ps)
]

-- how far a target comes as its script does, which is begun behind a check that asked for these
abbrev pub behind_asked : List Dep → Progress → Progress
behind_asked asked now = record { outcome = now.outcome; deps = with_all asked now.deps }

module _ (given : GivenView) (job : JobView) (facts : Facts) (work : IsWorkWith given job facts) where
  abbrev r : Rules
  r = rules_for given

  -- it has all that its target asked for
  has-all : (q : List ℕ) → IsAmong (operands (rules_for given) (all_asked job facts)) q → told_in facts q ≡ None → ⊥
  has-all q asked none =
      work.is_work.fed q asked (sym (only-among (operands r (all_asked job facts)) (outcome_at r work.is_work.depth) q asked) ∙ sym (work.exact q) ∙ none)

  -- how far the target comes with what the work holds is how far it comes at its turn
  at-turn : (rules_for given).progress job.target (told_in facts) ≡ progress_at_turn (rules_for given) job.target (outcome_at (rules_for given) work.is_work.depth) (work.is_work.looks + job.turn)
  at-turn =
      ((lawful_for given).each job.target).local (told_in facts) (only (operands r (all_asked job facts)) (outcome_at r work.is_work.depth)) (λ q m. work.exact q) ∙
      ap (λ (ds : List Dep). r.progress job.target (only (operands r ds) (outcome_at r work.is_work.depth))) work.is_work.is

  -- it comes as far as its script does, and asked for what its check asked for first
  pub work-progress : (now : Progress) → progress_of job (told_in facts) ≡ now → behind_asked facts.asked now ≡ (rules_for given).progress job.target (told_in facts)
  work-progress now e =
      ap (behind_asked facts.asked) (sym e ∙ job_progress given job work.is_job (told_in facts)) ∙ sym (work.behind.progress (told_in facts) (λ q m. refl))

  -- what it comes to is a piece
  unfoldable pub advanced-piece : (now : Progress) → progress_of job (told_in facts) ≡ now → IsPiece (rules_for given) job.target job.turn (behind_asked facts.asked now)
  unfolding at-turn
  advanced-piece now e =
      let Q : List Dep → Type 0 = λ ds. (q : List ℕ) → IsAmong (operands r ds) q → outcome_at r work.is_work.depth q ≡ None → ⊥ in
      record {
        depth = work.is_work.depth;
        looks = work.is_work.looks;
        begun = work.is_work.begun;
        came = work.is_work.came;
        fed = subst Q work.is_work.is work.is_work.fed;
        is = work-progress now e ∙ at-turn;
      }

  module _ (done : Done) (ends : EndsAs (told_in facts) job done) where
    abbrev own : Progress
    own = record { outcome = Some done.outcome; deps = done.deps }

    -- a script that ended asked for nothing that the build doesn't tell alike
    alike : (q : List ℕ) → IsAmong (asked_under (rules_for given) job.target (told_in facts)) q →
        told_in facts q ≡ outcome_at (rules_for given) work.is_work.depth q
    alike q m = elim (cases_Option (told_in facts q)) [
      | inl none ↦
          let ended : (r.progress job.target (told_in facts)).outcome ≡ Some done.outcome =
          ap (λ (x : Progress). x.outcome) (sym (work-progress own ends)) in
          absurd (((lawful_for given).each job.target).answered q (told_in facts) done.outcome ended m none)
      | inr some ↦ some.1 ∙ sym (only-some (operands r (all_asked job facts)) (outcome_at r work.is_work.depth) q some.0 (sym (work.exact q) ∙ some.1))
    ]

    -- its record is what the script declared
    shown : (rules_for given).recorded job.target (outcome_at (rules_for given) work.is_work.depth) ≡ done.deps
    shown =
        sym ((lawful_for given).recorded_local job.target (told_in facts) (outcome_at r work.is_work.depth) alike) ∙
        work.behind.recorded (told_in facts) (λ q m. refl) ∙
        ap (λ (x : Progress). x.deps) (sym (job_progress given job work.is_job (told_in facts)) ∙ ends)

    -- a script that ended gives a fact
    pub advanced-fact : IsDecided given job.target done.outcome done.deps true
    unfolding advanced-piece
    advanced-fact =
        let piece = advanced-piece own ends in
        let fact = piece-fact r (lawful_for given) job.target job.turn (with_all facts.asked done.deps) done.outcome piece in
        let ruled : r.has_rule job.target ≡ true = ap is_rule work.is_job.found in (
          with_all facts.asked done.deps,
          record {
            depth = fact.depth;
            is = fact.is;
            recorded = sym shown ∙ fact.recorded;
            begun = sym (and_from (r.has_rule job.target) (r.begins job.target (outcome_at r piece.depth)) ruled
                (piece-begun r (lawful_for given) job.target job.turn (behind_asked facts.asked own) piece)) ∙ fact.begun;
          },
        )

    -- the same, of a fact that is still to be made
    pub fact-parts : (other : GivenView) (path : List ℕ) (deps : List Dep) → other ≡ given → path ≡ job.target → deps ≡ done.deps →
        IsDecided other path done.outcome deps true
    fact-parts other path deps of_given of_target of_deps =
        let P : GivenView → Type 0 = λ x. IsDecided x path done.outcome deps true in
        let Q : List ℕ → Type 0 = λ x. IsDecided given x done.outcome deps true in
        let R : List Dep → Type 0 = λ x. IsDecided given job.target done.outcome x true in
        subst P (sym of_given) (subst Q (sym of_target) (subst R (sym of_deps) advanced-fact))

    module _ (fact : FactView) (asked : List Dep) (outcome : fact.outcome ≡ done.outcome) (deps : fact.deps ≡ done.deps) (first : asked ≡ facts.asked) where
      -- a fact of what it came to is the end of a piece that ended
      pub ended-end : fact.given ≡ given → fact.target ≡ job.target → IsEndAt given job.target job.turn (Ended fact asked)
      ended-end of_given of_target =
          let P : List Dep → Type 0 = λ ds. IsEndAt given job.target job.turn (Ended fact ds) in
          subst P (sym first) (record {
            is_piece = advanced-piece (record { outcome = Some fact.outcome; deps = fact.deps }) (ends ∙ rw (outcome, deps) refl);
            is_end = (of_given, of_target);
          })

  module _ (later : JobView) (paths : List (List ℕ)) (asks : AsksFor (told_in facts) job later paths) where
    still_job : IsJobOf given later
    still_job =
        let P : JobView → Type 0 = IsJobOf given in
        let further : IsJobOf given (with_rest job later.place later.state (job.turn + 1)) = record {
          of_tree = work.is_job.of_tree;
          of_limits = work.is_job.of_limits;
          found = work.is_job.found;
          script = work.is_job.script;
        } in
        subst P (sym asks.same) further

    still_set : job_setting later ≡ job_setting job
    still_set = ap job_setting asks.same

    -- it waits for the paths that it names
    paths-are : (loops : Bool) → paths ≡ waited_by (rules_for given) (record { job = later; facts = facts; loops_long = loops })
    unfolding setting_by
    paths-are loops =
        let known = told_in facts in
        let S : Tree → Type 0 = λ tree. paths ≡ filter (λ q. is_none (file_at tree q) && is_none (known q)) (changes later.state.entries) in
        let own : S job.tree = stop_lacks (job_setting job) known asks.script paths later.state asks.lacks in
        subst S work.is_job.of_tree own ∙ no-sources (file_at given.past.sources) known (changes later.state.entries)

    -- a script that asks for more is at its next turn
    pub advanced-stopped : IsStopped given work.is_work.depth work.is_work.looks job.target job.turn later facts
    advanced-stopped =
        let deps : List Dep → Type 0 = λ ds. (q : List ℕ) → told_in facts q ≡ only (operands r ds) (outcome_at r work.is_work.depth) q in
        record {
          is_job = still_job;
          of_target = ap (λ (j : JobView). j.target) asks.same;
          at_turn = ap (λ (j : JobView). j.turn) asks.same;
          exact = subst deps work.is_work.is work.exact;
          behind = work.behind;
          checked = λ q m none. has-all q (asked-first r facts.asked (job_deps job) q m) none;
          goes_on = λ ask keeps. asks.fits ask (subst (λ (x : Setting). Keeps x later.state.entries (told_in facts) ask) still_set keeps);
          own = sym (job_progress given job work.is_job (told_in facts)) ∙ asks.progress;
        }

    -- it is the end of a piece that stopped
    pub stopped-end : (loops : Bool) (begun : Box Begun Global) (lacks : Vec (List ℕ) Global) →
        begun.value ≡ record { job = later; facts = facts; loops_long = loops } → lacks.items ≡ paths →
        IsEndAt given job.target job.turn (Stopped begun lacks)
    unfolding advanced-piece
    stopped-end loops begun lacks is same =
        record {
          is_piece = rw is (advanced-piece (record { outcome = None; deps = record_so_far later }) asks.progress);
          is_end = (rw is advanced-stopped, same ∙ rw is (paths-are loops));
        }

  -- what the piece says has an outcome exactly where the work lacks nothing
  pub end-lacks : (end : End) → end_progress end ≡ (rules_for given).progress job.target (told_in facts) →
      ((end_progress end).outcome ≡ None → ⊥) ↔ (lacking_under (rules_for given) job.target (told_in facts) ≡ [])
  end-lacks end is =
      let P : Progress → Type 0 = λ x. (x.outcome ≡ None → ⊥) ↔ (lacking_under (rules_for given) job.target (told_in facts) ≡ []) in
      subst P (sym is) (ended-lacks r (lawful_for given) job.target (told_in facts))

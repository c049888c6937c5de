-- Two runs of one script are one as long as the entries of the first agree.
use Rattle.std.proofs.Common.{◌≡◌, ℕ, zero, Bool, true, false, cond, inl, inr, Option, Some, None, Result, Ok, Err}
use Rattle.std.proofs.Common.{List}
use Rattle.std.proofs.Common.{[], ◌∷◌, refl, sym, ap, ◌∙◌}
use Rattle.std.specs.Prelude.{option_map}
use Rattle.std.proofs.lemmas.Bool.{both_ways}
use Rattle.redo_script.specs.declared.fault.ScriptFault.{ScriptFault}
use Rattle.redo_script.specs.Syntax.{Command, write, test, change, create, always, always_true, always_false, exit}
use Rattle.redo_script.specs.Syntax.{Script, finish, simple, choice, loop}
use Rattle.redo_record.specs.declared.deps.Dep.{Dep}
use Rattle.redo_record.specs.declared.deps.DepKind.{DepKind}
use Rattle.redo_record.specs.declared.deps.DepKind.TheVariants as kinds
use Rattle.redo_record.specs.declared.outcome.Outcome.TheVariants as outcomes
use Rattle.redo_record.specs.declared.outcome.Why.{Why}
use Rattle.redo_record.specs.declared.outcome.Why.TheVariants as why
use Rattle.redo_record.specs.Paths.{Path}
use Rattle.redo_record.specs.Answers.{Ask}
use Rattle.redo_record.specs.Entries.{is_entered, with_all}
use Rattle.redo_step.specs.Setting.{Setting, with_value}
use Rattle.redo_step.specs.Runs.{State, End, exited, faulted, stopped, Run, goes, ends, end_state, start, ◌>>=◌}
use Rattle.redo_step.specs.Words.{texts_of, paths_of}
use Rattle.redo_step.specs.Declaring.{declaring, lacking, any_failed, waited, changed, obstacle, free_of, free_paths}
use Rattle.redo_step.specs.Declaring.{created}
use Rattle.redo_step.specs.Outputs.{written}
use Rattle.redo_step.specs.Files.{tested}
use Rattle.redo_step.specs.Statements.{with_status, with_state, command_run, condition_result, then_run, chosen}
use Rattle.redo_step.specs.Statements.{turns, looped, run, meaning, result_of}
use Rattle.redo_step.specs.Results.{outcome_of, after_run, by_script}
use Rattle.redo_step.specs.Agreeing.{AreAlike, IsMet, AllMet, AllAgree, IsFollowed, status_of}
use Rattle.redo_record.proofs.EntryLemmas.{AllEntered, AllEntered-with_entries}
use Rattle.redo_record.proofs.BehindLemmas.{IsBeginning, beginning-refl}
use Rattle.redo_record.proofs.OperandLemmas.{all_cases, all_first, all_second}
use Rattle.redo_step.proofs.BehindRunLemmas.{created-begins, then-begins, turns-begins, run-begins}
use Rattle.redo_step.proofs.AlikeLemmas.{texts_same, paths_same, operands_same, written_same, tested_same}
use Rattle.redo_step.proofs.AlikeLemmas.{condition_same}
use Rattle.redo_step.proofs.AlikeLemmas.{waited_held, obstacle_free}
use Rattle.redo_step.proofs.MetLemmas.{Met, met_inside, met_outside, command_met, chosen_met, looped_met, run_met}
use Rattle.redo_step.proofs.FollowedLemmas.{entered-beginning, entered-other, agree-beginning, agree-nil, followed-all}
use Rattle.redo_step.proofs.FollowedLemmas.{followed-same, followed-more, followed-beginning, followed-record}
use Rattle.redo_step.proofs.FollowedLemmas.{agree_inside, followed_outside}

-- The first run is followed by the second: entry by entry, and whole where it ended with a status and all agree.
pub record Follows (one : Setting) (a : Ask) (two : Setting) (b : Ask) (r q : Run) : Type 0 where
  pub declares : IsFollowed one a two b (end_state q).entries (end_state r).entries
  pub same : (n : ℕ) → status_of r ≡ Some n → AllAgree one a two b (end_state r).entries → q ≡ r

-- nothing is declared yet
nothing_met : (setting : Setting) (ask : Ask) → AllMet setting ask []
nothing_met setting ask = record { met = λ k p h. absurd cc }

create-change : kinds.Create ≡ kinds.Change → ⊥
create-change e = absurd cc

-- what is done with the operands changes no entry
waited_entries : (setting : Setting) (ask : Ask) (line : ℕ) (ps qs : List Path) (s : State) →
    (end_state (waited setting ask line ps qs s)).entries ≡ s.entries
waited_entries setting ask line ps [] s =
    elim (any_failed setting ask ps) as
    (λ (v : Bool).
    (end_state (cond v (ends (faulted (why.Depends line)) s)
    (goes s))).entries ≡ s.entries) [ true ↦ refl | false ↦ refl ]
waited_entries setting ask line ps (q ∷ qs) s = refl

module _ (one two : Setting) (a b : Ask) where
  one_run : (r q : Run) → q ≡ r → Follows one a two b r q
  one_run r q e = rw e (record { declares = followed-same one two a b (end_state r).entries; same = λ n s all. refl })

  -- what the second run goes on with declares no less
  more_declared : (es : List Dep) (q : Run) (g : State → Run) →
      ((t : State) → IsBeginning t.entries (end_state (g t)).entries) →
      IsFollowed one a two b (end_state q).entries es → IsFollowed one a two b (end_state (then_run q g)).entries es
  more_declared es q g grows h =
      followed-more one two a b (end_state q).entries (end_state (then_run q g)).entries es
      (entered-beginning (end_state q).entries (end_state (then_run q g)).entries
      (then-begins (end_state q).entries q g (beginning-refl (end_state q).entries) grows) kinds.Change) h

  then_follows : (r q : Run) (f g : State → Run) → Follows one a two b r q →
      ((t : State) → IsBeginning t.entries (end_state (f t)).entries) →
      ((t : State) → IsBeginning t.entries (end_state (g t)).entries) →
      Met one a r →
      ((t : State) → AllMet one a t.entries → AllAgree one a two b t.entries → Follows one a two b (f t) (g t)) →
      Follows one a two b (then_run r f) (then_run q g)
  then_follows (goes t) q f g now grows grows' met next = record {
    declares = followed-beginning one two a b (end_state (then_run q g)).entries t.entries (end_state (f t)).entries
        (grows t)
        (more_declared t.entries q g grows' now.declares)
        (λ all. let same : q ≡ goes t = now.same zero refl all in rw same (next t (met zero refl) all).declares);
    same = λ n e all.
        let before : AllAgree one a two b t.entries =
        agree-beginning one two a b t.entries (end_state (f t)).entries (grows t) all in
        let same : q ≡ goes t = now.same zero refl before in
        rw same ((next t (met zero refl) before).same n e all);
  }
  then_follows (ends (exited m) t) q f g now grows grows' met next = record {
    declares = more_declared t.entries q g grows' now.declares;
    same = λ n e all. let same : q ≡ ends (exited m) t = now.same n e all in rw same refl;
  }
  then_follows (ends (faulted w) t) q f g now grows grows' met next = record {
    declares = more_declared t.entries q g grows' now.declares;
    same = λ n e all. absurd cc;
  }
  then_follows (ends (stopped ps) t) q f g now grows grows' met next = record {
    declares = more_declared t.entries q g grows' now.declares;
    same = λ n e all. absurd cc;
  }

  chosen_follows : (r q : Result Bool End) (f f' g g' : State → Run) (s : State) → q ≡ r →
      Follows one a two b (f s) (f' s) → Follows one a two b (g s) (g' s) →
      Follows one a two b (chosen r f g s) (chosen q f' g' s)
  chosen_follows (Ok true) q f f' g g' s e x y = rw e x
  chosen_follows (Ok false) q f f' g g' s e x y = rw e y
  chosen_follows (Err w) q f f' g g' s e x y = rw e (one_run (ends w s) (ends w s) refl)

  turns_follow : (f g : List ℕ → State → Run) →
      ((value : List ℕ) (t : State) → IsBeginning t.entries (end_state (f value t)).entries) →
      ((value : List ℕ) (t : State) → IsBeginning t.entries (end_state (g value t)).entries) →
      ((value : List ℕ) (t : State) → AllMet one a t.entries → Met one a (f value t)) →
      ((value : List ℕ) (t : State) → AllMet one a t.entries → AllAgree one a two b t.entries →
      Follows one a two b (f value t) (g value t)) →
      (values : List (List ℕ)) (s : State) → AllMet one a s.entries → AllAgree one a two b s.entries →
      Follows one a two b (turns f values s) (turns g values s)
  turns_follow f g x y m k [] s met all = one_run (goes s) (goes s) refl
  turns_follow f g x y m k (value ∷ values) s met all =
      then_follows (f value s) (g value s) (turns f values) (turns g values) (k value s met all)
      (turns-begins f x values) (turns-begins g y values) (m value s met) (turns_follow f g x y m k values)

  looped_follows : (r q : Result (List (List ℕ)) End) (f g : List ℕ → State → Run) → q ≡ r →
      ((value : List ℕ) (t : State) → IsBeginning t.entries (end_state (f value t)).entries) →
      ((value : List ℕ) (t : State) → IsBeginning t.entries (end_state (g value t)).entries) →
      ((value : List ℕ) (t : State) → AllMet one a t.entries → Met one a (f value t)) →
      ((value : List ℕ) (t : State) → AllMet one a t.entries → AllAgree one a two b t.entries →
      Follows one a two b (f value t) (g value t)) →
      (s : State) → AllMet one a s.entries → AllAgree one a two b s.entries →
      Follows one a two b (looped r f s) (looped q g s)
  looped_follows (Ok values) q f g e x y m k s met all = rw e (turns_follow f g x y m k values s met all)
  looped_follows (Err w) q f g e x y m k s met all = rw e (one_run (ends w s) (ends w s) refl)

-- Commands

module _ (one two : Setting) (a b : Ask) (alike : AreAlike one two) (line : ℕ) where
  changed_follows : (r : Result (List Path) End) (s : State) →
      Follows one a two b (changed one a line r s) (changed two b line r s)
  changed_follows (Err e) s = one_run one two a b (ends e s) (ends e s) refl
  changed_follows (Ok ps) s =
      let t : State = declaring s kinds.Change ps in
      let r : Run = waited one a line ps (lacking one a [] ps) t in
      let q : Run = waited two b line ps (lacking two b [] ps) t in
      let er : (end_state r).entries ≡ t.entries = waited_entries one a line ps (lacking one a [] ps) t in
      let eq : (end_state q).entries ≡ t.entries = waited_entries two b line ps (lacking two b [] ps) t in
      let entered : AllEntered t.entries kinds.Change ps = AllEntered-with_entries s.entries kinds.Change ps in
      record {
        declares = rw (er, eq) (followed-same one two a b t.entries);
        same = λ n e all.
            let there : AllAgree one a two b t.entries = rw er at all in
            waited_held two b t.entries
            (λ p h. let same = there.agree kinds.Change p h in (same.0, same.2)) line ps t entered
            ∙ sym (waited_held one a t.entries
            (λ p h. let same = there.agree kinds.Change p h in (same.0, same.1)) line ps t entered);
      }

  obstacle_follows : (ps : List Path) (s : State) →
      Follows one a two b (created (free_of ps (obstacle one line ps)) s)
      (created (free_of ps (obstacle two line ps)) s)
  obstacle_follows ps s =
      let t : State = declaring s kinds.Create ps in
      let q : Run = created (free_of ps (obstacle two line ps)) s in
      let grows : IsBeginning s.entries (end_state q).entries =
      created-begins two b (free_of ps (obstacle two line ps)) s in
      let kept : (p : Path) → is_entered s.entries kinds.Change p ≡ true →
      is_entered (end_state q).entries kinds.Change p ≡ true =
      entered-beginning s.entries (end_state q).entries grows kinds.Change in
      let entered : AllEntered t.entries kinds.Create ps = AllEntered-with_entries s.entries kinds.Create ps in
      elim (obstacle one line ps) as (λ (o : Option Why). Follows one a two b (created (free_of ps o) s) q) [
        | None ↦ record {
          declares = followed-all one two a b (end_state q).entries t.entries
              (λ p h. kept p (entered-other s.entries kinds.Create kinds.Change ps p create-change h));
          same = λ n e all. rw (obstacle_free two b t.entries (λ p h. all.agree kinds.Create p h) line ps entered) refl;
        }
        | Some w ↦ record {
          declares = followed-all one two a b (end_state q).entries s.entries kept;
          same = λ n e all. absurd cc;
        }
      ]

  paths_follow : (r : Result (List Path) End) (s : State) →
      Follows one a two b (created (r >>= λ ps. free_of ps (obstacle one line ps)) s)
      (created (r >>= λ ps. free_of ps (obstacle two line ps)) s)
  paths_follow (Ok ps) s = obstacle_follows ps s
  paths_follow (Err e) s = one_run one two a b (ends e s) (ends e s) refl

  texts_follow : (r : Result (List (List ℕ)) End) (s : State) →
      Follows one a two b (created (r >>= free_paths one line) s) (created (r >>= free_paths two line) s)
  texts_follow (Ok texts) s = rw (paths_same one two alike line texts) (paths_follow (paths_of one line texts) s)
  texts_follow (Err e) s = one_run one two a b (ends e s) (ends e s) refl

  command_follows : (c : Command) (s : State) → AllMet one a s.entries → AllAgree one a two b s.entries →
      Follows one a two b (command_run one a line c s) (command_run two b line c s)
  command_follows (write w r) s met all =
      one_run one two a b (with_state (written one a line w r s) s) (with_state (written two b line w r s) s)
      (ap (λ (x : Result State End). with_state x s) (written_same one two a b alike line s met all w r))
  command_follows (test t) s met all =
      one_run one two a b (with_status (tested one a line t s) s) (with_status (tested two b line t s) s)
      (ap (λ (x : Result Bool End). with_status x s) (tested_same one two a b alike line s met all t))
  command_follows (change ws) s met all =
      rw (operands_same one two alike line ws) (changed_follows (texts_of one line ws >>= paths_of one line) s)
  command_follows (create ws) s met all = rw (texts_same one two alike line ws) (texts_follow (texts_of one line ws) s)
  command_follows always s met all =
      let t : State = declaring s kinds.Always ([] ∷ []) in
      one_run one two a b (goes t) (goes t) refl
  command_follows always_true s met all = one_run one two a b (goes s) (goes s) refl
  command_follows always_false s met all = one_run one two a b (ends (exited 1) s) (ends (exited 1) s) refl
  command_follows (exit n) s met all = one_run one two a b (ends (exited n) s) (ends (exited n) s) refl

-- Scripts

-- a run that is followed in a turn of a loop is followed round it
follows_outside : (one two : Setting) (a b : Ask) (name value : List ℕ) (r q : Run) →
    Follows (with_value one name value) a (with_value two name value) b r q → Follows one a two b r q
follows_outside one two a b name value r q f = record {
  declares = followed_outside one two a b name value (end_state q).entries (end_state r).entries f.declares;
  same = λ n e all. f.same n e (agree_inside one two a b name value (end_state r).entries all);
}

alike_inside : (one two : Setting) (name value : List ℕ) → AreAlike one two →
    AreAlike (with_value one name value) (with_value two name value)
alike_inside one two name value alike = record {
  target = alike.target;
  directory = alike.directory;
  stands_for = alike.stands_for;
  third = alike.third;
  limit = alike.limit;
  bound = rw alike.bound refl;
}

-- the law, from any state whose entries are met and agree
run_follows : (one two : Setting) (a b : Ask) → AreAlike one two → (c : Script) (s : State) → AllMet one a s.entries →
    AllAgree one a two b s.entries → Follows one a two b (run one a c s) (run two b c s)
unfolding run
run_follows one two a b alike finish s met all = one_run one two a b (goes s) (goes s) refl
run_follows one two a b alike (simple line c rest) s met all =
    then_follows one two a b (command_run one a line c s) (command_run two b line c s) (run one a rest) (run two b rest)
    (command_follows one two a b alike line c s met all) (run-begins one a rest) (run-begins two b rest)
    (command_met one a line c s met) (run_follows one two a b alike rest)
run_follows one two a b alike (choice line c first second rest) s met all =
    then_follows one two a b (chosen (condition_result one a line c s) (run one a first) (run one a second) s)
    (chosen (condition_result two b line c s) (run two b first) (run two b second) s) (run one a rest)
    (run two b rest)
    (chosen_follows one two a b (condition_result one a line c s) (condition_result two b line c s) (run one a first)
    (run two b first) (run one a second) (run two b second) s
    (condition_same one two a b alike line s met all c) (run_follows one two a b alike first s met all)
    (run_follows one two a b alike second s met all))
    (run-begins one a rest) (run-begins two b rest)
    (chosen_met one a (condition_result one a line c s) (run one a first) (run one a second) s met
    (run_met one a first s met) (run_met one a second s met))
    (run_follows one two a b alike rest)
run_follows one two a b alike (loop line name ws body rest) s met all =
    let turn : List ℕ → State → Run = λ value. run (with_value one name value) a body in
    let turn' : List ℕ → State → Run = λ value. run (with_value two name value) b body in
    let begins : (value : List ℕ) (t : State) → IsBeginning t.entries (end_state (turn value t)).entries = λ value.
    run-begins (with_value one name value) a body in
    let begins' : (value : List ℕ) (t : State) → IsBeginning t.entries (end_state (turn' value t)).entries = λ value.
    run-begins (with_value two name value) b body in
    let inside : (value : List ℕ) (t : State) → AllMet one a t.entries → Met one a (turn value t) =
    λ value t m.
    met_outside one name value a (turn value t)
    (run_met (with_value one name value) a body t (met_inside one name value a t.entries m)) in
    then_follows one two a b (looped (texts_of one line ws) turn s) (looped (texts_of two line ws) turn' s)
    (run one a rest) (run two b rest)
    (looped_follows one two a b (texts_of one line ws) (texts_of two line ws) turn turn'
    (texts_same one two alike line ws) begins begins' inside
    (λ value t m g. follows_outside one two a b name value (turn value t) (turn' value t)
    (run_follows (with_value one name value) (with_value two name value) a b
    (alike_inside one two name value alike) body t
    (met_inside one name value a t.entries m) (agree_inside one two a b name value t.entries g))) s met all)
    (run-begins one a rest) (run-begins two b rest)
    (looped_met one a (texts_of one line ws) turn inside s met)
    (run_follows one two a b alike rest)

pub meaning_follows : (one two : Setting) (a b : Ask) → AreAlike one two → (script : Script) →
    Follows one a two b (meaning one a script) (meaning two b script)
unfolding meaning
meaning_follows one two a b alike script =
    run_follows one two a b alike script start (nothing_met one a) (agree-nil one two a b)

-- what a whole script declared before it ended with a status is met
pub meaning_met : (setting : Setting) (ask : Ask) (script : Script) → Met setting ask (meaning setting ask script)
unfolding meaning
meaning_met setting ask script = run_met setting ask script start (nothing_met setting ask)

-- Records

-- a target that was built came from a run with a status
built_status : (r : Run) (file : Option (List ℕ)) → option_map outcome_of (result_of r) ≡ Some (outcomes.Built file) →
    (n : ℕ) × (status_of r ≡ Some n)
built_status (goes s) file e = (zero, refl)
built_status (ends (exited n) s) file e = (n, refl)
built_status (ends (faulted w) s) file e = absurd (let bad : outcomes.Failed w ≡ outcomes.Built file = cc in cc)
built_status (ends (stopped ps) s) file e = absurd cc

module _ (one two : Setting) (a b : Ask) where
  followed-after : (ds : List Dep) (r q : Run) → Follows one a two b r q →
      IsFollowed one a two b (after_run ds q).deps (after_run ds r).deps
  followed-after ds r q f =
      followed-record one two a b (with_all ds (end_state q).entries) ds (end_state r).entries
      (followed-all one two a b (with_all ds (end_state q).entries) ds
      (λ p h. all_first ds (end_state q).entries kinds.Change p h))
      (λ _. followed-more one two a b (end_state q).entries (with_all ds (end_state q).entries) (end_state r).entries
      (λ p h. all_second ds (end_state q).entries kinds.Change p h) f.declares)

  agreeing-after : (ds : List Dep) (r q : Run) (file : Option (List ℕ)) → Follows one a two b r q →
      (after_run ds r).outcome ≡ Some (outcomes.Built file) → AllAgree one a two b (after_run ds r).deps →
      after_run ds q ≡ after_run ds r
  agreeing-after ds r q file f e all =
      let status = built_status r file e in
      ap (after_run ds)
      (f.same status.0 status.1
      (record { agree = λ k p h. all.agree k p (all_second ds (end_state r).entries k p h) }))

pub script_follows : (one two : Setting) (a b : Ask) → AreAlike one two →
    (ds : List Dep) (parsed : Result Script ScriptFault) →
    IsFollowed one a two b (by_script two ds parsed b).deps (by_script one ds parsed a).deps
script_follows one two a b alike ds (Ok script) =
    followed-after one two a b ds (meaning one a script) (meaning two b script)
    (meaning_follows one two a b alike script)
script_follows one two a b alike ds (Err fault) = followed-same one two a b ds

pub script_agrees : (one two : Setting) (a b : Ask) → AreAlike one two →
    (ds : List Dep) (parsed : Result Script ScriptFault) (file : Option (List ℕ)) →
    (by_script one ds parsed a).outcome ≡ Some (outcomes.Built file) →
    AllAgree one a two b (by_script one ds parsed a).deps → by_script two ds parsed b ≡ by_script one ds parsed a
script_agrees one two a b alike ds (Ok script) file e all =
    agreeing-after one two a b ds (meaning one a script) (meaning two b script) file
    (meaning_follows one two a b alike script) e all
script_agrees one two a b alike ds (Err fault) file e all = refl

-- what a built target's record has beside the entries of the search is met
pub script_met : (setting : Setting) (ask : Ask) (ds : List Dep) (parsed : Result Script ScriptFault)
    (file : Option (List ℕ)) → (by_script setting ds parsed ask).outcome ≡ Some (outcomes.Built file) →
    (k : DepKind) (p : Path) → is_entered (by_script setting ds parsed ask).deps k p ≡ true →
    is_entered ds k p ≡ false → IsMet setting ask k p
script_met setting ask ds (Ok script) file e k p h new =
    let status = built_status (meaning setting ask script) file e in
    elim (all_cases ds (end_state (meaning setting ask script)).entries k p h) [
      | inl first ↦ absurd (both_ways _ new first)
      | inr own ↦ (meaning_met setting ask script status.0 status.1).met k p own
    ]
script_met setting ask ds (Err fault) file e k p h new = absurd (both_ways _ new h)

-- What a build with a book asks of its sources holds of every tree, and a book can have each entry that the script of
-- a built target declared.
use Rattle.std.proofs.Common.{◌≡◌, ℕ, Bool, true, false, not, ◌||◌, cond, find, inl, inr, Option, Some}
use Rattle.std.proofs.Common.{None, Result, List, [], ◌∷◌, is_some, refl, sym, ap, ◌∙◌, subst}
use Rattle.std.specs.Prelude.{option_and_then, unwrap_or}
use Rattle.std.specs.List.{AllByRecursion}
use Rattle.std.proofs.lemmas.Bool.{both_ways, cases_Bool, or_left}
use Rattle.redo_path.specs.Names.{name_of, parent_of}
use Rattle.redo_script.specs.declared.fault.ScriptFault.{ScriptFault}
use Rattle.redo_script.specs.Syntax.{Script}
use Rattle.redo_script.specs.Texts.{script_in}
use Rattle.redo_tree.specs.Tree as tree_words
use Rattle.redo_tree.specs.Tree.{Tree, IsTree, Node, bytes_of, file_at}
use Rattle.redo_which.specs.Candidates.{Place, candidates_of, is_do_file, is_never_made, is_reserved, once, places_of}
use Rattle.redo_which.specs.Rule.{Found, Source, Directory, NoDirectory, NoRule, Rule, Arguments}
use Rattle.redo_which.specs.Rule.{chosen_of, found_of, is_file, is_rule}
use Rattle.redo_record.specs.declared.deps.Dep.{Dep}
use Rattle.redo_record.specs.declared.deps.DepKind.{DepKind}
use Rattle.redo_record.specs.declared.deps.DepKind.TheVariants as kinds
use Rattle.redo_record.specs.declared.outcome.Outcome.{Outcome}
use Rattle.redo_record.specs.declared.outcome.Outcome.TheVariants as outcomes
use Rattle.redo_record.specs.declared.outcome.Why.TheVariants as why
use Rattle.redo_record.specs.Entries.{is_entered, search_deps}
use Rattle.redo_record.specs.Paths.{Path}
use Rattle.redo_record.specs.Progress.{Progress}
use Rattle.redo_record.proofs.Public.{search_enters}
use Rattle.redo_build.specs.Rules.{Ask}
use Rattle.redo_step.specs.Agreeing.{held_in}
use Rattle.redo_step.specs.Limits.{LimitsView}
use Rattle.redo_step.specs.Results.{by_script}
use Rattle.redo_step.specs.Setting.{Setting, setting_by, setting_of}
use Rattle.redo_step.proofs.Public.{always_at_top, recorded_met, top_not_created, top_unchanged}
use Rattle.redo_skip.specs.Checks.{built, known_file, told}
use Rattle.redo_skip.specs.NewBook.{CanBeNoted, IsGood}
use Rattle.redo_skip.specs.Sources.{File, Sources}
use Rattle.redo_book.specs.Noted.{is_notable}
use Rattle.redo_past.specs.NewBook.{is_built}
use Rattle.redo_rules.specs.Build.{sources_of}
use Rattle.redo_rules.specs.inside.Worlds.{IsFit, World, progress_in, world_of}
use Rattle.redo_rules.proofs.AlikeTreeLemmas.{entered-all, told-held}
use Rattle.redo_rules.proofs.LawfulTreeLemmas.{fit_found, found_cases}

no-candidates : (p : Path) → is_do_file p ≡ true → candidates_of p ≡ []
no-candidates p named =
    elim (parent_of p) as (λ (o : Option Path). (elim o as (λ _. List Place) [
      | None ↦ []
      | Some dir ↦ cond (is_never_made p) [] (once (places_of dir (name_of p)))
    ]) ≡ []) [
      | None ↦ refl
      | Some dir ↦
          let never : is_never_made p ≡ true = or_left (is_do_file p) (is_reserved p) named in
          ap (λ (v : Bool). cond v [] (once (places_of dir (name_of p)))) never
    ]

-- no .do file has a rule
script-unruled : (tree : Tree) (p : Path) → is_do_file p ≡ true → is_rule (found_of tree p) ≡ false
script-unruled tree p named =
    found_cases tree p (λ f. is_rule f ≡ false) (λ e. refl) refl refl (λ e. refl)
    (λ place e.
    let none : chosen_of tree p ≡ None =
    ap (λ (places : List Place). find (λ (c : Place). is_file tree c.do_file) places) (no-candidates p named) in
    absurd (let bad : ◌≡◌ {A = Option Place} None (Some place) = sym none ∙ e in cc))

-- What is known of a path

abbrev known : Option (List ℕ) → Bool → Option Outcome → Option File
known o by_name answer = cond (not (is_some o || by_name)) (told answer) (cond (is_some o) (Some o) None)

-- what is held is known, as long as no answer tells of a .do file that isn't there
held-known : (o : Option (List ℕ)) (by_name : Bool) (answer : Option Outcome) (file : File) →
    (by_name ≡ true → is_some o ≡ false → told answer ≡ None) → held_in o answer ≡ Some file →
    known o by_name answer ≡ Some file
held-known (Some bytes) by_name answer file sane e = e
held-known None true answer file sane e =
    absurd (let bad : ◌≡◌ {A = Option File} None (Some file) = sym (sane refl refl) ∙ sym (told-held answer) ∙ e in cc)
held-known None false answer file sane e = sym (told-held answer) ∙ e

source-known : (o : Option (List ℕ)) (by_name : Bool) (answer : Option Outcome) → is_some o ≡ true →
    (file : File) × (known o by_name answer ≡ Some file)
source-known (Some bytes) by_name answer e = (Some bytes, refl)
source-known None by_name answer e = absurd cc

-- A target that was built

built_outcome : (x : Progress) (file : File) (deps : List Dep) → x ≡ built file deps →
    x.outcome ≡ Some (outcomes.Built file)
built_outcome x file deps e = ap (λ (y : Progress). y.outcome) e

module _ (tree : Tree) (limits : LimitsView) (p : Path) (a : Ask) where
  abbrev w : World
  w = world_of tree limits

  abbrev s : Sources
  s = sources_of tree limits

  -- what holds of a target that was built by a rule holds of each that was built
  built-ruled : (f : Found) (file : File) (P : Found → Type 0) →
      ((do_file : Path) (missing : List Path) (arguments : Arguments) → f ≡ Rule do_file missing arguments →
      P (Rule do_file missing arguments)) → (progress_in w p f a).outcome ≡ Some (outcomes.Built file) → P f
  built-ruled Source file P k e = absurd cc
  built-ruled Directory file P k e = absurd (let bad : outcomes.Failed why.Directory ≡ outcomes.Built file = cc in cc)
  built-ruled NoDirectory file P k e =
      absurd (let bad : outcomes.Failed why.NoDirectory ≡ outcomes.Built file = cc in cc)
  built-ruled (NoRule missing) file P k e =
      absurd (let bad : outcomes.Failed why.NoRule ≡ outcomes.Built file = cc in cc)
  built-ruled (Rule do_file missing arguments) file P k e = k do_file missing arguments refl

  module _ (do_file : Path) (missing : List Path) (arguments : Arguments)
      (found : found_of tree p ≡ Rule do_file missing arguments) where
    abbrev setting : Setting
    setting = setting_of tree limits.file_bytes p arguments

    abbrev parsed : Result Script ScriptFault
    parsed = script_in (unwrap_or (file_at tree do_file) [])

    abbrev search : List Dep
    search = search_deps missing do_file

    abbrev came : Progress
    came = by_script setting search parsed a

    do_there : is_file tree do_file ≡ true
    do_there =
        let fit : IsFit tree (Rule do_file missing arguments) = subst (IsFit tree) found (fit_found tree p) in fit

    change_known : (file : File) (q : Path) →
        ((q : Path) → s.is_script q ≡ true → s.is_source q ≡ false → told (a q) ≡ None) →
        came.outcome ≡ Some (outcomes.Built file) → is_entered came.deps kinds.Change q ≡ true →
        (other : File) × (known_file s a q ≡ Some other)
    unfolding setting_by
    change_known file q sane e h = elim (cases_Bool (is_entered search kinds.Change q)) [
      | inl first ↦
          let is : do_file ≡ q = search_enters missing do_file q first in
          source-known (file_at tree q) (is_do_file q) (a q) (subst (λ (r : Path). is_file tree r ≡ true) is do_there)
      | inr new ↦
          let met = recorded_met setting a search parsed file e kinds.Change q h new in
          (met.0, held-known (file_at tree q) (is_do_file q) (a q) met.0 (sane q) met.1)
    ]

    can_be_noted : (file : File) (k : DepKind) (q : Path) →
        ((q : Path) → s.is_script q ≡ true → s.is_source q ≡ false → told (a q) ≡ None) →
        came.outcome ≡ Some (outcomes.Built file) → is_entered came.deps k q ≡ true → CanBeNoted s a k q
    can_be_noted file kinds.Change q sane e h = change_known file q sane e h
    can_be_noted file kinds.Create q sane e h = tt
    can_be_noted file kinds.Always q sane e h = always_at_top setting a missing do_file parsed q h

    has_line : IsTree tree → held_in None (a []) ≡ None → (file : File) (k : DepKind) (q : Path) →
        came.outcome ≡ Some (outcomes.Built file) → is_entered came.deps k q ≡ true →
        is_notable k q ≡ true
    has_line is_tree nothing file kinds.Change [] e h =
        absurd (both_ways _ (top_unchanged tree limits.file_bytes p arguments is_tree.root do_file missing found parsed
        a file e nothing) h)
    has_line is_tree nothing file kinds.Create [] e h =
        absurd (both_ways _ (top_not_created tree limits.file_bytes p arguments is_tree.root do_file missing found
        parsed a file e) h)
    has_line is_tree nothing file kinds.Always [] e h = refl
    has_line is_tree nothing file kinds.Change (byte ∷ bytes) e h = refl
    has_line is_tree nothing file kinds.Create (byte ∷ bytes) e h = refl
    has_line is_tree nothing file kinds.Always (byte ∷ bytes) e h =
        absurd (let bad : byte ∷ bytes ≡ [] = always_at_top setting a missing do_file parsed (byte ∷ bytes) h in cc)

  ruled-by : (file : File) (f : Found) → (f ≡ Source → is_some (file_at tree p) ≡ true) →
      is_some (file_at tree p) ≡ false →
      told (progress_in w p f a).outcome ≡ Some file → is_rule f ≡ true
  ruled-by file Source is made e = absurd (both_ways _ made (is refl))
  ruled-by file Directory is made e = absurd cc
  ruled-by file NoDirectory is made e = absurd cc
  ruled-by file (NoRule missing) is made e = absurd cc
  ruled-by file (Rule do_file missing arguments) is made e = refl

found-source : (tree : Tree) (p : Path) → found_of tree p ≡ Source → is_some (file_at tree p) ≡ true
found-source tree p =
    found_cases tree p (λ f. f ≡ Source → is_some (file_at tree p) ≡ true) (λ e is. e) (λ is. absurd cc)
    (λ is. absurd cc) (λ e is. absurd cc) (λ place e is. absurd cc)

pub trees-good : (tree : Tree) (limits : LimitsView) → IsGood (sources_of tree limits)
trees-good tree limits = record {
  notable = λ p a file deps sane is.
      let w : World = world_of tree limits in
      let s : Sources = sources_of tree limits in
      let P : Found → Type 0 = λ f. (k : DepKind) (q : Path) → is_entered (progress_in w p f a).deps k q ≡ true →
      CanBeNoted s a k q in
      let ended = built_outcome (s.progress p a) file deps is in
      let each : P (found_of tree p) = built-ruled tree limits p a (found_of tree p) file P
      (λ do_file missing arguments found k q h. can_be_noted tree limits p a do_file missing arguments found file k q
      sane (subst (λ (f : Found). (progress_in w p f a).outcome ≡ Some (outcomes.Built file)) found ended) h) ended in
      entered-all (CanBeNoted s a) deps (λ k q h.
      each k q (subst (λ (x : Progress). is_entered x.deps k q ≡ true) (sym is) h));
  ruled = λ p a file made e. ruled-by tree limits p a file (found_of tree p) (found-source tree p) made e;
  scripts = λ p named. script-unruled tree p named;
}

-- The new book has a line for each entry that the script of a built target declared

pub top-source : (tree : Tree) → IsTree tree → is_some (file_at tree []) ≡ false
top-source tree is_tree = ap (λ (n : Option Node). is_some (option_and_then bytes_of n)) is_tree.root

pub top-found : (tree : Tree) → IsTree tree → found_of tree [] ≡ Directory
top-found tree is_tree =
    ap (λ (n : Option Node). elim n as (λ _. Found) [
      | Some node ↦ elim node as (λ _. Found) [ tree_words.Directory ↦ Directory | tree_words.File bytes ↦ Source ]
      | None ↦ NoDirectory
    ]) is_tree.root

pub lines : (tree : Tree) (limits : LimitsView) → IsTree tree → (p : Path) (a : Ask) (file : File) →
    told (a []) ≡ None → ((sources_of tree limits).progress p a).outcome ≡ Some (outcomes.Built file) →
    AllByRecursion (λ d. is_notable d.kind d.path ≡ true) ((sources_of tree limits).progress p a).deps
lines tree limits is_tree p a file nothing ended =
    let w : World = world_of tree limits in
    let P : Found → Type 0 = λ f. (k : DepKind) (q : Path) → is_entered (progress_in w p f a).deps k q ≡ true →
    is_notable k q ≡ true in
    let each : P (found_of tree p) = built-ruled tree limits p a (found_of tree p) file P
    (λ do_file missing arguments found k q h. has_line tree limits p a do_file missing arguments found is_tree
    (told-held (a []) ∙ nothing) file k q
    (subst (λ (f : Found). (progress_in w p f a).outcome ≡ Some (outcomes.Built file)) found ended) h) ended in
    entered-all (λ k q. is_notable k q ≡ true) ((sources_of tree limits).progress p a).deps each

pub built-at : (o : Option Outcome) → is_built (unwrap_or o outcomes.Cyclic) ≡ true →
    (file : File) × (o ≡ Some (outcomes.Built file))
built-at None e = absurd cc
built-at (Some outcomes.Source) e = absurd cc
built-at (Some (outcomes.Built file)) e = (file, refl)
built-at (Some (outcomes.Failed why)) e = absurd cc
built-at (Some outcomes.Cyclic) e = absurd cc

-- A target does alike with two trees of sources.
use Rattle.std.proofs.Common.{◌≡◌, ℕ, Bool, true, false, not, ◌&&◌, ◌||◌, cond, inl, inr, Option, Some, None, Result}
use Rattle.std.proofs.Common.{List, [], ◌∷◌, ◌++◌, is_some, refl, sym, ap, ◌∙◌, subst}
use Rattle.std.specs.Prelude.{is_none, unwrap_or}
use Rattle.std.specs.List.{AllByRecursion}
use Rattle.std.specs.Str.{bytes_eq}
use Rattle.std.proofs.lemmas.Bool.{both_ways, or_cases, or_left, or_right}
use Rattle.redo_script.specs.declared.fault.ScriptFault.{ScriptFault}
use Rattle.redo_script.specs.Syntax.{Script}
use Rattle.redo_script.specs.Texts.{script_in}
use Rattle.redo_tree.specs.Tree.{Tree, Node, file_at, node_at}
use Rattle.redo_which.specs.Candidates.{is_do_file}
use Rattle.redo_which.specs.Rule.{Found, Source, Directory, NoDirectory, NoRule, Rule, Arguments}
use Rattle.redo_which.specs.Rule.{found_of, is_file, is_rule}
use Rattle.redo_record.specs.declared.deps.Dep.{Dep}
use Rattle.redo_record.specs.declared.deps.DepKind.{DepKind}
use Rattle.redo_record.specs.declared.deps.DepKind.TheVariants as kinds
use Rattle.redo_record.specs.declared.outcome.Outcome.{Outcome}
use Rattle.redo_record.specs.declared.outcome.Outcome.TheVariants as outcomes
use Rattle.redo_record.specs.Entries.{is_entered, same_kind, search_deps, with_entry, with_entries}
use Rattle.redo_record.specs.Paths.{IsAmong, Path}
use Rattle.redo_record.specs.Progress.{Progress}
use Rattle.redo_record.proofs.EntryLemmas.{bytes_eq-refl, same_kind-refl}
use Rattle.redo_record.proofs.Public.{entered_operand, one_entered, search_enters, whole_first, whole_second}
use Rattle.redo_build.specs.Rules.{Ask, asked_under}
use Rattle.redo_step.specs.Agreeing as script
use Rattle.redo_step.specs.Agreeing.{held_in, IsFree, IsFollowed}
use Rattle.redo_step.specs.Limits.{LimitsView}
use Rattle.redo_step.specs.Results.{by_script}
use Rattle.redo_step.specs.Setting.{Setting, setting_by, setting_of}
use Rattle.redo_step.proofs.Public.{followed_next, record_begins, records_agree, records_follow, rule_named, same_rule}
use Rattle.redo_step.proofs.Public.{settings_alike}
use Rattle.redo_skip.specs.Checks.{built, is_asked, told}
use Rattle.redo_skip.specs.Sources.{File, Sources, without_book}
use Rattle.redo_skip.specs.Truth.{Agrees, AllAgree, IsAlike}
use Rattle.redo_rules.specs.inside.Worlds.{IsFit, progress_in, world_of}
use Rattle.redo_past.specs.Past.{is_free}
use Rattle.redo_rules.specs.Build.{sources_by, sources_of}
use Rattle.redo_rules.proofs.LawfulTreeLemmas.{fit_found}

-- Entries

pub entered-here : (d : Dep) (ds : List Dep) → is_entered (d ∷ ds) d.kind d.path ≡ true
entered-here d ds = rw (same_kind-refl d.kind, bytes_eq-refl d.path) refl

pub entered-later : (d : Dep) (ds : List Dep) (k : DepKind) (p : Path) → is_entered ds k p ≡ true →
    is_entered (d ∷ ds) k p ≡ true
entered-later d ds k p h = or_right _ _ h

pub entered-head : (d : Dep) (ds : List Dep) (k : DepKind) (p : Path) →
    (same_kind k d.kind && bytes_eq p d.path) ≡ true → (d.kind ≡ k) × (d.path ≡ p)
entered-head d ds k p h = one_entered d k p (or_left _ _ h)

-- what holds of each entry holds of each kind and path that is entered
pub all-entered : (P : DepKind → Path → Type 0) (ds : List Dep) → AllByRecursion (λ d. P d.kind d.path) ds →
    (k : DepKind) (p : Path) → is_entered ds k p ≡ true → P k p
all-entered P [] all k p h = absurd cc
all-entered P (d ∷ ds) all k p h = elim (or_cases (same_kind k d.kind && bytes_eq p d.path) (is_entered ds k p) h) [
  | inl here ↦
      let same = entered-head d ds k p here in
      subst (λ (j : DepKind). P j p) same.0 (subst (λ (q : Path). P d.kind q) same.1 all.0)
  | inr later ↦ all-entered P ds all.1 k p later
]

-- and the other way round
pub entered-all : (P : DepKind → Path → Type 0) (ds : List Dep) →
    ((k : DepKind) (p : Path) → is_entered ds k p ≡ true → P k p) → AllByRecursion (λ d. P d.kind d.path) ds
entered-all P [] h = tt
entered-all P (d ∷ ds) h =
    (h d.kind d.path (entered-here d ds), entered-all P ds (λ k p later. h k p (entered-later d ds k p later)))

entered-front : (ds more : List Dep) (k : DepKind) (p : Path) → is_entered ds k p ≡ true →
    is_entered (ds ++ more) k p ≡ true
entered-front [] more k p h = absurd cc
entered-front (d ∷ ds) more k p h =
    elim (or_cases (same_kind k d.kind && bytes_eq p d.path) (is_entered ds k p) h) [
      | inl here ↦ or_left _ _ here
      | inr later ↦ or_right _ _ (entered-front ds more k p later)
    ]

-- of two ways to cut a list, the second cuts behind the first where its entry isn't among the first
cut-behind : (first rest front back : List Dep) (d : Dep) → first ++ rest ≡ front ++ d ∷ back →
    (is_entered first d.kind d.path ≡ true → ⊥) → (more : List Dep) × (front ≡ first ++ more)
cut-behind [] rest front back d e none = (front, refl)
cut-behind (x ∷ xs) rest [] back d e none =
    let same : x ≡ d = cc in
    absurd (none (subst (λ (y : Dep). is_entered (x ∷ xs) y.kind y.path ≡ true) same (entered-here x xs)))
cut-behind (x ∷ xs) rest (y ∷ ys) back d e none =
    let same : x ≡ y = cc in
    let tail : xs ++ rest ≡ ys ++ d ∷ back = cc in
    let more = cut-behind xs rest ys back d tail (λ h. none (entered-later x xs d.kind d.path h)) in
    (more.0, ap (λ (z : Dep). z ∷ ys) (sym same) ∙ ap (λ (zs : List Dep). x ∷ zs) more.1)

-- The entries of a search

still-entered : (ds : List Dep) (j k : DepKind) (ps : List Path) (p : Path) → is_entered ds k p ≡ true →
    is_entered (with_entries ds j ps) k p ≡ true
still-entered ds j k [] p h = h
still-entered ds j k (q ∷ ps) p h =
    still-entered (with_entry ds j q) j k ps p (whole_first ds (record { kind = j; path = q } ∷ []) k p h)

created-entered : (ds : List Dep) (ps : List Path) (p : Path) → IsAmong ps p →
    is_entered (with_entries ds kinds.Create ps) kinds.Create p ≡ true
created-entered ds [] p m = absurd m
created-entered ds (q ∷ ps) p m = elim m [
  | inl here ↦
      let e : Dep = record { kind = kinds.Create; path = q } in
      let new : is_entered (with_entry ds kinds.Create q) kinds.Create q ≡ true =
      whole_second ds (e ∷ []) kinds.Create q (entered-here e []) in
      still-entered (with_entry ds kinds.Create q) kinds.Create kinds.Create ps p
      (subst (λ (r : Path). is_entered (with_entry ds kinds.Create q) kinds.Create r ≡ true) here new)
  | inr later ↦ created-entered (with_entry ds kinds.Create q) ps p later
]

search-missing : (missing : List Path) (do_file m : Path) → IsAmong missing m →
    is_entered (search_deps missing do_file) kinds.Create m ≡ true
search-missing missing do_file m among =
    whole_first (with_entries [] kinds.Create missing) (record { kind = kinds.Change; path = do_file } ∷ [])
    kinds.Create m (created-entered [] missing m among)

search-file : (missing : List Path) (do_file : Path) →
    is_entered (search_deps missing do_file) kinds.Change do_file ≡ true
search-file missing do_file =
    let e : Dep = record { kind = kinds.Change; path = do_file } in
    whole_second (with_entries [] kinds.Create missing) (e ∷ []) kinds.Change do_file (entered-here e [])

-- What is known of a path

pub told-held : (answer : Option Outcome) → held_in None answer ≡ told answer
told-held None = refl
told-held (Some outcomes.Source) = refl
told-held (Some (outcomes.Built file)) = refl
told-held (Some (outcomes.Failed why)) = refl
told-held (Some outcomes.Cyclic) = refl

-- a file that is known is held
pub known-held : (o : Option (List ℕ)) (by_name : Bool) (answer : Option Outcome) (file : File) →
    cond (not (is_some o || by_name)) (told answer) (cond (is_some o) (Some o) None) ≡ Some file →
    held_in o answer ≡ Some file
known-held (Some bytes) by_name answer file e = e
known-held None true answer file e = absurd cc
known-held None false answer file e = told-held answer ∙ e

-- of a .do file only the source is known
known-script : (o : Option (List ℕ)) (by_name : Bool) (answer : Option Outcome) (file : File) → by_name ≡ true →
    cond (not (is_some o || by_name)) (told answer) (cond (is_some o) (Some o) None) ≡ Some file → o ≡ file
known-script (Some bytes) by_name answer file is e = cc
known-script None true answer file is e = absurd cc
known-script None false answer file is e = absurd cc

rule_parts : (f : Found) → is_rule f ≡ true →
    (do_file : Path) × (missing : List Path) × (arguments : Arguments) × (f ≡ Rule do_file missing arguments)
rule_parts Source e = absurd cc
rule_parts Directory e = absurd cc
rule_parts NoDirectory e = absurd cc
rule_parts (NoRule missing) e = absurd cc
rule_parts (Rule do_file missing arguments) e = (do_file, missing, arguments, refl)

asked_parts : (source by_name : Bool) → not (source || by_name) ≡ true → (source ≡ false) × (by_name ≡ false)
asked_parts false false e = (refl, refl)
asked_parts false true e = absurd cc
asked_parts true by_name e = absurd cc

free_parts : (node : Option Node) (ruled : Bool) → (is_none node && not ruled) ≡ true →
    (node ≡ None) × (ruled ≡ false)
free_parts None false e = (refl, refl)
free_parts None true e = absurd cc
free_parts (Some node) ruled e = absurd cc

module _ (old new : Tree) (bytes : ℕ) (target : Path) (a b : Ask) where
  abbrev s : Sources
  s = sources_by old bytes

  abbrev t : Sources
  t = sources_by new bytes

  -- where the search finds this rule
  module _ (do_file : Path) (missing : List Path) (arguments : Arguments)
      (found : found_of old target ≡ Rule do_file missing arguments) where
    abbrev one : Setting
    one = setting_of old bytes target arguments

    abbrev two : Setting
    two = setting_of new bytes target arguments

    abbrev search : List Dep
    search = search_deps missing do_file

    abbrev parsed_in : Tree → Result Script ScriptFault
    parsed_in tree = script_in (unwrap_or (file_at tree do_file) [])

    free_here : (q : Path) → is_free new q ≡ true → IsFree two q
    unfolding setting_by
    free_here q free =
        let parts = free_parts (node_at new q) (is_rule (found_of new q)) free in
        record {
          no_source = rw parts.0 refl;
          no_directory = rw parts.0 refl;
          no_rule = parts.1;
        }

    entry_agrees : (k : DepKind) (q : Path) → Agrees s a t b k q → script.Agrees one a two b k q
    unfolding setting_by
    entry_agrees kinds.Change q h = (
      h.0,
      known-held (file_at old q) (is_do_file q) (a q) h.0 h.1,
      known-held (file_at new q) (is_do_file q) (b q) h.0 h.2,
    )
    entry_agrees kinds.Create q h = free_here q h
    entry_agrees kinds.Always q h = absurd h

    all_agree : (ds : List Dep) → AllAgree s a t b ds → script.AllAgree one a two b ds
    all_agree ds all = record { agree = λ k q h. entry_agrees k q (all-entered (Agrees s a t b) ds all k q h) }

    came_by : (x : Progress) → s.progress target a ≡ x → by_script one search (parsed_in old) a ≡ x
    came_by x came =
        let P : Found → Type 0 = λ f.
        progress_in (world_of old (record { targets = 0; file_bytes = bytes })) target f a ≡ x in
        subst P found came

    -- where all entries of the search are among entries that agree, the rule and its script are the same
    module _ (ds : List Dep) (all : AllAgree s a t b ds)
        (first : (k : DepKind) (q : Path) → is_entered search k q ≡ true → is_entered ds k q ≡ true) where
      same_text : file_at new do_file ≡ file_at old do_file
      same_text =
          let h = all-entered (Agrees s a t b) ds all kinds.Change do_file
          (first kinds.Change do_file (search-file missing do_file)) in
          let named : is_do_file do_file ≡ true = rule_named old target do_file missing arguments found in
          known-script (file_at new do_file) (is_do_file do_file) (b do_file) h.0 named h.2
          ∙ sym (known-script (file_at old do_file) (is_do_file do_file) (a do_file) h.0 named h.1)

      gone : (m : Path) → IsAmong missing m → is_file new m ≡ false
      gone m among =
          let free = all-entered (Agrees s a t b) ds all kinds.Create m
          (first kinds.Create m (search-missing missing do_file m among)) in
          let parts = free_parts (node_at new m) (is_rule (found_of new m)) free in
          rw parts.0 refl

      there : is_file new do_file ≡ true
      there =
          let fit : IsFit old (Rule do_file missing arguments) = subst (IsFit old) found (fit_found old target) in
          ap (λ (o : Option (List ℕ)). is_some o) same_text ∙ fit

      again : is_rule (found_of new target) ≡ true → t.progress target b ≡ by_script two search (parsed_in old) b
      again ruled =
          let same = same_rule old new target do_file missing arguments found ruled gone there in
          ap (λ (f : Found). progress_in (world_of new (record { targets = 0; file_bytes = bytes })) target f b) same
          ∙ ap (λ (o : Option (List ℕ)). by_script two search (script_in (unwrap_or o [])) b) same_text

    built_again : (file : File) (deps : List Dep) → is_rule (found_of new target) ≡ true →
        s.progress target a ≡ built file deps → AllAgree s a t b deps → t.progress target b ≡ built file deps
    built_again file deps ruled came all =
        let here = came_by (built file deps) came in
        let same : (by_script one search (parsed_in old) a).deps ≡ deps = ap (λ (x : Progress). x.deps) here in
        let begins = record_begins one a search (parsed_in old) in
        let front : deps ≡ search ++ begins.0 = sym same ∙ begins.1 in
        let first : (k : DepKind) (q : Path) → is_entered search k q ≡ true → is_entered deps k q ≡ true = λ k q h.
        subst (λ (ds : List Dep). is_entered ds k q ≡ true) (sym front) (entered-front search begins.0 k q h) in
        let agree : script.AllAgree one a two b (by_script one search (parsed_in old) a).deps =
        subst (λ (ds : List Dep). script.AllAgree one a two b ds) (sym same) (all_agree deps all) in
        again deps all first ruled
        ∙ records_agree one two a b (settings_alike old new bytes target arguments) search (parsed_in old) file
        (ap (λ (x : Progress). x.outcome) here) agree
        ∙ here

    asked_again : (file : File) (front back : List Dep) (q : Path) → is_rule (found_of new target) ≡ true →
        s.progress target a ≡ built file (front ++ record { kind = kinds.Change; path = q } ∷ back) →
        AllAgree s a t b front → is_asked t q ≡ true → IsAmong (asked_under (without_book t) target b) q
    asked_again file front back q ruled came all asked =
        let e : Dep = record { kind = kinds.Change; path = q } in
        let here = came_by (built file (front ++ e ∷ back)) came in
        let same : (by_script one search (parsed_in old) a).deps ≡ front ++ e ∷ back =
        ap (λ (x : Progress). x.deps) here in
        let begins = record_begins one a search (parsed_in old) in
        let parts = asked_parts (is_some (file_at new q)) (is_do_file q) asked in
        let own : is_entered search kinds.Change q ≡ true → ⊥ = λ h.
        let is : do_file ≡ q = search_enters missing do_file q h in
        both_ways _ parts.1 (subst (λ (p : Path). is_do_file p ≡ true) is
        (rule_named old target do_file missing arguments found)) in
        let cut = cut-behind search begins.0 front back e (sym begins.1 ∙ same) own in
        let first : (k : DepKind) (p : Path) → is_entered search k p ≡ true → is_entered front k p ≡ true = λ k p h.
        subst (λ (ds : List Dep). is_entered ds k p ≡ true) (sym cut.1) (entered-front search cut.0 k p h) in
        let follow : IsFollowed one a two b (by_script two search (parsed_in old) b).deps (front ++ e ∷ back) =
        subst (λ (ds : List Dep). IsFollowed one a two b (by_script two search (parsed_in old) b).deps ds) same
        (records_follow one two a b (settings_alike old new bytes target arguments) search (parsed_in old)) in
        let next = followed_next one two a b (by_script two search (parsed_in old) b).deps front back q follow
        (all_agree front all) in
        let new_deps : is_entered (t.progress target b).deps kinds.Change q ≡ true =
        subst (λ (x : Progress). is_entered x.deps kinds.Change q ≡ true) (sym (again front all first ruled)) next in
        entered_operand t.is_source (t.progress target b).deps q parts.0 new_deps

pub trees-alike : (old new : Tree) (bytes : ℕ) (a b : Ask) (p : Path) →
    IsAlike (sources_by old bytes) a (sources_by new bytes) b p
trees-alike old new bytes a b p = record {
  whole = λ file deps ruled ruled' came all.
      let r = rule_parts (found_of old p) ruled in
      built_again old new bytes p a b r.0 r.1 r.2 r.3 file deps ruled' came all;
  next = λ file deps more q ruled ruled' came all asked.
      let r = rule_parts (found_of old p) ruled in
      asked_again old new bytes p a b r.0 r.1 r.2 r.3 file deps more q ruled' came all asked;
}

-- the same under limits with one limit of a file's bytes
pub trees-alike-within : (old new : Tree) (before now : LimitsView) → before.file_bytes ≡ now.file_bytes →
    (a b : Ask) (p : Path) → IsAlike (sources_of old before) a (sources_of new now) b p
trees-alike-within old new before now e a b p =
    let P : ℕ → Type 0 = λ n. IsAlike (sources_by old before.file_bytes) a (sources_by new n) b p in
    subst P e (trees-alike old new before.file_bytes a b p)

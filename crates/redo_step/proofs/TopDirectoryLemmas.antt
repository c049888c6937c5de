-- No target that was built depends on the top directory.
use Rattle.std.proofs.Common.{◌≡◌, ℕ, true, false, ◌⊎◌, inl, inr, Option, Some, None, Result, List, [], ◌∷◌}
use Rattle.std.proofs.Common.{refl, sym}
use Rattle.std.proofs.Common.{ap, ◌∙◌, subst}
use Rattle.std.proofs.lemmas.Bool.{cases_Bool, both_ways}
use Rattle.redo_tree.specs.Tree.{Tree, Directory, node_at}
use Rattle.redo_which.specs.Rule.{Rule, Arguments, found_of, is_file}
use Rattle.redo_script.specs.declared.fault.ScriptFault.{ScriptFault}
use Rattle.redo_script.specs.Syntax.{Script}
use Rattle.redo_record.specs.declared.deps.Dep.{Dep}
use Rattle.redo_record.specs.declared.deps.DepKind.TheVariants as kinds
use Rattle.redo_record.specs.declared.outcome.Outcome.TheVariants as outcomes
use Rattle.redo_record.specs.Answers.{Ask}
use Rattle.redo_record.specs.Entries.{is_entered, search_deps, with_entry, with_entries}
use Rattle.redo_record.specs.Paths.{IsAmong, Path}
use Rattle.redo_step.specs.Agreeing.{held_in, held, IsFree}
use Rattle.redo_step.specs.Results.{by_script}
use Rattle.redo_step.specs.Setting.{Setting, setting_by, setting_of}
use Rattle.redo_record.proofs.FoundLemmas.{entered_cases}
use Rattle.redo_record.proofs.LawfulLemmas.{search_entry}
use Rattle.redo_step.proofs.AgreeingLemmas.{script_met}
use Rattle.redo_step.proofs.CandidateLemmas.{missing_below}
use Rattle.redo_step.proofs.SameRuleLemmas.{rule_file, rule_missing}

-- what the search entered with `create` is a candidate that was missing
creates_among : (es : List Dep) (ps : List Path) (p : Path) →
    is_entered (with_entries es kinds.Create ps) kinds.Create p ≡ true →
    (is_entered es kinds.Create p ≡ true) ⊎ IsAmong ps p
creates_among es [] p h = inl h
creates_among es (q ∷ ps) p h = elim (creates_among (with_entry es kinds.Create q) ps p h) [
  | inl first ↦ elim (entered_cases es kinds.Create kinds.Create q p first) [
    | inl old ↦ inl old
    | inr new ↦ inr (inl new.1)
  ]
  | inr later ↦ inr (inr later)
]

search_creates : (missing : List Path) (do_file p : Path) →
    is_entered (search_deps missing do_file) kinds.Create p ≡ true → IsAmong missing p
search_creates missing do_file p h =
    elim (entered_cases (with_entries [] kinds.Create missing) kinds.Change kinds.Create do_file p h) [
      | inl old ↦ elim (creates_among [] missing p old) [ inl none ↦ absurd cc | inr there ↦ there ]
      | inr new ↦ let other : kinds.Change ≡ kinds.Create = new.0 in absurd cc
    ]

top_file : (tree : Tree) → node_at tree [] ≡ Some Directory → is_file tree [] ≡ false
top_file tree top = rw top refl

module _ (tree : Tree) (limit : ℕ) (target : Path) (arguments : Arguments)
    (top : node_at tree [] ≡ Some Directory) where
  top_source : (setting_of tree limit target arguments).source [] ≡ None
  unfolding setting_by
  top_source = rw top refl

  top_directory : (setting_of tree limit target arguments).is_directory [] ≡ true
  unfolding setting_by
  top_directory = rw top refl

  module _ (do_file : Path) (missing : List Path) (found : found_of tree target ≡ Rule do_file missing arguments)
      (parsed : Result Script ScriptFault) (ask : Ask) (file : Option (List ℕ))
      (built : (by_script (setting_of tree limit target arguments)
      (search_deps missing do_file) parsed ask).outcome ≡ Some (outcomes.Built file)) where
    pub top_unchanged : held_in None (ask []) ≡ None →
        is_entered (by_script (setting_of tree limit target arguments)
        (search_deps missing do_file) parsed ask).deps kinds.Change [] ≡ false
    top_unchanged nothing =
        let setting : Setting = setting_of tree limit target arguments in
        let deps : List Dep = search_deps missing do_file in
        elim (cases_Bool (is_entered (by_script setting deps parsed ask).deps kinds.Change [])) [
          | inr none ↦ none
          | inl h ↦ elim (cases_Bool (is_entered deps kinds.Change [])) [
            | inl first ↦
                let same : do_file ≡ [] = search_entry missing do_file [] first in
                let there : is_file tree [] ≡ true =
                rw (← same) (rule_file tree target do_file missing arguments found) in
                absurd (both_ways _ (top_file tree top) there)
            | inr new ↦
                let met = script_met setting ask deps parsed file built kinds.Change [] h new in
                let empty : held setting ask [] ≡ None = ap (λ (o : Option (List ℕ)). held_in o (ask [])) top_source
                ∙ nothing in
                absurd (let bad : ◌≡◌ {A = Option (Option (List ℕ))} None (Some met.0) = sym empty ∙ met.1 in cc)
          ]
        ]

    pub top_not_created : is_entered
        (by_script (setting_of tree limit target arguments)
        (search_deps missing do_file) parsed ask).deps kinds.Create [] ≡ false
    top_not_created =
        let setting : Setting = setting_of tree limit target arguments in
        let deps : List Dep = search_deps missing do_file in
        elim (cases_Bool (is_entered (by_script setting deps parsed ask).deps kinds.Create [])) [
          | inr none ↦ none
          | inl h ↦ elim (cases_Bool (is_entered deps kinds.Create [])) [
            | inl first ↦ absurd
                (missing_below tree target
                (subst (λ (ms : List Path). IsAmong ms []) (rule_missing tree target do_file missing arguments found)
                (search_creates missing do_file [] first)))
            | inr new ↦
                let met : IsFree setting [] = script_met setting ask deps parsed file built kinds.Create [] h new in
                absurd (both_ways _ met.no_directory top_directory)
          ]
        ]

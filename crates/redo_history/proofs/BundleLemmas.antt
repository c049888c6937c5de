-- Two runs over one bundle write the same.
use Rattle.std.proofs.Common.{◌≡◌, ◌∙◌, ◌↔◌, ◌++◌, ℕ, List, Some, ap, refl, subst, sym, true}
use Rattle.redo_bundle.specs.Bundle.{IsBundle}
use Rattle.redo_report.specs.declared.report.Report.{Report}
use Rattle.redo_rules.specs.Build.{GivenView}
use Rattle.redo_rules.specs.Results.{IsGiven, IsResultOn}
use Rattle.redo_run.specs.Exits.{IsExitOf}
use Rattle.redo_run.specs.Runs.{Reports, request_in, request_of}
use Rattle.redo_run.specs.declared.bundle.BundleRun.{BundleRun}
use Rattle.redo_run.specs.declared.exit.Exit.{Exit}
use Rattle.redo_run.specs.declared.exit.Exit.TheVariants.{Good, SomeFailed}
use Rattle.redo_run.specs.declared.options.Options.{Options}
use Rattle.redo_step.specs.Limits.{LimitsView}
use Rattle.redo_tree.specs.Tree.{Tree}
use Rattle.redo_history.specs.Answers.{AreSameReports}
use Rattle.redo_history.proofs.ReportLemmas.{OnePast, one-given, same-text}

-- what the laws say
abbrev pub OneTree : Type 0
OneTree = (text : List ℕ) (tree other : Tree) → IsBundle text tree → IsBundle text other → tree ≡ other

abbrev pub OneReport : Type 0
OneReport = (tree : Tree) (request : List (List ℕ)) (limits : LimitsView) (one other : Report) →
    IsResultOn tree request limits one → IsResultOn tree request limits other → AreSameReports one other

same-exit : (P : Type 0) (e f : Exit) → ((e ≡ Good) ↔ P) → ((f ≡ Good) ↔ P) → e ≡ f
same-exit P Good Good h k = refl
same-exit P Good SomeFailed h k = absurd (let bad : SomeFailed ≡ Good = k.1 (h.0 refl) in cc)
same-exit P SomeFailed Good h k = absurd (let bad : SomeFailed ≡ Good = h.1 (k.0 refl) in cc)
same-exit P SomeFailed SomeFailed h k = refl

module _ (one_tree : OneTree) (one_past : OnePast) (one_report : OneReport) (one other : Options)
    (targets : other.targets.items ≡ one.targets.items) (limits : other.limits ≡ one.limits)
    (text before after again : List ℕ) (run also : BundleRun) (h : Reports one text (Some before) (Some after) run)
    (k : Reports other text (Some before) (Some again) also) where
  given-there : IsGiven run.past.tree (request_in one) one.limits k.given
  given-there =
      let trees : also.past.tree ≡ run.past.tree =
      one_tree text also.past.tree run.past.tree k.bundle h.bundle in
      subst (λ (t : Tree). IsGiven t (request_in one) one.limits k.given) trees
      (subst (λ (ps : List (List ℕ)). IsGiven also.past.tree (request_of ps) one.limits k.given) targets
      (subst (λ (l : LimitsView). IsGiven also.past.tree (request_in other) l k.given) limits k.is_given))

  pub same-bytes : after ≡ again
  same-bytes =
      let same : AreSameReports run.report also.report =
      one_report run.past.tree (request_in one) one.limits run.report also.report (h.given, h.is_given, h.is)
      (k.given, given-there, k.is) in
      h.written ∙ ap (λ out. before ++ out) (same-text run.report also.report same true) ∙ sym k.written

  pub same-end : run.exit ≡ also.exit
  same-end =
      let same : k.given ≡ h.given =
      one-given one_past run.past.tree (request_in one) one.limits k.given h.given given-there h.is_given in
      let good : IsExitOf h.given also.exit = subst (λ (g : GivenView). IsExitOf g also.exit) same k.good in
      same-exit _ run.exit also.exit h.good good

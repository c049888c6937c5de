-- The new book has a line for each entry of a target that a build with a book built, by its script or by its check.
use Rattle.std.proofs.Common.{◌≡◌, ℕ, zero, suc, Bool, true, false, cond, inl, inr, Option, Some, None, List, [], ◌∷◌}
use Rattle.std.proofs.Common.{is_some, refl, sym, ap, ◌∙◌, subst}
use Rattle.std.specs.Prelude.{All, is_none, ◌&&◌, ◌||◌, not}
use Rattle.std.specs.Arc.{arc_value}
use Rattle.std.specs.List.{AllByRecursion}
use Rattle.std.proofs.lemmas.Bool.{both_ways, cases_Bool}
use Rattle.std.proofs.lemmas.List.Elements.{All-weaker}
use Rattle.redo_tree.specs.Tree.{Tree, IsTree, Node, file_at}
use Rattle.redo_which.specs.Candidates.{is_do_file}
use Rattle.redo_which.specs.Rule.{Found, found_of, is_rule}
use Rattle.redo_record.specs.declared.deps.Dep.{Dep}
use Rattle.redo_record.specs.declared.outcome.Outcome.{Outcome}
use Rattle.redo_record.specs.declared.outcome.Outcome.TheVariants as outcomes
use Rattle.redo_record.specs.Paths.{Path}
use Rattle.redo_record.specs.Progress.{Progress}
use Rattle.redo_book.specs.declared.book.BookEntry.{BookEntry}
use Rattle.redo_book.specs.declared.book.BookEntry.TheVariants.{Change, Create, Always}
use Rattle.redo_build.specs.Rules.{Ask, Rules, AreLawful}
use Rattle.redo_build.specs.Outcomes.{final_outcome, outcome_at}
use Rattle.redo_build.proofs.DepthLemmas.{cases_Option, deeper_once, ended_stays, outcome_at-step, outcome_at-zero}
use Rattle.redo_skip.specs.Checks.{Check, Finding, shown, stands, stands_if, finding, known_file}
use Rattle.redo_skip.specs.Checks.{progress_checked, record_checked, standing, told}
use Rattle.redo_skip.specs.Sources.{File, Sources}
use Rattle.redo_skip.specs.Truth.{shown_all}
use Rattle.redo_skip.proofs.AgreeLemmas.{finding-seen, stands-file}
use Rattle.redo_skip.proofs.AskedLemmas.{progress-ended}
use Rattle.redo_skip.proofs.CheckLemmas.{found-stands}
use Rattle.redo_skip.proofs.NewBookLemmas.{are-checks}
use Rattle.redo_report.specs.Reports.{IsReport, deps_of}
use Rattle.redo_report.specs.declared.report.Report.{Report}
use Rattle.redo_report.specs.declared.report.Row.{Row}
use Rattle.redo_book.specs.Noted.{is_notable}
use Rattle.redo_past.specs.NewBook.{is_built}
use Rattle.redo_rules.specs.Build.{GivenView, checks_for, last_run_of, rules_for, sources_for}
use Rattle.redo_rules.specs.inside.Worlds.{progress_in, world_of}
use Rattle.redo_rules.specs.TreeSources.{IsNotedWhole}
use Rattle.redo_rules.proofs.GoodTreeLemmas.{built-at, lines, top-found, top-source}
use Rattle.redo_rules.proofs.LawfulTreeLemmas.{lawful_for}

-- nothing is known of what is no source and has no answer
known-nothing : (o : Option (List ℕ)) (by_name : Bool) (answer : Option Outcome) → is_some o ≡ false →
    told answer ≡ None →
    cond (not (is_some o || by_name)) (told answer) (cond (is_some o) (Some o) None) ≡ None
known-nothing (Some bytes) by_name answer none e = absurd cc
known-nothing None true answer none e = refl
known-nothing None false answer none e = e

stands-free : (free : Bool) → free ≡ false → stands_if free ≡ stands → ⊥
stands-free true f e = absurd cc
stands-free false f e = absurd cc

module _ (given : GivenView) (is_tree : IsTree given.past.sources) where
  abbrev r : Rules
  r = rules_for given

  abbrev s : Sources
  s = sources_for given

  abbrev tree : Tree
  tree = given.past.sources

  lawful : AreLawful r
  lawful = lawful_for given

  -- the top directory is in no check
  top-unchecked : checks_for given [] ≡ None
  top-unchecked = elim (cases_Option (checks_for given [])) [
    | inl none ↦ none
    | inr some ↦ absurd (
        let ruled = (are-checks s (last_run_of given.past) given.request).ruled [] some.0 some.1 in
        let unruled : s.has_rule [] ≡ false = ap is_rule (top-found tree is_tree) in both_ways _ unruled ruled)
  ]

  -- and no build makes it
  pub top-nothing : (n : ℕ) → told (outcome_at r n []) ≡ None
  top-nothing zero = ap told (outcome_at-zero r lawful [] (top-source tree is_tree))
  top-nothing (suc n) =
      let a : Ask = outcome_at r n in
      ap told (outcome_at-step r lawful n [] (top-source tree is_tree))
      ∙ ap (λ (o : Option Check). told (progress_checked s [] o a).outcome) top-unchecked
      ∙ ap (λ (f : Found). told (progress_in (world_of tree given.limits) [] f a).outcome) (top-found tree is_tree)

  -- a book has a line for an entry that stands
  line-stood : (a : Ask) (e : BookEntry) → told (a []) ≡ None → standing s a e ≡ stands →
      is_notable (shown e).kind (shown e).path ≡ true
  line-stood a (Change state []) nothing t = absurd (
      let has = stands-file s state [] a t in
      let none : known_file s a [] ≡ None =
      known-nothing (file_at tree []) (is_do_file []) (a []) (top-source tree is_tree) nothing in
      let bad : ◌≡◌ {A = Option File} None (Some has.0) = sym none ∙ has.1 in cc)
  line-stood a (Create []) nothing t = absurd (
      let taken : s.is_free [] ≡ false =
      ap (λ (n : Option Node). is_none n && not (is_rule (found_of tree []))) is_tree.root in
      stands-free (s.is_free []) taken t)
  line-stood a Always nothing t = absurd cc
  line-stood a (Change state (byte ∷ bytes)) nothing t = refl
  line-stood a (Create (byte ∷ bytes)) nothing t = refl

  -- a book has a line for each entry of a record all of whose entries stand
  lines-stood : (a : Ask) (es : List BookEntry) → told (a []) ≡ None →
      (finding s a es).standing ≡ stands →
      AllByRecursion (λ d. is_notable d.kind d.path ≡ true) (shown_all es)
  lines-stood a [] nothing t = tt
  lines-stood a (e ∷ es) nothing t =
      let both = found-stands s e (standing s a e) (finding s a es) t in
      (line-stood a e nothing both.0, lines-stood a es nothing both.1)

  -- and for each of the record of a target that was built
  pub lines-checked : (p : Path) (a : Ask) (file : File) (o : Option Check) → told (a []) ≡ None →
      (progress_checked s p o a).outcome ≡ Some (outcomes.Built file) →
      AllByRecursion (λ d. is_notable d.kind d.path ≡ true) (record_checked s p o a)
  lines-checked p a file None nothing e = lines tree given.limits is_tree p a file nothing e
  lines-checked p a file (Some c) nothing e =
      let found : Finding = finding s a c.entries in
      let own : Progress = s.progress p a in
      elim (progress-ended c.file found own (outcomes.Built file) e) [
        | inl stood ↦
            let P : List Dep → Type 0 = AllByRecursion (λ d. is_notable d.kind d.path ≡ true) in
            rw stood.0 (subst P (sym (finding-seen s c.entries a stood.0)) (lines-stood a c.entries nothing stood.0))
        | inr begun ↦ rw begun.0 (lines tree given.limits is_tree p a file nothing begun.1)
      ]

  -- what was built ended with the answers at the limit
  pub built-ended : (limit : ℕ) (p : Path) (file : File) → r.is_source p ≡ false →
      outcome_at r limit p ≡ Some (outcomes.Built file) →
      (r.progress p (outcome_at r limit)).outcome ≡ Some (outcomes.Built file)
  built-ended zero p file made e = absurd (let none : ◌≡◌ {A = Option Outcome} None (Some (outcomes.Built file)) =
      rw made at e in cc)
  built-ended (suc n) p file made e =
      let before : (r.progress p (outcome_at r n)).outcome ≡ Some (outcomes.Built file) = rw made at e in
      sym (ap (λ (x : Progress). x.outcome) (ended_stays r lawful p (outcome_at r n) (outcome_at r (suc n))
      (outcomes.Built file) (deeper_once r lawful n) before)) ∙ before

  pub source-outcome : (limit : ℕ) (p : Path) → r.is_source p ≡ true → outcome_at r limit p ≡ Some outcomes.Source
  source-outcome zero p is = rw is refl
  source-outcome (suc n) p is = rw is refl

  -- a target that was built is no source
  pub built-target : (limit : ℕ) (p : Path) (file : File) → outcome_at r limit p ≡ Some (outcomes.Built file) →
      r.is_source p ≡ false
  built-target limit p file e = elim (cases_Bool (r.is_source p)) [
    | inl source ↦ absurd (let bad : ◌≡◌ {A = Option Outcome} (Some outcomes.Source) (Some (outcomes.Built file)) =
        sym (source-outcome limit p source) ∙ e in cc)
    | inr made ↦ made
  ]

  row-whole : (limit : ℕ) (row : Row) →
      (row.outcome ≡ final_outcome r limit row.path) × (arc_value row.deps ≡ deps_of r limit row.path) →
      IsNotedWhole row
  row-whole limit row is was =
      let p : Path = row.path in
      let a : Ask = outcome_at r limit in
      let end = built-at (a p) (ap is_built (sym is.0) ∙ was) in
      let made = built-target limit p end.0 end.1 in
      let deps : arc_value row.deps ≡ r.recorded p a = is.1 ∙ ap (λ (v : Bool). cond v [] (r.recorded p a)) made in
      subst (λ (ds : List Dep). AllByRecursion (λ d. is_notable d.kind d.path ≡ true) ds) (sym deps)
      (lines-checked p a end.0 (checks_for given p) (top-nothing limit) (built-ended limit p end.0 made end.1))

  pub report-whole : (request : List Path) (limit : ℕ) (report : Report) → IsReport r request limit report →
      All IsNotedWhole report.rows.items
  report-whole request limit report is =
      All-weaker (λ row. (row.outcome ≡ final_outcome r limit row.path) ×
      (arc_value row.deps ≡ deps_of r limit row.path)) IsNotedWhole
      (λ row was. row-whole limit row was) report.rows.items is.outcomes

-- Trees with the same names that agree on what a run looks into: it does the same over both.
use Rattle.std.proofs.Common.{◌≡◌, ℕ, Bool, not, inl, inr, Option, Some, None, List, [], ◌∷◌, ◌++◌, flat_map, map}
use Rattle.std.proofs.Common.{if◌then◌else◌, length, nat_eq, refl, sym, ap, ap₂, subst, ◌∙◌, ◌==◌, ◌⊎◌}
use Rattle.std.specs.Prelude.{All}
use Rattle.std.specs.Arc.{arc_value}
use Rattle.std.specs.Cmp.Lexicographic.{pointwise}
use Rattle.std.specs.List.{list_any}
use Rattle.std.specs.Option.{option_eq}
use Rattle.std.proofs.lemmas.Bool.{cases_Bool}
use Rattle.redo_record.specs.Paths.{IsAmong, with_new}
use Rattle.redo_book.specs.Book.{Record, record_at}
use Rattle.redo_build.specs.Rules.{Rules}
use Rattle.redo_dir.specs.Stored.{Finishes, Journals, Step, put_of, puts_in}
use Rattle.redo_reads.specs.Reads.{AgreeOn, AreNamedAlike, Covers, HasChecked, HasReads, IsCovered, changed_in}
use Rattle.redo_reads.proofs.PastLemmas.{without_agrees, without_alike}
use Rattle.redo_reads.proofs.ReportLemmas.{agreed_file}
use Rattle.redo_reads.proofs.SearchLemmas.{file_alike}
use Rattle.redo_report.specs.Reports.{IsReport}
use Rattle.redo_report.specs.declared.report.Report.{Report}
use Rattle.redo_report.specs.declared.report.Row.{Row}
use Rattle.redo_rules.specs.Build.{GivenView, rules_for}
use Rattle.redo_rules.specs.Results.{IsGiven, IsResult, IsResultOn}
use Rattle.redo_step.specs.Limits.{LimitsView}
use Rattle.redo_tree.specs.Tree.{IsTree, Tree, file_at, without}
use Rattle.redo_which.specs.Candidates.{book_path, journal_path}
use Rattle.redo_run.specs.Directories.{IsBuilt, steps_of, to_build}
use Rattle.redo_run.specs.Exits.{IsExit, IsExitOf, fails}
use Rattle.redo_run.specs.Reading.{HasMended, HasPlaces, HasRead, MendsAlike}
use Rattle.redo_run.specs.Runs.{request_in}
use Rattle.redo_run.specs.Skipping.{IsSoundFor}
use Rattle.redo_run.specs.Storing.{if_new, others_from, storing, to_store}
use Rattle.redo_run.specs.declared.exit.Exit.{Exit}
use Rattle.redo_run.specs.declared.exit.Exit.TheVariants.{Good, SomeFailed}
use Rattle.redo_run.specs.declared.options.Options.{Options}
use Rattle.redo_run.proofs.MendingLemmas.{clearing_alike}
use Rattle.redo_run.proofs.ExitLemmas.{exit-failed, exit-good}

-- ---- how a run ends

-- two builds whose reports have the same rows end alike
same_exit : (r s : Rules) (limit bound : ℕ) (request : List (List ℕ)) (one two : Report) (exit : Exit) →
    IsReport r request limit one → IsReport s request bound two → two.rows.items ≡ one.rows.items →
    IsExit r limit request exit → IsExit s bound request exit
same_exit r s limit bound request one two exit is also rows ends =
    elim (cases_Bool (list_any (fails (with_new [] request)) one.rows.items)) [
      | inl some ↦
          let was = exit-failed r limit request one is some in
          let now = exit-failed s bound request two also (ap (list_any (fails (with_new [] request))) rows ∙ some) in (
            λ good. absurd (let no : SomeFailed ≡ Good = was.1 (ends.0 good) in cc),
            λ all. absurd (let no : SomeFailed ≡ Good = now.1 all in cc),
          )
      | inr none ↦
          let was = exit-good r limit request one is none in
          let now = exit-good s bound request two also (ap (list_any (fails (with_new [] request))) rows ∙ none) in
          (λ good. now.0 refl, λ all. ends.1 (was.0 refl))
    ]

-- ---- the build

-- what the laws say
abbrev Rests : Type 0
Rests = (one two : Tree) (request : List (List ℕ)) (limits : LimitsView) (given : GivenView) (paths : List ℕ → Bool)
    (result : Report) → IsTree one → IsTree two → IsGiven one request limits given → AreNamedAlike one two →
    AgreeOn paths one two → HasChecked paths one given.past.book result → IsResult given result →
    IsCovered paths given.past.sources result → IsResultOn two request limits result

abbrev Sound : Type 0
Sound = (tree : Tree) (request : List (List ℕ)) (limits : LimitsView) (result : Report) → IsTree tree →
    IsResultOn tree request limits result → (given : GivenView) → IsGiven tree request limits given →
    IsSoundFor given result

abbrev StaysTree : Type 0
StaysTree = (tree : Tree) (out : List (List ℕ)) → IsTree tree → IsTree (without tree out)

module _ (one two : Tree) (paths : List ℕ → Bool) (options : Options) (is_one : IsTree one) (is_two : IsTree two)
    (alike : AreNamedAlike one two) (agree : AgreeOn paths one two) where
  -- without what is to be taken back they are alike, too
  to_build_alike : AreNamedAlike (to_build options one) (to_build options two)
  to_build_alike = elim (cases_Bool (length options.taken.items == 0)) [
    | inl none ↦ rw none alike
    | inr some ↦ rw some (without_alike one two is_one is_two options.taken.items alike)
  ]

  to_build_agree : AgreeOn paths (to_build options one) (to_build options two)
  to_build_agree p m = elim (cases_Bool (length options.taken.items == 0)) [
    | inl none ↦ rw none (agree p m)
    | inr some ↦ rw some (without_agrees one two is_one is_two options.taken.items p (agree p m))
  ]

to_build_tree : StaysTree → (options : Options) (tree : Tree) → IsTree tree → IsTree (to_build options tree)
to_build_tree stays options tree is = elim (cases_Bool (length options.taken.items == 0)) [
  | inl none ↦ rw none is
  | inr some ↦ rw some (stays tree options.taken.items is)
]

module _ (rests : Rests) (sound : Sound) (stays : StaysTree) (one two : Tree) (paths : List ℕ → Bool) (options : Options)
    (report : Report) (book : List ℕ) (exit : Exit) (is_one : IsTree one) (is_two : IsTree two)
    (alike : AreNamedAlike one two) (agree : AgreeOn paths one two) (has : HasRead paths one options report book exit) where
  abbrev built : IsBuilt (to_build options one) options report book exit
  built = has.built

  abbrev is_other : IsTree (to_build options two)
  is_other = to_build_tree stays options two is_two

  whole_covered : IsCovered paths built.given.past.sources built.whole
  whole_covered =
      subst (λ (rows : List Row). All (λ row. HasReads paths built.given.past.sources (arc_value row.deps)) rows)
      (sym built.parts.rows) has.has_rows

  whole_checked : HasChecked paths (to_build options one) built.given.past.book built.whole
  whole_checked = record {
    targets = has.has_book.targets;
    rows = subst (λ (rows : List Row). All (λ row. (x : Record) → record_at built.given.past.book row.path ≡ Some x →
        Covers paths (to_build options one) (flat_map changed_in x.entries)) rows)
        (sym built.parts.rows) has.has_book.rows;
  }

  there : IsResultOn (to_build options two) (request_in options) options.limits built.whole
  there =
      rests (to_build options one) (to_build options two) (request_in options) options.limits built.given paths
      built.whole (to_build_tree stays options one is_one) is_other built.is_given
      (to_build_alike one two paths options is_one is_two alike agree)
      (to_build_agree one two paths options is_one is_two alike agree) whole_checked built.is whole_covered

  -- the reports, without a book, of what was asked for
  report_here : IsReport (rules_for built.given) (request_in options) built.given.limits.targets built.is.report
  report_here =
      subst (λ (asked : List (List ℕ)). IsReport (rules_for built.given) asked built.given.limits.targets built.is.report)
      built.is_given.requested built.is.built

  report_there : IsReport (rules_for there.0) (request_in options) there.0.limits.targets there.2.report
  report_there =
      subst (λ (asked : List (List ℕ)). IsReport (rules_for there.0) asked there.0.limits.targets there.2.report)
      there.1.requested there.2.built

  ends_there : IsExitOf there.0 exit
  ends_there =
      subst (λ (asked : List (List ℕ)). IsExit (rules_for there.0) there.0.limits.targets asked exit)
      (sym there.1.requested)
      (same_exit (rules_for built.given) (rules_for there.0) built.given.limits.targets there.0.limits.targets
      (request_in options) built.is.report there.2.report exit report_here report_there
      (sym there.2.with_book.rows ∙ built.is.with_book.rows)
      (subst (λ (asked : List (List ℕ)). IsExit (rules_for built.given) built.given.limits.targets asked exit)
      built.is_given.requested built.good))

  pub built_there : IsBuilt (to_build options two) options report book exit
  built_there = record {
    given = there.0;
    is_given = there.1;
    whole = built.whole;
    parts = built.parts;
    is = there.2;
    sound = sound (to_build options two) (request_in options) options.limits built.whole is_other there there.0 there.1;
    good = ends_there;
  }

-- ---- the steps

module _ (one two : Tree) (alike : AreNamedAlike one two) where
  puts_there : (files : List (List ℕ × List ℕ)) → puts_in two files ≡ puts_in one files
  puts_there [] = refl
  puts_there (f ∷ fs) =
      ap₂ (λ (over : Bool) (rest : List Step). put_of f over ∷ rest) (file_alike one two alike f.0) (puts_there fs)

  storing_there : (store : Option (List ℕ × List (List ℕ × List ℕ))) → storing two store ≡ storing one store
  storing_there None = refl
  storing_there (Some (book, files)) =
      ap (λ (puts : List Step). Journals book ∷ (puts ++ Finishes ∷ [])) (puts_there files)

  -- files that stand alike
  others_there : (files : List (List ℕ × List ℕ)) →
      ((p : List ℕ) → IsAmong (map (λ f. f.0) files) p → file_at two p ≡ file_at one p) →
      others_from two files ≡ others_from one files
  others_there [] same = refl
  others_there (f ∷ fs) same =
      ap₂ (λ (file : Option (List ℕ)) (rest : List (List ℕ × List ℕ)).
      if not (option_eq (pointwise nat_eq) file (Some f.1)) then f ∷ rest else rest)
      (same f.0 (inl refl)) (others_there fs (λ p m. same p (inr m)))

  if_new_there : (book : List ℕ) (files : List (List ℕ × List ℕ)) → file_at two book_path ≡ file_at one book_path →
      if_new two book files ≡ if_new one book files
  if_new_there book [] same =
      ap (λ (file : Option (List ℕ)). if option_eq (pointwise nat_eq) file (Some book) then None else Some (book, []))
      same
  if_new_there book (f ∷ fs) same = refl

  -- the same is stored, where the same stands at its places
  stored_there : (report : Report) (book : List ℕ) →
      ((p : List ℕ) → ((p ≡ book_path) ⊎ IsAmong (map (λ f. f.0) report.files.items) p) → file_at two p ≡ file_at one p) →
      storing two (to_store two report.files.items book) ≡ storing one (to_store one report.files.items book)
  stored_there report book same =
      let files : List (List ℕ × List ℕ) = report.files.items in
      let stored : to_store two files book ≡ to_store one files book =
      if_new_there book (others_from two files) (same book_path (inl refl))
      ∙ ap (if_new one book) (others_there files (λ p m. same p (inr m))) in
      storing_there (to_store two files book) ∙ ap (storing one) stored

module _ (one two mended other : Tree) (paths : List ℕ → Bool) (is_one : IsTree one) (is_two : IsTree two)
    (alike : AreNamedAlike one two) (agree : AgreeOn paths one two) (has : HasMended paths one)
    (mends : MendsAlike paths mended two other) where
  pub steps_there : (report : Report) (book : List ℕ) → HasPlaces paths mended report →
      steps_of two other report book ≡ steps_of one mended report book
  steps_there report book places =
      let same : (p : List ℕ) → ((p ≡ book_path) ⊎ IsAmong (map (λ f. f.0) report.files.items) p) →
      file_at other p ≡ file_at mended p =
      λ p m. agreed_file paths mended other mends.named mends.agrees p (places p m) in
      let old : (text : List ℕ) → file_at one journal_path ≡ Some text → file_at two book_path ≡ file_at one book_path =
      λ text here. agreed_file paths one two alike agree book_path ((has text here).own book_path (inr (inl refl))) in
      ap₂ (λ (clear store : List Step). clear ++ store)
      (clearing_alike one two mended other is_one is_two alike mends.named old (same book_path (inl refl)))
      (stored_there mended other mends.named report book same)

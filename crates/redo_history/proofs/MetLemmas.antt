-- Each record of the book that runs have left is true of one of their trees, with contents that these runs have met.
use Rattle.std.proofs.Common.{◌≡◌, ℕ, Bool, true, false, cond, ◌||◌, ◌&&◌, inl, inr, Option, Some, None}
use Rattle.std.proofs.Common.{List, [], ◌∷◌, is_some, refl, sym, ap, subst, ◌∙◌, bytes_eq, arith}
use Rattle.std.specs.Prelude.{All, Contains, MatchOption, if◌then◌else◌, unwrap_or}
use Rattle.std.specs.Arc.{arc_value}
use Rattle.std.specs.Cmp.Lexicographic.{slice_cmp}
use Rattle.std.specs.List.{AllByRecursion}
use Rattle.std.specs.Option.{option_or}
use Rattle.std.specs.Ordering.{nat_cmp, is_eq, match_ordering}
use Rattle.std.specs.declared.cmp.Ordering.{Ordering}
use Rattle.std.specs.declared.cmp.Ordering.TheVariants.{Less, Equal, Greater}
use Rattle.std.proofs.lemmas.Bool.{both_ways, cases_Bool, or_cases, or_left, or_right}
use Rattle.std.proofs.lemmas.List.Elements.{All-contains, All-contains_itself, All-weaker}
use Rattle.std.proofs.lemmas.Map.Text.{is_eq-slice_cmp}
use Rattle.std.proofs.lemmas.Slice.Eq.{bytes_eq-Decides}
use Rattle.redo_digest.specs.Digest.{State, state_of}
use Rattle.redo_names.proofs.PathLemmas.{among-told}
use Rattle.redo_record.specs.Answers.{file_in}
use Rattle.redo_record.specs.Entries.{is_entered, same_kind}
use Rattle.redo_record.specs.Paths.{IsAmong, is_among}
use Rattle.redo_record.specs.Progress.{Progress, operands}
use Rattle.redo_record.specs.declared.deps.Dep.{Dep}
use Rattle.redo_record.specs.declared.deps.DepKind.{DepKind}
use Rattle.redo_record.specs.declared.deps.DepKind.TheVariants as kinds
use Rattle.redo_record.specs.declared.outcome.Outcome.{Outcome}
use Rattle.redo_record.specs.declared.outcome.Outcome.TheVariants as outcomes
use Rattle.redo_record.proofs.Public.{entered_operand, operand_entered, operand_target}
use Rattle.redo_book.specs.Book.{IsText, Record, book_lines, text_of}
use Rattle.redo_book.specs.Noted.{entry_as, is_notable, noted}
use Rattle.redo_book.specs.declared.book.BookEntry.{BookEntry}
use Rattle.redo_book.specs.declared.book.BookEntry.TheVariants.{Change, Create, Always}
use Rattle.redo_build.specs.Outcomes.{needed_at, outcome_at, record_of}
use Rattle.redo_build.specs.Rules.{Ask, Rules}
use Rattle.redo_build.specs.Schedule.{only}
use Rattle.redo_build.proofs.DepthLemmas.{settled}
use Rattle.redo_build.proofs.TurnLemmas.{only-among}
use Rattle.redo_skip.specs.Checks.{Check, Finding, built, finding, is_asked, known_file, progress_checked}
use Rattle.redo_skip.specs.Checks.{record_by, record_checked, shown, standing, stands, told}
use Rattle.redo_skip.specs.Sources.{File, Sources}
use Rattle.redo_skip.specs.Truth.{HasState, IsWitness, shown_all}
use Rattle.redo_skip.proofs.AgreeLemmas.{finding-all, finding-seen, stands-file}
use Rattle.redo_skip.proofs.AskedLemmas.{asked-check, asked-script, progress-falls, progress-lacks, progress-stands}
use Rattle.redo_skip.proofs.CheckLemmas.{among-asks, cases_Standing, finding-target, found-first, found-later, found-stands}
use Rattle.redo_skip.proofs.CheckLemmas.{known-asked, known-fixed, not-or}
use Rattle.redo_skip.proofs.NewBookLemmas.{check-known}
use Rattle.redo_step.specs.Limits.{LimitsView}
use Rattle.redo_tree.specs.Tree.{IsTree, Tree, file_at, without}
use Rattle.redo_which.specs.Candidates.{book_path}
use Rattle.redo_past.specs.NewBook.{IsNewBook, built_at, is_built, notable, record_of_row, state_after, with_file}
use Rattle.redo_past.specs.Past.{IsPast, PastView, set_aside}
use Rattle.redo_report.specs.Reports.{IsReport}
use Rattle.redo_report.specs.declared.report.Report.{Report}
use Rattle.redo_report.specs.declared.report.Row.{Row}
use Rattle.redo_rules.specs.Build.{GivenView, checks_for, last_run_of, rules_for, sources_by, sources_for}
use Rattle.redo_rules.specs.TreeSources.{IsNotedWhole}
use Rattle.redo_rules.proofs.AlikeTreeLemmas.{entered-here, entered-later}
use Rattle.redo_rules.proofs.GoodTreeLemmas.{built-at}
use Rattle.redo_rules.proofs.LeftBookLemmas.{looked-up, row-true}
use Rattle.redo_rules.proofs.Public.{lawful_for, plain_lawful}
use Rattle.redo_rules.proofs.WholeBookLemmas.{built-ended, built-target, report-whole}
use Rattle.redo_history.specs.Histories.{AreRuns, HasBookOf, HasRecordsOf, Occurred, Occurs, Run, WasLeft, book_among}
use Rattle.redo_history.specs.Histories.{book_left}
use Rattle.redo_history.proofs.ReportLemmas.{built-met, row-among}
use Rattle.redo_run.proofs.SoundLemmas.{RowOf}

-- what the laws say
abbrev pub OneText : Type 0
OneText = (text : List ℕ) (book other : List Record) → IsText text book → IsText text other → book ≡ other

abbrev pub StaysTree : Type 0
StaysTree = (tree : Tree) (out : List (List ℕ)) → IsTree tree → IsTree (without tree out)

abbrev pub TakesOut : Type 0
TakesOut = (tree : Tree) (out : List (List ℕ)) (path : List ℕ) → IsTree tree →
    file_at (without tree out) path ≡ (if is_among out path then None else file_at tree path)

-- the record is true of a tree, and the runs have met each file that its target met there, and the one that it made
pub record IsOfRuns (runs : List Run) (file_bytes : ℕ) (r : Record) : Type 0 where
  pub tree : Tree
  pub ask : Ask
  pub witness : IsWitness r (sources_by tree file_bytes) ask
  pub met : (q bytes : List ℕ) → known_file (sources_by tree file_bytes) ask q ≡ Some (Some bytes) → Occurred runs q bytes
  pub made : (bytes : List ℕ) → witness.file ≡ Some bytes → Occurred runs r.target bytes

of-more : (run : Run) (before : List Run) (file_bytes : ℕ) (r : Record) → IsOfRuns before file_bytes r →
    IsOfRuns (run ∷ before) file_bytes r
of-more run before file_bytes r is = record {
  tree = is.tree;
  ask = is.ask;
  witness = is.witness;
  met = λ q bytes e. inr (is.met q bytes e);
  made = λ bytes e. inr (is.made bytes e);
}

-- What is told

pub told-built : (o : Option Outcome) (bytes : List ℕ) → told o ≡ Some (Some bytes) →
    file_in (unwrap_or o outcomes.Cyclic) ≡ Some bytes
told-built None bytes e = absurd cc
told-built (Some outcomes.Source) bytes e = absurd cc
told-built (Some (outcomes.Built file)) bytes e = cc
told-built (Some (outcomes.Failed why)) bytes e = absurd cc
told-built (Some outcomes.Cyclic) bytes e = absurd cc

told-final : (o : Option Outcome) (file : File) → told o ≡ Some file → file_in (unwrap_or o outcomes.Cyclic) ≡ file
told-final None file e = absurd cc
told-final (Some outcomes.Source) file e = cc
told-final (Some (outcomes.Built other)) file e = cc
told-final (Some (outcomes.Failed why)) file e = absurd cc
told-final (Some outcomes.Cyclic) file e = absurd cc

source-there : (o : Option (List ℕ)) (file : File) → cond (is_some o) (Some o) None ≡ Some file → o ≡ file
source-there None file e = absurd cc
source-there (Some bytes) file e = cc

pub source-file : (o : Option (List ℕ)) (bytes : List ℕ) → cond (is_some o) (Some o) None ≡ Some (Some bytes) →
    o ≡ Some bytes
source-file o bytes e = source-there o (Some bytes) e

-- Entries of a record, as the book has them

entry-shown : (states : List ℕ → State) (q : List ℕ) (x y : Bool) → (x ≡ true → y ≡ true) → (kind : DepKind) (path : List ℕ) →
    ((same_kind kinds.Change (shown (entry_as states kind path)).kind
    && bytes_eq q (shown (entry_as states kind path)).path) || x) ≡ true →
    ((same_kind kinds.Change kind && bytes_eq q path) || y) ≡ true
entry-shown states q x y more kinds.Change path h = elim (or_cases (bytes_eq q path) x h) [
  | inl here ↦ or_left (bytes_eq q path) y here
  | inr later ↦ or_right (bytes_eq q path) y (more later)
]
entry-shown states q x y more kinds.Create path h = more h
entry-shown states q x y more kinds.Always path h = more h

-- what is entered in the book as a change was entered so in the record
noted-entered : (states : List ℕ → State) (q : List ℕ) (ds : List Dep) →
    is_entered (shown_all (noted states (notable ds))) kinds.Change q ≡ true → is_entered ds kinds.Change q ≡ true
noted-entered states q [] h = absurd cc
noted-entered states q (d ∷ ds) h = elim (cases_Bool (is_notable d.kind d.path)) [
  | inl kept ↦
      entry-shown states q (is_entered (shown_all (noted states (notable ds))) kinds.Change q)
      (is_entered ds kinds.Change q) (noted-entered states q ds) d.kind d.path (rw kept at h)
  | inr out ↦ entered-later d ds kinds.Change q (noted-entered states q ds (rw out at h))
]

whole-notable : (ds : List Dep) → AllByRecursion (λ d. is_notable d.kind d.path ≡ true) ds → notable ds ≡ ds
whole-notable [] all = refl
whole-notable (d ∷ ds) all = let here = all.0 in rw here (ap (λ es. d ∷ es) (whole-notable ds all.1))

-- The file that a source has in the tree

module _ (stays : StaysTree) (takes : TakesOut) (past : PastView) (is_tree : IsTree past.tree) (is_past : IsPast past) where
  pub sources-tree : IsTree past.sources
  sources-tree = subst IsTree (sym is_past.sources) (stays past.tree (set_aside past.tree past.book) is_tree)

  pub source-in-tree : (q bytes : List ℕ) → file_at past.sources q ≡ Some bytes → file_at past.tree q ≡ Some bytes
  source-in-tree q bytes e =
      let out : List (List ℕ) = set_aside past.tree past.book in
      let taken : file_at past.sources q ≡ (if is_among out q then None else file_at past.tree q) =
      ap (λ (t : Tree). file_at t q) is_past.sources ∙ takes past.tree out q is_tree in
      elim (cases_Bool (is_among out q)) [
        | inl gone ↦ absurd (let bad : ◌≡◌ {A = Option (List ℕ)} None (Some bytes) =
            sym (ap (λ (v : Bool). if v then None else file_at past.tree q) gone) ∙ sym taken ∙ e in cc)
        | inr left ↦ sym (ap (λ (v : Bool). if v then None else file_at past.tree q) left) ∙ sym taken ∙ e
      ]

-- One run

module _ (stays : StaysTree) (takes : TakesOut) (given : GivenView) (is_tree : IsTree given.past.tree)
    (is_past : IsPast given.past) (report : Report)
    (is : IsReport (rules_for given) given.request given.limits.targets report) where
  abbrev r : Rules
  r = rules_for given

  abbrev s : Sources
  s = sources_for given

  abbrev tree : Tree
  tree = given.past.sources

  abbrev request : List (List ℕ)
  request = given.request

  abbrev limit : ℕ
  limit = given.limits.targets

  abbrev end : Ask
  end = outcome_at r limit

  abbrev rows : List Row
  rows = report.rows.items

  abbrev OccursHere : List ℕ → List ℕ → Type 0
  OccursHere q bytes = Occurs given.past.tree report q bytes

  trees : IsTree tree
  trees = sources-tree stays takes given.past is_tree is_past

  -- the file of which a needed target tells is that of its row
  row-tells : (q : List ℕ) (file : File) → IsAmong (needed_at r request limit) q → told (end q) ≡ Some file →
      built_at rows q ≡ file
  row-tells q file m e = built-met r request limit report is q m ∙ told-final (end q) file e

  -- what is known of a path that is needed, or not asked for, is met
  known-met : (a : Ask) (q bytes : List ℕ) → (is_asked s q ≡ true → told (a q) ≡ Some (Some bytes) →
      IsAmong (needed_at r request limit) q × (told (end q) ≡ Some (Some bytes))) →
      known_file s a q ≡ Some (Some bytes) → OccursHere q bytes
  known-met a q bytes there e = elim (cases_Bool (is_asked s q)) [
    | inl asked ↦
        let both = there asked (sym (known-asked s a q asked) ∙ e) in inr (row-tells q (Some bytes) both.0 both.1)
    | inr fixed ↦
        inl (source-in-tree stays takes given.past is_tree is_past q bytes
        (source-file (file_at tree q) bytes (sym (known-fixed s a q fixed) ∙ e)))
  ]

  module _ (row : Row) (listed : Contains rows row) (was_built : is_built row.outcome ≡ true) where
    abbrev p : List ℕ
    p = row.path

    abbrev noted_row : Record
    noted_row = record_of_row tree rows row

    was : RowOf r limit row
    was = All-contains (RowOf r limit) rows row is.outcomes listed

    came : (file : File) × (end p ≡ Some (outcomes.Built file))
    came = built-at (end p) (ap is_built (sym was.0) ∙ was_built)

    made : r.is_source p ≡ false
    made = built-target given trees limit p came.0 came.1

    needed : IsAmong (needed_at r request limit) p
    needed = elim ((is.rows p).0 (row-among rows row listed)) [
      | inl among ↦ among
      | inr source ↦ absurd (both_ways _ made source.1)
    ]

    ended : (r.progress p end).outcome ≡ Some (outcomes.Built came.0)
    ended = built-ended given trees limit p came.0 made came.1

    recorded : arc_value row.deps ≡ record_of r limit p
    recorded = was.1 ∙ ap (λ (v : Bool). cond v [] (record_of r limit p)) made

    -- what it asks for is needed
    reach : (q : List ℕ) → IsAmong (operands s.is_source (progress_checked s p (checks_for given p) end).deps) q →
        IsAmong (needed_at r request limit) q
    reach q m = (settled r (lawful_for given) request limit is.within).closed limit p q needed m

    -- what it waits for by its record it asks for
    recorded-asked : (o : Option Check) (file : File) (q : List ℕ) →
        (progress_checked s p o end).outcome ≡ Some (outcomes.Built file) →
        IsAmong (operands s.is_source (record_checked s p o end)) q →
        IsAmong (operands s.is_source (progress_checked s p o end).deps) q
    recorded-asked None file q e m = m
    recorded-asked (Some c) file q e m =
        let found : Finding = finding s end c.entries in
        let own : Progress = s.progress p end in
        elim (cases_Standing found.standing) [
          | inl t ↦
              let D : List Dep → Type 0 = λ ds. IsAmong (operands s.is_source ds) q in
              let seen : D (shown_all c.entries) = subst D (finding-seen s c.entries end t) (rw t at m) in
              let all = finding-all s c.entries end q t seen in
              asked-check s.is_source c.file found own q (finding-target s c.entries end q all) all
          | inr other ↦ elim other [
            | inl l ↦ absurd (let bad : ◌≡◌ {A = Option Outcome} None (Some (outcomes.Built file)) =
                sym (progress-lacks c.file found own l) ∙ e in cc)
            | inr f ↦ asked-script s.is_source c.file found own q f (rw f at m)
          ]
        ]

    recorded-needed : (q : List ℕ) → IsAmong (operands s.is_source (record_of r limit p)) q →
        IsAmong (needed_at r request limit) q
    recorded-needed q m = reach q (recorded-asked (checks_for given p) came.0 q ended m)

    -- By its script, with the answers to what that asked for

    module _ (w : IsWitness noted_row s end) where
      abbrev ps : List (List ℕ)
      ps = operands s.is_source (s.progress p end).deps

      abbrev ask : Ask
      ask = only ps end

      asked-needed : (q : List ℕ) → IsAmong ps q → IsAmong (needed_at r request limit) q
      asked-needed q m =
          let Q : Progress → Type 0 = λ x. IsAmong (operands s.is_source x.deps) q in
          let D : List Dep → Type 0 = λ ds. IsAmong (operands s.is_source ds) q in
          let there : D (shown_all noted_row.entries) = subst Q w.came m in
          let entered = noted-entered (state_after tree rows) q (arc_value row.deps)
          (operand_entered s.is_source (shown_all noted_row.entries) q there) in
          recorded-needed q (subst D recorded
          (entered_operand s.is_source (arc_value row.deps) q
          (operand_target s.is_source (s.progress p end).deps q m) entered))

      came-again : s.progress p ask ≡ built w.file (shown_all noted_row.entries)
      came-again =
          sym (((plain_lawful given).each p).local end ask (λ q m. sym (only-among ps end q m))) ∙ w.came

      known-again : (q : List ℕ) → is_entered (shown_all noted_row.entries) kinds.Change q ≡ true →
          known_file s ask q ≡ known_file s end q
      known-again q h = elim (cases_Bool (is_asked s q)) [
        | inl asked ↦
            let Q : Progress → Type 0 = λ x. IsAmong (operands s.is_source x.deps) q in
            let target : s.is_source q ≡ false = (not-or (s.is_source q) (s.is_script q) asked).0 in
            let m : IsAmong ps q =
            subst Q (sym w.came) (entered_operand s.is_source (shown_all noted_row.entries) q target h) in
            known-asked s ask q asked ∙ ap told (only-among ps end q m) ∙ sym (known-asked s end q asked)
        | inr fixed ↦ known-fixed s ask q fixed ∙ sym (known-fixed s end q fixed)
      ]

      states-again : (es : List BookEntry) → ((q : List ℕ) → is_entered (shown_all es) kinds.Change q ≡ true →
          known_file s ask q ≡ known_file s end q) → AllByRecursion (HasState s end) es →
          AllByRecursion (HasState s ask) es
      states-again [] same all = tt
      states-again (Change state q ∷ es) same all = (
        (all.0.0, same q (entered-here (shown (Change state q)) (shown_all es)) ∙ all.0.1, all.0.2),
        states-again es (λ x h. same x (entered-later (shown (Change state q)) (shown_all es) kinds.Change x h)) all.1,
      )
      states-again (Create q ∷ es) same all = (
        tt,
        states-again es (λ x h. same x (entered-later (shown (Create q)) (shown_all es) kinds.Change x h)) all.1,
      )
      states-again (Always ∷ es) same all = (
        tt,
        states-again es (λ x h. same x (entered-later (shown Always) (shown_all es) kinds.Change x h)) all.1,
      )

      witness-again : IsWitness noted_row s ask
      witness-again = record {
        ruled = w.ruled;
        file = w.file;
        came = came-again;
        state = w.state;
        states = states-again noted_row.entries known-again w.states;
      }

      met-again : (q bytes : List ℕ) → known_file s ask q ≡ Some (Some bytes) → OccursHere q bytes
      met-again q bytes e = known-met ask q bytes (λ asked t. elim (cases_Bool (is_among ps q)) [
        | inl there ↦
            let m : IsAmong ps q = among-told ps q there in
            (asked-needed q m, sym (ap told (only-among ps end q m)) ∙ t)
        | inr away ↦ absurd (let bad : ◌≡◌ {A = Option File} None (Some (Some bytes)) = rw away at t in cc)
      ]) e

      made-again : (s.progress p end).outcome ≡ Some (outcomes.Built came.0) → (bytes : List ℕ) → w.file ≡ Some bytes →
          OccursHere p bytes
      made-again script bytes e =
          let both : Some (outcomes.Built came.0) ≡ Some (outcomes.Built w.file) =
          sym script ∙ ap (λ (x : Progress). x.outcome) w.came in
          let same : came.0 ≡ w.file = cc in
          inr (row-tells p came.0 needed (ap told came.1) ∙ same ∙ e)

    -- By its check, as the old record

    module _ (c : Check) (checked : checks_for given p ≡ Some c) (t : (finding s end c.entries).standing ≡ stands) where
      check-needed : (q : List ℕ) → IsAmong (finding s end c.entries).asked q → IsAmong (needed_at r request limit) q
      check-needed q m =
          let C : Option Check → Type 0 = λ o. IsAmong (operands s.is_source (progress_checked s p o end).deps) q in
          reach q (subst C (sym checked)
          (asked-check s.is_source c.file (finding s end c.entries) (s.progress p end) q
          (finding-target s c.entries end q m) m))

      state-stood : (state : State) (q : List ℕ) → standing s end (Change state q) ≡ stands →
          (is_asked s q ≡ true → IsAmong (needed_at r request limit) q) → state_after tree rows q ≡ state
      state-stood state q now there =
          let has = stands-file s state q end now in
          elim (cases_Bool (is_asked s q)) [
            | inl asked ↦
                let none : file_at tree q ≡ None =
                no-file (file_at tree q) ((not-or (s.is_source q) (s.is_script q) asked).0) in
                let at : built_at rows q ≡ has.0 =
                row-tells q has.0 (there asked) (sym (known-asked s end q asked) ∙ has.1) in
                (λ i. state_of (option_or (none i) (at i))) ∙ has.2
            | inr fixed ↦
                let at : option_or (file_at tree q) (built_at rows q) ≡ has.0 =
                some-file (file_at tree q) has.0 (built_at rows q) (sym (known-fixed s end q fixed) ∙ has.1) in
                ap state_of at ∙ has.2
          ]
        where
          no-file : (o : Option (List ℕ)) → is_some o ≡ false → o ≡ None
          no-file None e = refl
          no-file (Some bytes) e = absurd cc

          some-file : (o : Option (List ℕ)) (file other : File) → cond (is_some o) (Some o) None ≡ Some file →
              option_or o other ≡ file
          some-file None file other e = absurd cc
          some-file (Some bytes) file other e = cc

      stood-noted : (es : List BookEntry) → (finding s end es).standing ≡ stands →
          ((q : List ℕ) → IsAmong (finding s end es).asked q → IsAmong (needed_at r request limit) q) →
          noted (state_after tree rows) (shown_all es) ≡ es
      stood-noted [] now asks = refl
      stood-noted (Change state q ∷ es) now asks =
          let e : BookEntry = Change state q in
          let both = found-stands s e (standing s end e) (finding s end es) now in
          let here : state_after tree rows q ≡ state = state-stood state q both.0
          (λ asked. asks q (found-first s e (standing s end e) (finding s end es) q (among-asks s state q asked))) in
          let rest : noted (state_after tree rows) (shown_all es) ≡ es = stood-noted es both.1
          (λ x m. asks x (found-later s e (standing s end e) (finding s end es) x both.0 m)) in
          λ i. Change (here i) q ∷ rest i
      stood-noted (Create q ∷ es) now asks =
          let e : BookEntry = Create q in
          let both = found-stands s e (standing s end e) (finding s end es) now in
          let rest : noted (state_after tree rows) (shown_all es) ≡ es = stood-noted es both.1
          (λ x m. asks x (found-later s e (standing s end e) (finding s end es) x both.0 m)) in
          λ i. Create q ∷ rest i
      stood-noted (Always ∷ es) now asks = absurd cc

      kept-record : ◌≡◌ {A = Record} noted_row (record { target = p; state = state_of c.file; entries = c.entries })
      kept-record =
          let seen : arc_value row.deps ≡ shown_all c.entries =
          recorded ∙ ap (λ o. record_checked s p o end) checked
          ∙ seen-by (s.progress p end).deps (finding s end c.entries) t ∙ finding-seen s c.entries end t in
          let whole = All-contains IsNotedWhole rows row (report-whole given trees request limit report is) listed was_built in
          let entries : noted (state_after tree rows) (notable (arc_value row.deps)) ≡ c.entries =
          ap (noted (state_after tree rows)) (whole-notable (arc_value row.deps) whole ∙ seen)
          ∙ stood-noted c.entries t check-needed in
          let kept : Some (outcomes.Built c.file) ≡ Some (outcomes.Built came.0) =
          sym (progress-stands c.file (finding s end c.entries) (s.progress p end) t)
          ∙ sym (ap (λ o. (progress_checked s p o end).outcome) checked) ∙ ended in
          let file : came.0 ≡ c.file = cc in
          let told_file : file_in row.outcome ≡ c.file =
          ap file_in was.0 ∙ told-final (end p) came.0 (ap told came.1) ∙ file in
          λ i. record { target = p; state = state_of (told_file i); entries = entries i }
        where
          seen-by : (own : List Dep) (found : Finding) → found.standing ≡ stands →
              record_by found.seen own found.standing ≡ found.seen
          seen-by own found e = ap (λ v. record_by found.seen own v) e

    -- So its record is of the runs

    module _ (runs : List Run) (turn : (q bytes : List ℕ) → OccursHere q bytes → Occurred runs q bytes)
        (old : All (IsOfRuns runs given.limits.file_bytes) given.past.book) where
      script-record : (s.progress p end).outcome ≡ Some (outcomes.Built came.0) →
          IsOfRuns runs given.limits.file_bytes noted_row
      unfolding witness-again
      script-record script = elim (row-true given trees report is row listed was_built) [
        | inl w ↦ record {
          tree = tree;
          ask = ask w;
          witness = witness-again w;
          met = λ q bytes e. turn q bytes (met-again w q bytes e);
          made = λ bytes e. turn p bytes (made-again w script bytes e);
        }
        | inr known ↦
            looked-up (IsOfRuns runs given.limits.file_bytes) given.past.book old p noted_row known
      ]

      row-record : (o : Option Check) → checks_for given p ≡ o → IsOfRuns runs given.limits.file_bytes noted_row
      row-record None e = script-record (sym (ap (λ o. (progress_checked s p o end).outcome) e) ∙ ended)
      row-record (Some c) e =
          let found : Finding = finding s end c.entries in
          let own : Progress = s.progress p end in
          let now : (progress_checked s p (Some c) end).outcome ≡ Some (outcomes.Built came.0) =
          sym (ap (λ o. (progress_checked s p o end).outcome) e) ∙ ended in
          elim (cases_Standing found.standing) [
            | inl t ↦
                subst (IsOfRuns runs given.limits.file_bytes) (sym (kept-record c e t))
                (looked-up (IsOfRuns runs given.limits.file_bytes) given.past.book old p
                (record { target = p; state = state_of c.file; entries = c.entries })
                (check-known s (last_run_of given.past) request p c e))
            | inr other ↦ elim other [
              | inl l ↦ absurd (let bad : ◌≡◌ {A = Option Outcome} None (Some (outcomes.Built came.0)) =
                  sym (progress-lacks c.file found own l) ∙ now in cc)
              | inr f ↦ script-record (sym (progress-falls c.file found own f) ∙ now)
            ]
          ]

  -- and each record of its book
  book-record : (runs : List Run) → ((q bytes : List ℕ) → OccursHere q bytes → Occurred runs q bytes) →
      All (IsOfRuns runs given.limits.file_bytes) given.past.book → (book : List Record) →
      IsNewBook given.past rows book → All (IsOfRuns runs given.limits.file_bytes) book
  book-record runs turn old book new =
      let P : Record → Type 0 = IsOfRuns runs given.limits.file_bytes in
      All-weaker (Contains book) P (λ x at. elim ((new.records x).0 at) [
        | inl here ↦
            subst P (sym here.is)
            (row-record here.row here.listed here.built runs turn old (checks_for given here.row.path) refl)
        | inr carried ↦ All-contains P given.past.book x old carried.known
      ]) book (All-contains_itself book)

-- The book among the files of a report

pub found-put : (files : List (List ℕ × List ℕ)) (text : List ℕ) →
    book_among (with_file files book_path text) ≡ Some text
found-put [] text = refl
found-put (f ∷ files) text =
    (elim (slice_cmp nat_cmp book_path f.0) as (λ (v : Ordering). slice_cmp nat_cmp book_path f.0 ≡ v →
    book_among (match_ordering v ((book_path, text) ∷ f ∷ files) ((f.0, text) ∷ files) (f ∷ with_file files book_path text))
    ≡ Some text) [
      | Less ↦ λ e. refl
      | Equal ↦ λ e.
          let same : book_path ≡ f.0 =
          (bytes_eq-Decides book_path f.0).0 (sym (is_eq-slice_cmp book_path f.0) ∙ ap is_eq e) in
          let is : bytes_eq f.0 book_path ≡ true = (bytes_eq-Decides f.0 book_path).1 (sym same) in
          rw is refl
      | Greater ↦ λ e.
          let other : bytes_eq f.0 book_path ≡ false = elim (cases_Bool (bytes_eq f.0 book_path)) [
            | inl t ↦ absurd (
                let same : bytes_eq book_path f.0 ≡ true =
                (bytes_eq-Decides book_path f.0).1 (sym ((bytes_eq-Decides f.0 book_path).0 t)) in
                let away : bytes_eq book_path f.0 ≡ false = sym (is_eq-slice_cmp book_path f.0) ∙ ap is_eq e in
                both_ways _ away same)
            | inr f ↦ f
          ] in
          rw other (found-put files text)
    ]) refl

-- One run after another

-- what the runs have left is of them
pub left-of-runs : OneText → StaysTree → TakesOut → (runs : List Run) (file_bytes : ℕ) →
    AreRuns HasRecordsOf file_bytes runs → (x : Record) → WasLeft runs x → IsOfRuns runs file_bytes x
left-of-runs one stays takes [] file_bytes are x left = absurd left
left-of-runs one stays takes (run ∷ before) file_bytes are x (inr earlier) =
    of-more run before file_bytes x (left-of-runs one stays takes before file_bytes are.1 x earlier)
left-of-runs one stays takes (run ∷ before) file_bytes are x (inl here) =
    let after = are.0 in
    let given : GivenView = after.result.0 in
    let is_given = after.result.1 in let result = after.result.2 in
    let of_tree : given.past.tree ≡ run.tree = is_given.of_tree.of_tree in
    let is_tree : IsTree given.past.tree = subst IsTree (sym of_tree) after.is_tree in
    let bytes : given.limits.file_bytes ≡ file_bytes =
    ap (λ (l : LimitsView). l.file_bytes) is_given.within ∙ after.limit in
    let P : Record → Type 0 = IsOfRuns (run ∷ before) given.limits.file_bytes in
    let old : All P given.past.book =
    All-weaker (Contains given.past.book) P (λ y at.
    of-more run before given.limits.file_bytes y
    (subst (λ n. IsOfRuns before n y) (sym bytes)
    (left-of-runs one stays takes before file_bytes are.1 y (after.linked given.past is_given.of_tree y at))))
    given.past.book (All-contains_itself given.past.book) in
    let turn : (q bs : List ℕ) → Occurs given.past.tree result.report q bs → Occurred (run ∷ before) q bs =
    λ q bs m. inl (elim m [
      | inl file ↦ inl (sym (ap (λ (t : Tree). file_at t q) of_tree) ∙ file)
      | inr built ↦ inr (ap (λ (rows : List Row). built_at rows q) result.with_book.rows ∙ built)
    ]) in
    let new : List Record = result.with_book.book in
    let all : All P new =
    book-record stays takes given is_tree is_given.of_tree.is_past result.report result.built (run ∷ before) turn old new
    result.with_book.new in
    let text : List ℕ = text_of (book_lines new) in
    let left : Some here.text ≡ Some text =
    sym here.file ∙ ap book_among result.with_book.files
    ∙ found-put result.report.files.items text in
    let read : here.text ≡ text = cc in
    let same : here.book ≡ new =
    one text here.book new (subst (λ (t : List ℕ). IsText t here.book) read here.is_text)
    (record { ordered = result.with_book.new.ordered; whole = refl }) in
    subst (λ n. IsOfRuns (run ∷ before) n x) bytes
    (All-contains P new x all (subst (λ (b : List Record). Contains b x) same here.has))

-- The book of the last run is one of any of them

read-left : (before : List Run) (o : Option (List ℕ)) → book_left before ≡ o → (book : List Record) →
    MatchOption o (book ≡ []) (λ text. IsText text book) → (x : Record) → Contains book x → WasLeft before x
read-left before None e book empty x at = absurd (
    let none : Contains [] x = subst (λ (b : List Record). Contains b x) empty at in omega (arith, none.1))
read-left [] (Some text) e book is x at = absurd cc
read-left (run ∷ before) (Some text) e book is x at =
    inl (record { text = text; file = e; book = book; is_text = is; has = at })

pub book-of-any : (before : List Run) (tree : Tree) → HasBookOf before tree → HasRecordsOf before tree
book-of-any before t has past of x at =
    read-left before (file_at past.tree book_path)
    (sym (ap (λ (u : Tree). file_at u book_path) of.of_tree ∙ has)) past.book of.is_past.book x at

pub runs-of-any : (file_bytes : ℕ) (runs : List Run) → AreRuns HasBookOf file_bytes runs →
    AreRuns HasRecordsOf file_bytes runs
runs-of-any file_bytes [] are = tt
runs-of-any file_bytes (run ∷ before) are = (
  record {
    is_tree = are.0.is_tree;
    linked = book-of-any before run.tree are.0.linked;
    limit = are.0.limit;
    result = are.0.result;
  },
  runs-of-any file_bytes before are.1,
)

-- The book that a build with a book leaves is true of trees where the last one was.
use Rattle.std.proofs.Common.{◌≡◌, ℕ, Bool, true, false, not, ◌||◌, cond, inl, inr, Option, Some, None}
use Rattle.std.proofs.Common.{List, [], ◌∷◌, is_some, map, refl, sym, ap, ◌∙◌, subst}
use Rattle.std.specs.Prelude.{All, Contains, option_and_then, unwrap_or}
use Rattle.std.specs.Arc.{arc_value}
use Rattle.std.specs.List.{AllByRecursion}
use Rattle.std.specs.Option.{option_or}
use Rattle.std.specs.Str.{bytes_eq}
use Rattle.std.proofs.lemmas.Bool.{both_ways, cases_Bool}
use Rattle.std.proofs.lemmas.List.Elements.{All-cons, All-contains, All-contains_itself, All-head, All-nil, All-tail}
use Rattle.std.proofs.lemmas.List.Elements.{All-weaker}
use Rattle.std.proofs.lemmas.Slice.Eq.{bytes_eq-Decides}
use Rattle.redo_digest.specs.Digest.{state_of}
use Rattle.redo_names.proofs.PathLemmas.{told-among}
use Rattle.redo_tree.specs.Tree.{Tree, IsTree, file_at}
use Rattle.redo_which.specs.Candidates.{is_do_file}
use Rattle.redo_record.specs.declared.deps.Dep.{Dep}
use Rattle.redo_record.specs.declared.deps.DepKind.{DepKind}
use Rattle.redo_record.specs.declared.deps.DepKind.TheVariants as kinds
use Rattle.redo_record.specs.declared.outcome.Outcome.{Outcome}
use Rattle.redo_record.specs.declared.outcome.Outcome.TheVariants as outcomes
use Rattle.redo_record.specs.Answers.{file_in}
use Rattle.redo_record.specs.Entries.{is_entered}
use Rattle.redo_record.specs.Paths.{IsAmong, Path, is_among}
use Rattle.redo_record.specs.Progress.{Progress}
use Rattle.redo_record.proofs.Public.{entered_operand}
use Rattle.redo_book.specs.declared.book.BookEntry.{BookEntry}
use Rattle.redo_book.specs.declared.book.BookEntry.TheVariants.{Change, Create, Always}
use Rattle.redo_book.specs.Book.{Record, record_at}
use Rattle.redo_build.specs.Rules.{Ask, Rules, AreLawful, operands}
use Rattle.redo_build.specs.Outcomes.{final_outcome, needed_at, outcome_at, record_of}
use Rattle.redo_build.proofs.DepthLemmas.{settled}
use Rattle.redo_book.specs.Noted.{entry_as, is_notable, new_record, noted}
use Rattle.redo_skip.specs.Checks.{Check, Checks, Finding, asks, shown, stands, built, finding, is_asked, known_file}
use Rattle.redo_skip.specs.Checks.{progress_checked, record_checked, standing, told}
use Rattle.redo_skip.specs.NewBook as skip
use Rattle.redo_skip.specs.NewBook.{CanBeNoted}
use Rattle.redo_skip.specs.Sources.{File, Sources}
use Rattle.redo_skip.specs.Truth.{IsWitness, shown_all}
use Rattle.redo_skip.proofs.AgreeLemmas.{finding-seen, stands-file}
use Rattle.redo_skip.proofs.AskedLemmas.{asked-check, asked-script, progress-ended}
use Rattle.redo_skip.proofs.CheckLemmas.{among-asks, finding-target, found-first, found-later, found-stands}
use Rattle.redo_skip.proofs.CheckLemmas.{known-fixed}
use Rattle.redo_skip.proofs.NewBookLemmas.{all-here, built_eta, sane}
use Rattle.redo_report.specs.Reports.{IsReport, deps_of}
use Rattle.redo_report.specs.declared.report.Report.{Report}
use Rattle.redo_report.specs.declared.report.Row.{Row}
use Rattle.redo_past.specs.NewBook as past
use Rattle.redo_past.specs.NewBook.{IsNewBook, is_built, row_at}
use Rattle.redo_rules.specs.Build.{GivenView, checks_for, last_run_of, rules_for, sources_for}
use Rattle.redo_rules.specs.TreeSources.{IsTrueOfTrees}
use Rattle.redo_rules.proofs.AlikeTreeLemmas.{entered-here, entered-later}
use Rattle.redo_rules.proofs.GoodTreeLemmas.{built-at, trees-good}
use Rattle.redo_rules.proofs.LawfulTreeLemmas.{lawful_for, plain_lawful}
use Rattle.redo_rules.proofs.WholeBookLemmas.{built-ended, built-target, lines-checked, top-nothing}

-- Rows

listed-all : (rows : List Row) → All (λ row. IsAmong (map (λ row. row.path) rows) row.path) rows
listed-all [] = All-nil (λ (row : Row). IsAmong [] row.path)
listed-all (x ∷ xs) =
    All-cons (λ row. IsAmong (map (λ row. row.path) (x ∷ xs)) row.path) x xs (inl refl)
    (All-weaker (λ row. IsAmong (map (λ row. row.path) xs) row.path)
    (λ row. IsAmong (map (λ row. row.path) (x ∷ xs)) row.path) (λ row m. inr m) xs (listed-all xs))

-- what holds of each row holds of that of a path
row-found : (P : Row → Type 0) (rows : List Row) (q : Path) → All P rows → IsAmong (map (λ row. row.path) rows) q →
    (row : Row) × (row_at rows q ≡ Some row) × (row.path ≡ q) × P row
row-found P [] q all m = absurd m
row-found P (x ∷ xs) q all m = elim (cases_Bool (bytes_eq x.path q)) [
  | inl t ↦ (x, rw t refl, (bytes_eq-Decides x.path q).0 t, All-head P x xs all)
  | inr f ↦ elim m [
    | inl here ↦ absurd (let bad : true ≡ false = sym ((bytes_eq-Decides x.path q).1 here) ∙ f in cc)
    | inr later ↦
        let rest = row-found P xs q (All-tail P x xs all) later in
        (rest.0, rw f rest.1, rest.2, rest.3)
  ]
]

records-same : (p : Path) (f g : File) (es fs : List BookEntry) → f ≡ g → es ≡ fs →
    ◌≡◌ {A = Record} (record { target = p; state = state_of f; entries = es })
    (record { target = p; state = state_of g; entries = fs })
records-same p f g es fs files entries =
    ap (λ (x : File). record { target = p; state = state_of x; entries = es }) files
    ∙ ap (λ (xs : List BookEntry). record { target = p; state = state_of g; entries = xs }) entries

-- States

-- a file that is known of what is no source is told of
known-told : (o : Option (List ℕ)) (by_name : Bool) (answer : Option Outcome) (file : File) → is_some o ≡ false →
    cond (not (is_some o || by_name)) (told answer) (cond (is_some o) (Some o) None) ≡ Some file →
    told answer ≡ Some file
known-told (Some bytes) by_name answer file none e = absurd cc
known-told None true answer file none e = absurd cc
known-told None false answer file none e = e

-- and it is the one in the outcome
told-final : (answer : Option Outcome) (file : File) → told answer ≡ Some file →
    file_in (unwrap_or answer outcomes.Cyclic) ≡ file
told-final None file e = absurd cc
told-final (Some outcomes.Source) file e = cc
told-final (Some (outcomes.Built other)) file e = cc
told-final (Some (outcomes.Failed why)) file e = absurd cc
told-final (Some outcomes.Cyclic) file e = absurd cc

source-parts : (o : Option (List ℕ)) → is_some o ≡ true → (bytes : List ℕ) × (o ≡ Some bytes)
source-parts (Some bytes) e = (bytes, refl)
source-parts None e = absurd cc

no-source : (o : Option (List ℕ)) → is_some o ≡ false → o ≡ None
no-source (Some bytes) e = absurd cc
no-source None e = refl

source-told : (o : Option (List ℕ)) (by_name : Bool) (answer : Option Outcome) (file : File) → is_some o ≡ true →
    cond (not (is_some o || by_name)) (told answer) (cond (is_some o) (Some o) None) ≡ Some file → o ≡ file
source-told (Some bytes) by_name answer file some e = cc
source-told None by_name answer file some e = absurd cc

module _ (given : GivenView) (is_tree : IsTree given.past.sources) (report : Report)
    (is : IsReport (rules_for given) given.request given.limits.targets report) where
  abbrev r : Rules
  r = rules_for given

  abbrev s : Sources
  s = sources_for given

  abbrev tree : Tree
  tree = given.past.sources

  abbrev request : List Path
  request = given.request

  abbrev limit : ℕ
  limit = given.limits.targets

  abbrev end : Ask
  end = outcome_at r limit

  abbrev rows : List Row
  rows = report.rows.items

  lawful : AreLawful r
  lawful = lawful_for given

  -- the file that is known of a path is the one of which a book notes the state
  state-noted : (q : Path) (file : File) → (r.is_source q ≡ false → IsAmong (needed_at r request limit) q) →
      known_file s end q ≡ Some file → past.state_after tree rows q ≡ state_of file
  state-noted q file reached e = elim (cases_Bool (r.is_source q)) [
    | inl some ↦
        let bytes = source-parts (file_at tree q) some in
        let same : file_at tree q ≡ file = source-told (file_at tree q) (is_do_file q) (end q) file some e in
        ap (λ (o : Option (List ℕ)). state_of (option_or o (past.built_at rows q))) bytes.1
        ∙ ap (λ (o : File). state_of o) (sym bytes.1 ∙ same)
    | inr made ↦
        let told_file : told (end q) ≡ Some file =
        known-told (file_at tree q) (is_do_file q) (end q) file made e in
        let row = row-found (λ row. (row.outcome ≡ final_outcome r limit row.path) ×
        (arc_value row.deps ≡ deps_of r limit row.path)) rows q is.outcomes ((is.rows q).1 (inl (reached made))) in
        let outcome : row.0.outcome ≡ final_outcome r limit q =
        row.3.0 ∙ ap (λ (p : Path). final_outcome r limit p) row.2 in
        let at : past.built_at rows q ≡ file =
        ap (λ (o : Option Row). option_and_then (λ (x : Row). file_in x.outcome) o) row.1
        ∙ ap file_in outcome ∙ told-final (end q) file told_file in
        ap (λ (o : Option (List ℕ)). state_of (option_or o (past.built_at rows q)))
        (no-source (file_at tree q) made) ∙ ap (λ (o : File). state_of o) at
  ]

  -- an entry as the new book has it
  entry-noted : (k : DepKind) (q : Path) → (k ≡ kinds.Change → r.is_source q ≡ false →
      IsAmong (needed_at r request limit) q) → CanBeNoted s end k q →
      entry_as (past.state_after tree rows) k q ≡ entry_as (skip.state_known s end) k q
  entry-noted kinds.Change q reached can =
      let now : past.state_after tree rows q ≡ state_of can.0 = state-noted q can.0 (reached refl) can.1 in
      let then : skip.state_known s end q ≡ state_of can.0 = ap (λ (o : Option File). option_and_then state_of o) can.1 in
      ap (λ state. Change state q) (now ∙ sym then)
  entry-noted kinds.Create q reached can = refl
  entry-noted kinds.Always q reached can = refl

  record IsNotable (d : Dep) : Type 0 where
    reached : d.kind ≡ kinds.Change → r.is_source d.path ≡ false → IsAmong (needed_at r request limit) d.path
    line : is_notable d.kind d.path ≡ true
    can : CanBeNoted s end d.kind d.path

  all-noted : (ds : List Dep) → AllByRecursion IsNotable ds →
      noted (past.state_after tree rows) (past.notable ds) ≡ noted (skip.state_known s end) ds
  all-noted [] all = refl
  all-noted (d ∷ ds) all =
      let here = entry-noted d.kind d.path all.0.reached all.0.can in
      ap (λ (b : Bool). noted (past.state_after tree rows) (cond b (d ∷ past.notable ds) (past.notable ds))) all.0.line
      ∙ ap (λ (e : BookEntry). e ∷ noted (past.state_after tree rows) (past.notable ds)) here
      ∙ ap (λ (es : List BookEntry). entry_as (skip.state_known s end) d.kind d.path ∷ es) (all-noted ds all.1)

  notable : (ds : List Dep) → ((q : Path) → is_entered ds kinds.Change q ≡ true → r.is_source q ≡ false →
      IsAmong (needed_at r request limit) q) →
      AllByRecursion (λ d. is_notable d.kind d.path ≡ true) ds →
      AllByRecursion (λ d. CanBeNoted s end d.kind d.path) ds → AllByRecursion IsNotable ds
  notable [] reached line can = tt
  notable (d ∷ ds) reached line can = (
    record {
      reached = λ change made. reached d.path (subst (λ (j : DepKind). is_entered (d ∷ ds) j d.path ≡ true) change
          (entered-here d ds)) made;
      line = line.0;
      can = can.0;
    },
    notable ds (λ q h made. reached q (entered-later d ds kinds.Change q h) made) line.1 can.1,
  )

  -- of a needed target, what the build says of it at the limit
  reached : (p q : Path) (o : Option Check) → checks_for given p ≡ o → IsAmong (needed_at r request limit) p →
      IsAmong (operands r (progress_checked s p o end).deps) q → IsAmong (needed_at r request limit) q
  reached p q o checked m asked =
      let P : Option Check → Type 0 = λ x. IsAmong (operands r (progress_checked s p x end).deps) q in
      (settled r lawful request limit is.within).closed limit p q m (subst P (sym checked) asked)

  -- what a script declared can be noted
  script-notable : (p : Path) (file : File) (ds : List Dep) → s.progress p end ≡ built file ds →
      ((q : Path) → IsAmong (operands r ds) q → IsAmong (needed_at r request limit) q) →
      AllByRecursion (λ d. is_notable d.kind d.path ≡ true) ds → AllByRecursion IsNotable ds
  script-notable p file ds came reach line =
      notable ds (λ q h out. reach q (entered_operand r.is_source ds q out h)) line
      ((trees-good tree given.limits).notable p end file ds (λ q named made.
      sane s (last_run_of given.past) request limit (plain_lawful given) (trees-good tree given.limits) is.within limit q
      named made) came)

  stood-entry : (e : BookEntry) → standing s end e ≡ stands →
      ((q : Path) → IsAmong (asks s e) q → IsAmong (needed_at r request limit) q) →
      is_notable (shown e).kind (shown e).path ≡ true → IsNotable (shown e)
  stood-entry (Change state q) t reach line =
      let has = stands-file s state q end t in
      record {
        reached = λ change made. elim (cases_Bool (is_asked s q)) [
          | inl asked ↦ reach q (among-asks s state q asked)
          | inr fixed ↦ absurd (
              let none : known_file s end q ≡ None =
              known-fixed s end q fixed ∙ ap (λ (v : Bool). cond v (Some (s.file q)) None) made in
              let bad : ◌≡◌ {A = Option File} None (Some has.0) = sym none ∙ has.1 in cc)
        ];
        line = line;
        can = (has.0, has.1);
      }
  stood-entry (Create q) t reach line =
      record { reached = λ change. absurd (let bad : kinds.Create ≡ kinds.Change = change in cc); line = line; can = tt }
  stood-entry Always t reach line = absurd cc

  -- and so can the entries of a record that all stand
  stood-notable : (es : List BookEntry) → (finding s end es).standing ≡ stands →
      ((q : Path) → IsAmong (finding s end es).asked q → IsAmong (needed_at r request limit) q) →
      AllByRecursion (λ d. is_notable d.kind d.path ≡ true) (shown_all es) →
      AllByRecursion IsNotable (shown_all es)
  stood-notable [] t reach line = tt
  stood-notable (e ∷ es) t reach line =
      let both = found-stands s e (standing s end e) (finding s end es) t in (
        stood-entry e both.0 (λ x m. reach x (found-first s e (standing s end e) (finding s end es) x m)) line.0,
        stood-notable es both.1
            (λ x m. reach x (found-later s e (standing s end e) (finding s end es) x both.0 m)) line.1,
      )

  -- all that is in the record of a target that was built can be noted
  row-notable : (p : Path) (file : File) (o : Option Check) →
      (progress_checked s p o end).outcome ≡ Some (outcomes.Built file) →
      ((q : Path) → IsAmong (operands r (progress_checked s p o end).deps) q → IsAmong (needed_at r request limit) q) →
      AllByRecursion (λ d. is_notable d.kind d.path ≡ true) (record_checked s p o end) →
      AllByRecursion IsNotable (record_checked s p o end)
  row-notable p file None e reach line =
      script-notable p file (s.progress p end).deps (built_eta (s.progress p end) file e) reach line
  row-notable p file (Some c) e reach line =
      let found : Finding = finding s end c.entries in
      let own : Progress = s.progress p end in
      let L : List Dep → Type 0 = AllByRecursion (λ d. is_notable d.kind d.path ≡ true) in
      elim (progress-ended c.file found own (outcomes.Built file) e) [
        | inl stood ↦
            let t = stood.0 in
            let seen = finding-seen s c.entries end t in
            let N : List Dep → Type 0 = AllByRecursion IsNotable in
            let line' : L (shown_all c.entries) = subst L seen (rw t at line) in
            let asks : (q : Path) → IsAmong found.asked q → IsAmong (needed_at r request limit) q =
            λ q m. reach q (asked-check r.is_source c.file found own q (finding-target s c.entries end q m) m) in
            rw t (subst N (sym seen) (stood-notable c.entries t asks line'))
        | inr begun ↦
            let f = begun.0 in
            let asks : (q : Path) → IsAmong (operands r own.deps) q → IsAmong (needed_at r request limit) q =
            λ q m. reach q (asked-script r.is_source c.file found own q f m) in
            rw f (script-notable p file own.deps (built_eta own file begun.1) asks (rw f at line))
      ]

  -- the record of a row is the one that the new book has of its target
  row-noted : (row : Row) → Contains rows row → is_built row.outcome ≡ true →
      skip.new_book s (last_run_of given.past) request limit row.path ≡ Some (past.record_of_row tree rows row)
  row-noted row listed was_built =
      let p : Path = row.path in
      let k : Checks = checks_for given in
      let was = All-contains (λ row. (row.outcome ≡ final_outcome r limit row.path) ×
      (arc_value row.deps ≡ deps_of r limit row.path)) rows row is.outcomes listed in
      let came = built-at (end p) (ap is_built (sym was.0) ∙ was_built) in
      let file : File = came.0 in
      let made : r.is_source p ≡ false = built-target given is_tree limit p file came.1 in
      let m : IsAmong (needed_at r request limit) p = elim ((is.rows p).0
      (All-contains (λ row. IsAmong (map (λ row. row.path) rows) row.path) rows row (listed-all rows) listed)) [
        | inl among ↦ among
        | inr source ↦ absurd (both_ways _ made source.1)
      ] in
      let ds : List Dep = record_of r limit p in
      let same : arc_value row.deps ≡ ds = was.1 ∙ ap (λ (v : Bool). cond v [] ds) made in
      let L : List Dep → Type 0 = AllByRecursion (λ d. is_notable d.kind d.path ≡ true) in
      let line : L ds = lines-checked given is_tree p end file (k p) (top-nothing given is_tree limit)
      (built-ended given is_tree limit p file made came.1) in
      let entries : noted (past.state_after tree rows) (past.notable (arc_value row.deps)) ≡ noted (skip.state_known s end) ds =
      ap (λ (es : List Dep). noted (past.state_after tree rows) (past.notable es)) same
      ∙ all-noted ds (row-notable p file (k p) (built-ended given is_tree limit p file made came.1)
      (λ q asked. reached p q (k p) refl m asked) line) in
      let made_file : file_in row.outcome ≡ file = ap file_in was.0 ∙ told-final (end p) file (ap told came.1) in
      let new : past.record_of_row tree rows row ≡ new_record (skip.state_known s end) p file ds =
      records-same p (file_in row.outcome) file (noted (past.state_after tree rows) (past.notable (arc_value row.deps))) (noted (skip.state_known s end) ds)
      made_file entries in
      let needed : List Path = needed_at r request limit in
      let built_file : (cond (is_among needed p) (option_and_then skip.built_with (end p)) None) ≡ Some file =
      ap (λ (v : Bool). cond v (option_and_then skip.built_with (end p)) None) (told-among needed p m)
      ∙ ap (λ (o : Option Outcome). option_and_then skip.built_with o) came.1 in
      ap (λ (o : Option File). skip.record_with s (last_run_of given.past) k limit p o) built_file
      ∙ ap (λ (x : Record). Some x) (sym new)

  -- it is one of this run, or that of the last book
  pub row-true : (row : Row) → Contains rows row → is_built row.outcome ≡ true →
      skip.IsOfRun s (last_run_of given.past) request limit row.path (past.record_of_row tree rows row)
  row-true row listed was_built =
      all-here s (last_run_of given.past) request limit (plain_lawful given) (trees-good tree given.limits) is.within
      row.path (past.record_of_row tree rows row) (row-noted row listed was_built)

-- The whole book

pub looked-up : (P : Record → Type 0) (book : List Record) → All P book → (p : Path) (r : Record) →
    record_at book p ≡ Some r → P r
looked-up P [] all p r e = absurd cc
looked-up P (x ∷ xs) all p r e = elim (cases_Bool (bytes_eq x.target p)) [
  | inl t ↦
      let this : Some x ≡ Some r = rw t at e in
      let same : x ≡ r = cc in
      subst P same (All-head P x xs all)
  | inr f ↦ looked-up P xs (All-tail P x xs all) p r (rw f at e)
]

pub book-true : (given : GivenView) (report : Report) (book : List Record) → IsTree given.past.sources →
    IsReport (rules_for given) given.request given.limits.targets report →
    IsNewBook given.past report.rows.items book → All (IsTrueOfTrees given.limits.file_bytes) given.past.book →
    All (IsTrueOfTrees given.limits.file_bytes) book
book-true given report book is_tree is new old =
    All-weaker (Contains book) (IsTrueOfTrees given.limits.file_bytes)
    (λ r at. elim ((new.records r).0 at) [
      | inl here ↦ elim (row-true given is_tree report is here.row here.listed here.built) [
        | inl witness ↦ record {
          tree = given.past.sources;
          ask = outcome_at (rules_for given) given.limits.targets;
          witness = subst (λ (x : Record). IsWitness x (sources_for given)
              (outcome_at (rules_for given) given.limits.targets)) (sym here.is) witness;
        }
        | inr known ↦
            subst (IsTrueOfTrees given.limits.file_bytes) (sym here.is)
            (looked-up (IsTrueOfTrees given.limits.file_bytes) given.past.book old here.row.path
            (past.record_of_row given.past.sources report.rows.items here.row) known)
      ]
      | inr carried ↦ All-contains (IsTrueOfTrees given.limits.file_bytes) given.past.book r old carried.known
    ]) book (All-contains_itself book)

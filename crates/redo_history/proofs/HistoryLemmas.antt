-- After runs, the build with the book that they have left comes to what the build of the sources alone comes to.
use Rattle.std.proofs.Common.{false, ◌≡◌, ℕ, ◌≤◌, true, not, ◌&&◌, cond, inl, inr, List, [], length}
use Rattle.std.proofs.Common.{Option, Some, None, map, refl, sym, ap, subst, ◌∙◌, arith}
use Rattle.std.proofs.lemmas.Bool.{cases_Bool}
use Rattle.std.proofs.lemmas.List.Elements.{All-contains, All-contains_itself, All-weaker}
use Rattle.std.specs.Prelude.{◌≢◌, All, Contains, option_and_then, unwrap_or}
use Rattle.sha2.specs.Sha256.{sha256}
use Rattle.redo_digest.specs.Digest.{state_of}
use Rattle.redo_record.specs.Answers.{file_in as file_of}
use Rattle.redo_record.specs.Paths.{IsAmong, is_among}
use Rattle.redo_record.specs.declared.outcome.Outcome.{Outcome}
use Rattle.redo_record.specs.declared.outcome.Outcome.TheVariants.{Cyclic}
use Rattle.redo_book.specs.Book.{Record, book_lines, text_of}
use Rattle.redo_build.specs.Outcomes.{IsTooMany, final_outcome, needed_at, outcome_at}
use Rattle.redo_build.specs.Rules.{Ask, Rules}
use Rattle.redo_skip.specs.Checks.{Check, Checks, is_asked, known_file, told, with_book}
use Rattle.redo_skip.specs.NewBook.{LastRun, check_by, checks_of, is_valid}
use Rattle.redo_skip.specs.Sources.{File, Sources, without_book}
use Rattle.redo_skip.specs.Truth.{IsSkipping, NoneCyclic}
use Rattle.redo_skip.proofs.CheckLemmas.{known-asked, known-fixed}
use Rattle.redo_skip.proofs.NewBookLemmas.{are-checks, check-known}
use Rattle.redo_skip.proofs.SkipLemmas.{skips}
use Rattle.redo_step.specs.Limits.{LimitsView}
use Rattle.redo_tree.specs.Tree.{IsTree, Tree, file_at, without}
use Rattle.redo_which.specs.Candidates.{book_path}
use Rattle.redo_past.specs.NewBook.{built_at}
use Rattle.redo_past.specs.Past.{IsPast, PastView, set_aside}
use Rattle.redo_past.proofs.PastLemmas.{all-sources}
use Rattle.redo_report.specs.declared.report.Report.{Report}
use Rattle.redo_report.specs.declared.report.Row.{Row}
use Rattle.redo_rules.specs.Build.{GivenView, checks_for, last_run_of, rules_for, sources_by, sources_for}
use Rattle.redo_rules.specs.Results.{IsGiven, IsResult}
use Rattle.redo_rules.proofs.LeftBookLemmas.{looked-up}
use Rattle.redo_rules.proofs.Public.{lawful_for, plain_lawful, trees-alike}
use Rattle.redo_history.specs.Histories.{AreRuns, HasBookOf, HasRecordsOf, IsAfter, IsPlainOn, NoneConfused, Occurs, Run}
use Rattle.redo_run.specs.Skipping.{Agrees, but_book, told_by_row}
use Rattle.redo_history.proofs.MetLemmas.{IsOfRuns, OneText, StaysTree, TakesOut, book-of-any, left-of-runs, runs-of-any}
use Rattle.redo_history.proofs.MetLemmas.{source-file, source-in-tree, sources-tree, told-built}
use Rattle.redo_history.proofs.KeptLemmas.{IsHonestMet, skips-met}
use Rattle.redo_history.proofs.NeededLemmas.{IsHonestThere, skips-there}
use Rattle.redo_history.proofs.ReportLemmas.{OnePast, built-met, needed-row, one-files, one-rows}
use Rattle.redo_run.proofs.SoundLemmas.{begun-plain, others-of, plain-begun, shows-plain}
use Rattle.redo_history.proofs.RulesLemmas.{needed-same as rules-needed, outcomes-same}

-- The file that a check keeps

check-file : (s : Sources) (last : LastRun) (request : List (List ℕ)) (p : List ℕ) (c : Check) →
    checks_of s last request p ≡ Some c → c.file ≡ last.file p
check-file s last request p c e =
    let r : Record = record { target = p; state = state_of c.file; entries = c.entries } in
    let now : (cond (not (is_among request p) && is_valid s last r) (Some (check_by last r)) None) ≡ Some c =
    sym (ap (λ (o : Option Record). option_and_then (λ (x : Record).
    cond (not (is_among request p) && is_valid s last x) (Some (check_by last x)) None) o)
    (check-known s last request p c e)) ∙ e in
    elim (cases_Bool (not (is_among request p) && is_valid s last r)) [
      | inl t ↦
          let kept : Some (check_by last r) ≡ Some c = rw t at now in
          let same : check_by last r ≡ c = cc in
          sym (ap (λ (x : Check). x.file) same)
      | inr f ↦ absurd (let bad : ◌≡◌ {A = Option Check} None (Some c) = rw f at now in cc)
    ]

-- files with the same state are the same, if contents with the same digest are
same-files : (one other : File) →
    ((a b : List ℕ) → one ≡ Some a → other ≡ Some b → sha256 a ≡ sha256 b → a ≡ b) →
    state_of one ≡ state_of other → one ≡ other
same-files None None h e = refl
same-files None (Some b) h e = absurd cc
same-files (Some a) None h e = absurd cc
same-files (Some a) (Some b) h e = let same : sha256 a ≡ sha256 b = cc in ap Some (h a b refl refl same)

-- The build of the sources alone

-- what it is given
abbrev alone : GivenView → GivenView
alone given = record {
  past = record { tree = given.past.sources; sources = given.past.sources; book = [] };
  request = given.request;
  limits = given.limits;
}

module _ (stays : StaysTree) (takes : TakesOut) (given : GivenView) (is_tree : IsTree given.past.tree)
    (is_past : IsPast given.past) where
  abbrev s : Sources
  s = sources_for given

  abbrev k : Checks
  k = checks_for given

  abbrev none : Checks
  none = checks_for (alone given)

  abbrev request : List (List ℕ)
  request = given.request

  abbrev limit : ℕ
  limit = given.limits.targets

  abbrev plain : Rules
  plain = without_book s

  abbrev bare : Rules
  bare = with_book s none

  -- the sources are a tree of their own, without a book
  sources-past : IsPast (alone given).past
  sources-past =
      let out : List (List ℕ) = set_aside given.past.tree given.past.book in
      let gone : file_at (without given.past.tree out) book_path ≡ None = takes given.past.tree out book_path is_tree in
      let empty : file_at given.past.sources book_path ≡ None =
      ap (λ (t : Tree). file_at t book_path) is_past.sources ∙ gone in
      all-sources given.past.sources given.past.sources [] (sources-tree stays takes given.past is_tree is_past) empty refl
      refl

  bare-outcome : (n : ℕ) (p : List ℕ) → outcome_at plain n p ≡ outcome_at bare n p
  bare-outcome n p =
      outcomes-same bare plain (lawful_for (alone given)) request (λ _. Unit {0}) refl (λ p a _. refl) (λ p _. tt)
      (λ n p q _ _. tt) n p tt

  bare-needed : needed_at plain request limit ≡ needed_at bare request limit
  bare-needed =
      rules-needed bare plain (lawful_for (alone given)) request (λ _. Unit {0}) refl (λ p a _. refl) (λ p _. tt)
      (λ n p q _ _. tt) limit

  module _ (report : Report) (is : IsResult (alone given) report)
      (none_cyclic : All (λ row. row.outcome ≢ Cyclic) report.rows.items) where
    few : length (needed_at plain request limit) ≤ limit
    few = subst (λ (ps : List (List ℕ)). length ps ≤ limit) (sym bare-needed) is.built.within

    into : (p : List ℕ) → IsAmong (needed_at plain request limit) p → IsAmong (needed_at bare request limit) p
    into p m = subst (λ (ps : List (List ℕ)). IsAmong ps p) bare-needed m

    decided : NoneCyclic plain request limit
    decided p m lacks =
        let row = needed-row bare request limit is.report is.built p (into p m) in
        let listed : Contains report.rows.items row.0 =
        subst (λ (rows : List Row). Contains rows row.0) (sym is.with_book.rows) row.4 in
        let cyclic : row.0.outcome ≡ Cyclic =
        row.3.0 ∙ ap (λ (q : List ℕ). final_outcome bare limit q) row.2
        ∙ ap (λ (o : Option Outcome). unwrap_or o Cyclic) (sym (bare-outcome limit p) ∙ lacks) in
        All-contains (λ (x : Row). x.outcome ≢ Cyclic) report.rows.items row.0 none_cyclic listed cyclic

    skips-alone : IsSkipping s none request limit
    skips-alone =
        skips s none (plain_lawful given) (are-checks s (last_run_of (alone given).past) request) request limit few
        (λ p c e. absurd (let bad : ◌≡◌ {A = Option Check} None (Some c) = e in cc)) decided

    module _ (before : List Run) (of-runs : All (IsOfRuns before given.limits.file_bytes) given.past.book) where
      -- the record of a check is of the runs
      of-check : (p : List ℕ) (c : Check) → k p ≡ Some c →
          IsOfRuns before given.limits.file_bytes (record { target = p; state = state_of c.file; entries = c.entries })
      of-check p c e =
          looked-up (IsOfRuns before given.limits.file_bytes) given.past.book of-runs p
          (record { target = p; state = state_of c.file; entries = c.entries })
          (check-known s (last_run_of given.past) request p c e)

      -- the file that it keeps is in the tree
      kept-met : (p : List ℕ) (c : Check) → k p ≡ Some c → (bytes : List ℕ) → c.file ≡ Some bytes →
          file_at given.past.tree p ≡ Some bytes
      kept-met p c e bytes kept = sym (check-file s (last_run_of given.past) request p c e) ∙ kept

      -- and so is what is known of a path that isn't asked for
      source-met : (a : Ask) (q bytes : List ℕ) → is_asked s q ≡ false → known_file s a q ≡ Some (Some bytes) →
          file_at given.past.tree q ≡ Some bytes
      source-met a q bytes fixed e =
          source-in-tree stays takes given.past is_tree is_past q bytes
          (source-file (file_at given.past.sources q) bytes (sym (known-fixed s a q fixed) ∙ e))

      -- With what the run itself meets

      module _ (result : Report) (was : IsResult given result)
          (none_confused : NoneConfused before given.past.tree result) where
        met-here : (q bytes : List ℕ) →
            (is_asked s q ≡ true → IsAmong (needed_at (rules_for given) request limit) q) →
            known_file s (outcome_at (rules_for given) limit) q ≡ Some (Some bytes) → Occurs given.past.tree result q bytes
        met-here q bytes there e = elim (cases_Bool (is_asked s q)) [
          | inl asked ↦
              let end : Ask = outcome_at (rules_for given) limit in
              let at : built_at was.report.rows.items q ≡ file_of (final_outcome (rules_for given) limit q) =
              built-met (rules_for given) request limit was.report was.built q (there asked) in
              inr (ap (λ (rows : List Row). built_at rows q) was.with_book.rows ∙ at
              ∙ told-built (end q) bytes (sym (known-asked s end q asked) ∙ e))
          | inr fixed ↦ inl (source-met (outcome_at (rules_for given) limit) q bytes fixed e)
        ]

        honest-met : (p : List ℕ) (c : Check) →
            IsAmong (needed_at plain request limit) p × IsAmong (needed_at (rules_for given) request limit) p →
            k p ≡ Some c →
            IsHonestMet s k (plain_lawful given) (are-checks s (last_run_of given.past) request) request limit few
            was.built.within p c
        honest-met p c m e =
            let of = of-check p c e in
            record {
              truth = record { sources = sources_by of.tree given.limits.file_bytes; ask = of.ask; witness = of.witness };
              alike = λ a. trees-alike of.tree given.past.sources given.limits.file_bytes of.ask a p;
              result = λ same. same-files of.witness.file c.file
                  (λ a b made kept digest.
                  none_confused p a b (inr (of.made a made)) (inl (inl (kept-met p c e b kept))) digest) same;
              apart = λ q file other there known here same. same-files file other
                  (λ a b is_a is_b digest.
                  none_confused q a b (inr (of.met q a (known ∙ ap Some is_a)))
                  (inl (met-here q b there (here ∙ ap Some is_b))) digest) same;
            }

        skips-given : IsSkipping s k request limit
        skips-given =
            skips-met s k (plain_lawful given) (are-checks s (last_run_of given.past) request) request limit few
            was.built.within honest-met decided

        pub agrees-given : Agrees result report
        agrees-given =
            let shown = shows-plain s k request limit skips-given was.report was.built in
            let shown-alone = shows-plain s none request limit skips-alone is.report is.built in
            let text = was.with_book in let text-alone = is.with_book in
            record {
              rows =
                  ap (map told_by_row) text.rows
                  ∙ one-rows plain request limit was.report is.report shown shown-alone
                  ∙ sym (ap (map told_by_row) text-alone.rows);
              files =
                  ap but_book text.files ∙ others-of was.report.files.items (text_of (book_lines text.book))
                  ∙ ap but_book (one-files plain request limit was.report is.report shown shown-alone)
                  ∙ sym (others-of is.report.files.items (text_of (book_lines text-alone.book)))
                  ∙ sym (ap but_book text-alone.files);
              begun = λ p m.
                  let B : List (List ℕ) → Type 0 = λ ps. IsAmong ps p in
                  let begun = begun-plain s k request limit skips-given was.report was.built p (subst B text.begun m) in
                  subst B (sym text-alone.begun)
                  (plain-begun s none request limit skips-alone (λ q. refl) is.report is.built p begun);
            }

      -- With what the build of the sources alone meets

      module _ (none_confused : NoneConfused before given.past.tree report) where
        met-alone : (q bytes : List ℕ) → (is_asked s q ≡ true → IsAmong (needed_at plain request limit) q) →
            known_file s (outcome_at plain limit) q ≡ Some (Some bytes) → Occurs given.past.tree report q bytes
        met-alone q bytes there e = elim (cases_Bool (is_asked s q)) [
          | inl asked ↦
              let told_there : told (outcome_at plain limit q) ≡ Some (Some bytes) =
              sym (known-asked s (outcome_at plain limit) q asked) ∙ e in
              let at : built_at is.report.rows.items q ≡ file_of (final_outcome bare limit q) =
              built-met bare request limit is.report is.built q (into q (there asked)) in
              inr (ap (λ (rows : List Row). built_at rows q) is.with_book.rows ∙ at
              ∙ told-built (outcome_at bare limit q) bytes (ap told (sym (bare-outcome limit q)) ∙ told_there))
          | inr fixed ↦ inl (source-met (outcome_at plain limit) q bytes fixed e)
        ]

        honest-alone : (p : List ℕ) (c : Check) → IsAmong (needed_at plain request limit) p → k p ≡ Some c →
            IsHonestThere s k (plain_lawful given) (are-checks s (last_run_of given.past) request) request limit few p c
        honest-alone p c m e =
            let of = of-check p c e in
            record {
              truth = record { sources = sources_by of.tree given.limits.file_bytes; ask = of.ask; witness = of.witness };
              alike = λ a. trees-alike of.tree given.past.sources given.limits.file_bytes of.ask a p;
              result = λ same. same-files of.witness.file c.file
                  (λ a b made kept digest.
                  none_confused p a b (inr (of.made a made)) (inl (inl (kept-met p c e b kept))) digest) same;
              apart = λ q file other there known here same. same-files file other
                  (λ a b is_a is_b digest.
                  none_confused q a b (inr (of.met q a (known ∙ ap Some is_a)))
                  (inl (met-alone q b there (here ∙ ap Some is_b))) digest) same;
            }

        pub needs-few : IsTooMany (rules_for given) request limit → ⊥
        needs-few over =
            let skips : IsSkipping s k request limit =
            skips-there s k (plain_lawful given) (are-checks s (last_run_of given.past) request) request limit few
            honest-alone decided in
            let within = skips.within in omega (arith, over, within)

-- Over a tree

module _ (one_text : OneText) (one_past : OnePast) (stays : StaysTree) (takes : TakesOut) (before : List Run) (tree : Tree)
    (request : List (List ℕ)) (limits : LimitsView) (plain : Report)
    (after : IsAfter HasRecordsOf limits.file_bytes before tree) (is_plain : IsPlainOn tree request limits plain) (given : GivenView)
    (is_given : IsGiven tree request limits given) where
  past-tree : IsTree given.past.tree
  past-tree = subst IsTree (sym is_given.of_tree.of_tree) after.is_tree

  same-past : given.past ≡ is_plain.past
  same-past = one_past given.past is_plain.past is_given.of_tree.is_past is_plain.of_tree.is_past
      (is_given.of_tree.of_tree ∙ sym is_plain.of_tree.of_tree)

  plain-given : IsResult (alone given) plain
  plain-given =
      let other : GivenView = is_plain.alone.0 in
      let is_other = is_plain.alone.1 in
      let tree_same : other.past.tree ≡ given.past.sources =
      is_other.of_tree.of_tree ∙ ap (λ (x : PastView). x.sources) (sym same-past) in
      let past_same : other.past ≡ (alone given).past =
      one_past other.past (alone given).past is_other.of_tree.is_past
      (sources-past stays takes given past-tree is_given.of_tree.is_past) tree_same in
      let asked = is_other.requested ∙ sym is_given.requested in
      let bound = is_other.within ∙ sym is_given.within in
      let same : other ≡ alone given = λ i. record { past = past_same i; request = asked i; limits = bound i } in
      subst (λ (g : GivenView). IsResult g plain) same is_plain.alone.2

  runs-given : AreRuns HasRecordsOf given.limits.file_bytes before
  runs-given = subst (λ (l : LimitsView). AreRuns HasRecordsOf l.file_bytes before) (sym is_given.within) after.runs

  of-runs : All (IsOfRuns before given.limits.file_bytes) given.past.book
  of-runs =
      All-weaker (Contains given.past.book) (IsOfRuns before given.limits.file_bytes)
      (λ r at. left-of-runs one_text stays takes before given.limits.file_bytes runs-given r
      (after.linked given.past is_given.of_tree r at)) given.past.book (All-contains_itself given.past.book)

  apart-given : (report : Report) → NoneConfused before tree report → NoneConfused before given.past.tree report
  apart-given report apart =
      subst (λ (t : Tree). NoneConfused before t report) (sym is_given.of_tree.of_tree) apart

  pub agrees : (report : Report) → IsResult given report → NoneConfused before tree report → Agrees report plain
  agrees report is apart =
      agrees-given stays takes given past-tree is_given.of_tree.is_past plain plain-given is_plain.none_cyclic before of-runs
      report is (apart-given report apart)

  pub within : NoneConfused before tree plain → IsTooMany (rules_for given) given.request given.limits.targets → ⊥
  within apart over =
      needs-few stays takes given past-tree is_given.of_tree.is_past plain plain-given is_plain.none_cyclic before of-runs
      (apart-given plain apart) over

-- The same after runs that found the book of the one before

pub after-of-any : (file_bytes : ℕ) (before : List Run) (t : Tree) → IsAfter HasBookOf file_bytes before t →
    IsAfter HasRecordsOf file_bytes before t
after-of-any file_bytes before t after = record {
  runs = runs-of-any file_bytes before after.runs;
  is_tree = after.is_tree;
  linked = book-of-any before t after.linked;
}

-- Two pasts with the same names and the same book, whose files are the same where that names them: they have one list.
use Rattle.std.proofs.Common.{◌≡◌, ◌∙◌, ℕ, zero, suc, Bool, true, false, not, cond, ◌&&◌, ◌||◌, List, [], ◌∷◌, Option, Some, None}
use Rattle.std.proofs.Common.{ap, ap₂, flat_map, inl, inr, length, refl, subst, sym}
use Rattle.std.specs.Prelude.{codes, is_none, is_some}
use Rattle.std.specs.Option.{option_eq}
use Rattle.std.specs.Str.{bytes_eq}
use Rattle.redo_digest.specs.Digest.{state_of}
use Rattle.redo_names.specs.Paths.{IsAmong, is_among}
use Rattle.redo_names.proofs.ListLemmas.{IsAmong-left, IsAmong-right}
use Rattle.redo_tree.specs.Tree as tree_words
use Rattle.redo_tree.specs.Tree.{IsTree, Node, Tree, file_at, kind_of, node_at}
use Rattle.redo_tree.specs.declared.entries.Kind.{Kind}
use Rattle.redo_tree.specs.declared.entries.Kind.TheVariants as kinds
use Rattle.redo_which.specs.Candidates.{is_do_file}
use Rattle.redo_which.specs.Rule.{Found, is_rule}
use Rattle.redo_book.specs.Book.{Record, record_at, targets_of}
use Rattle.redo_book.specs.declared.book.BookEntry.{BookEntry}
use Rattle.redo_book.specs.declared.book.BookEntry.TheVariants.{Change, Create, Always}
use Rattle.redo_past.specs.Past.{IsPast, PastView, is_free}
use Rattle.redo_skip.specs.Checks.{Check, Checks, has_state}
use Rattle.redo_skip.specs.NewBook.{LastRun}
use Rattle.redo_skip.specs.Sources.{Sources}
use Rattle.redo_rules.specs.Build.{GivenView, checks_for, last_run_of, sources_for}
use Rattle.redo_why.specs.OutOfDate.{Lost, Maybe, Ring, Stale, Word, drop_by, first_drop, first_unsure, unsure_by, word_by}
use Rattle.redo_why.specs.Reasons.{Altered, Unrecorded}
use Rattle.redo_why.specs.Verdicts.{Verdicts, holds_if, mark, mark_asked, verdict, verdict_at, verdict_by, verdict_checked}
use Rattle.redo_explain.specs.Words.{reason_words}
use Rattle.redo_list.specs.Lists.{ListedView}
use Rattle.redo_list.specs.declared.listed.State.TheVariants as states
use Rattle.redo_reads.specs.Reads.{AreNamedAlike, ArePastsAlike, changed_in, named_by, named_in}
use Rattle.redo_reads.proofs.CheckLemmas.{check_named, checks_same, record_named}
use Rattle.redo_reads.proofs.PastLemmas.{file_left, sources_alike, target_named}
use Rattle.redo_reads.proofs.RunReadLemmas.{same_everywhere}
use Rattle.redo_reads.proofs.SearchLemmas.{file_alike, found_alike, searches_alike}
use Rattle.redo_ood.specs.Listing.{IsAskedAbout, IsList, Itself, RestsOn, Through, as_listed, first_waiting, listed_at}
use Rattle.redo_ood.specs.Listing.{listed_by, listed_for, listed_if, run_over, state_by, unrecorded, verdicts_for, waits_by}
use Rattle.redo_ood.specs.Listing.{why_words, word_of, word_of_entries, word_with}

-- nothing is there, by its kind
abbrev is_nothing : Kind → Bool
is_nothing kinds.Nothing = true
is_nothing kinds.Dir = false
is_nothing kinds.File = false

none_told : (n : Option Node) → is_none n ≡ is_nothing (kind_of n)
none_told None = refl
none_told (Some tree_words.Directory) = refl
none_told (Some (tree_words.File bytes)) = refl

module _ (given : GivenView) (now : PastView) (book_same : now.book ≡ given.past.book)
    (alike : AreNamedAlike given.past.sources now.sources)
    (named : (p : List ℕ) → IsAmong (flat_map named_by given.past.book) p →
    file_at now.tree p ≡ file_at given.past.tree p)
    (named_sources : (p : List ℕ) → IsAmong (flat_map named_by given.past.book) p →
    file_at now.sources p ≡ file_at given.past.sources p) where
  -- the run over the other past
  abbrev other : GivenView
  other = run_over now given.request given.limits

  abbrev one : Tree
  one = given.past.sources

  abbrev two : Tree
  two = now.sources

  abbrev s : Sources
  s = sources_for given

  abbrev t : Sources
  t = sources_for other

  abbrev last : LastRun
  last = last_run_of given.past

  abbrev after : LastRun
  after = last_run_of now

  abbrev k : Checks
  k = checks_for given

  abbrev v : Verdicts
  v = verdicts_for given

  -- both have the same sources at these paths
  abbrev Same : List (List ℕ) → Type 0
  Same paths = (p : List ℕ) → IsAmong paths p → file_at two p ≡ file_at one p

  ruled_alike : (p : List ℕ) → t.has_rule p ≡ s.has_rule p
  ruled_alike p = ap is_rule (found_alike one two alike p)

  none_alike : (p : List ℕ) → is_none (node_at two p) ≡ is_none (node_at one p)
  none_alike p = none_told (node_at two p) ∙ ap is_nothing (alike p) ∙ sym (none_told (node_at one p))

  free_alike : (p : List ℕ) → is_free two p ≡ is_free one p
  free_alike p =
      ap₂ (λ (x y : Bool). x && not y) (none_alike p) (ap is_rule (found_alike one two alike p))

  checks_alike : checks_for other ≡ k
  checks_alike =
      same_everywhere (checks_for other) k
      (checks_same s t last after given.request book_same ruled_alike
      (λ p m. named p (target_named given.past.book p m)))

  -- ---- verdicts

  mark_same : (u : Verdicts) (e : BookEntry) → Same (changed_in e) → mark t k u e ≡ mark s k u e
  mark_same u (Change state q) same =
      ap₂ (λ (b : Bool) (file : Option (List ℕ)).
      cond (not (is_some file || is_do_file q)) (mark_asked b state (k q) (u q))
      (holds_if (has_state state (cond (is_some file) (Some file) None))))
      (ruled_alike q) (same q (inl refl))
  mark_same u (Create q) same = ap holds_if (free_alike q)
  mark_same u Always same = refl

  -- of the first entry, and of the further ones
  same_first : (e : BookEntry) (es : List BookEntry) → Same (flat_map changed_in (e ∷ es)) → Same (changed_in e)
  same_first e es same p m = same p (IsAmong-left (changed_in e) (flat_map changed_in es) p m)

  same_rest : (e : BookEntry) (es : List BookEntry) → Same (flat_map changed_in (e ∷ es)) → Same (flat_map changed_in es)
  same_rest e es same p m = same p (IsAmong-right (changed_in e) (flat_map changed_in es) p m)

  verdict_same : (u : Verdicts) (es : List BookEntry) → Same (flat_map changed_in es) → verdict t k u es ≡ verdict s k u es
  verdict_same u [] same = refl
  verdict_same u (e ∷ es) same =
      ap₂ verdict_by (mark_same u e (same_first e es same)) (verdict_same u es (same_rest e es same))

  checked_same : (u : Verdicts) (p : List ℕ) (c : Option Check) → k p ≡ c →
      verdict_checked t k u c ≡ verdict_checked s k u c
  checked_same u p None is = refl
  checked_same u p (Some c) is =
      verdict_same u c.entries (λ q m. named_sources q (check_named s last given.request p c is q m))

  at_same : (n : ℕ) → verdict_at t k n ≡ verdict_at s k n
  at_same zero = same_everywhere (verdict_at t k zero) (verdict_at s k zero) (λ p. refl)
  at_same (suc n) =
      same_everywhere (verdict_at t k (suc n)) (verdict_at s k (suc n)) (λ p.
      ap (λ (u : Verdicts). verdict_checked t k u (k p)) (at_same n)
      ∙ checked_same (verdict_at s k n) p (k p) refl)

  verdicts_alike : verdicts_for other ≡ v
  verdicts_alike =
      ap₂ (λ (c : Checks) (n : ℕ). verdict_at t c n) checks_alike (ap length book_same)
      ∙ at_same (length given.past.book)

  -- ---- words

  unsure_same : (es : List BookEntry) → Same (flat_map changed_in es) → first_unsure t k v es ≡ first_unsure s k v es
  unsure_same [] same = refl
  unsure_same (e ∷ es) same =
      ap₂ (unsure_by e) (mark_same v e (same_first e es same)) (unsure_same es (same_rest e es same))

  drop_same : (es : List BookEntry) → Same (flat_map changed_in es) → first_drop t k v es ≡ first_drop s k v es
  drop_same [] same = refl
  drop_same (e ∷ es) same =
      ap₂ (drop_by e) (mark_same v e (same_first e es same)) (drop_same es (same_rest e es same))

  waiting_same : (es : List BookEntry) → Same (flat_map changed_in es) → first_waiting t k v es ≡ first_waiting s k v es
  waiting_same [] same = refl
  waiting_same (e ∷ es) same =
      ap₂ (waits_by e) (mark_same v e (same_first e es same)) (waiting_same es (same_rest e es same))

  entries_same : (es : List BookEntry) → Same (flat_map changed_in es) → word_of_entries t k v es ≡ word_of_entries s k v es
  entries_same es same =
      ap (λ (on : List ℕ). word_by on (first_drop t k v es) (verdict t k v es)) (unsure_same es same)
      ∙ ap₂ (word_by (first_unsure s k v es)) (drop_same es same) (verdict_same v es same)

  -- what becomes of a record by what is found at its target
  abbrev word_if : Record → Bool → Option (List ℕ) → Option Word → Bool → Option Word
  word_if r source file of_entries ruled =
      cond source None (cond ruled (cond (option_eq bytes_eq (state_of file) r.state) of_entries (Some (Stale Altered))) (Some Lost))

  module _ (r : Record) (its : (p : List ℕ) → IsAmong (named_by r) p → IsAmong (flat_map named_by given.past.book) p) where
    its_entries : Same (flat_map changed_in r.entries)
    its_entries p m = named_sources p (its p (inr m))

    word_same : word_of t after k v r ≡ word_of s last k v r
    word_same =
        ap₂ (λ (source : Bool) (file : Option (List ℕ)).
        word_if r source file (word_of_entries t k v r.entries) (t.has_rule r.target))
        (file_alike one two alike r.target) (named r.target (its r.target (inl refl)))
        ∙ ap₂ (λ (w : Option Word) (ruled : Bool).
        word_if r (s.is_source r.target) (last.file r.target) w ruled)
        (entries_same r.entries its_entries) (ruled_alike r.target)

    word_with_same : word_with t after given.request r ≡ word_with s last given.request r
    word_with_same = ap₂ (λ (c : Checks) (u : Verdicts). word_of t after c u r) checks_alike verdicts_alike ∙ word_same

    waited_same : first_waiting t (checks_for other) (verdicts_for other) r.entries ≡ first_waiting s k v r.entries
    waited_same =
        ap₂ (λ (c : Checks) (u : Verdicts). first_waiting t c u r.entries) checks_alike verdicts_alike
        ∙ waiting_same r.entries its_entries

    listed_for_same : listed_for other r ≡ listed_for given r
    listed_for_same =
        ap₂ (λ (waited : List ℕ) (w : Option Word). listed_if two r.target waited w) waited_same word_with_same
        ∙ if_same (first_waiting s k v r.entries) (word_with s last given.request r)
      where
        why_same : (waited : List ℕ) (w : Word) → why_words two waited w ≡ why_words one waited w
        why_same waited (Stale why) =
            ap (λ (f : List ℕ → Found). reason_words f why) (searches_alike one two alike)
        why_same waited (Maybe on) = refl
        why_same waited Ring = refl
        why_same waited Lost = refl

        if_same : (waited : List ℕ) (w : Option Word) → listed_if two r.target waited w ≡ listed_if one r.target waited w
        if_same waited None = refl
        if_same waited (Some w) = ap (as_listed r.target (state_by w)) (why_same waited w)

  -- ---- the list

  unrecorded_same : (path : List ℕ) → unrecorded other path ≡ unrecorded given path
  unrecorded_same path =
      ap₂ (λ (source : Bool) (f : List ℕ → Found).
      cond source [] (cond (is_rule (f path)) (as_listed path states.New (reason_words f Unrecorded))
      (cond (is_among given.request path) (as_listed path states.Unknown (codes "it is no file, and no rule makes it")) [])))
      (file_alike one two alike path) (searches_alike one two alike)

  at_path : (path : List ℕ) → listed_at other path ≡ listed_at given path
  at_path path =
      ap (λ (book : List Record). listed_by other path (record_at book path)) book_same
      ∙ by_record (record_at given.past.book path) refl
    where
      by_record : (o : Option Record) → record_at given.past.book path ≡ o → listed_by other path o ≡ listed_by given path o
      by_record None is = unrecorded_same path
      by_record (Some r) is = listed_for_same r (record_named given.past.book path r is)

  rests_there : {p : List ℕ} → RestsOn given p → RestsOn other p
  rests_there {p} (Itself m) = Itself m
  rests_there {p} (Through {path = path} {r = r} rests ruled at m) =
      Through (rests_there rests) (ruled_alike path ∙ ruled)
      (ap (λ (book : List Record). record_at book path) book_same ∙ at) m

  rests_back : {p : List ℕ} → RestsOn other p → RestsOn given p
  rests_back {p} (Itself m) = Itself m
  rests_back {p} (Through {path = path} {r = r} rests ruled at m) =
      Through (rests_back rests) (sym (ruled_alike path) ∙ ruled)
      (sym (ap (λ (book : List Record). record_at book path) book_same) ∙ at) m

  about_there : (request : List (List ℕ)) (path : List ℕ) → IsAskedAbout given request path → IsAskedAbout other request path
  about_there [] path m = subst (λ (book : List Record). IsAmong (targets_of book) path) (sym book_same) m
  about_there (q ∷ qs) path rests = rests_there rests

  about_back : (request : List (List ℕ)) (path : List ℕ) → IsAskedAbout other request path → IsAskedAbout given request path
  about_back [] path m = subst (λ (book : List Record). IsAmong (targets_of book) path) book_same m
  about_back (q ∷ qs) path rests = rests_back rests

  pub list_there : (listed : List ListedView) → IsList given listed → IsList other listed
  list_there listed is = record {
    asked = is.asked;
    about = record {
      each = λ path. (
        λ m. about_there given.request path ((is.about.each path).0 m),
        λ on. (is.about.each path).1 (about_back given.request path on),
      );
      ordered = is.about.ordered;
    };
    targets = is.targets
        ∙ ap (λ (f : List ℕ → List ListedView). flat_map f is.asked)
        (sym (same_everywhere (listed_at other) (listed_at given) at_path));
  }

-- of pasts whose trees have the same names
module _ (given : GivenView) (now : PastView) (is_one : IsTree given.past.tree) (is_two : IsTree now.tree)
    (is_past : IsPast given.past) (is_now : IsPast now) (alike : AreNamedAlike given.past.tree now.tree)
    (book_same : now.book ≡ given.past.book)
    (same : (p : List ℕ) → IsAmong (named_in given.past.book) p → file_at now.tree p ≡ file_at given.past.tree p) where
  are : ArePastsAlike given.past now
  are = record {
    is_tree = is_one;
    is_past = is_past;
    other_tree = is_two;
    other_past = is_now;
    named = alike;
    book = book_same;
    targets = λ p m. same p (inr (target_named given.past.book p m));
  }

  pub same_list : (listed : List ListedView) → IsList given listed → IsList (run_over now given.request given.limits) listed
  same_list =
      list_there given now book_same (sources_alike given.past now are) (λ p m. same p (inr m))
      (λ p m. file_left given.past now are p (same p (inr m)))

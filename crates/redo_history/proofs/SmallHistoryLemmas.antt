-- The small history is as the laws of histories ask. All of it is computed, but for SHA-256.
use Rattle.std.proofs.Common.{◌≡◌, ◌<◌, ◌^◌, ℕ, Bool, true, false, inl, inr, List, [], ◌∷◌, Option, Some, None, length}
use Rattle.std.proofs.Common.{refl, sym, ap, subst, ◌∙◌, bytes_eq, codes, if◌then◌else◌, lit<, lit≤, not, ◌&&◌, zero-le}
use Rattle.std.proofs.lemmas.Bool.{cases_Bool}
use Rattle.std.proofs.lemmas.List.Elements.{All-from_recursion}
use Rattle.std.proofs.lemmas.Map.Text.{is_eq-slice_cmp}
use Rattle.std.proofs.lemmas.Slice.Eq.{bytes_eq-Decides}
use Rattle.std.specs.Cmp.Lexicographic.{slice_cmp}
use Rattle.std.specs.List.{AllByRecursion, IsDistinct}
use Rattle.std.specs.List.Sorted.{IsStrictlySortedBy}
use Rattle.std.specs.Ordering.{is_eq, nat_cmp}
use Rattle.std.specs.Prelude.{◌≢◌, Ok, IsSome, find, option_map}
use Rattle.sha2.specs.Sha256.{sha256}
use Rattle.redo_digest.specs.Digest.{State, state_of}
use Rattle.redo_digest.proofs.DigestLemmas.{digest_of_content}
use Rattle.redo_path.specs.Names.{IsBelowRoot, IsPath, parent_of}
use Rattle.redo_path.specs.Resolve as paths
use Rattle.redo_path.proofs.CanonicalLemmas.{path-resolved}
use Rattle.redo_tree.specs.Tree.{Directory, File, IsTree, Node, Tree, bytes_of, file_at, node_at, refusal, top, with_node, without}
use Rattle.redo_tree.proofs.GrowLemmas.{IsTree-with}
use Rattle.redo_which.specs.Candidates.{book_path}
use Rattle.redo_script.specs.Bytes.{is_plain}
use Rattle.redo_script.specs.Reading.{next_byte, at_end, read_on, tokens_of}
use Rattle.redo_script.specs.Parsing.{parse_on, statements_of}
use Rattle.redo_script.specs.Texts.{script_in}
use Rattle.redo_record.specs.Answers.{file_in}
use Rattle.redo_record.specs.Paths.{IsAmong}
use Rattle.redo_record.specs.Progress.{Progress}
use Rattle.redo_record.specs.declared.deps.Dep.{Dep}
use Rattle.redo_record.specs.declared.deps.DepKind.TheVariants as kinds
use Rattle.redo_record.specs.declared.outcome.Outcome.TheVariants.{Cyclic}
use Rattle.redo_book.specs.Book.{IsBook, IsEntry, IsRecord, Record, book_lines, text_of}
use Rattle.redo_book.specs.declared.book.BookEntry.TheVariants.{Change}
use Rattle.redo_build.specs.Rules.{Ask, Rules}
use Rattle.redo_step.specs.Path.{resolved}
use Rattle.redo_step.specs.Statements.{meaning, run}
use Rattle.redo_step.specs.Setting.{setting_by}
use Rattle.redo_skip.specs.Checks.{Check, Checks, Finding, all_stand, built, finding, is_kept, one_lacks, progress_checked}
use Rattle.redo_skip.specs.Checks.{progress_found, record_by, record_checked, stands, waits_in_check, with_book}
use Rattle.redo_skip.specs.Sources.{Sources}
use Rattle.redo_past.specs.NewBook.{built_at}
use Rattle.redo_past.specs.Past.{IsPast, set_aside}
use Rattle.redo_past.proofs.PastLemmas.{all-sources}
use Rattle.redo_report.specs.declared.report.Report.{Report}
use Rattle.redo_report.specs.declared.report.Row.{Row}
use Rattle.redo_rules.specs.Build.{GivenView, checks_for, rules_for, sources_for}
use Rattle.redo_rules.specs.Results.{IsResult}
use Rattle.redo_history.specs.Histories.{NoneConfused, OccursSoFar}
use Rattle.redo_history.specs.SmallHistory.{IsSmallHistory, file_of_head, first_book, first_tree, limits, line, next_tree}
use Rattle.redo_history.specs.SmallHistory.{record_of_head, record_of_text, request, run_to, script_of_all}
use Rattle.redo_history.specs.SmallHistory.{script_of_head, script_of_others, script_of_text}
use Rattle.redo_history.proofs.MadeLemmas.{IsListed, all_files, files, is-result, made_result, records, rows}
use Rattle.redo_history.proofs.MetLemmas.{found-put}

-- Trees

root : IsPath []
root = record { each = tt; short = zero-le }

is-path : (p : List ℕ) → paths.resolved [] p ≡ Ok p → IsPath p
is-path p e = path-resolved [] p p root e

top-tree : IsTree top
unfolding IsStrictlySortedBy
top-tree = record { sorted = (tt, tt); paths = (root, tt); root = refl; parents = parents }
  where
    parents : (path dir : List ℕ) → IsSome (node_at top path) → parent_of path ≡ Some dir → node_at top dir ≡ Some Directory
    parents [] dir some up = absurd cc
    parents (byte ∷ bytes) dir some up = absurd cc

grown : (tree : Tree) (path : List ℕ) (node : Node) → IsTree tree → paths.resolved [] path ≡ Ok path →
    refusal tree path node ≡ None → IsTree (with_node tree path node)
grown tree path node is e fits = IsTree-with tree path node is (is-path path e) fits

first-is_tree : IsTree first_tree
first-is_tree =
    grown _ (codes "head.do") (File script_of_head)
    (grown _ (codes "default.do") (File script_of_others)
    (grown _ (codes "all.do") (File script_of_all) top-tree refl refl) refl refl) refl refl

-- the sources of the next tree
abbrev next_sources : Tree
next_sources = ([], Directory)
    ∷ (codes "all.do", File script_of_all)
    ∷ (codes "default.do", File script_of_others)
    ∷ (codes "head.do", File script_of_head)
    ∷ (codes "text.do", File script_of_text)
    ∷ []

sources-is_tree : IsTree next_sources
sources-is_tree = grown first_tree (codes "text.do") (File script_of_text) first-is_tree refl refl

next-is_tree : IsTree next_tree
next-is_tree =
    grown _ (codes ".redo-book") (File (text_of (book_lines first_book)))
    (grown next_sources (codes "head") (File file_of_head) sources-is_tree refl refl) refl refl

-- Records

-- a digest is itself
itself : (bytes : List ℕ) → bytes_eq (sha256 bytes) (sha256 bytes) ≡ true
itself bytes = (bytes_eq-Decides (sha256 bytes) (sha256 bytes)).1 refl

below : (p : List ℕ) → p ≢ [] → paths.resolved [] p ≡ Ok p → IsBelowRoot p
below p some e = (some, is-path p e)

head-is : IsRecord record_of_head
unfolding IsDistinct
head-is = record {
  target = below (codes "head") (λ h. cc) refl;
  state = digest_of_content file_of_head;
  entries = ((digest_of_content script_of_head, below (codes "head.do") (λ h. cc) refl), tt);
  once = (tt, tt);
}

-- What builds are given

abbrev first_given : GivenView
first_given = record {
  past = record { tree = first_tree; sources = first_tree; book = [] };
  request = request;
  limits = limits;
}

abbrev next_given : GivenView
next_given = record {
  past = record { tree = next_tree; sources = next_sources; book = first_book };
  request = request;
  limits = limits;
}

abbrev plain_given : GivenView
plain_given = record {
  past = record { tree = next_sources; sources = next_sources; book = [] };
  request = request;
  limits = limits;
}

abbrev needed : List (List ℕ)
needed = codes "all" ∷ codes "head" ∷ codes "text" ∷ []

first-is_past : IsPast first_given.past
first-is_past = all-sources first_tree first_tree [] first-is_tree refl refl refl

plain-is_past : IsPast plain_given.past
plain-is_past = all-sources next_sources next_sources [] sources-is_tree refl refl refl

requested : (P : List ℕ → Type 0) → P (codes "all") → (p : List ℕ) → IsAmong request p → P p
requested P here p m = elim m [ inl all ↦ subst P all here | inr none ↦ absurd none ]

-- The rules of the next build, with nothing of digests in them: `head` is kept

abbrev s : Sources
s = sources_for next_given

abbrev kept : Progress
kept = built (Some file_of_head) []

abbrev head_deps : List Dep
head_deps = record { kind = kinds.Change; path = codes "head.do" } ∷ []

abbrev head_check : Check
head_check = record { file = Some file_of_head; entries = record_of_head.entries }

abbrev text_check : Checks
text_check p =
    if bytes_eq (codes "text") p then Some (record { file = None; entries = record_of_text.entries }) else None

abbrev other_rules : Rules
other_rules = with_book s text_check

abbrev is_head : List ℕ → Bool
is_head p = bytes_eq (codes "head") p

abbrev next_rules : Rules
next_rules = record {
  is_source = s.is_source;
  has_rule = s.has_rule;
  progress = λ p a. if is_head p then kept else other_rules.progress p a;
  begins = λ p a. if is_head p then false else other_rules.begins p a;
  recorded = λ p a. if is_head p then head_deps else other_rules.recorded p a;
}

same-path : (p q : List ℕ) → bytes_eq p q ≡ true → p ≡ q
same-path p q e = (bytes_eq-Decides p q).0 e

check-head : checks_for next_given (codes "head") ≡ Some head_check
check-head = let same = itself file_of_head in rw same refl

found-head : (a : Ask) → finding s a head_check.entries ≡ record { standing = stands; asked = []; seen = head_deps }
found-head a = let same = itself script_of_head in rw same refl

check-other : (p : List ℕ) → is_head p ≡ false → checks_for next_given p ≡ text_check p
check-other p other =
    let P : List ℕ → Type 0 = λ q. checks_for next_given q ≡ text_check q in
    elim (cases_Bool (bytes_eq (codes "all") p)) [
      | inl all ↦ let here : P (codes "all") = refl in subst P (same-path (codes "all") p all) here
      | inr not_all ↦ elim (cases_Bool (bytes_eq (codes "text") p)) [
        | inl text ↦ let here : P (codes "text") = refl in subst P (same-path (codes "text") p text) here
        | inr not_text ↦ rw (not_all, other, not_text) refl
      ]
    ]

-- of each path the same holds as with the checks of the book
module _ {X : Type 0} (of : List ℕ → Option Check → X) (at_head : X)
    (head : of (codes "head") (Some head_check) ≡ at_head) where
  by-path : (p : List ℕ) → (if is_head p then at_head else of p (text_check p)) ≡ of p (checks_for next_given p)
  by-path p = elim (cases_Bool (is_head p)) [
    | inl here ↦
        let P : List ℕ → Type 0 =
        λ q. (if is_head q then at_head else of q (text_check q)) ≡ of q (checks_for next_given q) in
        let there : P (codes "head") = sym (ap (of (codes "head")) check-head ∙ head) in
        subst P (same-path (codes "head") p here) there
    | inr other ↦
        ap (λ (b : Bool). if b then at_head else of p (text_check p)) other ∙ sym (ap (of p) (check-other p other))
  ]

rules-same : next_rules ≡ rules_for next_given
rules-same = λ i. record {
  is_source = s.is_source;
  has_rule = s.has_rule;
  progress = λ p a. by-path (λ q o. progress_checked s q o a) kept
      (ap (λ (f : Finding). progress_found (Some file_of_head) f (s.progress (codes "head") a)) (found-head a)) p i;
  begins = λ p a. by-path (λ q o. not (is_kept s o a) && not (waits_in_check s o a)) false
      (ap (λ (f : Finding). not (all_stand f.standing) && not (one_lacks f.standing)) (found-head a)) p i;
  recorded = λ p a. by-path (λ q o. record_checked s q o a) head_deps
      (ap (λ (f : Finding). record_by f.seen (s.progress (codes "head") a).deps f.standing) (found-head a)) p i;
}

-- What is needed, and the books

abbrev first_rules : Rules
first_rules = rules_for first_given

abbrev plain_rules : Rules
plain_rules = rules_for plain_given

first-listed : IsListed first_rules 3 needed request
unfolding script_in tokens_of read_on next_byte at_end statements_of parse_on is_plain meaning run resolved setting_by
first-listed = record {
  few = lit≤ tt;
  needed = refl;
  made = requested (λ p. first_rules.is_source p ≡ false) refl;
  ordered = (refl, (refl, tt));
  files_ordered = tt;
  begun_ordered = (refl, (refl, tt));
  rows_fit = lit< tt;
  files_fit = lit< tt;
  begun_fit = lit< tt;
}

next-listed : IsListed next_rules 3 needed request
unfolding script_in tokens_of read_on next_byte at_end statements_of parse_on is_plain meaning run resolved setting_by
next-listed = record {
  few = lit≤ tt;
  needed = refl;
  made = requested (λ p. next_rules.is_source p ≡ false) refl;
  ordered = (refl, (refl, tt));
  files_ordered = (refl, tt);
  begun_ordered = (refl, tt);
  rows_fit = lit< tt;
  files_fit = lit< tt;
  begun_fit = lit< tt;
}

plain-listed : IsListed plain_rules 3 needed request
unfolding script_in tokens_of read_on next_byte at_end statements_of parse_on is_plain meaning run resolved setting_by
plain-listed = record {
  few = lit≤ tt;
  needed = refl;
  made = requested (λ p. plain_rules.is_source p ≡ false) refl;
  ordered = (refl, (refl, tt));
  files_ordered = (refl, tt);
  begun_ordered = (refl, (refl, tt));
  rows_fit = lit< tt;
  files_fit = lit< tt;
  begun_fit = lit< tt;
}

abbrev file_of_text : List ℕ
file_of_text = line (codes "text")

-- the record of `all` beside this state of `text`
abbrev all_beside : State → Record
all_beside text = record {
  target = codes "all";
  state = None;
  entries = Change (state_of (Some script_of_all)) (codes "all.do")
      ∷ Change (state_of (Some file_of_head)) (codes "head")
      ∷ Change text (codes "text") ∷ [];
}

abbrev next_of_text : Record
next_of_text = record {
  target = codes "text";
  state = state_of (Some file_of_text);
  entries = Change (state_of (Some script_of_text)) (codes "text.do") ∷ [];
}

abbrev next_book : List Record
next_book = all_beside (state_of (Some file_of_text)) ∷ record_of_head ∷ next_of_text ∷ []

all-is : (text : State) → IsEntry (Change text (codes "text")) → IsRecord (all_beside text)
unfolding IsDistinct
all-is text is = record {
  target = below (codes "all") (λ h. cc) refl;
  state = tt;
  entries = (
    (digest_of_content script_of_all, below (codes "all.do") (λ h. cc) refl),
    ((digest_of_content file_of_head, below (codes "head") (λ h. cc) refl), (is, tt)),
  );
  once = ((refl, (refl, tt)), ((refl, tt), (tt, tt)));
}

first-each : AllByRecursion IsRecord first_book
unfolding IsDistinct
first-each = (
  all-is None (tt, below (codes "text") (λ h. cc) refl),
  (
    head-is,
    (
      record {
        target = below (codes "text") (λ h. cc) refl;
        state = tt;
        entries = (
          below (codes "text.do") (λ h. cc) refl,
          ((digest_of_content script_of_others, below (codes "default.do") (λ h. cc) refl), tt),
        );
        once = ((refl, tt), (tt, tt));
      },
      tt,
    ),
  ),
)

next-each : AllByRecursion IsRecord next_book
unfolding IsDistinct
next-each = (
  all-is (state_of (Some file_of_text)) (digest_of_content file_of_text, below (codes "text") (λ h. cc) refl),
  (
    head-is,
    (
      record {
        target = below (codes "text") (λ h. cc) refl;
        state = digest_of_content file_of_text;
        entries = ((digest_of_content script_of_text, below (codes "text.do") (λ h. cc) refl), tt);
        once = (tt, tt);
      },
      tt,
    ),
  ),
)

first-is_book : IsBook first_book
unfolding IsStrictlySortedBy
first-is_book = record { records = first-each; sorted = ((refl, (refl, tt)), ((refl, tt), (tt, tt))) }

-- the next tree, taken apart
aside : set_aside next_tree first_book ≡ book_path ∷ codes "head" ∷ []
aside = let same = itself file_of_head in rw same refl

next-is_past : IsPast next_given.past
next-is_past = record {
  book = record { ordered = first-is_book; whole = refl };
  sources =
      let cut : next_sources ≡ without next_tree (book_path ∷ codes "head" ∷ []) = refl in
      cut ∙ ap (without next_tree) (sym aside);
}

-- Contents: no path has two

abbrev contents : List (List ℕ × List ℕ)
contents = (codes ".redo-book", text_of (book_lines first_book))
    ∷ (codes "all.do", script_of_all)
    ∷ (codes "default.do", script_of_others)
    ∷ (codes "head", file_of_head)
    ∷ (codes "head.do", script_of_head)
    ∷ (codes "text", file_of_text)
    ∷ (codes "text.do", script_of_text)
    ∷ []

abbrev content_at : List ℕ → Option (List ℕ)
content_at p = option_map (λ c. c.1) (find (λ c. bytes_eq c.0 p) contents)

abbrev IsNodeThere : List ℕ × Node → Type 0
IsNodeThere e = (bytes : List ℕ) → bytes_of e.1 ≡ Some bytes → content_at e.0 ≡ Some bytes

abbrev IsRowThere : Row → Type 0
IsRowThere row = (bytes : List ℕ) → file_in row.outcome ≡ Some bytes → content_at row.path ≡ Some bytes

file-there : (tree : Tree) → AllByRecursion IsNodeThere tree → (p bytes : List ℕ) → file_at tree p ≡ Some bytes →
    content_at p ≡ Some bytes
file-there [] all p bytes e = absurd cc
file-there (x ∷ xs) all p bytes e = elim (cases_Bool (is_eq (slice_cmp nat_cmp p x.0))) [
  | inl here ↦
      let same : p ≡ x.0 = same-path p x.0 (sym (is_eq-slice_cmp p x.0) ∙ here) in
      subst (λ (q : List ℕ). content_at q ≡ Some bytes) (sym same) (all.0 bytes (rw here at e))
  | inr other ↦ file-there xs all.1 p bytes (rw other at e)
]

row-there : (list : List Row) → AllByRecursion IsRowThere list → (p bytes : List ℕ) → built_at list p ≡ Some bytes →
    content_at p ≡ Some bytes
row-there [] all p bytes e = absurd cc
row-there (row ∷ list) all p bytes e = elim (cases_Bool (bytes_eq row.path p)) [
  | inl here ↦
      subst (λ (q : List ℕ). content_at q ≡ Some bytes) (same-path row.path p here) (all.0 bytes (rw here at e))
  | inr other ↦ row-there list all.1 p bytes (rw other at e)
]

-- All together

first-fit : length (all_files first_given first_rules needed) < 2 ^ 63
unfolding script_in tokens_of read_on next_byte at_end statements_of parse_on is_plain meaning run resolved setting_by
first-fit = lit< tt

next-fit : length (all_files next_given next_rules needed) < 2 ^ 63
unfolding script_in tokens_of read_on next_byte at_end statements_of parse_on is_plain meaning run resolved setting_by
next-fit = lit< tt

plain-fit : length (all_files plain_given plain_rules needed) < 2 ^ 63
unfolding script_in tokens_of read_on next_byte at_end statements_of parse_on is_plain meaning run resolved setting_by
plain-fit = lit< tt

abbrev first : Report
first = made_result first_given first_rules needed first-listed first-fit

abbrev next : Report
next = made_result next_given next_rules needed next-listed next-fit

abbrev plain : Report
plain = made_result plain_given plain_rules needed plain-listed plain-fit

first-result : IsResult first_given first
unfolding script_in tokens_of read_on next_byte at_end statements_of parse_on is_plain meaning run resolved setting_by
first-result =
    is-result first_given first_rules needed first-listed first-fit first-is_tree first-is_past refl first-each

next-result : IsResult next_given next
unfolding script_in tokens_of read_on next_byte at_end statements_of parse_on is_plain meaning run resolved setting_by
next-result =
    is-result next_given next_rules needed next-listed next-fit next-is_tree next-is_past rules-same next-each

plain-result : IsResult plain_given plain
unfolding script_in tokens_of read_on next_byte at_end statements_of parse_on is_plain meaning run resolved setting_by
plain-result =
    is-result plain_given plain_rules needed plain-listed plain-fit sources-is_tree plain-is_past refl next-each

occurs : (p bytes : List ℕ) → OccursSoFar (run_to first ∷ []) next_tree next p bytes → content_at p ≡ Some bytes
unfolding script_in tokens_of read_on next_byte at_end statements_of parse_on is_plain meaning run resolved setting_by
occurs p bytes m = elim m [
  | inl now ↦ elim now [
    | inl file ↦ file-there next_tree
        (λ b e. absurd cc, (λ b e. e, (λ b e. e, (λ b e. e, (λ b e. e, (λ b e. e, (λ b e. e, tt))))))) p bytes file
    | inr built ↦ row-there (rows next_rules 3 needed) (λ b e. absurd cc, (λ b e. e, (λ b e. e, tt))) p bytes built
  ]
  | inr before ↦ elim before [
    | inl once ↦ elim once [
      | inl file ↦ file-there first_tree (λ b e. absurd cc, (λ b e. e, (λ b e. e, (λ b e. e, tt)))) p bytes file
      | inr built ↦ row-there (rows first_rules 3 needed) (λ b e. absurd cc, (λ b e. e, (λ b e. absurd cc, tt))) p bytes built
    ]
    | inr none ↦ absurd none
  ]
]

none-confused : NoneConfused (run_to first ∷ []) next_tree next
none-confused p one other m n same =
    let both : Some one ≡ Some other = sym (occurs p one m) ∙ occurs p other n in cc

is-small : IsSmallHistory first next plain
unfolding script_in tokens_of read_on next_byte at_end statements_of parse_on is_plain meaning run resolved setting_by
is-small = record {
  after = record {
    runs = (
      record {
        is_tree = first-is_tree;
        linked = refl;
        limit = refl;
        result = (first_given, record { of_tree = record { is_past = first-is_past; of_tree = refl }; requested = refl; within = refl }, first-result);
      },
      tt,
    );
    is_tree = next-is_tree;
    linked =
        sym (found-put (files first_rules 3 needed) (text_of (book_lines (records first_given first_rules needed))));
  };
  is_plain = record {
    past = next_given.past;
    of_tree = record { is_past = next-is_past; of_tree = refl };
    alone = (plain_given, record { of_tree = record { is_past = plain-is_past; of_tree = refl }; requested = refl; within = refl }, plain-result);
    none_cyclic = All-from_recursion (λ row. row.outcome ≢ Cyclic) (rows plain_rules 3 needed)
        (λ e. cc, (λ e. cc, (λ e. cc, tt)));
  };
  result = (next_given, record { of_tree = record { is_past = next-is_past; of_tree = refl }; requested = refl; within = refl }, next-result);
  none_confused = none-confused;
  first_begun = refl;
  next_begun = refl;
  plain_begun = refl;
}

pub small-history : (first : Report) × (next : Report) × (plain : Report) × IsSmallHistory first next plain
small-history = (first, next, plain, is-small)

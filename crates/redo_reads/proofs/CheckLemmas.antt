-- A check looks at the files that its entries name, and at no others.
use Rattle.std.proofs.Common.{◌≡◌, ℕ, Bool, true, false, not, ◌&&◌, ◌||◌, cond, inl, inr, Option, Some, None}
use Rattle.std.proofs.Common.{List, [], ◌∷◌, ◌++◌, flat_map, refl, sym, ap, ap₂, subst, ◌∙◌}
use Rattle.std.specs.Prelude.{is_none, option_and_then}
use Rattle.std.specs.Option.{option_eq}
use Rattle.std.specs.Str.{bytes_eq}
use Rattle.std.proofs.lemmas.Bool.{cases_Bool}
use Rattle.redo_digest.specs.Digest.{state_of}
use Rattle.redo_names.proofs.ListLemmas.{IsAmong-left, IsAmong-right}
use Rattle.redo_tree.specs.Tree as tree_words
use Rattle.redo_tree.specs.Tree.{Node, Tree, file_at, kind_of, node_at}
use Rattle.redo_tree.specs.declared.entries.Kind.{Kind}
use Rattle.redo_tree.specs.declared.entries.Kind.TheVariants as kinds
use Rattle.redo_which.specs.Candidates.{is_do_file}
use Rattle.redo_which.specs.Rule.{is_rule}
use Rattle.redo_record.specs.Answers.{Ask}
use Rattle.redo_record.specs.Paths.{IsAmong, is_among}
use Rattle.redo_record.specs.Progress.{Progress}
use Rattle.redo_book.specs.Book.{Record, record_at, targets_of}
use Rattle.redo_book.specs.declared.book.BookEntry.{BookEntry}
use Rattle.redo_book.specs.declared.book.BookEntry.TheVariants.{Change, Create, Always}
use Rattle.redo_past.specs.Past.{is_free}
use Rattle.redo_rules.specs.Build.{sources_by}
use Rattle.redo_skip.specs.Checks.{Check, Finding, Standing, all_stand, asks, finding, found_by, has_state, is_kept}
use Rattle.redo_skip.specs.Checks.{one_lacks, progress_by, progress_checked, progress_found}
use Rattle.redo_skip.specs.Checks.{record_by, record_checked}
use Rattle.redo_skip.specs.Checks.{falls, lacks, shown, standing, stands, stands_if, told, waits_in_check}
use Rattle.redo_skip.specs.NewBook.{LastRun, check_by, checks_of, is_valid}
use Rattle.redo_skip.specs.Sources.{Sources}
use Rattle.redo_reads.specs.Reads.{AreNamedAlike, changed_in, named_by}
use Rattle.redo_reads.proofs.PastLemmas.{record_target}
use Rattle.redo_reads.proofs.SearchLemmas.{file_alike, found_alike}

-- whether a script is begun, by its check
abbrev pub begins_by : Sources → Option Check → Ask → Bool
begins_by s check a = not (is_kept s check a) && not (waits_in_check s check a)

-- and by how its entries stand
abbrev begins_if : Standing → Bool
begins_if v = not (all_stand v) && not (one_lacks v)

-- once it is begun, the record is the script's own
pub begun_record : (s : Sources) (p : List ℕ) (check : Option Check) (a : Ask) → begins_by s check a ≡ true →
    record_checked s p check a ≡ (s.progress p a).deps
begun_record s p None a begun = refl
begun_record s p (Some c) a begun = by_standing (finding s a c.entries).standing begun
  where
    by_standing : (v : Standing) → begins_if v ≡ true →
        record_by (finding s a c.entries).seen (s.progress p a).deps v ≡ (s.progress p a).deps
    by_standing stands e = absurd cc
    by_standing lacks e = absurd cc
    by_standing falls e = refl

-- nothing is there, by its kind
abbrev is_nothing : Kind → Bool
is_nothing kinds.Nothing = true
is_nothing kinds.Dir = false
is_nothing kinds.File = false

none_told : (n : Option Node) → is_none n ≡ is_nothing (kind_of n)
none_told None = refl
none_told (Some tree_words.Directory) = refl
none_told (Some (tree_words.File bytes)) = refl

module _ (one two : Tree) (alike : AreNamedAlike one two) (bytes : ℕ) where
  abbrev s : Sources
  s = sources_by one bytes

  abbrev t : Sources
  t = sources_by two bytes

  -- both have the same files at these paths
  abbrev pub Same : List (List ℕ) → Type 0
  Same paths = (p : List ℕ) → IsAmong paths p → file_at two p ≡ file_at one p

  none_alike : (p : List ℕ) → is_none (node_at two p) ≡ is_none (node_at one p)
  none_alike p = none_told (node_at two p) ∙ ap is_nothing (alike p) ∙ sym (none_told (node_at one p))

  free_alike : (p : List ℕ) → is_free two p ≡ is_free one p
  free_alike p =
      ap₂ (λ (x y : Bool). x && not y) (none_alike p) (ap is_rule (found_alike one two alike p))

  standing_same : (e : BookEntry) (a : Ask) → Same (changed_in e) → standing t a e ≡ standing s a e
  standing_same (Change state q) a same =
      ap₂ (λ (b : Bool) (file : Option (List ℕ)).
      cond (not (b || is_do_file q) && is_none (a q)) lacks
      (stands_if (has_state state (cond (not (b || is_do_file q)) (told (a q)) (cond b (Some file) None)))))
      (file_alike one two alike q) (same q (inl refl))
  standing_same (Create q) a same = ap stands_if (free_alike q)
  standing_same Always a same = refl

  asks_same : (e : BookEntry) → asks t e ≡ asks s e
  asks_same (Change state q) =
      ap (λ (b : Bool). cond (not (b || is_do_file q)) (q ∷ []) []) (file_alike one two alike q)
  asks_same (Create q) = refl
  asks_same Always = refl

  found_by_same : (e : BookEntry) (v : Standing) (rest : Finding) → found_by t e v rest ≡ found_by s e v rest
  found_by_same e stands rest =
      ap (λ (asked : List (List ℕ)).
      record { standing = rest.standing; asked = asked ++ rest.asked; seen = shown e ∷ rest.seen }) (asks_same e)
  found_by_same e lacks rest =
      ap (λ (asked : List (List ℕ)). record { standing = lacks; asked = asked; seen = shown e ∷ [] }) (asks_same e)
  found_by_same e falls rest =
      ap (λ (asked : List (List ℕ)). record { standing = falls; asked = asked; seen = shown e ∷ [] }) (asks_same e)

  finding_same : (es : List BookEntry) (a : Ask) → Same (flat_map changed_in es) → finding t a es ≡ finding s a es
  finding_same [] a same = refl
  finding_same (e ∷ es) a same =
      ap₂ (found_by t e)
      (standing_same e a (λ p m. same p (IsAmong-left (changed_in e) (flat_map changed_in es) p m)))
      (finding_same es a (λ p m. same p (IsAmong-right (changed_in e) (flat_map changed_in es) p m)))
      ∙ found_by_same e (standing s a e) (finding s a es)

  -- what the entries of a check name is the same
  abbrev pub SameIn : Option Check → Type 0
  SameIn None = Unit {0}
  SameIn (Some c) = Same (flat_map changed_in c.entries)

  pub begins_same : (check : Option Check) (a : Ask) → SameIn check → begins_by t check a ≡ begins_by s check a
  begins_same None a same = refl
  begins_same (Some c) a same = ap (λ (f : Finding). begins_if f.standing) (finding_same c.entries a same)

  -- a target comes as far, if its script does once it is begun
  pub progress_same : (p : List ℕ) (check : Option Check) (a : Ask) → SameIn check →
      (begins_by s check a ≡ true → t.progress p a ≡ s.progress p a) →
      progress_checked t p check a ≡ progress_checked s p check a
  progress_same p None a same own = own refl
  progress_same p (Some c) a same own =
      ap (λ (f : Finding). progress_found c.file f (t.progress p a)) (finding_same c.entries a same)
      ∙ by_standing (finding s a c.entries).standing own
    where
      by_standing : (v : Standing) → (begins_if v ≡ true → t.progress p a ≡ s.progress p a) →
          progress_by c.file (finding s a c.entries).asked (t.progress p a) v ≡
          progress_by c.file (finding s a c.entries).asked (s.progress p a) v
      by_standing stands came = refl
      by_standing lacks came = refl
      by_standing falls came =
          ap (λ (x : Progress). progress_by c.file (finding s a c.entries).asked x falls) (came refl)

  pub record_same : (p : List ℕ) (check : Option Check) (a : Ask) → SameIn check →
      (begins_by s check a ≡ true → t.progress p a ≡ s.progress p a) →
      record_checked t p check a ≡ record_checked s p check a
  record_same p None a same own = ap (λ (x : Progress). x.deps) (own refl)
  record_same p (Some c) a same own =
      ap (λ (f : Finding). record_by f.seen (t.progress p a).deps f.standing) (finding_same c.entries a same)
      ∙ by_standing (finding s a c.entries).standing own
    where
      by_standing : (v : Standing) → (begins_if v ≡ true → t.progress p a ≡ s.progress p a) →
          record_by (finding s a c.entries).seen (t.progress p a).deps v ≡
          record_by (finding s a c.entries).seen (s.progress p a).deps v
      by_standing stands came = refl
      by_standing lacks came = refl
      by_standing falls came = ap (λ (x : Progress). x.deps) (came refl)

-- The records of a book

-- what the record of a target names, the book names
pub record_named : (book : List Record) (p : List ℕ) (r : Record) → record_at book p ≡ Some r → (x : List ℕ) →
    IsAmong (named_by r) x → IsAmong (flat_map named_by book) x
record_named [] p r e x m = absurd cc
record_named (first ∷ rest) p r e x m = elim (cases_Bool (bytes_eq first.target p)) [
  | inl here ↦
      let same : first ≡ r = (let now = rw here at e in cc) in
      IsAmong-left (named_by first) (flat_map named_by rest) x
      (subst (λ (y : Record). IsAmong (named_by y) x) (sym same) m)
  | inr other ↦
      IsAmong-right (named_by first) (flat_map named_by rest) x (record_named rest p r (rw other at e) x m)
]

-- the check that a record gives, if it gives one
abbrev check_of : List (List ℕ) → List ℕ → Sources → LastRun → Record → Option Check
check_of request p s last r = cond (not (is_among request p) && is_valid s last r) (Some (check_by last r)) None

-- a check has the entries of the target's record
pub check_record : (s : Sources) (last : LastRun) (request : List (List ℕ)) (p : List ℕ) (c : Check) →
    checks_of s last request p ≡ Some c → (r : Record) × (record_at last.book p ≡ Some r) × (r.entries ≡ c.entries)
check_record s last request p c e = by_record (record_at last.book p) refl e
  where
    by_check : (r : Record) (b : Bool) → record_at last.book p ≡ Some r →
        cond b (Some (check_by last r)) None ≡ Some c →
        (r : Record) × (record_at last.book p ≡ Some r) × (r.entries ≡ c.entries)
    by_check r true there is =
        let same : check_by last r ≡ c = cc in (r, there, ap (λ (y : Check). y.entries) same)
    by_check r false there is = absurd cc

    by_record : (o : Option Record) → record_at last.book p ≡ o →
        option_and_then (check_of request p s last) o ≡ Some c →
        (r : Record) × (record_at last.book p ≡ Some r) × (r.entries ≡ c.entries)
    by_record None there is = absurd cc
    by_record (Some r) there is = by_check r (not (is_among request p) && is_valid s last r) there is

-- what the entries of a check name, the book names
pub check_named : (s : Sources) (last : LastRun) (request : List (List ℕ)) (p : List ℕ) (c : Check) →
    checks_of s last request p ≡ Some c → (x : List ℕ) → IsAmong (flat_map changed_in c.entries) x →
    IsAmong (flat_map named_by last.book) x
check_named s last request p c e x m =
    let of : (r : Record) × (record_at last.book p ≡ Some r) × (r.entries ≡ c.entries) =
    check_record s last request p c e in
    record_named last.book p of.0 of.1 x
    (inr (subst (λ (es : List BookEntry). IsAmong (flat_map changed_in es) x) (sym of.2) m))

-- the same targets are in check, with the same files and entries
pub checks_same : (s t : Sources) (last now : LastRun) (request : List (List ℕ)) → now.book ≡ last.book →
    ((p : List ℕ) → t.has_rule p ≡ s.has_rule p) →
    ((p : List ℕ) → IsAmong (targets_of last.book) p → now.file p ≡ last.file p) → (p : List ℕ) →
    checks_of t now request p ≡ checks_of s last request p
checks_same s t last now request book ruled files p =
    ap (λ (records : List Record). option_and_then (check_of request p t now) (record_at records p)) book
    ∙ by_record (record_at last.book p) refl
  where
    by_record : (o : Option Record) → record_at last.book p ≡ o →
        option_and_then (check_of request p t now) o ≡ option_and_then (check_of request p s last) o
    by_record None e = refl
    by_record (Some r) e =
        ap₂ (λ (b : Bool) (file : Option (List ℕ)).
        cond (not (is_among request p) && (b && option_eq bytes_eq (state_of file) r.state))
        (Some (record { file = file; entries = r.entries })) None)
        (ruled r.target) (files r.target (record_target last.book p r e))

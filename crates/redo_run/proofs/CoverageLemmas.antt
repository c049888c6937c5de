-- Files that were read, one more at a time.
use Rattle.std.proofs.Common.{◌≡◌, ◌∙◌, ◌+◌, ◌<◌, ℕ, Bool, true, false, List, [], ◌∷◌, ◌++◌, inl, inr, sym, ap, subst, length, map, Result, Ok, Err}
use Rattle.std.proofs.Common.{slice_index_or, take, ◌⊎◌, ◌||◌, ◌&&◌, bytes_eq, append-nil, refl}
use Rattle.std.specs.Prelude.{IfOk, flat_map}
use Rattle.std.specs.List.{AllByRecursion}
use Rattle.std.proofs.lemmas.Bool.{and_parts, or_cases}
use Rattle.std.proofs.lemmas.List.{take_more}
use Rattle.std.proofs.lemmas.List.Concat.{flat_map-append}
use Rattle.std.proofs.lemmas.Slice.Eq.{bytes_eq-Decides}
use Rattle.redo_book.specs.Book.{Record, targets_of}
use Rattle.redo_names.proofs.ListLemmas.{IsAmong-append}
use Rattle.redo_past.specs.Past.{IsBookOf}
use Rattle.redo_path.proofs.PartLemmas.{AllByRecursion-append}
use Rattle.redo_record.specs.Entries.{is_entered, same_kind}
use Rattle.redo_record.specs.declared.deps.Dep.{Dep}
use Rattle.redo_record.specs.declared.deps.DepKind.{DepKind}
use Rattle.redo_record.specs.declared.deps.DepKind.TheVariants.{Change}
use Rattle.redo_reads.specs.Reads.{Covers, HasReads}
use Rattle.redo_tree.specs.Tree.{Tree, file_at}
use Rattle.redo_which.specs.Rule.{is_file}
use Rattle.redo_which.specs.Candidates.{book_path, journal_path}
use Rattle.redo_report.specs.declared.report.Report.{Report}
use Rattle.redo_run.specs.Reading.{HasMended, HasPlaces}

or_second : (a b : Bool) → b ≡ true → (a || b) ≡ true
or_second true b h = refl
or_second false b h = h

-- what is entered in a list and one entry more
entered-last : (ds : List Dep) (d : Dep) (k : DepKind) (p : List ℕ) → is_entered (ds ++ d ∷ []) k p ≡ true → (is_entered ds k p ≡ true) ⊎ ((same_kind k d.kind && bytes_eq p d.path) ≡ true)
entered-last [] d k p h = elim (or_cases (same_kind k d.kind && bytes_eq p d.path) _ h) [ inl here ↦ inr here | inr none ↦ inl none ]
entered-last (e ∷ es) d k p h = elim (or_cases (same_kind k e.kind && bytes_eq p e.path) (is_entered (es ++ d ∷ []) k p) h) [
  | inl here ↦ inl (rw here refl)
  | inr later ↦ elim (entered-last es d k p later) [
    | inl before ↦ inl (or_second (same_kind k e.kind && bytes_eq p e.path) (is_entered es k p) before)
    | inr last ↦ inr last
  ]
]

-- a member more
module _ {A : Type 0} (xs : List A) (i : ℕ) (x : A) (below : i < length xs) (is : x ≡ slice_index_or xs i x) where
  one-more : take (i + 1) xs ≡ take i xs ++ x ∷ []
  one-more = take_more xs i x below ∙ ap (λ y. take i xs ++ y ∷ []) (sym is)

  pub all-more : (P : A → Type 0) → AllByRecursion P (take i xs) → P x → AllByRecursion P (take (i + 1) xs)
  all-more P h k = subst (AllByRecursion P) (sym one-more) (AllByRecursion-append P (take i xs) (x ∷ []) h (k, tt))

module _ (paths : List ℕ → Bool) (tree : Tree) where
  covers-append : (those these : List (List ℕ)) → Covers paths tree those → Covers paths tree these → Covers paths tree (those ++ these)
  covers-append those these h k p m file = elim (IsAmong-append those these p m) [ inl l ↦ h p l file | inr r ↦ k p r file ]

  -- the paths of one member more
  pub covers-more : {A : Type 0} (f : A → List (List ℕ)) (xs : List A) (i : ℕ) (x : A) → i < length xs → x ≡ slice_index_or xs i x → Covers paths tree (flat_map f (take i xs)) → Covers paths tree (f x) → Covers paths tree (flat_map f (take (i + 1) xs))
  covers-more f xs i x below is h k =
      subst (λ (ps : List (List ℕ)). Covers paths tree ps)
      (sym (ap (flat_map f) (one-more xs i x below is) ∙ flat_map-append f (take i xs) (x ∷ []) ∙ ap (λ ps. flat_map f (take i xs) ++ ps) (append-nil (f x))))
      (covers-append (flat_map f (take i xs)) (f x) h k)

  -- where one is the path of the member
  pub covers-one : (p : List ℕ) (rest : List (List ℕ)) → (is_file tree p ≡ true → paths p ≡ true) → Covers paths tree rest → Covers paths tree (p ∷ rest)
  covers-one p rest h k q (inl here) file = subst (λ x. paths x ≡ true) here (h (subst (λ x. is_file tree x ≡ true) (sym here) file))
  covers-one p rest h k q (inr later) file = k q later file

  -- a source of a record more
  pub reads-more : (deps : List Dep) (i : ℕ) (d : Dep) → i < length deps → d ≡ slice_index_or deps i d → HasReads paths tree (take i deps) → ((same_kind Change d.kind ≡ true) → is_file tree d.path ≡ true → paths d.path ≡ true) → HasReads paths tree (take (i + 1) deps)
  reads-more deps i d below is h k p entered file =
      elim (entered-last (take i deps) d Change p (ap (λ ds. is_entered ds Change p) (sym (one-more deps i d below is)) ∙ entered)) [
        | inl before ↦ h p before file
        | inr here ↦
            let both = and_parts (same_kind Change d.kind) (bytes_eq p d.path) here in
            let at : p ≡ d.path = (bytes_eq-Decides p d.path).0 both.1 in
            subst (λ q. paths q ≡ true) (sym at) (k both.0 (subst (λ q. is_file tree q ≡ true) at file))
      ]

-- the paths of files, and what the records of a book name
pub one-each : {A : Type 0} (f : A → List ℕ) (xs : List A) → flat_map (λ x. f x ∷ []) xs ≡ map f xs
one-each f [] = refl
one-each f (x ∷ xs) = ap (λ ps. f x ∷ ps) (one-each f xs)

pub each-of-map : {A B : Type 0} (g : A → B) (f : B → List (List ℕ)) (xs : List A) → flat_map (λ x. f (g x)) xs ≡ flat_map f (map g xs)
each-of-map g f [] = refl
each-of-map g f (x ∷ xs) = ap (λ ps. f (g x) ++ ps) (each-of-map g f xs)

-- what is covered with the book's place are all places where a run stores
pub has_places : (paths : List ℕ → Bool) (tree : Tree) (report : Report) → Covers paths tree (book_path ∷ map (λ f. f.0) report.files.items) → HasPlaces paths tree report
has_places paths tree report h p (inl here) file = h p (inl (sym here)) file
has_places paths tree report h p (inr later) file = h p (inr later) file

-- ---- what mending looks into

module _ (paths : List ℕ → Bool) (tree : Tree) where
  -- the file at a path was read, and those at the targets of its book
  abbrev Said : List ℕ → Type 0
  Said p =
      (is_file tree p ≡ true → paths p ≡ true) ×
      ((book : List Record) → IsBookOf (file_at tree p) book → Covers paths tree (targets_of book))

  has-mended : Said journal_path → Said book_path → HasMended paths tree
  has-mended new old text some = record {
    own = covers-one paths tree journal_path (book_path ∷ []) new.0 (covers-one paths tree book_path [] old.0 (λ p m. absurd m));
    targets = λ journal before is was.
        let there : IsBookOf (file_at tree journal_path) journal = rw some is in
        covers-append paths tree (targets_of journal) (targets_of before) (new.1 journal there) (old.1 before was);
  }

  pub both-said : {E : Type 0} (journal book : List ℕ) (answer : Result Bool E) → journal ≡ journal_path → book ≡ book_path →
      (is_file tree journal ≡ true → paths journal ≡ true) →
      ((made : List Record) → IsBookOf (file_at tree journal) made → Covers paths tree (targets_of made)) →
      IfOk answer (λ all. all ≡ true → is_file tree book ≡ true → paths book ≡ true) →
      IfOk answer (λ all. all ≡ true → (old : List Record) → IsBookOf (file_at tree book) old → Covers paths tree (targets_of old)) →
      IfOk answer (λ all. all ≡ true → HasMended paths tree)
  both-said journal book (Ok all) j b place new at old = λ yes.
      has-mended (subst Said j (place, new)) (subst Said b (at yes, old yes))
  both-said journal book (Err e) j b place new at old = tt

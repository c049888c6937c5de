-- The lines of entries of a record, as a book has them: their text and their size.
use Rattle.std.proofs.Common.{◌≡◌, ◌∙◌, ◌+◌, ◌++◌, ◌∷◌, [], List, ℕ, true, false, ap, append-nil, length, map, refl, subst, sym}
use Rattle.std.proofs.lemmas.Grind.{flat_map-append}
use Rattle.std.proofs.lemmas.List.{length-append, map-append}
use Rattle.std.proofs.lemmas.List.Elements.{filter-append}
use Rattle.std.specs.Arc.{arc_value}
use Rattle.std.specs.List.{AllByRecursion}
use Rattle.std.specs.Prelude.{Option, Some, None, codes, flat_map}
use Rattle.redo_path.proofs.ApartLemmas.{apart}
use Rattle.redo_path.proofs.PartLemmas.{AllByRecursion-append}
use Rattle.redo_path.specs.Names.{IsBelowRoot, IsPath}
use Rattle.redo_digest.specs.Digest.{IsState, State, state_of}
use Rattle.redo_digest.proofs.DigestLemmas.{digest_of_content}
use Rattle.redo_record.specs.declared.deps.Dep.{Dep}
use Rattle.redo_record.specs.declared.deps.DepKind.TheVariants as kinds
use Rattle.redo_record.specs.Answers.{file_in}
use Rattle.redo_record.specs.Entries.{change_of, creates, entries_of, search_entries}
use Rattle.redo_book.specs.declared.book.BookEntry.{BookEntry}
use Rattle.redo_book.specs.declared.book.BookEntry.TheVariants.{Always, Change, Create}
use Rattle.redo_book.specs.Book.{IsEntry, entry_line, record_lines, target_line, text_of}
use Rattle.redo_book.specs.Noted.{entry_as, is_notable, is_top, noted}
use Rattle.redo_report.specs.declared.report.Row.{Row}
use Rattle.redo_past.specs.NewBook.{notable, record_of_row, state_after}
use Rattle.redo_past.specs.inside.Books.{AreSized, StatesView, noted_in, noted_text}

abbrev entry_text : BookEntry → List ℕ
entry_text e = entry_line e ++ 10 ∷ []

-- the lines of missing candidates
abbrev pub create_lines : List (List ℕ) → List ℕ
create_lines paths = flat_map (λ path. codes "create " ++ path ++ 10 ∷ []) paths

pub state-is : (file : Option (List ℕ)) → IsState (state_of file)
state-is None = tt
state-is (Some content) = digest_of_content content

module _ (states : StatesView) where
  abbrev changed : List ℕ → Dep
  changed path = record { kind = kinds.Change; path = path }

  abbrev created : List ℕ → Dep
  created path = record { kind = kinds.Create; path = path }

  abbrev again : List ℕ → Dep
  again path = record { kind = kinds.Always; path = path }

  noted-append : (ds es : List Dep) → noted_in states (ds ++ es) ≡ noted_in states ds ++ noted_in states es
  noted-append ds es =
      ap (noted (state_after states.sources states.rows)) (filter-append (λ (d : Dep). is_notable d.kind d.path) ds es)
      ∙ map-append (λ (d : Dep). entry_as (state_after states.sources states.rows) d.kind d.path) (notable ds) (notable es)

  pub text-append : (ds es : List Dep) → noted_text states (ds ++ es) ≡ noted_text states ds ++ noted_text states es
  text-append ds es =
      let xs = noted_in states ds in
      let ys = noted_in states es in
      ap (λ entries. text_of (map entry_line entries)) (noted-append ds es)
      ∙ ap text_of (map-append entry_line xs ys)
      ∙ flat_map-append (λ line. line ++ 10 ∷ []) (map entry_line xs) (map entry_line ys)

  -- that of each entry, one after another
  abbrev pub dep_text : Dep → List ℕ
  dep_text d = noted_text states (d ∷ [])

  pub text-each : (ds : List Dep) → noted_text states ds ≡ flat_map dep_text ds
  text-each [] = refl
  text-each (d ∷ ds) = text-append (d ∷ []) ds ∙ ap (λ t. dep_text d ++ t) (text-each ds)

  -- a record's lines are those of the candidates, of the .do file and of what the script declared
  pub parts-text : (missing : List (List ℕ)) (do_file : Option (List ℕ)) (own deps : List Dep) → deps ≡ entries_of missing do_file own →
      noted_text states deps ≡ (noted_text states (creates missing) ++ noted_text states (change_of do_file)) ++ noted_text states own
  parts-text missing do_file own deps is =
      ap (noted_text states) is ∙ text-append (search_entries missing do_file) own
      ∙ ap (λ t. t ++ noted_text states own) (text-append (creates missing) (change_of do_file))

  -- the lines of the record of a target that was built
  pub built-text : (row : Row) (state : State) → state ≡ state_of (file_in row.outcome) →
      text_of (record_lines (record_of_row states.sources states.rows row)) ≡ (target_line state row.path ++ 10 ∷ []) ++ noted_text states (arc_value row.deps)
  built-text row state is = ap (λ s. (target_line s row.path ++ 10 ∷ []) ++ noted_text states (arc_value row.deps)) (sym is)

  -- ---- the text of one entry

  pub change-top : (path : List ℕ) → is_top path ≡ true → noted_text states (changed path ∷ []) ≡ []
  change-top [] h = refl
  change-top (byte ∷ bytes) h = apart cc

  pub change-below : (path : List ℕ) (state : State) → is_top path ≡ false → state ≡ state_after states.sources states.rows path → noted_text states (changed path ∷ []) ≡ entry_text (Change state path)
  change-below [] state h is = apart cc
  change-below (byte ∷ bytes) state h is =
      append-nil (entry_text (Change (state_after states.sources states.rows (byte ∷ bytes)) (byte ∷ bytes)))
      ∙ ap (λ s. entry_text (Change s (byte ∷ bytes))) (sym is)

  pub create-top : (path : List ℕ) → is_top path ≡ true → noted_text states (created path ∷ []) ≡ []
  create-top [] h = refl
  create-top (byte ∷ bytes) h = apart cc

  pub create-below : (path : List ℕ) → is_top path ≡ false → noted_text states (created path ∷ []) ≡ entry_text (Create path)
  create-below [] h = apart cc
  create-below (byte ∷ bytes) h = append-nil (entry_text (Create (byte ∷ bytes)))

  pub always-top : (path : List ℕ) → is_top path ≡ true → noted_text states (again path ∷ []) ≡ entry_text Always
  always-top [] h = refl
  always-top (byte ∷ bytes) h = apart cc

  pub always-below : (path : List ℕ) → is_top path ≡ false → noted_text states (again path ∷ []) ≡ []
  always-below [] h = apart cc
  always-below (byte ∷ bytes) h = refl

  -- ---- missing candidates

  noted-creates : (paths : List (List ℕ)) → AllByRecursion IsBelowRoot paths → noted_in states (creates paths) ≡ map Create paths
  noted-creates [] h = refl
  noted-creates ([] ∷ paths) h = absurd (h.0.0 refl)
  noted-creates ((byte ∷ bytes) ∷ paths) h = ap (λ es. Create (byte ∷ bytes) ∷ es) (noted-creates paths h.1)

  create-lines : (paths : List (List ℕ)) → text_of (map entry_line (map Create paths)) ≡ create_lines paths
  create-lines [] = refl
  create-lines (path ∷ paths) = ap (λ t. (codes "create " ++ path ++ 10 ∷ []) ++ t) (create-lines paths)

  pub creates-text : (paths : List (List ℕ)) → AllByRecursion IsBelowRoot paths → noted_text states (creates paths) ≡ create_lines paths
  creates-text paths h = ap (λ entries. text_of (map entry_line entries)) (noted-creates paths h) ∙ create-lines paths

  -- lines with that front are these
  pub front-text : (front : List ℕ) (paths : List (List ℕ)) → front ≡ codes "create " → AllByRecursion IsBelowRoot paths → flat_map (λ path. front ++ path ++ 10 ∷ []) paths ≡ noted_text states (creates paths)
  front-text front paths e h = ap (λ f. flat_map (λ path. f ++ path ++ 10 ∷ []) paths) e ∙ sym (creates-text paths h)

  all-created : (paths : List (List ℕ)) → AllByRecursion IsBelowRoot paths → AllByRecursion IsEntry (map Create paths)
  all-created [] h = tt
  all-created (path ∷ paths) h = (h.0, all-created paths h.1)

  -- ---- sizes

  pub none-sized : AreSized states [] 0
  none-sized = record { size = refl; each = tt }

  pub more-sized : (ds es : List Dep) (m n k : ℕ) → AreSized states ds m → AreSized states es n → k ≡ m + n → AreSized states (ds ++ es) k
  more-sized ds es m n k first second sum = record {
    size = sum ∙ ap (λ a. a + n) first.size ∙ ap (λ b. length (noted_text states ds) + b) second.size
        ∙ sym (ap length (text-append ds es) ∙ length-append (noted_text states ds) (noted_text states es));
    each = subst (AllByRecursion IsEntry) (sym (noted-append ds es)) (AllByRecursion-append IsEntry (noted_in states ds) (noted_in states es) first.each second.each);
  }

  pub change-top-sized : (path : List ℕ) → is_top path ≡ true → AreSized states (changed path ∷ []) 0
  change-top-sized [] h = record { size = refl; each = tt }
  change-top-sized (byte ∷ bytes) h = apart cc

  pub change-sized : (path : List ℕ) (n : ℕ) → is_top path ≡ false → IsPath path → n ≡ length (entry_text (Change (state_after states.sources states.rows path) path)) → AreSized states (changed path ∷ []) n
  change-sized [] n h p is = apart cc
  change-sized (byte ∷ bytes) n h p is = record {
    size = is ∙ ap length (sym (append-nil (entry_text (Change (state_after states.sources states.rows (byte ∷ bytes)) (byte ∷ bytes)))));
    each = ((state-is _, ((λ e. apart cc), p)), tt);
  }

  pub create-top-sized : (path : List ℕ) → is_top path ≡ true → AreSized states (created path ∷ []) 0
  create-top-sized [] h = record { size = refl; each = tt }
  create-top-sized (byte ∷ bytes) h = apart cc

  pub create-sized : (path : List ℕ) (n : ℕ) → is_top path ≡ false → IsPath path → n ≡ length (entry_text (Create path)) → AreSized states (created path ∷ []) n
  create-sized [] n h p is = apart cc
  create-sized (byte ∷ bytes) n h p is = record {
    size = is ∙ ap length (sym (append-nil (entry_text (Create (byte ∷ bytes)))));
    each = (((λ e. apart cc), p), tt);
  }

  pub always-top-sized : (path : List ℕ) (n : ℕ) → is_top path ≡ true → n ≡ length (entry_text Always) → AreSized states (again path ∷ []) n
  always-top-sized [] n h is = record { size = is; each = (tt, tt) }
  always-top-sized (byte ∷ bytes) n h is = apart cc

  pub always-sized : (path : List ℕ) → is_top path ≡ false → AreSized states (again path ∷ []) 0
  always-sized [] h = apart cc
  always-sized (byte ∷ bytes) h = record { size = refl; each = tt }

  pub creates-sized : (front : List ℕ) (paths : List (List ℕ)) (n : ℕ) → front ≡ codes "create " → AllByRecursion IsBelowRoot paths → n ≡ length (flat_map (λ path. front ++ path ++ 10 ∷ []) paths) → AreSized states (creates paths) n
  creates-sized front paths n e h is = record {
    size = is ∙ ap length (front-text front paths e h);
    each = subst (AllByRecursion IsEntry) (sym (noted-creates paths h)) (all-created paths h);
  }

  -- a record's lines are as long as that of the target and those of the entries
  pub built-sized : (row : Row) (t e n : ℕ) → t ≡ length (target_line (state_of (file_in row.outcome)) row.path ++ 10 ∷ []) → e ≡ length (noted_text states (arc_value row.deps)) → n ≡ t + e →
      n ≡ length (text_of (record_lines (record_of_row states.sources states.rows row)))
  built-sized row t e n is-t is-e sum =
      sum ∙ ap (λ a. a + e) is-t ∙ ap (λ b. length (target_line (state_of (file_in row.outcome)) row.path ++ 10 ∷ []) + b) is-e
      ∙ sym (length-append (target_line (state_of (file_in row.outcome)) row.path ++ 10 ∷ []) (noted_text states (arc_value row.deps)))

-- What is cleared away, step by step: each time the next run goes on with the same tree.
use Rattle.std.proofs.Common.{◌≡◌, ◌≢◌, ◌↔◌, ◌++◌, ℕ, Bool, true, false, cond, ◌⊎◌, inl, inr, List, [], ◌∷◌, Option, Some, None}
use Rattle.std.proofs.Common.{filter, is_some, map, nat_eq, refl, rules, sym, ap, subst, ◌∙◌}
use Rattle.std.proofs.lemmas.Bool.{cases_Bool, false_from_ne_true, or_parts, or_right}
use Rattle.std.proofs.lemmas.List.Elements.{All-contains}
use Rattle.std.specs.Cmp.Lexicographic.{nat_list_eq_equiv, pointwise}
use Rattle.std.specs.List.{AllByRecursion}
use Rattle.std.specs.List.Sorted.{IsStrictlySortedBy}
use Rattle.std.specs.Map.{keys_of}
use Rattle.std.specs.Option.{option_eq}
use Rattle.std.specs.Prelude.{◌&&◌, ◌||◌, if◌then◌else◌, option_and_then}
use Rattle.std.specs.Str.{bytes_eq}
use Rattle.redo_path.proofs.ApartLemmas.{apart}
use Rattle.redo_names.specs.Paths.{is_among}
use Rattle.redo_tree.specs.Tree.{Directory, File, IsTree, Node, Tree, bytes_of, file_at, node_at, without}
use Rattle.redo_tree.proofs.WithoutLemmas.{directory_stays, file_at-without, stood}
use Rattle.redo_dir.specs.Stored.{Removes, Step}
use Rattle.redo_which.specs.Candidates.{book_path, journal_path}
use Rattle.redo_book.specs.Book.{IsBook, IsText, Record, book_lines, text_of}
use Rattle.redo_past.proofs.ItemLemmas.{IsItem, contained-item, item-contained}
use Rattle.redo_past.proofs.OrderLemmas.{same_path}
use Rattle.redo_dir.specs.Own.{is_own, is_temporary}
use Rattle.redo_past.specs.Past.{IsBookOf}
use Rattle.redo_mend.specs.Mended.{IsMended, IsRecoveredTree, MendsTo, book_to_put, is_taken_out, own_files}
use Rattle.redo_mend.proofs.MendLemmas.{no-dir, same-node}
use Rattle.redo_mend.proofs.OwnLemmas.{among-append, among-filter, book-other, file-among, journal-other}
use Rattle.redo_recover.specs.Steps.{IsFound, IsOfOthers, MayHold, TellsOfOthers, after_steps, is_free, named_by}
use Rattle.redo_recover.proofs.AgainLemmas.{again, recovered-same-files}
use Rattle.redo_recover.proofs.StepLemmas.{Clears, after-append, cleared-at, cleared-named, puts_book, removed-at, taken-file}

-- ---- parts of a test

some-file : (o : Option (List ℕ)) → is_some o ≡ true → (x : List ℕ) × (o ≡ Some x)
some-file None h = apart cc
some-file (Some x) h = (x, refl)

file-node : (o : Option Node) (x : List ℕ) → option_and_then bytes_of o ≡ Some x → o ≡ Some (File x)
file-node None x h = apart cc
file-node (Some Directory) x h = apart cc
file-node (Some (File y)) x h = let same : y ≡ x = cc in ap (λ z. Some (File z)) same

-- the book is put only where the tree's is another one
put-other : (new old : Option (List ℕ)) (x : List ℕ) → (if option_eq (pointwise nat_eq) new old then None else new) ≡ Some x → new ≡ Some x
put-other new old x h = (elim (option_eq (pointwise nat_eq) new old) as (λ b. (if b then None else new) ≡ Some x → new ≡ Some x) [
  | true ↦ λ k. apart cc
  | false ↦ λ k. k
]) h

equal-files : (new old : Option (List ℕ)) → option_eq (pointwise nat_eq) new old ≡ true → new ≡ old
equal-files None None h = refl
equal-files None (Some y) h = apart cc
equal-files (Some x) None h = apart cc
equal-files (Some x) (Some y) h = ap Some (same_path x y h)

put-same : (new old : Option (List ℕ)) (x : List ℕ) → new ≡ Some x → (if option_eq (pointwise nat_eq) new old then None else new) ≡ None → new ≡ old
put-same new old x some h = elim (cases_Bool (option_eq (pointwise nat_eq) new old)) [
  | inl t ↦ equal-files new old t
  | inr f ↦ let bad : Some x ≡ None = sym some ∙ rw f at h in apart cc
]

-- a book of no records
no-records : IsBook []
unfolding IsStrictlySortedBy
no-records = record { records = tt; sorted = tt }

pub ordered : (file : Option (List ℕ)) (book : List Record) → IsBookOf file book → IsBook book
ordered None book h = subst IsBook (sym h) no-records
ordered (Some text) book h = h.ordered

none-told : (text : List ℕ) → TellsOfOthers text []
none-told text = search rules

-- ---- a whole journal

module _ (tree mended : Tree) (text : List ℕ) (is : IsTree tree) (file : file_at tree journal_path ≡ Some text) (found : IsRecoveredTree tree text mended) (others : IsOfOthers tree) where
  -- what is taken out is a temporary file
  taken-own : (p : List ℕ) → p ≢ book_path → is_taken_out tree mended p ≡ true → is_own text p ≡ true
  taken-own p n h = elim (cases_Bool (is_own text p)) [
    | inl own ↦ own
    | inr other ↦
        let parts = taken-file (is_some (file_at tree p)) (is_some (file_at mended p)) (bytes_eq p journal_path) h in
        let same : file_at mended p ≡ file_at tree p = ap (option_and_then bytes_of) (found.is_mended.others p n other) in
        let bad : true ≡ false = sym parts.0 ∙ ap is_some (sym same) ∙ parts.1.0 in
        apart cc
  ]

  taken-no-book : is_taken_out tree mended book_path ≡ true → ⊥
  taken-no-book h =
      let parts = taken-file (is_some (file_at tree book_path)) (is_some (file_at mended book_path)) (bytes_eq book_path journal_path) h in
      let bad : true ≡ false = sym (ap is_some found.is_mended.has_book) ∙ parts.1.0 in
      apart cc

  taken-no-dir : (p : List ℕ) → is_taken_out tree mended p ≡ true → node_at tree p ≡ Some Directory → ⊥
  taken-no-dir p h d =
      let parts = taken-file (is_some (file_at tree p)) (is_some (file_at mended p)) (bytes_eq p journal_path) h in
      let some = some-file (file_at tree p) parts.0 in
      no-dir (node_at tree p) some.0 some.1 d

  book-text : (bytes : List ℕ) → book_to_put tree mended ≡ Some bytes → bytes ≡ text_of (book_lines found.book)
  book-text bytes h =
      let new : file_at mended book_path ≡ Some bytes = put-other (file_at mended book_path) (file_at tree book_path) bytes h in
      let same : Some (text_of (book_lines found.book)) ≡ Some bytes = sym found.is_mended.has_book ∙ new in
      cc

  its-text : IsText (text_of (book_lines found.book)) found.book
  its-text = record { ordered = found.recovered.ordered; whole = refl }

  -- ---- before the journal is removed

  module _ (steps : List Step) (clears : AllByRecursion (Clears tree mended) steps) (named : Option (List ℕ)) (by : IsFound tree mended named) (now : Tree) (holds : MayHold named tree steps now) where
    abbrev left : List ℕ → Option Node
    left p = after_steps (node_at tree) steps p

    still-named : named_by named steps ≡ named
    still-named = cleared-named tree mended named steps clears

    -- what is no temporary file's is told
    told : (p : List ℕ) → is_temporary text p ≡ false → node_at now p ≡ left p
    told p h = holds.at p (ap (λ o. is_free o p) still-named ∙ free named by)
      where
        free : (o : Option (List ℕ)) → IsFound tree mended o → is_free o p ≡ false
        free None b = refl
        free (Some t) b =
            let same : Some t ≡ Some text = sym b.0 ∙ file in
            let is_text : t ≡ text = cc in
            ap (λ x. is_temporary x p) is_text ∙ h

    other-temporary : (p : List ℕ) → is_own text p ≡ false → is_temporary text p ≡ false
    other-temporary p h = (or_parts (bytes_eq p journal_path) (is_temporary text p) h).1

    -- a path that isn't the program's own, nor the book's, has what it had
    left-other : (p : List ℕ) → p ≢ book_path → is_own text p ≡ false → node_at now p ≡ node_at tree p
    left-other p n h = told p (other-temporary p h) ∙ (elim (cleared-at tree mended (node_at tree) steps p clears) [
      | inl same ↦ same
      | inr changed ↦ elim changed [
        | inl out ↦ let bad : true ≡ false = sym (taken-own p n out.1) ∙ h in apart cc
        | inr book ↦ absurd (n book.0)
      ]
    ])

    journal-stays : file_at now journal_path ≡ Some text
    journal-stays = ap (option_and_then bytes_of) (told journal_path (journal-other text) ∙ (elim (cleared-at tree mended (node_at tree) steps journal_path clears) [
      | inl same ↦ same
      | inr changed ↦ elim changed [
        | inl out ↦
            let parts = taken-file (is_some (file_at tree journal_path)) (is_some (file_at mended journal_path)) (bytes_eq journal_path journal_path) out.1 in
            let bad : true ≡ false = sym (nat_list_eq_equiv.refl journal_path) ∙ parts.1.1 in
            apart cc
        | inr book ↦ let bad : bytes_eq journal_path book_path ≡ true = ap (bytes_eq journal_path) (sym book.0) ∙ nat_list_eq_equiv.refl journal_path in apart cc
      ]
    ])) ∙ file

    -- directories are those that were there
    dirs-left : (p : List ℕ) → (left p ≡ Some Directory) ↔ (node_at tree p ≡ Some Directory)
    dirs-left p = elim (cleared-at tree mended (node_at tree) steps p clears) [
      | inl same ↦ (λ d. sym same ∙ d, λ d. same ∙ d)
      | inr changed ↦ elim changed [
        | inl out ↦ (
          λ d. (let bad : None ≡ Some Directory = sym out.0 ∙ d in apart cc),
          λ d. absurd (taken-no-dir p out.1 d),
        )
        | inr book ↦ (
          λ d. (let bad : Some (File book.1) ≡ Some Directory = sym book.3 ∙ d in apart cc),
          λ d. absurd (found.place (ap (node_at tree) (sym book.0) ∙ d)),
        )
      ]
    ]

    dirs-now : (p : List ℕ) → (node_at now p ≡ Some Directory) ↔ (node_at tree p ≡ Some Directory)
    dirs-now p = (λ d. (dirs-left p).0 ((holds.directories p).0 d), λ d. (holds.directories p).1 ((dirs-left p).1 d))

    still-mended : IsMended now text found.book mended
    still-mended = record {
      is_tree = found.is_mended.is_tree;
      has_book = found.is_mended.has_book;
      own = found.is_mended.own;
      others = λ p n h. found.is_mended.others p n h ∙ sym (left-other p n h);
      directories = λ p. (λ d. (dirs-now p).1 ((found.is_mended.directories p).0 d), λ d. (found.is_mended.directories p).1 ((dirs-now p).0 d));
    }

    -- the files that the two books tell of are as they were
    files-same : (book : List Record) → TellsOfOthers text book → (r : Record) → IsItem book r → file_at now r.target ≡ file_at tree r.target
    files-same book tells r m =
        let of = All-contains (λ (x : Record). (x.target ≢ book_path) × (is_own text x.target ≡ false)) book r tells (item-contained book r m) in
        ap (option_and_then bytes_of) (left-other r.target of.0 of.1)

    journal-tells : TellsOfOthers text found.journal
    journal-tells = others text text found.journal file (inl file) found.is_journal

    old-tells : (o : Option (List ℕ)) → file_at tree book_path ≡ o → IsBookOf o found.old → TellsOfOthers text found.old
    old-tells None e h = subst (TellsOfOthers text) (sym h) (none-told text)
    old-tells (Some content) e h = others text content found.old file (inr e) h

    -- with the old book or with the recovered one in its place
    pub still-found : IsRecoveredTree now text mended
    still-found = elim (cleared-at tree mended (node_at tree) steps book_path clears) [
      | inl same ↦
          let here : file_at now book_path ≡ file_at tree book_path = ap (option_and_then bytes_of) (told book_path (book-other text) ∙ same) in
          record {
            journal = found.journal;
            is_journal = found.is_journal;
            place = λ d. found.place ((dirs-now book_path).0 d);
            old = found.old;
            is_old = subst (λ o. IsBookOf o found.old) (sym here) found.is_old;
            book = found.book;
            recovered = recovered-same-files tree now found.journal found.old found.book found.recovered
                (files-same found.journal journal-tells) (files-same found.old (old-tells (file_at tree book_path) refl found.is_old));
            is_mended = still-mended;
          }
      | inr changed ↦ elim changed [
        | inl out ↦ absurd (taken-no-book out.1)
        | inr put ↦
            let bytes = put.1 in
            let here : file_at now book_path ≡ Some (text_of (book_lines found.book)) =
            ap (option_and_then bytes_of) (told book_path (book-other text) ∙ put.3) ∙ ap Some (book-text bytes put.2) in
            record {
              journal = found.journal;
              is_journal = found.is_journal;
              place = λ d. found.place ((dirs-now book_path).0 d);
              old = found.book;
              is_old = subst (λ o. IsBookOf o found.book) (sym here) its-text;
              book = found.book;
              recovered = again tree now found.journal found.old found.book found.is_journal.ordered (ordered (file_at tree book_path) found.old found.is_old) found.recovered
                  (λ r c. elim c [
                    | inl j ↦ files-same found.journal journal-tells r (contained-item found.journal r j)
                    | inr o ↦ files-same found.old (old-tells (file_at tree book_path) refl found.is_old) r (contained-item found.old r o)
                  ]);
              is_mended = still-mended;
            }
      ]
    ]

    pub still-mends : MendsTo now mended
    still-mends = let e = journal-stays in rw e (inl still-found)

  -- ---- after all steps

  abbrev own : List (List ℕ)
  own = own_files tree mended

  taken-in : (p : List ℕ) → is_among own p ≡ ((is_among (keys_of tree) p && is_taken_out tree mended p) || (bytes_eq journal_path p || false))
  taken-in p =
      among-append (filter (is_taken_out tree mended) (keys_of tree)) (journal_path ∷ []) p
      ∙ ap (λ b. b || (bytes_eq journal_path p || false)) (among-filter (is_taken_out tree mended) (keys_of tree) p)

  -- what is removed is the journal or was taken out
  removed-is : (p : List ℕ) → is_among own p ≡ true → (p ≡ journal_path) ⊎ (is_taken_out tree mended p ≡ true)
  removed-is p h = parts (is_among (keys_of tree) p) (is_taken_out tree mended p) (bytes_eq journal_path p) refl (sym (taken-in p) ∙ h)
    where
      parts : (a b c : Bool) → bytes_eq journal_path p ≡ c → ((a && b) || (c || false)) ≡ true → (p ≡ journal_path) ⊎ (b ≡ true)
      parts a b true e k = inl (sym (same_path journal_path p e))
      parts true true false e k = inr refl
      parts true false false e k = apart cc
      parts false b false e k = apart cc

  taken-removed : (p : List ℕ) → is_taken_out tree mended p ≡ true → is_among own p ≡ true
  taken-removed p h =
      let part = taken-file (is_some (file_at tree p)) (is_some (file_at mended p)) (bytes_eq p journal_path) h in
      let some = some-file (file_at tree p) part.0 in
      let key_in : is_among (keys_of tree) p ≡ true = file-among tree p some.0 some.1 in
      taken-in p ∙ ap (λ b. (b && is_taken_out tree mended p) || (bytes_eq journal_path p || false)) key_in
      ∙ ap (λ b. b || (bytes_eq journal_path p || false)) h

  journal-removed : is_among own journal_path ≡ true
  journal-removed = taken-in journal_path ∙ or_right (is_among (keys_of tree) journal_path && is_taken_out tree mended journal_path) true refl

  no-removed : (p : List ℕ) → p ≢ journal_path → (is_taken_out tree mended p ≡ true → ⊥) → is_among own p ≡ false
  no-removed p n m = false_from_ne_true (is_among own p) (λ t. elim (removed-is p t) [ inl j ↦ n j | inr out ↦ m out ])

  removed-no-dir : (p : List ℕ) → is_among own p ≡ true → node_at tree p ≡ Some Directory → ⊥
  removed-no-dir p h d = elim (removed-is p h) [
    | inl j ↦ no-dir (node_at tree journal_path) text file (ap (node_at tree) (sym j) ∙ d)
    | inr out ↦ taken-no-dir p out d
  ]

  gone-file : (b : Bool) (o : Option Node) → option_and_then bytes_of o ≡ None → option_and_then bytes_of (cond b None o) ≡ None
  gone-file true o h = refl
  gone-file false o h = h

  -- elsewhere what is removed leaves what the mended tree has
  elsewhere : (p : List ℕ) → p ≢ book_path → cond (is_among own p) None (node_at tree p) ≡ node_at mended p
  elsewhere p n = elim (cases_Bool (is_own text p)) [
    | inr other ↦
        let stays : is_among own p ≡ false = no-removed p
        (λ j. (let bad : true ≡ false = sym (ap (is_own text) j) ∙ other in apart cc))
        (λ out. (let bad : true ≡ false = sym (taken-own p n out) ∙ other in apart cc)) in
        ap (λ b. cond b None (node_at tree p)) stays ∙ sym (found.is_mended.others p n other)
    | inl mine ↦
        same-node (cond (is_among own p) None (node_at tree p)) (node_at mended p) (dirs (is_among own p) refl)
        ((elim (file_at tree p) as (λ o. file_at tree p ≡ o → option_and_then bytes_of (cond (is_among own p) None (node_at tree p)) ≡ None) [
          | None ↦ λ e. gone-file (is_among own p) (node_at tree p) e
          | Some x ↦ λ e. ap (λ b. option_and_then bytes_of (cond b None (node_at tree p))) (is-removed mine x e)
        ]) refl ∙ sym (found.is_mended.own p n mine))
  ]
    where
      dirs : (b : Bool) → is_among own p ≡ b → (cond b None (node_at tree p) ≡ Some Directory) ↔ (node_at mended p ≡ Some Directory)
      dirs true h = (
        λ d. (let bad : None ≡ Some Directory = d in apart cc),
        λ d. absurd (removed-no-dir p h ((found.is_mended.directories p).0 d)),
      )
      dirs false h = (λ d. (found.is_mended.directories p).1 d, λ d. (found.is_mended.directories p).0 d)

      is-removed : is_own text p ≡ true → (x : List ℕ) → file_at tree p ≡ Some x → is_among own p ≡ true
      is-removed mine x e = elim (cases_Bool (bytes_eq p journal_path)) [
        | inl j ↦ ap (is_among own) (same_path p journal_path j) ∙ journal-removed
        | inr nj ↦
            let none = found.is_mended.own p n mine in
            let taken : is_taken_out tree mended p ≡ true = rw (e, none, nj) refl in
            taken-removed p taken
      ]

  book-kept : is_among own book_path ≡ false
  book-kept = no-removed book_path (λ e. (let bad : bytes_eq journal_path book_path ≡ true = ap (bytes_eq journal_path) e ∙ nat_list_eq_equiv.refl journal_path in apart cc)) taken-no-book

  put-book : (over : Bool) (o : Option (List ℕ)) → book_to_put tree mended ≡ o → after_steps (node_at tree) (puts_book over o) book_path ≡ node_at mended book_path
  put-book over None h =
      let has = found.is_mended.has_book in
      let same : file_at mended book_path ≡ file_at tree book_path = put-same (file_at mended book_path) (file_at tree book_path) (text_of (book_lines found.book)) has h in
      file-node (node_at tree book_path) (text_of (book_lines found.book)) (sym same ∙ has) ∙ sym (file-node (node_at mended book_path) (text_of (book_lines found.book)) has)
  put-book over (Some x) h = sym (file-node (node_at mended book_path) x (put-other (file_at mended book_path) (file_at tree book_path) x h))

  put-elsewhere : (over : Bool) (o : Option (List ℕ)) (p : List ℕ) → bytes_eq p book_path ≡ false → after_steps (node_at tree) (puts_book over o) p ≡ node_at tree p
  put-elsewhere over None p h = refl
  put-elsewhere over (Some x) p h = ap (λ b. cond b (Some (File x)) (node_at tree p)) h

  -- so all steps leave the mended tree
  pub all-cleared : (over : Bool) (p : List ℕ) → after_steps (node_at tree) (puts_book over (book_to_put tree mended) ++ map Removes own) p ≡ node_at mended p
  all-cleared over p =
      let puts = puts_book over (book_to_put tree mended) in
      ap (λ f. f p) (after-append (node_at tree) puts (map Removes own))
      ∙ removed-at (after_steps (node_at tree) puts) own p
      ∙ (elim (cases_Bool (bytes_eq p book_path)) [
        | inl b ↦
            let at : p ≡ book_path = same_path p book_path b in
            let kept : is_among own p ≡ false = ap (is_among own) at ∙ book-kept in
            ap (λ c. cond c None (after_steps (node_at tree) puts p)) kept ∙ ap (after_steps (node_at tree) puts) at ∙ put-book over (book_to_put tree mended) refl ∙ ap (node_at mended) (sym at)
        | inr nb ↦
            let n : p ≢ book_path = λ e. (let bad : true ≡ false = sym (ap (λ q. bytes_eq q book_path) e ∙ nat_list_eq_equiv.refl book_path) ∙ nb in apart cc) in
            ap (λ o. cond (is_among own p) None o) (put-elsewhere over (book_to_put tree mended) p nb) ∙ elsewhere p n
      ])

-- ---- a journal that is passed over

pub over-cleared : (tree mended : Tree) (text : List ℕ) → IsTree tree → file_at tree journal_path ≡ Some text → mended ≡ without tree (journal_path ∷ []) → (p : List ℕ) → after_steps (node_at tree) (map Removes (journal_path ∷ [])) p ≡ node_at mended p
over-cleared tree mended text is file same p =
    removed-at (node_at tree) (journal_path ∷ []) p
    ∙ same-node (cond (is_among (journal_path ∷ []) p) None (node_at tree p)) (node_at (without tree (journal_path ∷ [])) p) (dirs (is_among (journal_path ∷ []) p) refl)
    (files (is_among (journal_path ∷ []) p) (node_at tree p) ∙ sym (file_at-without tree (journal_path ∷ []) p is))
    ∙ ap (λ t. node_at t p) (sym same)
  where
    files : (b : Bool) (o : Option Node) → option_and_then bytes_of (cond b None o) ≡ cond b None (option_and_then bytes_of o)
    files true o = refl
    files false o = refl

    is-journal : is_among (journal_path ∷ []) p ≡ true → p ≡ journal_path
    is-journal h = elim (cases_Bool (bytes_eq journal_path p)) [
      | inl t ↦ sym (same_path journal_path p t)
      | inr f ↦ let bad : false ≡ true = rw f at h in apart cc
    ]

    dirs : (b : Bool) → is_among (journal_path ∷ []) p ≡ b → (cond b None (node_at tree p) ≡ Some Directory) ↔ (node_at (without tree (journal_path ∷ [])) p ≡ Some Directory)
    dirs true h = (
      λ d. (let bad : None ≡ Some Directory = d in apart cc),
      λ d. absurd (no-dir (node_at tree journal_path) text file (ap (node_at tree) (sym (is-journal h)) ∙ stood tree (journal_path ∷ []) p Directory is d)),
    )
    dirs false h = (λ d. directory_stays tree (journal_path ∷ []) p is d, λ d. stood tree (journal_path ∷ []) p Directory is d)

-- What stands in a mended tree, and what is left to clear away.
use Rattle.std.proofs.Common.{◌≡◌, ◌≢◌, ◌↔◌, ℕ, Bool, true, false, cond, not, List, [], ◌∷◌, ◌++◌, refl, sym, ap, subst, ◌∙◌, arith}
use Rattle.std.proofs.Common.{Option, Some, None, filter, inl, inr, is_some, nat_eq}
use Rattle.std.proofs.lemmas.Bool.{cases_Bool}
use Rattle.std.proofs.lemmas.List.Elements.{filter_agree}
use Rattle.std.specs.Cmp.Lexicographic.{nat_list_eq_equiv, options_equiv, pointwise}
use Rattle.std.specs.Map.{keys_of}
use Rattle.std.specs.Option.{option_eq, option_map_or}
use Rattle.std.specs.Prelude.{◌&&◌, ◌||◌, Err, Ok, if◌then◌else◌, option_and_then}
use Rattle.redo_tree.specs.declared.faults.TreeFault.{TreeFault}
use Rattle.std.specs.Str.{bytes_eq}
use Rattle.redo_path.specs.Names.{IsPath}
use Rattle.redo_path.proofs.ApartLemmas.{apart}
use Rattle.redo_names.specs.Paths.{is_among}
use Rattle.redo_tree.specs.Tree.{Directory, File, IsTree, Node, Tree, added, bytes_of, file_at, node_at, refusal, with_node, without}
use Rattle.redo_tree.proofs.GrowLemmas.{IsTree-with, Puts-with, free}
use Rattle.redo_tree.proofs.WithoutLemmas.{IsTree-without, directory_stays, file_at-without, stood}
use Rattle.redo_which.specs.Candidates.{book_path, journal_path}
use Rattle.redo_book.specs.Book.{IsText, Record, book_lines, text_of}
use Rattle.redo_past.proofs.OrderLemmas.{same_path}
use Rattle.redo_dir.specs.Own.{is_own, is_temporary}
use Rattle.redo_past.specs.Past.{IsBookOf}
use Rattle.redo_mend.specs.Mended.{IsMended, IsRecoveredTree, book_to_put, is_taken_out, own_files}
use Rattle.redo_mend.specs.Recovered.{IsRecovered}
use Rattle.redo_mend.proofs.OwnLemmas.{among-append, among-filter, book-other, file-among, journal-other}

pub book-is-path : IsPath book_path
book-is-path = record {
  each = (
    record {
      nonempty = λ e. apart cc;
      not_here = λ e. apart cc;
      not_parent = λ e. apart cc;
      part = record { no_slash = (refl, (refl, (refl, (refl, (refl, (refl, (refl, (refl, (refl, (refl, tt)))))))))); printable = (refl, (refl, (refl, (refl, (refl, (refl, (refl, (refl, (refl, (refl, tt)))))))))) };
      short = omega arith;
    },
    tt,
  );
  short = omega arith;
}

-- ---- nodes and files

-- a file is no directory
pub no-dir : (o : Option Node) (b : List ℕ) → option_and_then bytes_of o ≡ Some b → o ≡ Some Directory → ⊥
no-dir o b e d =
    let bad : None ≡ Some b = sym (ap (option_and_then bytes_of) d) ∙ e in
    apart cc

-- directories are the same, and so are files
pub same-node : (o u : Option Node) → (o ≡ Some Directory) ↔ (u ≡ Some Directory) → option_and_then bytes_of o ≡ option_and_then bytes_of u → o ≡ u
same-node None None d e = refl
same-node None (Some Directory) d e = d.1 refl
same-node None (Some (File b)) d e = apart cc
same-node (Some Directory) u d e = sym (d.0 refl)
same-node (Some (File b)) None d e = apart cc
same-node (Some (File b)) (Some Directory) d e = d.1 refl
same-node (Some (File b)) (Some (File c)) d e = let same : b ≡ c = cc in ap (λ x. Some (File x)) same

equal-itself : (o : Option (List ℕ)) → option_eq (pointwise nat_eq) o o ≡ true
equal-itself o = (options_equiv nat_list_eq_equiv).refl o

-- ---- a whole journal

-- what was added had its place
added-with : (o : Option TreeFault) (next new : Tree) → option_map_or Err o (Ok next) ≡ Ok new → (o ≡ None) × (next ≡ new)
added-with None next new h = (refl, cc)
added-with (Some fault) next new h = apart cc

-- the own files, as they are found by their names
abbrev pub own_of : Tree → List ℕ → List (List ℕ)
own_of tree text = filter (λ p. is_some (file_at tree p) && is_temporary text p) (keys_of tree) ++ journal_path ∷ []

module _ (tree : Tree) (is : IsTree tree) (text bytes : List ℕ) (mended : Tree) where
  abbrev own : List (List ℕ)
  own = own_of tree text

  abbrev rest : Tree
  rest = without (without tree own) (book_path ∷ [])

  -- a file that stands there is among them where its name is the program's own
  among-own : (p x : List ℕ) → file_at tree p ≡ Some x → is_among own p ≡ is_own text p
  among-own p x h =
      let key : is_among (keys_of tree) p ≡ true = file-among tree p x h in
      let told : is_among (filter (λ q. is_some (file_at tree q) && is_temporary text q) (keys_of tree)) p ≡ is_temporary text p =
      among-filter (λ q. is_some (file_at tree q) && is_temporary text q) (keys_of tree) p
      ∙ ap (λ b. b && (is_some (file_at tree p) && is_temporary text p)) key
      ∙ ap (λ o. is_some o && is_temporary text p) h in
      among-append (filter (λ q. is_some (file_at tree q) && is_temporary text q) (keys_of tree)) (journal_path ∷ []) p
      ∙ ap (λ b. b || is_among (journal_path ∷ []) p) told
      ∙ turned (is_temporary text p) (bytes_eq journal_path p) (bytes_eq p journal_path) (nat_list_eq_equiv.symm journal_path p)
    where
      turned : (a b c : Bool) → b ≡ c → (a || (b || false)) ≡ (c || a)
      turned true true c e = rw (← e) refl
      turned true false c e = rw (← e) refl
      turned false true c e = rw (← e) refl
      turned false false c e = rw (← e) refl

  module _ (puts : added rest book_path (File bytes) ≡ Ok mended) where
    rest-tree : IsTree rest
    rest-tree = IsTree-without (without tree own) (book_path ∷ []) (IsTree-without tree own is)

    allowed : refusal rest book_path (File bytes) ≡ None
    allowed = (added-with (refusal rest book_path (File bytes)) (with_node rest book_path (File bytes)) mended puts).0

    made : with_node rest book_path (File bytes) ≡ mended
    made = (added-with (refusal rest book_path (File bytes)) (with_node rest book_path (File bytes)) mended puts).1

    at : (p : List ℕ) → node_at mended p ≡ cond (bytes_eq book_path p) (Some (File bytes)) (node_at rest p)
    at p = ap (λ t. node_at t p) (sym made) ∙ (Puts-with rest book_path (File bytes)).at p

    at-book : node_at mended book_path ≡ Some (File bytes)
    at-book = at book_path

    book-free : node_at rest book_path ≡ None
    book-free = free rest book_path (File bytes) allowed

    -- elsewhere the own files are gone
    elsewhere : (p : List ℕ) → p ≢ book_path → node_at mended p ≡ node_at rest p
    elsewhere p n = elim (cases_Bool (bytes_eq book_path p)) [
      | inl t ↦ absurd (n (sym (same_path book_path p t)))
      | inr f ↦ at p ∙ ap (λ b. cond b (Some (File bytes)) (node_at rest p)) f
    ]

    file-elsewhere : (p : List ℕ) → p ≢ book_path → file_at mended p ≡ cond (is_among own p) None (file_at tree p)
    file-elsewhere p n =
        ap (option_and_then bytes_of) (elsewhere p n)
        ∙ file_at-without (without tree own) (book_path ∷ []) p (IsTree-without tree own is)
        ∙ (elim (cases_Bool (bytes_eq book_path p)) [
          | inl t ↦ absurd (n (sym (same_path book_path p t)))
          | inr f ↦ ap (λ b. cond (b || false) None (file_at (without tree own) p)) f
        ])
        ∙ file_at-without tree own p is

    rest-stays : (p : List ℕ) → node_at tree p ≡ Some Directory → node_at rest p ≡ Some Directory
    rest-stays p d = directory_stays (without tree own) (book_path ∷ []) p (IsTree-without tree own is) (directory_stays tree own p is d)

    rest-stood : (p : List ℕ) → node_at rest p ≡ Some Directory → node_at tree p ≡ Some Directory
    rest-stood p d = stood tree own p Directory is (stood (without tree own) (book_path ∷ []) p Directory (IsTree-without tree own is) d)

    dirs : (p : List ℕ) → (node_at mended p ≡ Some Directory) ↔ (node_at tree p ≡ Some Directory)
    dirs p = elim (cases_Bool (bytes_eq book_path p)) [
      | inl t ↦
          let here : node_at mended p ≡ Some (File bytes) = at p ∙ ap (λ b. cond b (Some (File bytes)) (node_at rest p)) t in (
            λ d. absurd (no-dir (node_at mended p) bytes (ap (option_and_then bytes_of) here) d),
            λ d. absurd (let gone : node_at rest book_path ≡ Some Directory = ap (node_at rest) (same_path book_path p t) ∙ rest-stays p d in
                let bad : None ≡ Some Directory = sym book-free ∙ gone in apart cc),
          )
      | inr f ↦
          let here : node_at mended p ≡ node_at rest p = at p ∙ ap (λ b. cond b (Some (File bytes)) (node_at rest p)) f in
          (λ d. rest-stood p (sym here ∙ d), λ d. here ∙ rest-stays p d)
    ]

    own-gone : (p : List ℕ) → p ≢ book_path → is_own text p ≡ true → file_at mended p ≡ None
    own-gone p n h = file-elsewhere p n ∙
        (elim (file_at tree p) as (λ o. file_at tree p ≡ o → cond (is_among own p) None o ≡ None) [
          | None ↦ λ e. (elim (is_among own p) as (λ b. cond {A = Option (List ℕ)} b None None ≡ None) [ true ↦ refl | false ↦ refl ])
          | Some x ↦ λ e. ap (λ b. cond b None (Some x)) (among-own p x e ∙ h)
        ]) refl

    other-file : (p : List ℕ) → p ≢ book_path → is_own text p ≡ false → file_at mended p ≡ file_at tree p
    other-file p n h = file-elsewhere p n ∙
        (elim (file_at tree p) as (λ o. file_at tree p ≡ o → cond (is_among own p) None o ≡ o) [
          | None ↦ λ e. (elim (is_among own p) as (λ b. cond {A = Option (List ℕ)} b None None ≡ None) [ true ↦ refl | false ↦ refl ])
          | Some x ↦ λ e. ap (λ b. cond b None (Some x)) (among-own p x e ∙ h)
        ]) refl

    pub is-mended : (book : List Record) → bytes ≡ text_of (book_lines book) → IsMended tree text book mended
    is-mended book e = record {
      is_tree = subst IsTree made (IsTree-with rest book_path (File bytes) rest-tree book-is-path allowed);
      has_book = ap (option_and_then bytes_of) at-book ∙ ap Some e;
      own = own-gone;
      others = λ p n h. same-node (node_at mended p) (node_at tree p) (dirs p) (other-file p n h);
      directories = dirs;
    }

    -- the files that are gone are those of these names
    gone : (p : List ℕ) → (is_some (file_at tree p) && is_temporary text p) ≡ is_taken_out tree mended p
    gone p = elim (cases_Bool (bytes_eq p book_path)) [
      | inl b ↦
          let same : p ≡ book_path = same_path p book_path b in
          let none : is_temporary text p ≡ false = ap (is_temporary text) same ∙ book-other text in
          let stands : file_at mended p ≡ Some bytes = ap (file_at mended) same ∙ ap (option_and_then bytes_of) at-book in
          rw (none, stands) refl
      | inr nb ↦ elim (cases_Bool (bytes_eq p journal_path)) [
        | inl j ↦
            let none : is_temporary text p ≡ false = ap (is_temporary text) (same_path p journal_path j) ∙ journal-other text in
            rw (none, j) (never (is_some (file_at tree p)) (is_some (file_at mended p)))
        | inr nj ↦
            let n : p ≢ book_path = λ e. (let bad : true ≡ false = sym (nat_list_eq_equiv.refl book_path) ∙ ap (λ q. bytes_eq q book_path) (sym e) ∙ nb in apart cc) in
            let told = file-elsewhere p n in
            (elim (file_at tree p) as (λ o. file_at tree p ≡ o → file_at mended p ≡ cond (is_among own p) None o → (is_some o && is_temporary text p) ≡ (is_some o && (not (is_some (file_at mended p)) && not (bytes_eq p journal_path)))) [
              | None ↦ λ e k. refl
              | Some x ↦ λ e k.
                  let is_in : is_among own p ≡ is_temporary text p = among-own p x e ∙ ap (λ b. b || is_temporary text p) nj in
                  let left : file_at mended p ≡ cond (is_temporary text p) None (Some x) = k ∙ ap (λ b. cond b None (Some x)) is_in in
                  rw (left, nj) (answer (is_temporary text p) x)
            ]) refl told
      ]
    ]
      where
        never : (a b : Bool) → (a && false) ≡ (a && (not b && false))
        never true true = refl
        never true false = refl
        never false b = refl

        answer : (b : Bool) (x : List ℕ) → b ≡ (not (is_some (cond b None (Some x))) && true)
        answer true x = refl
        answer false x = refl

    pub own-told : own ≡ own_files tree mended
    own-told = ap (λ ps. ps ++ journal_path ∷ []) (filter_agree _ _ gone (keys_of tree))

-- so the code recovers the tree, over which digests were kept
module _ (tree kept mended : Tree) (text bytes : List ℕ) (own : List (List ℕ)) (is : IsTree tree) (same : kept ≡ tree) (own_is : own ≡ own_of kept text) (puts : added (without (without kept own) (book_path ∷ [])) book_path (File bytes) ≡ Ok mended) where
  own-here : own ≡ own_of tree text
  own-here = own_is ∙ ap (λ t. own_of t text) same

  puts-here : added (without (without tree (own_of tree text)) (book_path ∷ [])) book_path (File bytes) ≡ Ok mended
  puts-here =
      subst (λ (o : List (List ℕ)). added (without (without tree o) (book_path ∷ [])) book_path (File bytes) ≡ Ok mended) own-here
      (subst (λ (t : Tree). added (without (without t own) (book_path ∷ [])) book_path (File bytes) ≡ Ok mended) same puts)

  pub recovers : (journal old book : List Record) → IsText text journal → node_at tree book_path ≢ Some Directory → IsBookOf (file_at tree book_path) old → IsRecovered kept journal old book → bytes ≡ text_of (book_lines book) → IsRecoveredTree tree text mended
  recovers journal old book is_journal place is_old recovered is_text = record {
    journal = journal;
    is_journal = is_journal;
    place = place;
    old = old;
    is_old = is_old;
    book = book;
    recovered = subst (λ (t : Tree). IsRecovered t journal old book) same recovered;
    is_mended = is-mended tree is text bytes mended puts-here book is_text;
  }

  pub own-left : own ≡ own_files tree mended
  own-left = own-here ∙ own-told tree is text bytes mended puts-here

-- ---- a journal that is passed over

module _ (tree : Tree) (is : IsTree tree) (mended : Tree) (same : mended ≡ without tree (journal_path ∷ [])) where
  file-over : (p : List ℕ) → file_at mended p ≡ cond (bytes_eq journal_path p || false) None (file_at tree p)
  file-over p = ap (λ t. file_at t p) same ∙ file_at-without tree (journal_path ∷ []) p is

  none-out : (p : List ℕ) → is_taken_out tree mended p ≡ false
  none-out p =
      (elim (file_at tree p) as (λ o. file_at mended p ≡ cond (bytes_eq journal_path p || false) None o → (is_some o && (not (is_some (file_at mended p)) && not (bytes_eq p journal_path))) ≡ false) [
        | None ↦ λ k. refl
        | Some x ↦ λ k.
            let told : file_at mended p ≡ cond (bytes_eq p journal_path || false) None (Some x) = k ∙ ap (λ b. cond (b || false) None (Some x)) (nat_list_eq_equiv.symm journal_path p) in
            rw told (answer (bytes_eq p journal_path) x)
      ]) (file-over p)
    where
      answer : (b : Bool) (x : List ℕ) → (not (is_some (cond (b || false) None (Some x))) && not b) ≡ false
      answer true x = refl
      answer false x = refl

  nothing : (ps : List (List ℕ)) → filter (λ p. false) ps ≡ []
  nothing [] = refl
  nothing (p ∷ ps) = nothing ps

  pub own-over : journal_path ∷ [] ≡ own_files tree mended
  own-over = sym (ap (λ ps. ps ++ journal_path ∷ []) (filter_agree (is_taken_out tree mended) (λ p. false) none-out (keys_of tree) ∙ nothing (keys_of tree)))

  pub book-over : None ≡ book_to_put tree mended
  book-over =
      let stays : file_at mended book_path ≡ file_at tree book_path = file-over book_path in
      rw (stays, equal-itself (file_at tree book_path)) refl

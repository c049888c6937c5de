-- A tree is mended in one way.
use Rattle.std.proofs.Common.{◌≡◌, ◌≢◌, ◌↔◌, ℕ, true, false, ◌⊎◌, inl, inr, List, [], ◌∷◌, Option, Some, None, refl, sym, ap, subst, ◌∙◌}
use Rattle.std.proofs.lemmas.Bool.{cases_Bool}
use Rattle.std.proofs.lemmas.Slice.Eq.{bytes_eq-Decides}
use Rattle.std.specs.Prelude.{MatchOption}
use Rattle.std.specs.Str.{bytes_eq}
use Rattle.redo_path.proofs.ApartLemmas.{apart}
use Rattle.redo_tree.specs.Tree.{Directory, Tree, file_at, node_at, without}
use Rattle.redo_tree.proofs.KeptLemmas.{one_sorted}
use Rattle.redo_which.specs.Candidates.{book_path, journal_path}
use Rattle.redo_book.specs.Book.{IsRefused, IsText, Record}
use Rattle.redo_past.specs.Past.{IsBookOf, RefusesBook}
use Rattle.redo_book.specs.declared.faults.BookFault.{BookFault}
use Rattle.redo_book.specs.declared.faults.BookFault.TheVariants.{Line, Memory}
use Rattle.redo_past.proofs.OrderLemmas.{same_path}
use Rattle.redo_dir.specs.Own.{is_own}
use Rattle.redo_mend.specs.Recovered.{IsRecovered}
use Rattle.redo_mend.specs.Mended.{HasNoMended, IsMended, IsPassedOver, IsRecoveredTree, MendsTo}
use Rattle.redo_mend.proofs.MendLemmas.{same-node}
use Rattle.redo_mend.proofs.SaidLemmas.{one-recovered}

abbrev pub OneBook : Type 0
OneBook = (text : List ℕ) (book other : List Record) → IsText text book → IsText text other → book ≡ other

-- one file has one book
pub one-book-of : OneBook → (file other : Option (List ℕ)) (book also : List Record) → file ≡ other → IsBookOf file book → IsBookOf other also → book ≡ also
one-book-of law file None book also e h k = let here = rw e at h in here ∙ sym k
one-book-of law file (Some text) book also e h k = let here = rw e at h in law text book also here k

through : {A B C : Type 0} → A ↔ B → C ↔ B → A ↔ C
through f g = (λ a. g.1 (f.0 a), λ c. f.1 (g.0 c))

-- two trees that are mended alike are one
pub mended-same : (tree : Tree) (text : List ℕ) (book : List Record) (one other : Tree) → IsMended tree text book one → IsMended tree text book other → one ≡ other
mended-same tree text book one other is also =
    one_sorted one other is.is_tree.sorted also.is_tree.sorted (λ p.
    let dirs = through (is.directories p) (also.directories p) in
    elim (cases_Bool (bytes_eq p book_path)) [
      | inl at ↦
          let path = same_path p book_path at in
          same-node (node_at one p) (node_at other p) dirs (ap (file_at one) path ∙ is.has_book ∙ sym also.has_book ∙ ap (file_at other) (sym path))
      | inr no_book ↦
          let n : p ≢ book_path = λ e. (let bad : true ≡ false = sym ((bytes_eq-Decides p book_path).1 e) ∙ no_book in apart cc) in
          elim (cases_Bool (is_own text p)) [
            | inl own ↦ same-node (node_at one p) (node_at other p) dirs (is.own p n own ∙ sym (also.own p n own))
            | inr m ↦ is.others p n m ∙ sym (also.others p n m)
          ]
    ])

module _ (law : OneBook) (tree one other : Tree) where
  recovered-same : (text : List ℕ) → IsRecoveredTree tree text one → IsRecoveredTree tree text other → one ≡ other
  recovered-same text is also =
      let journal = law text is.journal also.journal is.is_journal also.is_journal in
      let old = one-book-of law (file_at tree book_path) (file_at tree book_path) is.old also.old refl is.is_old also.is_old in
      let recovered : IsRecovered tree also.journal also.old is.book =
      subst (λ (o : List Record). IsRecovered tree also.journal o is.book) old (subst (λ (j : List Record). IsRecovered tree j is.old is.book) journal is.recovered) in
      let book = one-recovered tree also.journal also.old is.book also.book recovered also.recovered in
      let mended : IsMended tree text also.book one = subst (λ (b : List Record). IsMended tree text b one) book is.is_mended in
      mended-same tree text also.book one other mended also.is_mended

  -- a whole journal with a place to go isn't passed over
  pub never-both : (text : List ℕ) (mended : Tree) → IsRecoveredTree tree text mended → IsPassedOver tree text → ⊥
  never-both text mended is (inl no_book) = no_book is.journal is.is_journal
  never-both text mended is (inr directory) = is.place directory

  mended-by : (file : Option (List ℕ)) →
      MatchOption file (one ≡ tree) (λ text. IsRecoveredTree tree text one ⊎ (IsPassedOver tree text × (one ≡ without tree (journal_path ∷ [])))) →
      MatchOption file (other ≡ tree) (λ text. IsRecoveredTree tree text other ⊎ (IsPassedOver tree text × (other ≡ without tree (journal_path ∷ [])))) →
      one ≡ other
  mended-by None h k = h ∙ sym k
  mended-by (Some text) (inl is) (inl also) = recovered-same text is also
  mended-by (Some text) (inl is) (inr also) = absurd (never-both text one is also.0)
  mended-by (Some text) (inr is) (inl also) = absurd (never-both text other also is.0)
  mended-by (Some text) (inr is) (inr also) = is.1 ∙ sym also.1

  pub mended-once : MendsTo tree one → MendsTo tree other → one ≡ other
  mended-once h k = mended-by (file_at tree journal_path) h k

-- ---- where the old book has a fault

abbrev pub NoFault : Type 0
NoFault = (text : List ℕ) (book : List Record) (n : ℕ) → IsText text book → IsRefused text n → ⊥

refused-book : NoFault → (file : Option (List ℕ)) (text : List ℕ) (n : ℕ) (old : List Record) → file ≡ Some text → IsRefused text n → IsBookOf file old → ⊥
refused-book law file text n old e refused is = let here : IsText text old = rw e at is in law text old n here refused

-- a tree with a whole journal isn't mended
pub none-refused : NoFault → (tree : Tree) (text : List ℕ) (journal : List Record) (fault : BookFault) → file_at tree journal_path ≡ Some text → IsText text journal → node_at tree book_path ≢ Some Directory → RefusesBook fault tree → HasNoMended fault tree
none-refused law tree text journal Memory e is_journal place refused = tt
none-refused law tree text journal (Line n) e is_journal place refused = λ mended mends.
    (let found : IsRecoveredTree tree text mended ⊎ (IsPassedOver tree text × (mended ≡ without tree (journal_path ∷ []))) = rw e at mends in
    elim found [
      | inl is ↦ refused-book law (file_at tree book_path) refused.0 n is.old refused.1 refused.2 is.is_old
      | inr over ↦ elim over.0 [ inl no_book ↦ no_book journal is_journal | inr directory ↦ place directory ]
    ])

-- Recovering again comes to the same book.
use Rattle.std.proofs.Common.{◌≡◌, ℕ, true, ◌⊎◌, inl, inr, List, Some, None, refl, sym, ap, ◌∙◌}
use Rattle.std.specs.Option.{option_eq, option_or}
use Rattle.std.specs.Prelude.{Contains, if◌then◌else◌, option_and_then}
use Rattle.std.specs.Str.{bytes_eq}
use Rattle.redo_path.proofs.ApartLemmas.{apart}
use Rattle.redo_digest.specs.Digest.{state_of}
use Rattle.redo_tree.specs.Tree.{Tree, file_at}
use Rattle.redo_book.specs.Book.{IsBook, Record, record_at}
use Rattle.redo_past.proofs.CarryLemmas.{found-item}
use Rattle.redo_past.proofs.ItemLemmas.{IsItem, item-contained}
use Rattle.redo_mend.specs.Recovered.{IsRecovered, recovered_at, said_at}
use Rattle.redo_mend.proofs.SaidLemmas.{is_as_said, key, recovered-is, said-found, said-is}

-- ---- where the files are the same

-- a book says the same of a tree in which the files that it tells of are the same
said-same-files : (tree now : Tree) (book : List Record) → ((r : Record) → IsItem book r → file_at now r.target ≡ file_at tree r.target) → (p : List ℕ) → said_at tree book p ≡ said_at now book p
said-same-files tree now book same p =
    (elim (record_at book p) as (λ o. record_at book p ≡ o → option_and_then (λ (q : Record). if is_as_said tree q then Some q else None) o ≡ option_and_then (λ (q : Record). if is_as_said now q then Some q else None) o) [
      | None ↦ λ e. refl
      | Some r ↦ λ e.
          let found = found-item key book p r e in
          let said : is_as_said tree r ≡ is_as_said now r = ap (λ f. option_eq bytes_eq (state_of f) r.state) (sym (same r found.0)) in
          ap (λ b. if b then Some r else None) said
    ]) refl

pub recovered-same-files : (tree now : Tree) (journal old book : List Record) → IsRecovered tree journal old book → ((r : Record) → IsItem journal r → file_at now r.target ≡ file_at tree r.target) → ((r : Record) → IsItem old r → file_at now r.target ≡ file_at tree r.target) → IsRecovered now journal old book
recovered-same-files tree now journal old book is here there = record {
  ordered = is.ordered;
  records = λ p. is.records p ∙ (λ i. option_or (said-same-files tree now journal here p i) (said-same-files tree now old there p i));
}

-- ---- once more

module _ (tree now : Tree) (journal old book : List Record) (jb : IsBook journal) (ob : IsBook old) (is : IsRecovered tree journal old book) (same : (r : Record) → Contains journal r ⊎ Contains old r → file_at now r.target ≡ file_at tree r.target) where
  abbrev Of : Record → Type 0
  Of r = IsItem journal r ⊎ IsItem old r

  still : (r : Record) → Of r → is_as_said now r ≡ is_as_said tree r
  still r of =
      let file : file_at now r.target ≡ file_at tree r.target = elim of [ inl j ↦ same r (inl (item-contained journal r j)) | inr o ↦ same r (inr (item-contained old r o)) ] in
      ap (λ f. option_eq bytes_eq (state_of f) r.state) file

  -- the journal says the same
  said-still : (p : List ℕ) (r : Record) → said_at tree journal p ≡ Some r → said_at now journal p ≡ Some r
  said-still p r e =
      let h = said-is tree journal p r e in
      said-found now journal p r jb.sorted (record { item = h.item; at = h.at; as_said = still r (inl h.item) ∙ h.as_said })

  said-before : (p : List ℕ) (r : Record) → said_at now journal p ≡ Some r → said_at tree journal p ≡ Some r
  said-before p r e =
      let h = said-is now journal p r e in
      said-found tree journal p r jb.sorted (record { item = h.item; at = h.at; as_said = sym (still r (inl h.item)) ∙ h.as_said })

  -- whatever is recovered is said by the new old book
  said-new : (p : List ℕ) (r : Record) → recovered_at tree journal old p ≡ Some r → said_at now book p ≡ Some r
  said-new p r e =
      let at : record_at book p ≡ Some r = is.records p ∙ e in
      let found = found-item key book p r at in
      let as_said : is_as_said now r ≡ true = elim (recovered-is tree journal old p r e) [
        | inl j ↦ let h = said-is tree journal p r j in still r (inl h.item) ∙ h.as_said
        | inr o ↦ let h = said-is tree old p r o in still r (inr h.item) ∙ h.as_said
      ] in
      said-found now book p r is.ordered.sorted (record { item = found.0; at = found.1; as_said = as_said })

  none-new : (p : List ℕ) → recovered_at tree journal old p ≡ None → said_at now book p ≡ None
  none-new p none =
      let at : record_at book p ≡ None = is.records p ∙ none in
      rw at refl

  again-at : (p : List ℕ) → recovered_at tree journal old p ≡ recovered_at now journal book p
  again-at p =
      (elim (said_at tree journal p) as (λ o. said_at tree journal p ≡ o → option_or o (said_at tree old p) ≡ recovered_at now journal book p) [
        | Some r ↦ λ e. let now_said = said-still p r e in rw now_said refl
        | None ↦ λ none.
            let now_none : said_at now journal p ≡ None = (elim (said_at now journal p) as (λ u. said_at now journal p ≡ u → u ≡ None) [
              | None ↦ λ f. refl
              | Some x ↦ λ f. let bad : None ≡ Some x = sym none ∙ said-before p x f in apart cc
            ]) refl in
            (elim (said_at tree old p) as (λ v. said_at tree old p ≡ v → v ≡ recovered_at now journal book p) [
              | Some r ↦ λ e.
                  let was : recovered_at tree journal old p ≡ Some r = rw none e in
                  let new = said-new p r was in
                  rw (now_none, new) refl
              | None ↦ λ e.
                  let was : recovered_at tree journal old p ≡ None = rw none e in
                  let new = none-new p was in
                  rw (now_none, new) refl
            ]) refl
      ]) refl

  pub again : IsRecovered now journal book book
  again = record { ordered = is.ordered; records = λ p. is.records p ∙ again-at p }

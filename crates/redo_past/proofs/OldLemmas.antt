-- The text of the old book: that of its records, one after another, and the end.
use Rattle.std.proofs.Common.{◌≡◌, ◌∙◌, ◌<◌, ◌+◌, ℕ, List, [], ◌∷◌, ◌++◌, Some, add-one, ap, append_assoc, drop, length, map, refl, slice_index_or, subst, sym, take}
use Rattle.std.proofs.Math.Seq.{drop-cons}
use Rattle.std.proofs.lemmas.Grind.{flat_map-append}
use Rattle.std.proofs.lemmas.List.{append_cancel_left, map-append, take_more}
use Rattle.std.specs.Prelude.{MatchOption, codes, flat_map}
use Rattle.redo_tree.specs.Tree.{file_at}
use Rattle.redo_which.specs.Candidates.{book_path}
use Rattle.redo_book.specs.declared.book.BookRecord.{BookRecord}
use Rattle.redo_book.specs.Book.{IsText, Record, book_lines, record_lines, record_of, text_of}
use Rattle.redo_past.specs.Past.{IsPast, PastView}
use Rattle.redo_past.specs.inside.Books.{BeginsWith, record_text}

pub book-text : (book : List Record) → text_of (book_lines book) ≡ flat_map record_text book ++ codes "end\n"
book-text [] = refl
book-text (r ∷ book) =
    let lines = flat_map record_lines book in
    ap text_of (append_assoc (record_lines r) lines (codes "end" ∷ []))
    ∙ flat_map-append (λ line. line ++ 10 ∷ []) (record_lines r) (lines ++ codes "end" ∷ [])
    ∙ ap (λ t. record_text r ++ t) (book-text book)
    ∙ sym (append_assoc (record_text r) (flat_map record_text book) (codes "end\n"))

-- so the file of a book begins with the texts of its records
pub file-front : (past : PastView) (text : List ℕ) → IsPast past → file_at past.tree book_path ≡ Some text → BeginsWith text (flat_map record_text past.book)
file-front past text is at =
    let told : IsText text past.book = subst (λ o. MatchOption o (past.book ≡ []) (λ t. IsText t past.book)) at is.book in
    (codes "end\n", told.whole ∙ book-text past.book)

-- ---- one record after another

-- the texts of these records
abbrev pub texts : List BookRecord → List ℕ
texts records = flat_map record_text (map record_of records)

module _ (records : List BookRecord) (i : ℕ) (r : BookRecord) (below : i < length records) (is : r ≡ slice_index_or records i r) where
  next : drop i records ≡ r ∷ drop (i + 1) records
  next = (rw add-one (drop-cons records i r below)) ∙ ap (λ q. q ∷ drop (i + 1) records) (sym is)

  split : (text : List ℕ) (begins : BeginsWith text (texts (drop i records))) → text ≡ record_text (record_of r) ++ (texts (drop (i + 1) records) ++ begins.0)
  split text begins =
      begins.1 ∙ ap (λ rs. texts rs ++ begins.0) next ∙ append_assoc (record_text (record_of r)) (texts (drop (i + 1) records)) begins.0

  pub records-more : map record_of (take (i + 1) records) ≡ map record_of (take i records) ++ record_of r ∷ []
  records-more =
      ap (map record_of) (take_more records i r below) ∙ map-append record_of (take i records) (slice_index_or records i r ∷ [])
      ∙ ap (λ q. map record_of (take i records) ++ record_of q ∷ []) (sym is)

  -- a text that begins with those of the records that are left begins with that of the first
  pub first-front : (text : List ℕ) → BeginsWith text (texts (drop i records)) → BeginsWith text (record_text (record_of r))
  first-front text begins = (texts (drop (i + 1) records) ++ begins.0, split text begins)

  -- and what follows it begins with those of the others
  pub rest-front : (text rest : List ℕ) → text ≡ record_text (record_of r) ++ rest → BeginsWith text (texts (drop i records)) → BeginsWith rest (texts (drop (i + 1) records))
  rest-front text rest cut begins =
      (begins.0, append_cancel_left (record_text (record_of r)) rest (texts (drop (i + 1) records) ++ begins.0) (sym cut ∙ split text begins))

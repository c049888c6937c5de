-- One more record of a round.
use Rattle.std.proofs.Common.{◌≡◌, ◌+◌, ◌<◌, ◌||◌, ◌++◌, ◌∷◌, [], ℕ, Bool, true, false, List, Some, refl, length, map, take, slice_get, slice_index_or}
use Rattle.std.proofs.lemmas.Option.{slice_get_read}
use Rattle.redo_book.specs.declared.book.BookRecord.{BookRecord}
use Rattle.redo_book.specs.Book.{record_of}
use Rattle.redo_query.proofs.PlaceLemmas.{get-map, map-more}

pub left-none : (a b : Bool) → (a || b) ≡ false → a ≡ false
left-none true b h = h
left-none false b h = refl

pub right-none : (a b : Bool) → (a || b) ≡ false → b ≡ false
right-none true b h = cc
right-none false b h = h

pub record-at : (rs : List BookRecord) (i : ℕ) (x : BookRecord) → i < length rs → x ≡ slice_index_or rs i x → slice_get (map record_of rs) i ≡ Some (record_of x)
record-at rs i x below is = get-map record_of rs i x (slice_get_read rs (length rs) i x refl below is)

pub record-more : (rs : List BookRecord) (i : ℕ) (x : BookRecord) → i < length rs → x ≡ slice_index_or rs i x → map record_of (take (i + 1) rs) ≡ map record_of (take i rs) ++ record_of x ∷ []
record-more rs i x below is = map-more record_of rs i x below is

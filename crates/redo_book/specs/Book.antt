-- Books: what became of the targets of the last run and what they depended on, and the text of a book.
use Rattle.std.specs.Prelude.{◌≡◌, ◌≢◌, ◌+◌, ◌==◌, ℕ, Bool, true, false, List, [], ◌∷◌, ◌++◌, Option, Some, None}
use Rattle.std.specs.Prelude.{◌⊎◌, MatchBool, codes, find, flat_map, length, map}
use Rattle.std.specs.Cmp.Lexicographic.{slice_cmp}
use Rattle.std.specs.List.{AllByRecursion, IsDistinct, before_first, list_any}
use Rattle.std.specs.List.Sorted.{IsStrictlySortedBy}
use Rattle.std.specs.Ordering.{nat_cmp}
use Rattle.std.specs.Str.{bytes_eq}
use Rattle.hex.specs.Hex.{encode_lower}
use Rattle.redo_digest.specs.Digest.{IsState, State}
use Rattle.redo_path.specs.Names.{IsBelowRoot, IsPath}
use Rattle.redo_book.specs.declared.book.BookRecord.{BookRecord}
use Rattle.redo_book.specs.declared.faults.BookFault.{BookFault}
use Rattle.redo_book.specs.declared.faults.BookFault.TheVariants.{Line, Memory}
use Rattle.redo_book.specs.declared.book.BookEntry.{BookEntry}
use Rattle.redo_book.specs.declared.book.BookEntry.TheVariants.{Change, Create, Always}

-- what became of a target, and what it depended on, in the order in which that was recorded
pub record Record : Type 0 where
  pub target : List ℕ
  pub state : State
  pub entries : List BookEntry

-- the record that the code stores
abbrev pub record_of : BookRecord → Record
record_of r = record { target = r.target; state = r.state; entries = r.entries.items }

-- a state's text
abbrev pub state_text : State → List ℕ
state_text None = codes "none"
state_text (Some digest) = encode_lower digest

-- an entry's line
abbrev pub entry_line : BookEntry → List ℕ
entry_line (Change state path) = codes "change " ++ state_text state ++ 32 ∷ path
entry_line (Create path) = codes "create " ++ path
entry_line Always = codes "always"

-- a target's line
abbrev pub target_line : State → List ℕ → List ℕ
target_line state target = codes "target " ++ state_text state ++ 32 ∷ target

-- a record's lines
abbrev pub record_lines : Record → List (List ℕ)
record_lines r = target_line r.state r.target ∷ map entry_line r.entries

-- a book's lines
abbrev pub book_lines : List Record → List (List ℕ)
book_lines book = flat_map record_lines book ++ codes "end" ∷ []

-- each line followed by a newline
abbrev pub text_of : List (List ℕ) → List ℕ
text_of lines = flat_map (λ line. line ++ 10 ∷ []) lines

abbrev pub IsEntry : BookEntry → Type 0
IsEntry (Change state path) = IsState state × IsBelowRoot path
IsEntry (Create path) = IsBelowRoot path
IsEntry Always = Unit {0}

-- whether two entries have the same kind and path, whatever their states
abbrev pub same_entry : BookEntry → BookEntry → Bool
same_entry (Change s p) (Change t q) = bytes_eq p q
same_entry (Create p) (Create q) = bytes_eq p q
same_entry Always Always = true
same_entry (Change s p) (Create q) = false
same_entry (Change s p) Always = false
same_entry (Create p) (Change t q) = false
same_entry (Create p) Always = false
same_entry Always (Change t q) = false
same_entry Always (Create q) = false

-- the target and each path are below the root, and no kind and path occur twice
pub record IsRecord (r : Record) : Type 0 where
  pub target : IsBelowRoot r.target
  pub state : IsState r.state
  pub entries : AllByRecursion IsEntry r.entries
  pub once : IsDistinct same_entry r.entries

abbrev pub targets_of : List Record → List (List ℕ)
targets_of book = map (λ r. r.target) book

-- the records are sorted by target, each target once
pub record IsBook (book : List Record) : Type 0 where
  pub records : AllByRecursion IsRecord book
  pub sorted : IsStrictlySortedBy (slice_cmp nat_cmp) (targets_of book)

-- the text is that of the book
pub record IsText (text : List ℕ) (book : List Record) : Type 0 where
  pub ordered : IsBook book
  pub whole : text ≡ text_of (book_lines book)

-- some book's text begins with these lines
abbrev pub Begins : List (List ℕ) → Type 0
Begins lines = (book : List Record) × (rest : List ℕ) × IsText (text_of lines ++ rest) book

abbrev pub is_newline : ℕ → Bool
is_newline byte = byte == 10

-- line n is the first at fault: some book's text begins with the lines before it, but none with line n as well; or it
-- has no newline, and the text is no book's
pub record IsRefused (text : List ℕ) (n : ℕ) : Type 0 where
  pub lines : List (List ℕ)
  pub rest : List ℕ
  pub each : AllByRecursion (λ line. list_any is_newline line ≡ false) lines
  pub whole : text ≡ text_of lines ++ rest
  pub number : n ≡ length lines + 1
  pub begins : Begins lines
  pub fault : MatchBool (list_any is_newline rest) (Begins (lines ++ before_first is_newline rest ∷ []) → ⊥)
      ((book : List Record) → IsText text book → ⊥)

-- the text is a book's, or has a first line at fault
abbrev pub IsTextOrRefused : List ℕ → Type 0
IsTextOrRefused text = ((book : List Record) × IsText text book) ⊎ ((n : ℕ) × IsRefused text n)

-- the record of a target, if there is one
abbrev pub record_at : List Record → List ℕ → Option Record
record_at book path = find (λ r. bytes_eq r.target path) book

-- the text is refused by its first line at fault, unless memory ran out
abbrev pub Refuses : BookFault → List ℕ → Type 0
Refuses (Line n) text = IsRefused text n
Refuses Memory text = Unit {0}

-- a text that is refused is no book's, unless memory ran out
abbrev pub RefusesAll : BookFault → List ℕ → Type 0
RefusesAll (Line n) text = (book : List Record) → IsText text book → ⊥
RefusesAll Memory text = Unit {0}

-- The result of each step of reading a book.
use Rattle.std.specs.Prelude.{◌≡◌, ℕ, Bool, true, not, List, [], ◌∷◌, ◌++◌, Option, Some, None, Result, Ok, Err, codes}
use Rattle.std.specs.Prelude.{false, take, drop, option_map, option_and_then, if◌then◌else◌, filter_map, length, map}
use Rattle.std.specs.Prelude.{◌+◌}
use Rattle.std.specs.Cmp.Lexicographic.{slice_cmp}
use Rattle.std.specs.List.{AllByRecursion, list_any}
use Rattle.std.specs.Option.{option_to_list}
use Rattle.std.specs.Ordering.{is_lt, nat_cmp}
use Rattle.std.specs.Result.{result_ok}
use Rattle.std.specs.Str.{bytes_eq}
use Rattle.redo_digest.specs.Digest.{State, digest_of}
use Rattle.redo_path.specs.Resolve.{resolved}
use Rattle.redo_record.specs.declared.deps.Dep.{Dep}
use Rattle.redo_record.specs.declared.deps.DepKind.TheVariants as kinds
use Rattle.redo_book.specs.declared.book.BookEntry.{BookEntry}
use Rattle.redo_book.specs.declared.book.BookEntry.TheVariants.{Change, Create, Always}
use Rattle.redo_book.specs.declared.faults.BookFault.{BookFault}
use Rattle.redo_book.specs.declared.faults.BookFault.TheVariants.{Line as LineAt, Memory}
use Rattle.redo_book.specs.declared.made.Made.{Made as MadeHere}
use Rattle.redo_book.specs.declared.made.Last.{Last}
use Rattle.redo_book.specs.declared.lines.Line.{Line}
use Rattle.redo_book.specs.declared.lines.Line.TheVariants.{Target, Entry}
use Rattle.redo_book.specs.Book.{Record, is_newline, record_of, same_entry, text_of}

-- the value, if this is true
abbrev pub only_if : {A : Type 0} → Bool → A → Option A
only_if b x = if b then Some x else None

-- the path below the root with this text
abbrev pub place_of : List ℕ → Option (List ℕ)
place_of word = option_and_then (λ path. only_if (bytes_eq path word) path) (result_ok (resolved [] word))

-- the state after the first word of a line, and the word after the state
abbrev pub split_state : List ℕ → Option (State × List ℕ)
split_state words =
    if bytes_eq (take 5 words) (codes "none ") then Some (None, drop 5 words) else
    if bytes_eq (take 1 (drop 64 words)) (codes " ")
    then option_map (λ digest. (Some digest, drop 65 words)) (digest_of (take 64 words))
    else None

-- the state and the path after the first word of a line
abbrev pub stated : List ℕ → Option (State × List ℕ)
stated words = option_and_then (λ s. option_map (λ path. (s.0, path)) (place_of s.1)) (split_state words)

-- what a line says
abbrev pub line_of : List ℕ → Option Line
line_of line =
    if bytes_eq (take 7 line) (codes "target ") then option_map (λ s. Target s.0 s.1) (stated (drop 7 line)) else
    if bytes_eq (take 7 line) (codes "change ")
    then option_map (λ s. Entry (Change s.0 s.1)) (stated (drop 7 line)) else
    if bytes_eq (take 7 line) (codes "create ") then option_map (λ p. Entry (Create p)) (place_of (drop 7 line)) else
    if bytes_eq line (codes "always") then Some (Entry Always) else None

-- what the lines so far have made: the complete records, and the one that may get more entries
pub record Made : Type 0 where
  pub done : List Record
  pub last : Option Record

abbrev pub at_first : Made
at_first = record { done = []; last = None }

abbrev pub records_of : Made → List Record
records_of b = b.done ++ option_to_list b.last

-- whether a record of this target may come next
abbrev pub may_follow : Option Record → List ℕ → Bool
may_follow None target = true
may_follow (Some r) target = is_lt (slice_cmp nat_cmp r.target target)

-- something exactly if the entry is new
abbrev pub new_entry : List BookEntry → BookEntry → Option (Unit {0})
new_entry es e = only_if (not (list_any (same_entry e) es)) tt

-- the record with one more entry, if that is new
abbrev pub with_entry : Record → BookEntry → Option Record
with_entry r e =
    only_if (not (list_any (same_entry e) r.entries))
    (record { target = r.target; state = r.state; entries = r.entries ++ e ∷ [] })

-- what the lines make with one more, if it may come there
abbrev pub with_line : Made → Line → Option Made
with_line b (Target state target) =
    only_if (may_follow b.last target)
    (record { done = records_of b; last = Some (record { target = target; state = state; entries = [] }) })
with_line b (Entry e) =
    option_and_then (λ r. option_map (λ s. record { done = b.done; last = Some s }) (with_entry r e)) b.last

-- the same for a line's text
abbrev pub next : Made → List ℕ → Option Made
next b line = option_and_then (λ l. with_line b l) (line_of line)

-- what lines make, one after another
abbrev pub run : Made → List (List ℕ) → Option Made
run b [] = Some b
run b (line ∷ lines) = option_and_then (λ c. run c lines) (next b line)

-- a step found this, or found the line at fault, unless memory ran out
abbrev pub Finds : {A : Type 0} → ℕ → Result A BookFault → Option A → Type 0
Finds n (Ok x) meant = meant ≡ Some x
Finds n (Err Memory) meant = Unit {0}
Finds n (Err (LineAt m)) meant = (m ≡ n) × (meant ≡ None)

-- a step made this as expected, or found the line at fault, unless memory ran out
abbrev pub Makes : {A B : Type 0} → ℕ → Result A BookFault → Option B → B → Type 0
Makes n (Ok x) meant new = meant ≡ Some new
Makes n (Err Memory) meant new = Unit {0}
Makes n (Err (LineAt m)) meant new = (m ≡ n) × (meant ≡ None)

-- the dependency of an entry; `always` has none
abbrev pub dep_of : BookEntry → Option Dep
dep_of (Change state path) = Some (record { kind = kinds.Change; path = path })
dep_of (Create path) = Some (record { kind = kinds.Create; path = path })
dep_of Always = None

abbrev pub deps_of : List BookEntry → List Dep
deps_of entries = filter_map dep_of entries

-- the code looks entries up among these
abbrev pub Keeps : Last → List BookEntry → Type 0
Keeps l entries = (l.deps ≡ deps_of entries) × (l.always ≡ list_any (same_entry Always) entries)

-- the same for the entries of the record that may get more
abbrev pub IsKept : Last → Type 0
IsKept l = Keeps l l.book_record.entries.items

-- what the lines have made, from the code's value
abbrev pub made_of : MadeHere → Made
made_of b = record { done = map record_of b.done.items; last = option_map (λ l. record_of l.book_record) b.last }

-- a text is this line, a newline and the rest
pub record IsCut (text line rest : List ℕ) : Type 0 where
  pub whole : text ≡ line ++ 10 ∷ rest
  pub one : list_any is_newline line ≡ false

-- the lines of the text before line n made this, and the rest is left
pub record Reached (text : List ℕ) (b : Made) (n : ℕ) (rest : List ℕ) : Type 0 where
  pub lines : List (List ℕ)
  pub each : AllByRecursion (λ line. list_any is_newline line ≡ false) lines
  pub whole : text ≡ text_of lines ++ rest
  pub number : n ≡ length lines + 1
  pub made : run at_first lines ≡ Some b

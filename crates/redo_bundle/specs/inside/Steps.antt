-- The result of each step of reading a bundle.
use Rattle.std.specs.Prelude.{◌≡◌, ◌≤◌, ℕ, Bool, true, false, List, [], ◌∷◌, length, slice_index, nat_lt, nat_le, not}
use Rattle.std.specs.Prelude.{◌++◌, option_map, Option, Some, None, Result, Ok, Err, codes, decimal, IfSome}
use Rattle.std.specs.Prelude.{if◌then◌else◌}
use Rattle.std.specs.List.{before_first, after_first, list_any}
use Rattle.std.specs.Io.KnownBytes.{Consumes}
use Rattle.redo_bundle.specs.declared.faults.WriteFault.{WriteFault}
use Rattle.redo_bundle.specs.declared.faults.WriteFault.TheVariants as write
use Rattle.redo_tree.specs.declared.faults.TreeFault.{TreeFault}
use Rattle.redo_tree.specs.declared.faults.TreeFault.TheVariants as tree
use Rattle.redo_tree.specs.Tree.{Node, Directory, File, Tree, added}
use Rattle.redo_bundle.specs.declared.faults.BundleFault.{BundleFault}
use Rattle.redo_bundle.specs.declared.faults.BundleFault.TheVariants.{Line, Tree as TreeAt, Truncated, Read, Memory}
use Rattle.redo_bundle.specs.Bundle.{IsEntry, IsHeader, is_newline, is_space, size_of, spelling}

-- a step reported that the reader failed
abbrev pub is_read : {A : Type 0} → Result A BundleFault → Bool
is_read (Ok x) = false
is_read (Err Read) = true
is_read (Err fault) = false

-- a step found no fault, or this one, unless reading or memory failed
abbrev pub Finds : {A : Type 0} → Result A BundleFault → Option BundleFault → Type 0
Finds (Ok x) found = found ≡ None
Finds (Err Read) found = Unit {0}
Finds (Err Memory) found = Unit {0}
Finds (Err fault) found = found ≡ Some fault

-- a fault that a step reported is what is wrong with the bytes that were left, if they are known
abbrev pub Refuses : {A : Type 0} → Result A BundleFault → Option (List ℕ) → (List ℕ → Option BundleFault) → Type 0
Refuses (Ok x) left meant = Unit {0}
Refuses (Err Read) left meant = Unit {0}
Refuses (Err Memory) left meant = Unit {0}
Refuses (Err fault) left meant = IfSome left (λ text. meant text ≡ Some fault)

-- after a refusal this is the header line of what was left, where that is known
abbrev pub Shows : {A : Type 0} → Result A BundleFault → Option (List ℕ) → List ℕ → Type 0
Shows (Ok x) left line = Unit {0}
Shows (Err Read) left line = Unit {0}
Shows (Err Memory) left line = Unit {0}
Shows (Err fault) left line = IfSome left (λ text. IsHeader text line)

-- a header line, without its newline
pub record IsLine (line : List ℕ) : Type 0 where
  pub one : list_any is_newline line ≡ false
  pub short : length line ≤ 1100

-- why a header line isn't read, if it isn't
abbrev pub line_fault : ℕ → List ℕ → Option BundleFault
line_fault n text =
    if nat_lt 1100 (length (before_first is_newline text)) then Some (Line n) else
    if not (list_any is_newline text) then Some Truncated else None

-- why `size` bytes aren't read, if they aren't
abbrev pub size_fault : ℕ → List ℕ → Option BundleFault
size_fault size text = if nat_lt (length text) size then Some Truncated else None

-- why a newline isn't read, if it isn't
abbrev pub newline_fault : ℕ → List ℕ → Option BundleFault
newline_fault n [] = Some Truncated
newline_fault n (byte ∷ bytes) = if is_newline byte then None else Some (Line n)

-- why a file's bytes and the newline after them aren't read, if they aren't
abbrev pub file_fault : ℕ → ℕ → List ℕ → Option BundleFault
file_fault n size text =
    if nat_le (length text) size then Some Truncated else
    if is_newline (slice_index text size) then None else Some (Line n)

-- the size and the path after the first word of a file's header
abbrev pub words_of : List ℕ → Option (ℕ × List ℕ)
words_of words =
    if list_any is_space words
    then option_map (λ size. (size, after_first is_space words)) (size_of (before_first is_space words))
    else None

-- a file of this size was read and added
abbrev pub AddsFile : Tree → Tree → List ℕ → ℕ → Option (List ℕ) → Option (List ℕ) → Type 0
AddsFile old new path size before after =
    (bytes : List ℕ) × (length bytes ≡ size) × (added old path (File bytes) ≡ Ok new) ×
    Consumes before after (bytes ++ 10 ∷ [])

-- what follows this header line was read, and the entry was added
abbrev pub AddsEntry : Tree → Tree → List ℕ → Option (List ℕ) → Option (List ℕ) → Type 0
AddsEntry old new line before after =
    (e : List ℕ × Node) × IsEntry e × (added old e.0 e.1 ≡ Ok new) × (rest : List ℕ) ×
    (spelling e ≡ line ++ 10 ∷ rest) × Consumes before after rest

-- an entry was read and added
abbrev pub AddsNext : Tree → Tree → Option (List ℕ) → Option (List ℕ) → Type 0
AddsNext old new before after =
    (e : List ℕ × Node) × IsEntry e × (added old e.0 e.1 ≡ Ok new) × Consumes before after (spelling e)

-- the tree's result as a result for entry n
abbrev pub told : ℕ → Result (Unit {0}) TreeFault → Result (Unit {0}) BundleFault
told n (Ok x) = Ok x
told n (Err tree.Memory) = Err Memory
told n (Err fault) = Err (TreeAt n fault)

-- a step reported that the writer failed
abbrev pub is_device : {A : Type 0} → Result A WriteFault → Bool
is_device (Ok x) = false
is_device (Err write.Device) = true
is_device (Err write.Memory) = false

-- the header line of an entry, with its newline
abbrev pub header_bytes : List ℕ × Node → List ℕ
header_bytes e = elim e.1 [
  | Directory ↦ codes "dir " ++ e.0 ++ 10 ∷ []
  | File bytes ↦ codes "file " ++ decimal (length bytes) ++ 32 ∷ e.0 ++ 10 ∷ []
]

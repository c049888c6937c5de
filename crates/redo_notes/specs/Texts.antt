-- What is printed of notes.
use Rattle.std.specs.Prelude.{◌-◌, ◌==◌, ◌++◌, Bool, true, false, ℕ, List, [], ◌∷◌, codes, decimal, flat_map, if◌then◌else◌, length, take}
use Rattle.redo_notes.specs.declared.kinds.Notes.{Notes}
use Rattle.redo_notes.specs.declared.kinds.Unbuilt.{Unbuilt}

-- what the book tells of a source that has a rule
abbrev pub known_words : Bool → List ℕ
known_words true = codes ": it isn't as the last run left it"
known_words false = codes ": the book has no record of it"

-- a source that has a rule, and what the book tells of it
abbrev pub known_text : Unbuilt → List ℕ
known_text note = note.path ++ known_words note.recorded

-- what that means, and what to do
abbrev pub help_text : Unbuilt → List ℕ
help_text note =
    codes ", so it counts as yours and isn't built; remove it, or build with --take, to have " ++ note.do_file ++ codes " make it\n"

-- the line of a source that has a rule
abbrev pub unbuilt_line : Unbuilt → List ℕ
unbuilt_line note = known_text note ++ help_text note

-- the line of a path
abbrev pub shadowed_line : List ℕ → List ℕ
shadowed_line path = path ++ 10 ∷ []

-- the line of a target that was built without a file
abbrev pub unmade_line : List ℕ → List ℕ
unmade_line path =
    path ++ codes ": it was built without a file now, but the file of an earlier run stays; remove it, or it counts as yours from the next run on\n"

-- the line of a target without a rule
abbrev pub ruleless_line : List ℕ → List ℕ
ruleless_line path =
    path ++ codes ": no rule makes it any more, and its file stays; remove it, or it counts as yours from the next run on\n"

-- how many more there are, if any
abbrev pub more_line : ℕ → List ℕ
more_line count = if count == 0 then [] else codes "and " ++ decimal count ++ codes " more like it\n"

-- the lines of at most so many of these, and how many more there are
abbrev pub some_lines : {A : Type 0} → (A → List ℕ) → ℕ → List A → List ℕ
some_lines line most notes = flat_map line (take most notes) ++ more_line (length notes - most)

-- the lines of notes, at most so many of each kind
abbrev pub note_lines : Notes → ℕ → List ℕ
note_lines notes most =
    some_lines unbuilt_line most notes.unbuilt.items ++ some_lines unmade_line most notes.unmade.items
    ++ some_lines ruleless_line most notes.ruleless.items

-- Why a script was begun, in words.
use Rattle.std.specs.Prelude.{ℕ, List, [], ◌∷◌, ◌++◌, codes}
use Rattle.redo_book.specs.declared.book.BookEntry.{BookEntry}
use Rattle.redo_book.specs.declared.book.BookEntry.TheVariants.{Change, Create, Always}
use Rattle.redo_which.specs.Rule.{Found, Source, Directory, NoDirectory, NoRule, Rule}
use Rattle.redo_why.specs.Reasons.{Reason, Requested, Unrecorded, Altered, Fallen}

-- of a path that isn't as it was recorded: if it is no source and has no rule, it isn't there any more; else it has
-- changed
abbrev pub change_words : Found → List ℕ
change_words Source = codes " has changed"
change_words Directory = codes " isn't there any more as it was recorded"
change_words NoDirectory = codes " isn't there any more as it was recorded"
change_words (NoRule missing) = codes " isn't there any more as it was recorded"
change_words (Rule do_file missing arguments) = codes " has changed"

-- of a path where nothing was: something is there, or a rule makes it
abbrev pub create_words : Found → List ℕ
create_words Source = codes ", which was missing, is there now"
create_words Directory = codes ", which was missing, is there now"
create_words NoDirectory = codes ", which was missing, is there now"
create_words (NoRule missing) = codes ", which was missing, is there now"
create_words (Rule do_file missing arguments) = codes ", which was missing, has a rule now"

-- why an entry fell, by what is found at its path now
abbrev pub entry_words : (List ℕ → Found) → BookEntry → List ℕ
entry_words found (Change state path) = path ++ change_words (found path)
entry_words found (Create path) = path ++ create_words (found path)
entry_words found Always = codes "it is made in each run"

-- a reason; where a target with a rule isn't as the last run left it, its file is gone
abbrev pub reason_words : (List ℕ → Found) → Reason → List ℕ
reason_words found Requested = codes "it was requested"
reason_words found Unrecorded = codes "the book has no record of it"
reason_words found Altered = codes "its file is gone"
reason_words found (Fallen entry) = entry_words found entry

-- the line of a begun script
abbrev pub reason_line : (List ℕ → Found) → List ℕ × Reason → List ℕ
reason_line found begun = codes "begun " ++ begun.0 ++ codes ": " ++ reason_words found begun.1 ++ 10 ∷ []

-- A list of targets that are out of date, and its text.
use Rattle.std.specs.Prelude.{ℕ, List, [], ◌∷◌, ◌++◌, codes, flat_map}
use Rattle.redo_list.specs.declared.listed.Listed.{Listed}
use Rattle.redo_list.specs.declared.listed.State.{State}
use Rattle.redo_list.specs.declared.listed.State.TheVariants as states

-- a target in a list
pub record ListedView : Type 0 where
  pub target : List ℕ
  pub state : State
  -- why it is listed, in words
  pub why : List ℕ

abbrev pub listed_view : Listed → ListedView
listed_view listed = record { target = listed.target; state = listed.state; why = listed.why.items }

-- the word for a state
abbrev pub state_word : State → List ℕ
state_word states.Stale = codes "stale"
state_word states.Maybe = codes "maybe"
state_word states.Ring = codes "ring"
state_word states.Lost = codes "lost"
state_word states.New = codes "new"
state_word states.Unknown = codes "unknown"

-- the line of a target
abbrev pub line_of : ListedView → List ℕ
line_of listed = state_word listed.state ++ 32 ∷ listed.target ++ codes ": " ++ listed.why ++ 10 ∷ []

-- a line for each target
abbrev pub list_text : List ListedView → List ℕ
list_text listed = flat_map line_of listed

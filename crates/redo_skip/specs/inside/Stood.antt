-- The entries of a record, as far as a check has gone over them.
use Rattle.std.specs.Prelude.{◌≡◌, ◌<◌, ◌≤◌, ℕ, List, Some, flat_map, length, slice_get}
use Rattle.redo_book.specs.declared.book.BookEntry.{BookEntry}
use Rattle.redo_build.specs.Rules.{Ask}
use Rattle.redo_build.specs.Schedule.{nothing_known}
use Rattle.redo_skip.specs.Checks.{asks, standing, stands}
use Rattle.redo_skip.specs.Sources.{Sources}

-- the paths that entries ask for
abbrev pub asked_by : Sources → List BookEntry → List (List ℕ)
asked_by s es = flat_map (asks s) es

-- the entries from one index up to another stand without any answer
abbrev pub StandAlone : Sources → List BookEntry → ℕ → ℕ → Type 0
StandAlone s es from to =
    (k : ℕ) (e : BookEntry) → from ≤ k → k < to → slice_get es k ≡ Some e → standing s nothing_known e ≡ stands

-- the first n entries stand, given these answers
pub record HaveStood (s : Sources) (a : Ask) (es : List BookEntry) (n : ℕ) : Type 0 where
  pub within : n ≤ length es
  pub each : (k : ℕ) (e : BookEntry) → k < n → slice_get es k ≡ Some e → standing s a e ≡ stands

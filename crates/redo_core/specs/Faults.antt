-- What a refused piece leaves.
use Rattle.std.specs.Prelude.{◌≡◌, Some, MatchOption}
use Rattle.redo_build.specs.Outcomes.{IsTooMany}
use Rattle.redo_build.specs.Schedule.{IsOutAt}
use Rattle.redo_core.specs.Views.{BoardView, PieceView, limit_on, request_on, rules_on}
use Rattle.redo_core.specs.declared.board.Stop.{Stop}
use Rattle.redo_core.specs.declared.board.Stop.TheVariants.{TooMany as Stopped_at_limit, Memory as Stopped_for_memory}
use Rattle.redo_core.specs.declared.opening.OpenFault.{OpenFault}
use Rattle.redo_core.specs.declared.opening.OpenFault.TheVariants.{Book as Opened_without_book}
use Rattle.redo_core.specs.declared.opening.OpenFault.TheVariants.{TooMany as Opened_too_many}
use Rattle.redo_core.specs.declared.opening.OpenFault.TheVariants.{Memory as Opened_without_memory}
use Rattle.redo_book.specs.declared.faults.BookFault.{BookFault}
use Rattle.redo_book.specs.declared.faults.BookFault.TheVariants as books
use Rattle.redo_core.specs.declared.board.HandFault.{HandFault}
use Rattle.redo_core.specs.declared.board.HandFault.TheVariants.{Stranger, TooMany, Memory}

-- the fault of a hand-in to a board that has stopped
abbrev pub fault_of : Stop → HandFault
fault_of Stopped_at_limit = TooMany
fault_of Stopped_for_memory = Memory

-- why no board was opened
abbrev pub opening_fault_of : Stop → OpenFault
opening_fault_of Stopped_at_limit = Opened_too_many
opening_fault_of Stopped_for_memory = Opened_without_memory

-- why no build was opened, if the tree has no past
abbrev pub past_fault_of : BookFault → OpenFault
past_fault_of (books.Line line) = Opened_without_book line
past_fault_of books.Memory = Opened_without_memory

-- the board is of the same build
abbrev pub IsSameBuild : BoardView → BoardView → Type 0
IsSameBuild old new = new.given ≡ old.given

-- a board that ran: a piece is a stranger exactly if its target isn't out at its turn; it comes back and changes
-- nothing. After any other fault the board has stopped
abbrev pub RefusedRunning : BoardView → BoardView → PieceView → HandFault → Type 0
RefusedRunning old new piece (Stranger back) =
    (back ≡ piece) × (new ≡ old) × (IsOutAt old.state piece.target piece.turn → ⊥)
RefusedRunning old new piece TooMany =
    IsSameBuild old new × (new.stopped ≡ Some Stopped_at_limit) ×
    IsTooMany (rules_on old) (request_on old) (limit_on old) × IsOutAt old.state piece.target piece.turn
RefusedRunning old new piece Memory =
    IsSameBuild old new × (new.stopped ≡ Some Stopped_for_memory) × IsOutAt old.state piece.target piece.turn

-- a board that had stopped says why, and stays as it was
abbrev pub Refused : BoardView → BoardView → PieceView → HandFault → Type 0
Refused old new piece fault =
    MatchOption old.stopped (RefusedRunning old new piece fault) (λ stop. (fault ≡ fault_of stop) × (new ≡ old))

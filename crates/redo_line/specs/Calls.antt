-- What a call of the program asks for.
use Rattle.std.specs.Prelude.{◌<◌, ◌≤◌, ◌||◌, ℕ, Bool, nat_eq}
use Rattle.redo_line.specs.declared.actions.Action.{Action}
use Rattle.redo_line.specs.declared.actions.Action.TheVariants.{Build, Whichdo, Ask, OutOfDate, Shadowed, Pack, Unpack, Clean, Dead}

-- the exit statuses of a call that asks for nothing to be done: help was shown, the words are refused, the directory isn't
-- known, nothing can be written, or memory ran out
abbrev pub is_of_no_call : ℕ → Bool
is_of_no_call status =
    nat_eq status 0 || nat_eq status 2 || nat_eq status 3 || nat_eq status 5 || nat_eq status 6

-- so many threads may work side by side
abbrev pub AreWorkers : ℕ → Type 0
AreWorkers count = (0 < count) × (count ≤ 64)

-- an action that may start threads says how many
abbrev pub HasWorkers : Action → Type 0
HasWorkers (Build build) = AreWorkers build.workers
HasWorkers (Whichdo target input) = Unit {0}
HasWorkers (Ask query) = AreWorkers query.workers
HasWorkers (OutOfDate listing) = AreWorkers listing.workers
HasWorkers (Shadowed shadows) = AreWorkers shadows.workers
HasWorkers (Pack packing) = AreWorkers packing.workers
HasWorkers (Unpack dir) = Unit {0}
HasWorkers (Clean cleaning) = AreWorkers cleaning.workers
HasWorkers (Dead dead) = AreWorkers dead.build.workers

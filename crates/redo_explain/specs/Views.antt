-- Values of the program as the definitions see them.
use Rattle.std.specs.Prelude.{ℕ, List}
use Rattle.redo_explain.specs.declared.begun.Begun.{Begun}
use Rattle.redo_explain.specs.declared.begun.Reason.{Reason as ReasonHere}
use Rattle.redo_explain.specs.declared.begun.Reason.TheVariants as here
use Rattle.redo_why.specs.Reasons.{Reason, Requested, Unrecorded, Altered, Fallen}

abbrev pub reason_view : ReasonHere → Reason
reason_view here.Requested = Requested
reason_view here.Unrecorded = Unrecorded
reason_view here.Altered = Altered
reason_view (here.Fallen entry) = Fallen entry.now

-- the target of a begun script, and why it was begun
abbrev pub begun_view : Begun → List ℕ × Reason
begun_view b = (b.target.now, reason_view b.reason)

-- A fact for each result of trying to take a job.
use Rattle.redo_sync.specs.declared.taker.Taken.{Taken}
use Rattle.redo_sync.specs.declared.taker.Taken.TheVariants.{Job, Empty, Again}

-- one fact of the job that was taken, and another if none was
abbrev pub MatchTaken : {T : Type 0} → Taken T → (T → Type 0) → Type 0 → Type 0
MatchTaken (Job x) taken none = taken x
MatchTaken Empty taken none = none
MatchTaken Again taken none = none

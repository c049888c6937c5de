-- What an offer came to, and what a worker found.
use Rattle.std.specs.Prelude.{◌≡◌, ◌+◌}
use Rattle.redo_crew.specs.declared.counts.Step.TheVariants as words
use Rattle.redo_crew.specs.declared.lead.Offer.{Offer}
use Rattle.redo_crew.specs.declared.lead.Offer.TheVariants.{Full, Spared, Called, Hire}
use Rattle.redo_crew.specs.declared.worker.Found.{Found}
use Rattle.redo_crew.specs.declared.worker.Found.TheVariants.{Job, Nothing, End}
use Rattle.redo_crew.specs.Word.{IsOpen}
use Rattle.redo_crew.specs.Deeds.{Deeds, HasFoundNone, HasStepped, HasTaken, IsFull, seen, unstarted}
use Rattle.redo_crew.specs.Tracks.{took}

-- By what the owner did: it took the one step that the answer tells of, and rang once if that was a call. Where it took
-- none, it has seen that no job more may wait.
abbrev pub HasOffered : Offer → Deeds → Deeds → Type 0
HasOffered Full d e = IsFull d e
HasOffered Spared d e = HasStepped words.Spare d e
HasOffered Called d e =
    (e.steps ≡ took words.Call d.steps) × (e.sent ≡ d.sent + 1) × (e.heard ≡ d.heard) × IsOpen words.Call (seen e)
HasOffered (Hire looking) d e = HasStepped words.Hire d e × (looking ≡ unstarted)

-- by what the worker did
abbrev pub HasFound : Deeds → Found → Type 0
HasFound d (Job holding) = HasTaken d holding
HasFound d (Nothing looking) = HasFoundNone d looking
HasFound d (End leaving) = HasFoundNone d leaving

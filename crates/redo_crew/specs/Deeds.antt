-- What a thread of the crew has done, to the word and with the bell; and what a thread has done that is at this or that.
use Rattle.std.specs.Prelude.{◌≡◌, ℕ, ◌+◌, ◌-◌, ◌<◌, ◌≤◌, true}
use Rattle.redo_crew.specs.declared.bell.Tally.{Tally}
use Rattle.redo_crew.specs.declared.counts.Counts.{Counts}
use Rattle.redo_crew.specs.declared.counts.Step.{Step}
use Rattle.redo_crew.specs.declared.word.Steps.{Steps}
use Rattle.redo_crew.specs.declared.word.Track.{Track}
use Rattle.redo_crew.specs.Word.{HasRoom, IsOpen, counts_of}
use Rattle.redo_crew.specs.Tracks.{no_steps, took}

pub record Deeds : Type 0 where
  -- how often it took each step of the word
  pub steps : Steps
  -- how often it looked at the word, and which word it saw last
  pub looks : ℕ
  pub last : ℕ
  -- how many rings it sent, and heard
  pub sent : ℕ
  pub heard : ℕ

abbrev pub deeds : Track → Tally → Deeds
deeds t v = record { steps = t.steps; looks = t.looks; last = t.last; sent = v.sent; heard = v.heard }

-- what it saw last
abbrev pub seen : Deeds → Counts
seen d = counts_of d.last

-- a thread that has done nothing
abbrev pub unstarted : Deeds
unstarted = record { steps = no_steps; looks = 0; last = 0; sent = 0; heard = 0 }

-- a look more, at this word
abbrev pub looked : ℕ → Deeds → Deeds
looked word d = record d { looks = d.looks + 1; last = word }

-- a step more, from this word
abbrev pub stepped : Step → ℕ → Deeds → Deeds
stepped step word d = record d { steps = took step d.steps; last = word }

-- a ring more was sent, or heard
abbrev pub rung : Deeds → Deeds
rung d = record d { sent = d.sent + 1 }

abbrev pub rung_often : ℕ → Deeds → Deeds
rung_often n d = record d { sent = d.sent + n }

abbrev pub told : Deeds → Deeds
told d = record d { heard = d.heard + 1 }

-- at most looks lie between the two
abbrev pub HasOnlyLooked : Deeds → Deeds → Type 0
HasOnlyLooked d e = (e.steps ≡ d.steps) × (e.sent ≡ d.sent) × (e.heard ≡ d.heard) × (d.looks ≤ e.looks)

-- it took this step, from a word at which the step may happen, and no other
abbrev pub HasStepped : Step → Deeds → Deeds → Type 0
HasStepped step d e = (e.steps ≡ took step d.steps) × (e.sent ≡ d.sent) × (e.heard ≡ d.heard) × IsOpen step (seen e)

-- it looked, and didn't take this step, as it may not happen at the word that it saw
abbrev pub IsRefused : Step → Deeds → Deeds → Type 0
IsRefused step d e = HasOnlyLooked d e × (d.looks < e.looks) × (IsOpen step (seen e) → ⊥)

-- it has taken no step of a worker's, and has sent a ring for each call; until the end it hasn't ended the run
pub record IsOwners (d : Deeds) : Type 0 where
  pub no_take : d.steps.take ≡ 0
  pub no_rest : d.steps.rest ≡ 0
  pub no_wake : d.steps.wake ≡ 0
  pub no_back : d.steps.back ≡ 0
  pub unheard : d.heard ≡ 0

abbrev pub IsLeading : Deeds → Type 0
IsLeading d = IsOwners d × (d.steps.end ≡ 0) × (d.sent ≡ d.steps.call)

-- how many sleepers aren't called
abbrev pub uncalled : Counts → ℕ
uncalled c = c.asleep - c.calls

-- it has ended the run once, and each sleeper has a ring: that of its call, or one that tells of the end
abbrev pub HasEnded : Deeds → Type 0
HasEnded d = IsOwners d × (d.steps.end ≡ 1) × (d.sent ≡ d.steps.call + uncalled (seen d))

-- it has taken no step of the owner's, and has sent no ring
pub record IsWorkers (d : Deeds) : Type 0 where
  pub no_spare : d.steps.spare ≡ 0
  pub no_call : d.steps.call ≡ 0
  pub no_hire : d.steps.hire ≡ 0
  pub no_claim : d.steps.claim ≡ 0
  pub no_end : d.steps.end ≡ 0
  pub unsent : d.sent ≡ 0

-- a worker that looks, sleeps, or has the right to a job; it has heard a ring for each time that it woke
abbrev pub IsLooking : Deeds → Type 0
IsLooking d = IsWorkers d × (d.steps.take ≡ d.steps.back) × (d.steps.rest ≡ d.steps.wake) × (d.heard ≡ d.steps.wake)

abbrev pub IsAsleep : Deeds → Type 0
IsAsleep d = IsWorkers d × (d.steps.take ≡ d.steps.back) × (d.steps.rest ≡ d.steps.wake + 1) × (d.heard ≡ d.steps.wake)

abbrev pub IsTold : Deeds → Type 0
IsTold d = IsWorkers d × (d.steps.take ≡ d.steps.back) × (d.steps.rest ≡ d.steps.wake + 1) × (d.heard ≡ d.steps.wake + 1)

abbrev pub IsHolding : Deeds → Type 0
IsHolding d =
    IsWorkers d × (d.steps.take ≡ d.steps.back + 1) × (d.steps.rest ≡ d.steps.wake) × (d.heard ≡ d.steps.wake)

-- a worker that has seen that the run is over; each of its sleeps was ended by a ring
abbrev pub HasLeft : Deeds → Type 0
HasLeft d = IsWorkers d × (d.heard ≡ d.steps.rest) × ((seen d).over ≡ true)

-- it took the right to one job more, and is back from none
abbrev pub HasTaken : Deeds → Deeds → Type 0
HasTaken d e = (e.steps.take ≡ d.steps.take + 1) × (e.steps.back ≡ d.steps.back)

-- it is back from one job more, and took the right to none
abbrev pub IsBack : Deeds → Deeds → Type 0
IsBack d e = (e.steps.take ≡ d.steps.take) × (e.steps.back ≡ d.steps.back + 1)

-- it took the right to no job, and is back from none
abbrev pub HasFoundNone : Deeds → Deeds → Type 0
HasFoundNone d e = (e.steps.take ≡ d.steps.take) × (e.steps.back ≡ d.steps.back)

-- no job more could be offered at the word that it saw
abbrev pub IsFull : Deeds → Deeds → Type 0
IsFull d e = HasOnlyLooked d e × (d.looks < e.looks) × (HasRoom (seen e) → (seen e).over ≡ true)

-- What each thread did to the word, and that the word is what all of it makes of the first one.
use Rattle.std.specs.Prelude.{◌≡◌, ◌≢◌, ℕ, ◌+◌, ◌<◌, List, [], ◌∷◌, length, slice_index, true, false}
use mathlib.Core.Option.{Option, none, some}
use Rattle.atomic_table.specs.Table.{State, Me}
use Rattle.atomic_table.specs.Table as table
use Rattle.redo_crew.specs.declared.counts.Counts.{Counts}
use Rattle.redo_crew.specs.declared.counts.Step.{Step}
use Rattle.redo_crew.specs.declared.counts.Step.TheVariants.{Spare, Call, Hire, Claim, Take, Rest, Wake, Return, End}
use Rattle.redo_crew.specs.declared.word.Steps.{Steps}
use Rattle.redo_crew.specs.declared.word.Track.{Track}
use Rattle.redo_crew.specs.Word.{IsKept, counts_of}

-- no step
abbrev pub no_steps : Steps
no_steps = record { spare = 0; call = 0; hire = 0; claim = 0; take = 0; rest = 0; wake = 0; back = 0; end = 0 }

-- a thread that has done nothing
abbrev pub fresh : Track
fresh = record { steps = no_steps; looks = 0; last = 0 }

-- one step more
abbrev pub took : Step → Steps → Steps
took Spare s = record s { spare = s.spare + 1 }
took Call s = record s { call = s.call + 1 }
took Hire s = record s { hire = s.hire + 1 }
took Claim s = record s { claim = s.claim + 1 }
took Take s = record s { take = s.take + 1 }
took Rest s = record s { rest = s.rest + 1 }
took Wake s = record s { wake = s.wake + 1 }
took Return s = record s { back = s.back + 1 }
took End s = record s { end = s.end + 1 }

-- the steps of two
abbrev pub plus : Steps → Steps → Steps
plus a b = record {
  spare = a.spare + b.spare;
  call = a.call + b.call;
  hire = a.hire + b.hire;
  claim = a.claim + b.claim;
  take = a.take + b.take;
  rest = a.rest + b.rest;
  wake = a.wake + b.wake;
  back = a.back + b.back;
  end = a.end + b.end;
}

-- the steps of all threads
abbrev pub all : List Track → Steps
all [] = no_steps
all (t ∷ ts) = plus t.steps (all ts)

-- What the steps make of the first word, with so many workers. A job that was offered waits until somebody takes the right
-- to it; a worker looks once it is hired, awake or back, until it takes a job or rests.
pub record IsMadeBy (workers : ℕ) (c : Counts) (s : Steps) : Type 0 where
  pub waiting : c.waiting + s.claim + s.take ≡ s.spare + s.call + s.hire
  pub looking : c.looking + s.take + s.rest ≡ s.hire + s.wake + s.back
  pub asleep : c.asleep + s.wake ≡ s.rest
  pub calls : c.calls + s.wake ≡ s.call
  pub holding : c.holding + s.back ≡ s.take
  pub unborn : c.unborn + s.hire ≡ workers
  pub over : c.over ≡ true → 0 < s.end
  pub going : c.over ≡ false → s.end ≡ 0

-- the rule of the word
abbrev pub IsRecorded : ℕ → State Step Track → Type 0
IsRecorded workers s =
    (length s.words ≡ 1)
    × IsKept (counts_of (slice_index s.words 0))
    × IsMadeBy workers (counts_of (slice_index s.words 0)) (all s.views)

-- a look, at a word that keeps its rule
abbrev pub HasSeen : table.Step Step → Me Step Track → ℕ → Me Step Track → Type 0
HasSeen st before found behind =
    (behind.0 ≡ record { steps = before.0.steps; looks = before.0.looks + 1; last = found }) × IsKept (counts_of found)

-- the step that is named, if there is one
abbrev pub took_said : Option Step → Steps → Steps
took_said none s = s
took_said (some step) s = took step s

-- a try: the step was taken, if the word was as it had been seen; else nothing was done
abbrev pub HasTried : table.Step Step → Me Step Track → ℕ → Me Step Track → Type 0
HasTried st before found behind =
    (found ≡ st.first → behind.0 ≡ record { steps = took_said st.said before.0.steps; looks = before.0.looks; last = found })
    × (found ≢ st.first → behind.0 ≡ before.0)

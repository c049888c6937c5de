-- The counts that owner and workers share in one word, and the steps from one word to the next.
use Rattle.std.specs.Prelude.{◌≡◌, ℕ, ◌+◌, ◌*◌, ◌-◌, ◌<◌, ◌≤◌, ◌⊎◌, true, false, nat_lt, slice_index}
use Rattle.std.specs.Int.{to_le_bytes, w64}
use Rattle.redo_crew.specs.declared.counts.Counts.{Counts}
use Rattle.redo_crew.specs.declared.counts.Step.{Step}
use Rattle.redo_crew.specs.declared.counts.Step.TheVariants.{Spare, Call, Hire, Claim, Take, Rest, Wake, Return, End}

-- how many workers there may be, how many jobs may be out for each, and so how many may be out in all
abbrev pub most_workers : ℕ
most_workers = 64

abbrev pub out_for_each : ℕ
out_for_each = 2

abbrev pub places : ℕ
places = most_workers * out_for_each

-- as many workers look or are called as jobs wait, or more
abbrev pub AreEnough : Counts → Type 0
AreEnough c = c.waiting ≤ c.looking + c.calls

-- each sleeper is called, and each worker is started
abbrev pub AreAllUp : Counts → Type 0
AreAllUp c = (c.asleep ≡ c.calls) × (c.unborn ≡ 0)

-- a job more may wait
abbrev pub HasRoom : Counts → Type 0
HasRoom c = c.waiting < places

-- What may happen next. A job is offered by one of the first three steps: nobody more is needed, or there is nobody
-- more; a sleeper is called; a worker is started.
abbrev pub IsNext : Step → Counts → Type 0
IsNext Spare c = HasRoom c × ((c.waiting < c.looking + c.calls) ⊎ AreAllUp c)
IsNext Call c = HasRoom c × (c.looking + c.calls ≤ c.waiting) × (c.calls < c.asleep)
IsNext Hire c = HasRoom c × (c.looking + c.calls ≤ c.waiting) × (c.asleep ≡ c.calls) × (0 < c.unborn)
IsNext Claim c = 0 < c.waiting
IsNext Take c = (0 < c.waiting) × (0 < c.looking)
IsNext Rest c = (c.waiting ≡ 0) × (0 < c.looking)
IsNext Wake c = 0 < c.calls
IsNext Return c = 0 < c.holding
IsNext End c = Unit {0}

-- the step may happen: the run isn't over
abbrev pub IsOpen : Step → Counts → Type 0
IsOpen step c = (c.over ≡ false) × IsNext step c

-- the steps by which a job is offered
abbrev pub IsOffer : Step → Type 0
IsOffer Spare = Unit {0}
IsOffer Call = Unit {0}
IsOffer Hire = Unit {0}
IsOffer step = ⊥

-- the counts after the step
abbrev pub after : Step → Counts → Counts
after Spare c = record c { waiting = c.waiting + 1 }
after Call c = record c { waiting = c.waiting + 1; calls = c.calls + 1 }
after Hire c = record c { waiting = c.waiting + 1; unborn = c.unborn - 1; looking = c.looking + 1 }
after Claim c = record c { waiting = c.waiting - 1 }
after Take c = record c { waiting = c.waiting - 1; looking = c.looking - 1; holding = c.holding + 1 }
after Rest c = record c { looking = c.looking - 1; asleep = c.asleep + 1 }
after Wake c = record c { calls = c.calls - 1; asleep = c.asleep - 1; looking = c.looking + 1 }
after Return c = record c { holding = c.holding - 1; looking = c.looking + 1 }
after End c = record c { over = true }

-- What holds of the word at each moment: if more jobs wait than workers look or are called, each sleeper is called and
-- each worker is started.
pub record IsKept (c : Counts) : Type 0 where
  pub few : c.looking + c.asleep + c.holding + c.unborn ≤ most_workers
  pub room : c.waiting ≤ places
  pub calls : c.calls ≤ c.asleep
  pub heard : AreEnough c ⊎ AreAllUp c

-- the word before the first step
abbrev pub first : ℕ → Counts
first workers = record {
  waiting = 0;
  looking = 0;
  asleep = 0;
  calls = 0;
  holding = 0;
  unborn = workers;
  over = false;
}

-- the counts that a word has: a byte for each, the least first
abbrev pub counts_of : ℕ → Counts
counts_of word = let bytes = to_le_bytes w64 word in record {
  waiting = slice_index bytes 0;
  looking = slice_index bytes 1;
  asleep = slice_index bytes 2;
  calls = slice_index bytes 3;
  holding = slice_index bytes 4;
  unborn = slice_index bytes 5;
  over = nat_lt 0 (slice_index bytes 6);
}

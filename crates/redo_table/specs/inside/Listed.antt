-- The lists of the targets that are ready and due.
use Rattle.std.specs.Prelude.{◌≡◌, ℕ, ◌+◌, ◌<◌, ◌^◌, Bool, cond, List, Option, Some, None, length, slice_get, count_by}
use Rattle.redo_table.specs.Schedule.{StageView, is_due, is_ready, is_out, times}

-- one if there is a stage that passes the test
abbrev pub one_if : (StageView → Bool) → Option StageView → ℕ
one_if test None = 0
one_if test (Some stage) = cond (test stage) 1 0

-- each ready target stands once in the queue or among the newly ready, each due one once among the due
pub record IsListed (stages : List StageView) (ready newly_ready due : List ℕ) (out : ℕ) : Type 0 where
  pub few : length stages < 2 ^ 32
  pub queued : (k : ℕ) → times k ready + times k newly_ready ≡ one_if is_ready (slice_get stages k)
  pub due_listed : (k : ℕ) → times k due ≡ one_if is_due (slice_get stages k)
  pub out_counted : out ≡ count_by is_out stages

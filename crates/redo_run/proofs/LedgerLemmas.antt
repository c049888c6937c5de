-- From what was given to what was taken.
use Rattle.std.proofs.Common.{◌≡◌, ◌≤◌, ◌↔◌, ℕ, List, [], Result, Err, arith, subst, sym}
use Rattle.redo_build.specs.Takes.{is_at, times_taken, AreBegun, AreCountedOnce, IsTaken}
use Rattle.redo_core.specs.declared.board.Stop.{Stop}
use Rattle.redo_core.specs.declared.board.Stop.TheVariants.{Memory}
use Rattle.redo_report.specs.declared.report.Report.{Report}
use Rattle.redo_step.specs.Limits.{LimitsView}
use Rattle.redo_tree.specs.Tree.{Tree}
use Rattle.redo_sync.specs.Relay.{Pair, Shares, SharesOut}
use Rattle.redo_run.specs.inside.Workers.{IsAnswerTo}

-- how often a pair is counted tells whether it was taken
abbrev pub CountsTell : Type 0
CountsTell = (taken : List Pair) (p : List ℕ) (turn : ℕ) → IsTaken taken p turn ↔ (1 ≤ times_taken taken p turn)

module _ (given taken : List Pair) (out : SharesOut given taken []) where
  -- where nothing is left, each pair was taken as often as it was given
  as_often : (p : List ℕ) (turn : ℕ) → times_taken given p turn ≡ times_taken taken p turn
  as_often p turn = let often = out (is_at p turn) in omega (arith, often)

  pub once_shared : AreCountedOnce given → AreCountedOnce taken
  once_shared once p turn = subst (λ n. n ≤ 1) (as_often p turn) (once p turn)

  pub begun_shared : (begun : List (List ℕ)) → CountsTell → AreBegun given begun → AreBegun taken begun
  begun_shared begun tell of_given p = (
    λ was. (of_given p).0 ((tell given p 0).1 (subst (λ n. 1 ≤ n) (sym (as_often p 0)) ((tell taken p 0).0 was))),
    λ among. (tell taken p 0).1 (subst (λ n. 1 ≤ n) (as_often p 0) ((tell given p 0).0 ((of_given p).1 among))),
  )

-- a build that met want of memory answers so
pub without_memory : (tree : Tree) (request : List (List ℕ)) (limits : LimitsView) (answer : Result (Report × Shares) Stop) → answer ≡ Err Memory
    → IsAnswerTo tree request limits answer
without_memory tree request limits answer is =
    let P : Result (Report × Shares) Stop → Type 0 = IsAnswerTo tree request limits in
    subst P (sym is) record { report = tt; none_left = tt; once = tt; begun = tt; too_many = λ e. absurd cc }

use Rattle.std.proofs.Common.{◌≡◌, ◌<◌, ◌++◌, ℕ, drop, length}
use Rattle.redo_page.specs.Pages.{users_from}
use Rattle.redo_page.specs.inside.Links.{number_in, users_at}
use Rattle.redo_page.proofs.links.users_of.Given as goal

-- what was noted, with what is left, is all
abbrev pub invariant-loop-number : goal.invariant-loop-number
invariant-loop-number l =
    (length l.users.items ≡ length l.rows)
    × ((m : ℕ) → m < length l.rows →
    users_at l.users.items m ++ users_from (number_in l.numbers) m l.number (drop l.number l.rows)
    ≡ users_from (number_in l.numbers) m 0 l.rows)

use Rattle.std.proofs.Common.{◌≡◌, ℕ, [], length}
use Rattle.redo_page.specs.inside.Links.{users_at}
use Rattle.redo_page.proofs.links.no_users.Given as goal

-- the lists so far are empty
abbrev pub invariant-loop : goal.invariant-loop
invariant-loop l = (length l.users.items ≡ l.counter) × ((m : ℕ) → users_at l.users.items m ≡ [])

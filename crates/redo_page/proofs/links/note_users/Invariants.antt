use Rattle.std.proofs.Common.{◌≡◌, ◌<◌, ◌++◌, ℕ, drop, flat_map, length}
use Rattle.redo_page.specs.Pages.{entry_users}
use Rattle.redo_page.specs.inside.Links.{number_in, users_at}
use Rattle.redo_page.proofs.links.note_users.Given as goal

-- what was noted, with what is left, is all
abbrev pub invariant-loop-entry : goal.invariant-loop-entry
invariant-loop-entry l =
    (length l.users.items ≡ length l.initial.users.items)
    × ((m : ℕ) → m < length l.initial.users.items →
    users_at l.users.items m ++ flat_map (entry_users (number_in l.numbers) m l.number) (drop l.entry-index l.entries)
    ≡ users_at l.initial.users.items m ++ flat_map (entry_users (number_in l.numbers) m l.number) l.entries)

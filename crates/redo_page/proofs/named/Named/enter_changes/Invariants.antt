use Rattle.std.proofs.Common.{◌⊎◌, ℕ, List, drop}
use Rattle.redo_names.specs.Paths.{IsAmong}
use Rattle.redo_record.specs.Progress.{changes}
use Rattle.redo_page.specs.Data.{AreNumbered}
use Rattle.redo_page.specs.inside.Named.{IsEntered, Keeps}
use Rattle.redo_page.proofs.named.Named.enter_changes.Given as goal

-- none was lost, and what isn't entered yet is left
abbrev pub invariant-loop-entry : goal.invariant-loop-entry
invariant-loop-entry l =
    Keeps l.initial.self l.self
    × ((path : List ℕ) → IsAmong (changes l.entries) path →
    IsEntered l.self path ⊎ IsAmong (changes (drop l.entry-index l.entries)) path)
    × (AreNumbered l.initial.self.count l.initial.self.others → AreNumbered l.self.count l.self.others)

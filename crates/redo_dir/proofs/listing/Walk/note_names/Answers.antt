use Rattle.std.proofs.Common.{◌≡◌, ◌++◌, ◌∷◌, [], sym, subst}
use Rattle.std.proofs.lemmas.List.{map-append}
use Rattle.std.specs.List.{FoldsTo}
use Rattle.std.specs.Prelude.{option_map, string_bytes}
use Rattle.redo_dir.specs.Loaded.{names_in}
use Rattle.redo_dir.specs.inside.Levels.{Notes, progress}
use Rattle.redo_dir.proofs.ListingLemmas.{FoldsTo-last}
use Rattle.redo_dir.proofs.listing.Walk.note_names.Goals as goal

pub names-preserved : goal.names-preserved
names-preserved c =
    let notes = Notes c.args.dir.now in
    let name = option_map string_bytes c.in-Some.name in
    let seam : names_in (c.names.yielded ++ c.in-Some.name ∷ []) ≡ names_in c.names.yielded ++ name ∷ [] = map-append (option_map string_bytes) c.names.yielded (c.in-Some.name ∷ []) in
    subst (λ ns. FoldsTo notes (progress c.args.self.now) ns (progress c.note.new.self)) (sym seam)
    (FoldsTo-last notes (progress c.args.self.now) (progress c.names.self) (progress c.note.new.self) (names_in c.names.yielded) name c.names.invariant c.in_ok-note.ensures)

-- Records as the code keeps them, and which targets they have in a directory.
use Rattle.std.proofs.Common.{◌≡◌, ℕ, Bool, List, [], ◌∷◌, refl, ap, map, ◌||◌}
use Rattle.std.specs.Prelude.{is_some}
use Rattle.std.specs.List.{list_any}
use Rattle.redo_book.specs.Book.{record_of}
use Rattle.redo_book.specs.declared.book.BookRecord.{BookRecord}
use Rattle.redo_path.specs.Names.{below_of}
use Rattle.redo_lenient.specs.Lenient.{has_target_below}

pub targets_of_records : (dir : List ℕ) (rs : List BookRecord) →
    list_any (λ (r : BookRecord). is_some (below_of r.target dir)) rs ≡ has_target_below dir (map record_of rs)
targets_of_records dir [] = refl
targets_of_records dir (r ∷ rs) = ap (λ (rest : Bool). is_some (below_of r.target dir) || rest) (targets_of_records dir rs)

use Rattle.redo_past.specs.Past.{set_aside}
use Rattle.redo_past.proofs.LostLemmas.{lost-file}
use Rattle.redo_past.proofs.laws.what_is_altered_has_lost_its_file.Goals as goal

pub returns : goal.returns
returns c = λ past r tree is at rule altered.
    lost-file past r is (λ p. c.no_other_file_is_taken_out.ensures past.tree (set_aside past.tree past.book) p tree) at rule altered

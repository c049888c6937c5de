use Rattle.redo_names.specs.inside.Index.{AreOthersTo, AreTakenTo}
use Rattle.redo_names.proofs.index.Index.look_in_row.Given as goal

-- each place up to here is taken, and by another path
abbrev pub invariant-tries : goal.invariant-tries
invariant-tries l = record {
  taken : AreTakenTo l.self.places.items l.text l.at;
  others : AreOthersTo l.self.places.items l.paths l.text l.at;
}

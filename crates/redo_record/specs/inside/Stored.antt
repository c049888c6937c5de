-- How the entries of a record are stored.
use Rattle.std.specs.Prelude.{List}
use Rattle.redo_record.specs.declared.deps.Dep.{Dep}
use Rattle.redo_record.specs.declared.deps.Store.{Store}
use Rattle.redo_record.specs.declared.deps.Store.TheVariants.{Few, Many}

-- the entries, however they are stored
abbrev pub stored : Store → List Dep
stored (Few entries) = entries.items
stored (Many entries) = entries.value

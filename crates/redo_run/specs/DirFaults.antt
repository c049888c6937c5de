-- Faults of the parts of a run over a directory, as those of the run.
use Rattle.std.specs.declared.io.ErrorKind.{ErrorKind}
use Rattle.std.specs.declared.io.ErrorKind.TheVariants.{OutOfMemory}
use Rattle.redo_dir.specs.declared.faults.JournalFault.{JournalFault}
use Rattle.redo_dir.specs.declared.faults.JournalFault.TheVariants as journal
use Rattle.redo_dir.specs.declared.faults.LoadFault.{LoadFault}
use Rattle.redo_dir.specs.declared.faults.LoadFault.TheVariants as load
use Rattle.redo_dir.specs.declared.faults.StoreFault.{StoreFault}
use Rattle.redo_dir.specs.declared.faults.StoreFault.TheVariants as store
use Rattle.redo_book.specs.declared.faults.BookFault.{BookFault}
use Rattle.redo_book.specs.declared.faults.BookFault.TheVariants as books
use Rattle.redo_core.specs.declared.opening.OpenFault.{OpenFault as RunFault}
use Rattle.redo_core.specs.declared.opening.OpenFault.TheVariants as build
use Rattle.redo_run.specs.declared.dir_fault.RunDirFault.{RunDirFault}
use Rattle.redo_run.specs.declared.dir_fault.RunDirFault.TheVariants as run

abbrev pub of_load : LoadFault → RunDirFault
of_load (load.Device path kind) = run.Load
of_load load.Memory = run.Memory

abbrev pub of_run : RunFault → RunDirFault
of_run (build.Book line) = run.Book line
of_run build.TooMany = run.TooMany
of_run build.Memory = run.Memory

abbrev pub of_past : BookFault → RunDirFault
of_past (books.Line line) = run.Book line
of_past books.Memory = run.Memory

-- what couldn't be cleared away isn't told by its place
abbrev pub of_left : StoreFault → RunDirFault
of_left (store.Device place kind) = run.Left
of_left (store.Name place) = run.Left
of_left (store.Memory place) = run.Memory

-- a file that couldn't be written, and one whose path is no text, are told by their place
abbrev pub of_store : StoreFault → RunDirFault
of_store (store.Device place kind) = run.Store place
of_store (store.Name place) = run.Store place
of_store (store.Memory place) = run.Memory

abbrev pub of_journal : ErrorKind → RunDirFault
of_journal OutOfMemory = run.Memory
of_journal kind = run.Journal

abbrev pub of_journal_fault : JournalFault → RunDirFault
of_journal_fault (journal.Journal kind) = of_journal kind
of_journal_fault (journal.File fault) = of_store fault

-- What the system answers when it is asked for the lock of a directory.
use Rattle.std.specs.Prelude.{Bool, true, false, Result, Ok, Err}
use Rattle.std.specs.declared.fs.locks.TryLockError.{TryLockError}
use Rattle.std.specs.declared.fs.locks.TryLockError.TheVariants.{WouldBlock, Error}

-- whether another open of the directory holds the lock
abbrev pub is_busy : {A : Type 0} → Result A TryLockError → Bool
is_busy (Ok x) = false
is_busy (Err WouldBlock) = true
is_busy (Err (Error error)) = false

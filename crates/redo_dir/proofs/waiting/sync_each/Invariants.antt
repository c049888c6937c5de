use Rattle.std.proofs.Common.{List, map, take}
use Rattle.std.specs.Path.{path_buf_bytes}
use Rattle.redo_dir.specs.Called.{AreOnDisk, Follows, Wait, call_of}
use Rattle.redo_dir.proofs.waiting.sync_each.Given as goal

-- the first of the directories were waited for
abbrev pub invariant-loop-place : goal.invariant-loop-place
invariant-loop-place g l =
    (waits : List Wait) × Follows g.C.Calls.after l.fn.calls (map call_of waits) l.calls ×
    AreOnDisk (map path_buf_bytes (take l.place-index l.places)) waits

use Rattle.std.proofs.Common.{◌≡◌, take}
use Rattle.redo_book.proofs.lines.are_same.Given as goal

-- the bytes so far are the same
abbrev pub invariant-loop-at : goal.invariant-loop-at
invariant-loop-at l = take l.at l.text ≡ take l.at l.word

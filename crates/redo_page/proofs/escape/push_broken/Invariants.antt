use Rattle.std.proofs.Common.{◌≡◌, ◌++◌, drop, flat_map}
use Rattle.redo_page.specs.Html.{named}
use Rattle.redo_page.specs.inside.Forms.{stands_for}
use Rattle.redo_page.proofs.escape.push_broken.Given as goal

-- what was added, with what is left, is all
abbrev pub invariant-loop-byte : goal.invariant-loop-byte
invariant-loop-byte l =
    l.out.items ++ flat_map (stands_for l.form) (flat_map named (drop l.byte-index l.bytes))
    ≡ l.initial.out.items ++ flat_map (stands_for l.form) (flat_map named l.bytes)

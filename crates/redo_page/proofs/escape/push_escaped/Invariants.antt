use Rattle.std.proofs.Common.{◌≡◌, ◌≤◌, ◌++◌, ℕ, flat_map, length}
use Rattle.std.specs.Str.Chunks.{utf8_chunks_rest}
use Rattle.redo_page.specs.Html.{shown, shown_within}
use Rattle.redo_page.specs.inside.Forms.{stands_for}
use Rattle.redo_page.proofs.escape.push_escaped.Given as goal

-- what was added, with what is shown of the bytes that are left, is all
abbrev pub invariant-loop-chunk : goal.invariant-loop-chunk
invariant-loop-chunk l =
    (k : ℕ) × (length (utf8_chunks_rest l.chunk-iterator) ≤ k)
    × (l.out.items ++ flat_map (stands_for l.form) (shown_within k (utf8_chunks_rest l.chunk-iterator))
    ≡ l.initial.out.items ++ flat_map (stands_for l.form) (shown l.fn.bytes))

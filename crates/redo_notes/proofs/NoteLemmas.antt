-- One more entry of the sources that may be noted.
use Rattle.std.proofs.Common.{◌≡◌, ◌&&◌, ℕ, Bool, List, [], ◌∷◌, ◌++◌, Bor, Option, None, ap, map}
use Rattle.std.proofs.lemmas.List.Elements.{filter_map-append}
use Rattle.std.specs.List.{cons_option}
use Rattle.std.specs.Prelude.{filter_map, if◌then◌else◌, is_some, option_map}
use Rattle.redo_tree.specs.declared.entries.Entry.{Entry}
use Rattle.redo_tree.specs.Tree.{Node, Tree, bytes_of, node_of}
use Rattle.redo_notes.specs.Notes.{do_file_of, unbuilt_at}
use Rattle.redo_notes.specs.declared.kinds.Unbuilt.{Unbuilt}

-- entries that are lent, as contracts see them
abbrev pub seen : List (Bor (List ℕ) × Bor Entry) → Tree
seen es = map (λ e. (e.0.now, node_of e.1.now)) es

-- it depends on whether the entry's own path was asked for
pub same-note : (sources : Tree) (asked others known : List ℕ → Bool) (e : List ℕ × Node) → asked e.0 ≡ others e.0 →
    unbuilt_at sources asked known e ≡ unbuilt_at sources others known e
same-note sources asked others known e same =
    ap (λ b. if is_some (bytes_of e.1) && b
    then option_map (λ file. record { path = e.0; do_file = file; recorded = known e.0 }) (do_file_of sources e.0)
    else None) same

-- the note of one more entry, or its path
pub note-more : {A : Type 0} (f : List ℕ × Node → Option A) (es : Tree) (e : List ℕ × Node) →
    filter_map f (es ++ e ∷ []) ≡ filter_map f es ++ cons_option (f e) []
note-more f es e = filter_map-append f es (e ∷ [])

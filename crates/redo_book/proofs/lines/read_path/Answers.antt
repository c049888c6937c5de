use Rattle.std.proofs.Common.{rules, ℕ, List, ◌≡◌, ◌≢◌, ◌==◌, ◌∙◌, [], Some, ap, length, sym, true}
use Rattle.redo_path.proofs.ApartLemmas.{apart}
use Rattle.redo_book.specs.inside.Reading.{place_of}
use Rattle.redo_book.proofs.WordLemmas.{place_spelled}
use Rattle.redo_book.proofs.lines.read_path.Goals as goal

pub returns-in_ok-clone-in-Some : goal.returns-in_ok-clone-in-Some
returns-in_ok-clone-in-Some c =
    let word = c.args.word.now in
    let path = c.in-Some.path.now in
    let same : word ≡ path = search rules in
    let some : path ≢ [] = λ none.
    let empty : (length word == 0) ≡ true = ap (λ (w : List ℕ). length w == 0) (same ∙ none) in
    let filled = c.if-not-is_empty.ensures in
    apart cc in
    ap place_of same ∙ place_spelled path (some, c.text.ensures.path) ∙ ap Some (sym c.in_ok-clone-in-Some.ensures.cases)

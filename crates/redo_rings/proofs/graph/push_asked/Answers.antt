use Rattle.std.proofs.Common.{◌≡◌, ◌∙◌, ◌++◌, ◌∷◌, [], ℕ, List, Some, ap, filter, map, rules, slice_get, sym}
use Rattle.std.specs.List.{cons_option}
use Rattle.redo_names.specs.Paths.{is_among}
use Rattle.redo_record.specs.Progress.{changed}
use Rattle.redo_rings.proofs.GraphLemmas.{asked-absent, asked-there}
use Rattle.redo_rings.proofs.graph.push_asked.Goals as goal

pub returns-in_ok-push-in-Some : goal.returns-in_ok-push-in-Some
returns-in_ok-push-in-Some c =
    let names = c.args.names.now in
    let numbers = c.args.numbers.now.items in
    let path = c.args.dep.now.path in
    let n = c.in-Some.number in
    let pushed : c.push.new.self.items ≡ numbers ++ n ∷ [] = search rules in
    ap (map (slice_get names)) pushed ∙ asked-there names numbers n path c.in-Some.ensures
    ∙ ap (λ k. map (slice_get names) numbers ++ map (λ (p : List ℕ). Some p) (filter (is_among names) (cons_option (changed k path) []))) (sym c.in-Change.is)

pub returns-in-None : goal.returns-in-None
returns-in-None c =
    let names = c.args.names.now in
    let numbers = c.args.numbers.now.items in
    let path = c.args.dep.now.path in
    asked-absent names numbers path c.in-None.ensures
    ∙ ap (λ k. map (slice_get names) numbers ++ map (λ (p : List ℕ). Some p) (filter (is_among names) (cons_option (changed k path) []))) (sym c.in-Change.is)

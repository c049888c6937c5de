use Rattle.std.proofs.Common.{rules, ◌≡◌, ◌∙◌, ◌∷◌, [], ◌++◌, ap, map, subst, sym}
use Rattle.std.proofs.lemmas.List.{map-append}
use Rattle.std.specs.List.{AllByRecursion}
use Rattle.std.specs.Path.{path_buf_bytes, path_join}
use Rattle.redo_dir.specs.Called.{IsAmong, IsCovered}
use Rattle.redo_dir.specs.Stored.{steps_of}
use Rattle.redo_dir.proofs.WaitLemmas.{covered-more, last_new}
use Rattle.redo_dir.proofs.system.SystemDir.dirs_before_removal.Goals as goal

pub returns-clause-covered : goal.returns-clause-covered
returns-clause-covered g c = λ synced.
    let top = c.args.self.now.view.top.now in
    let steps = steps_of c.args.self.now.done.items in
    let dirs = c.in_ok-dirs.dirs.items in
    let place = c.in_ok-text_place.field-0 in
    let pushed : c.push.new.self.items ≡ dirs ++ place ∷ [] = search rules in
    let more : map path_buf_bytes c.push.new.self.items ≡ map path_buf_bytes dirs ++ path_buf_bytes place ∷ [] = ap (map path_buf_bytes) pushed ∙ map-append path_buf_bytes dirs (place ∷ []) in
    subst (λ ps. AllByRecursion (IsCovered top ps) steps) (sym more)
    (covered-more top (map path_buf_bytes dirs) (path_buf_bytes place ∷ []) steps (c.in_ok-dirs.ensures.covered synced))

pub returns-clause-top : goal.returns-clause-top
returns-clause-top g c =
    let top = c.args.self.now.view.top.now in
    let dirs = c.in_ok-dirs.dirs.items in
    let place = c.in_ok-text_place.field-0 in
    let pushed : c.push.new.self.items ≡ dirs ++ place ∷ [] = search rules in
    let more : map path_buf_bytes c.push.new.self.items ≡ map path_buf_bytes dirs ++ path_buf_bytes place ∷ [] = ap (map path_buf_bytes) pushed ∙ map-append path_buf_bytes dirs (place ∷ []) in
    let at : path_buf_bytes place ≡ path_join top [] = search rules in
    subst (λ ps. IsAmong ps (path_join top [])) (sym more) (last_new top (map path_buf_bytes dirs) [] (path_buf_bytes place) at)

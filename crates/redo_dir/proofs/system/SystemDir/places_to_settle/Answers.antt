use Rattle.std.proofs.Common.{rules, ◌≡◌, ◌∙◌, ◌+◌, ◌<◌, ◌++◌, ◌∷◌, [], None, Some, ap, arith, length, map, subst, sym, take}
use Rattle.std.proofs.lemmas.List.{map-append, take_more}
use Rattle.std.specs.List.{AllByRecursion}
use Rattle.std.specs.Path.{path_buf_bytes, path_join}
use Rattle.std.specs.Prelude.{IfSome, option_copied}
use Rattle.redo_path.specs.Names.{parent_of}
use Rattle.redo_dir.specs.Called.{IsAmong, IsSettling}
use Rattle.redo_dir.proofs.WaitLemmas.{dir-more, last_new, settling_both, settling_one}
use Rattle.redo_dir.proofs.system.SystemDir.places_to_settle.Goals as goal

pub loop-path-preserved-in_default : goal.loop-path-preserved-in_default
loop-path-preserved-in_default g c =
    let paths = c.args.paths.now in
    let i = c.loop-path.path-index in
    let path = c.path-item.result in
    let top = c.args.self.now.view.top.now in
    let places = map path_buf_bytes c.loop-path.places.items in
    let own = c.in_ok-place.field-0 in
    let place = path_buf_bytes own in
    let within : i < length paths = omega (arith, c.loop-path-test.true, c.loop-path.auto.path-index-end) in
    let one_more : take (i + 1) paths ≡ take i paths ++ path ∷ [] = take_more paths i path within ∙ ap (λ x. take i paths ++ x ∷ []) (sym c.path-item.is) in
    let at : place ≡ path_join top path = search rules in
    let pushed : c.push.new.self.items ≡ c.loop-path.places.items ++ own ∷ [] = search rules in
    let more : map path_buf_bytes c.push.new.self.items ≡ places ++ place ∷ [] = ap (map path_buf_bytes) pushed ∙ map-append path_buf_bytes c.loop-path.places.items (own ∷ []) in
    let none : parent_of path ≡ None = search rules in
    let up : IfSome (parent_of path) (λ d. IsAmong places (path_join top d)) = subst (λ o. IfSome o (λ d. IsAmong places (path_join top d))) (sym none) tt in
    record {
      settling = subst (λ ps. AllByRecursion (IsSettling top ps) (take (i + 1) paths)) (sym more)
          (subst (AllByRecursion (IsSettling top (places ++ place ∷ []))) (sym one_more)
          (settling_one top places (take i paths) path place c.loop-path.invariant.settling at up));
      last = subst (λ ps. IfSome (option_copied c.loop-path.last) (λ d. IsAmong ps (path_join top d))) (sym more)
          (dir-more top places (place ∷ []) (option_copied c.loop-path.last) c.loop-path.invariant.last);
    }

pub loop-path-preserved-then-is_last : goal.loop-path-preserved-then-is_last
loop-path-preserved-then-is_last g c =
    let paths = c.args.paths.now in
    let i = c.loop-path.path-index in
    let path = c.path-item.result in
    let top = c.args.self.now.view.top.now in
    let places = map path_buf_bytes c.loop-path.places.items in
    let own = c.in_ok-place.field-0 in
    let place = path_buf_bytes own in
    let within : i < length paths = omega (arith, c.loop-path-test.true, c.loop-path.auto.path-index-end) in
    let one_more : take (i + 1) paths ≡ take i paths ++ path ∷ [] = take_more paths i path within ∙ ap (λ x. take i paths ++ x ∷ []) (sym c.path-item.is) in
    let at : place ≡ path_join top path = search rules in
    let pushed : c.push.new.self.items ≡ c.loop-path.places.items ++ own ∷ [] = search rules in
    let more : map path_buf_bytes c.push.new.self.items ≡ places ++ place ∷ [] = ap (map path_buf_bytes) pushed ∙ map-append path_buf_bytes c.loop-path.places.items (own ∷ []) in
    let known : Some c.in-Some.dir.now ≡ parent_of path = search rules in
    let last : option_copied c.loop-path.last ≡ Some c.in-Some.dir.now = search rules in
    let up : IfSome (parent_of path) (λ d. IsAmong places (path_join top d)) = subst (λ o. IfSome o (λ d. IsAmong places (path_join top d))) (last ∙ known) c.loop-path.invariant.last in
    record {
      settling = subst (λ ps. AllByRecursion (IsSettling top ps) (take (i + 1) paths)) (sym more)
          (subst (AllByRecursion (IsSettling top (places ++ place ∷ []))) (sym one_more)
          (settling_one top places (take i paths) path place c.loop-path.invariant.settling at up));
      last = subst (λ ps. IfSome (option_copied c.loop-path.last) (λ d. IsAmong ps (path_join top d))) (sym more)
          (dir-more top places (place ∷ []) (option_copied c.loop-path.last) c.loop-path.invariant.last);
    }

pub loop-path-preserved : goal.loop-path-preserved
loop-path-preserved g c =
    let paths = c.args.paths.now in
    let i = c.loop-path.path-index in
    let path = c.path-item.result in
    let top = c.args.self.now.view.top.now in
    let places = map path_buf_bytes c.loop-path.places.items in
    let own = c.in_ok-place.field-0 in
    let place = path_buf_bytes own in
    let within : i < length paths = omega (arith, c.loop-path-test.true, c.loop-path.auto.path-index-end) in
    let one_more : take (i + 1) paths ≡ take i paths ++ path ∷ [] = take_more paths i path within ∙ ap (λ x. take i paths ++ x ∷ []) (sym c.path-item.is) in
    let at : place ≡ path_join top path = search rules in
    let pushed : c.push.new.self.items ≡ c.loop-path.places.items ++ own ∷ [] = search rules in
    let more : map path_buf_bytes c.push.new.self.items ≡ places ++ place ∷ [] = ap (map path_buf_bytes) pushed ∙ map-append path_buf_bytes c.loop-path.places.items (own ∷ []) in
    let dir = c.in-Some.dir.now in
    let above = c.in_ok-dir_place.field-0 in
    let up = path_buf_bytes above in
    let known : Some dir ≡ parent_of path = search rules in
    let there : up ≡ path_join top dir = search rules in
    let twice : c.push-in-loop-path.new.self.items ≡ c.push.new.self.items ++ above ∷ [] = search rules in
    let all : map path_buf_bytes c.push-in-loop-path.new.self.items ≡ (places ++ place ∷ []) ++ up ∷ [] =
    ap (map path_buf_bytes) twice ∙ map-append path_buf_bytes c.push.new.self.items (above ∷ []) ∙ ap (λ ps. ps ++ up ∷ []) more in
    record {
      settling = subst (λ ps. AllByRecursion (IsSettling top ps) (take (i + 1) paths)) (sym all)
          (subst (AllByRecursion (IsSettling top ((places ++ place ∷ []) ++ up ∷ []))) (sym one_more)
          (settling_both top places (take i paths) path place dir up c.loop-path.invariant.settling at known there));
      last = subst (λ ps. IsAmong ps (path_join top dir)) (sym all) (last_new top (places ++ place ∷ []) dir up there);
    }

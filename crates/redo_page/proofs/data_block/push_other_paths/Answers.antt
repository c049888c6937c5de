use Rattle.std.proofs.Common.{◌≡◌, ◌++◌, ◌∷◌, [], ◌+◌, ℕ, List, drop, flat_map, rules, subst}
use Rattle.std.specs.Map.{keys_of}
use Rattle.redo_page.specs.Parts.{Quoted, of_data, text_of, written}
use Rattle.redo_page.specs.declared.parts.DataPart.TheVariants as data_parts
use Rattle.redo_page.proofs.DataLemmas.{key-next, two-added}
use Rattle.redo_page.proofs.data_block.push_other_paths.Goals as goal

pub loop-place-preserved : goal.loop-place-preserved
loop-place-preserved c =
    let keys = keys_of c.args.others.now in
    let path = c.at.result.0.now in
    let out = c.loop-place.out in
    let pieces = λ (p : List ℕ). of_data data_parts.Comma ∷ Quoted p ∷ [] in
    let all = c.args.out.now ++ text_of (flat_map pieces keys) in
    let step : drop c.loop-place.place keys ≡ path ∷ drop (c.loop-place.place + 1) keys =
    key-next c.args.others.now c.loop-place.place path c.at.result.1.now c.at.ensures.pair in
    let before = subst (λ ks. out ++ text_of (flat_map pieces ks) ≡ all) step c.loop-place.invariant in
    let first : c.push_part.new.out ≡ out ++ written (of_data data_parts.Comma) = search rules in
    let then : c.quoted.new.self ≡ c.push_part.new.out ++ written (Quoted path) = search rules in
    two-added out c.push_part.new.out c.quoted.new.self (written (of_data data_parts.Comma)) (written (Quoted path))
    (text_of (flat_map pieces (drop (c.loop-place.place + 1) keys))) all first then before

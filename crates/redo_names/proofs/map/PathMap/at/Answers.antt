use Rattle.std.proofs.Common.{◌≡◌, ◌<◌, ◌∙◌, ap, arith, length, subst, sym, Some, refl, slice_get}
use Rattle.std.proofs.lemmas.Option.{slice_get_read}
use Rattle.std.specs.Map.{lookup}
use Rattle.std.specs.Prelude.{bytes_eq}
use Rattle.redo_names.proofs.MapLemmas.{found-at, length-zip, zip-at}
use Rattle.redo_names.proofs.map.PathMap.at.Goals as goal

pub at-requires : goal.at-requires
at-requires g c =
    let values = c.self.inside.values.items in
    let size = length-zip c.self.inside.paths values c.self.invariant.0 in
    let inside = subst (λ es. c.args.number < length es) (sym c.self.view_is) c.requires in
    let same = c.self.invariant.0 in
    omega arith

pub index-requires : goal.index-requires
index-requires g c =
    let values = c.self.inside.values.items in
    let size = length-zip c.self.inside.paths values c.self.invariant.0 in
    let inside = subst (λ es. c.args.number < length es) (sym c.self.view_is) c.requires in
    omega arith

pub returns-clause-pair : goal.returns-clause-pair
returns-clause-pair g c =
    let values = c.self.inside.values.items in
    let size = length-zip c.self.inside.paths values c.self.invariant.0 in
    let inside : c.args.number < length values = rw (← size) (subst (λ es. c.args.number < length es) (sym c.self.view_is) c.requires) in
    let value = slice_get_read values (length values) c.args.number c.index.result.now refl inside c.index.ensures in
    subst (λ es. slice_get es c.args.number ≡ Some (c.at.result.now, c.index.result.now)) c.self.view_is
    (zip-at c.self.inside.paths values c.args.number c.at.result.now c.index.result.now c.at.ensures value)

pub returns-clause-value : goal.returns-clause-value
returns-clause-value g c =
    let values = c.self.inside.values.items in
    let size = length-zip c.self.inside.paths values c.self.invariant.0 in
    let inside : c.args.number < length values = rw (← size) (subst (λ es. c.args.number < length es) (sym c.self.view_is) c.requires) in
    let value = slice_get_read values (length values) c.args.number c.index.result.now refl inside c.index.ensures in
    ap (lookup (bytes_eq c.at.result.now)) (sym c.self.view_is)
    ∙ found-at c.self.inside.paths values c.args.number c.at.result.now c.index.result.now c.self.invariant.1 c.at.ensures value

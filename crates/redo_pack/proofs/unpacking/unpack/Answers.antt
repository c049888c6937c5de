use Rattle.std.proofs.Common.{rules, ◌≡◌, ◌++◌, ℕ, List, Err, subst}
use Rattle.std.specs.Prelude.{IfErr}
use Rattle.std.specs.declared.io.ErrorKind.{ErrorKind}
use Rattle.redo_tree.specs.Tree.{Tree}
use Rattle.redo_pack.specs.Unpacks.{HasTexts, Halts, Stops, others}
use Rattle.redo_pack.specs.declared.unpacking.UnpackFault.{UnpackFault}
use Rattle.redo_pack.proofs.TurnLemmas.{stops-first, stops-last}
use Rattle.redo_pack.proofs.unpacking.unpack.Goals as goal

-- an entry was refused that isn't the book
pub returns-in_err-make_others-clause-stops : goal.returns-in_err-make_others-clause-stops
returns-in_err-make_others-clause-stops g c =
    let refused : List ℕ → ErrorKind → Type 0 = λ path kind. (d : g.row.D.Denot) × g.D.Making.refuses d path kind in
    let old : Tree = g.D.Making.made c.args.dir.now in let new : Tree = g.D.Making.made c.make_others.new.dir in
    let fault : UnpackFault = c.in_err-make_others.field-0.0 in
    let texts : HasTexts c.args.tree.now = search rules in
    let result : Err fault ≡ c.from_residual-in_err-make_others.result = search rules in
    let halts : Halts refused (others c.args.tree.now) old new fault = c.in_err-make_others.ensures.stops in
    subst (λ r. IfErr r (Stops refused c.args.tree.now old new)) result (stops-first refused c.args.tree.now old new fault texts halts)

-- the book was made, or refused
pub returns-clause-stops : goal.returns-clause-stops
returns-clause-stops g c =
    let refused : List ℕ → ErrorKind → Type 0 = λ path kind. (d : g.row.D.Denot) × g.D.Making.refuses d path kind in
    let old : Tree = g.D.Making.made c.args.dir.now in let new : Tree = g.D.Making.made c.make_book.new.dir in
    let middle : Tree = g.D.Making.made c.make_others.new.dir in
    let texts : HasTexts c.args.tree.now = search rules in
    let made : middle ≡ old ++ others c.args.tree.now = c.in_ok-make_others.ensures.made in
    stops-last refused c.args.tree.now old middle new c.make_book.result texts made c.make_book.ensures.stops

use Rattle.std.proofs.Common.{◌∷◌, [], subst, sym}
use Rattle.redo_bundle.specs.Bundle.{Writes}
use Rattle.redo_record.specs.declared.deps.DepKind.{DepKind}
use Rattle.redo_past.specs.inside.Books.{noted_text}
use Rattle.redo_past.proofs.records.write_entry.Goals as goal

pub returns-in-Create-clause-writes : goal.returns-in-Create-clause-writes
returns-in-Create-clause-writes g c =
    let states = c.args.states.now in
    let P : DepKind → Type 0 = λ kind. Writes (g.W.ByteOut.held c.args.out.now) (g.W.ByteOut.held c.write_created.new.out) c.write_created.result (noted_text states (record { kind = kind; path = c.args.dep.now.path } ∷ [])) in
    subst P (sym c.in-Create.is) (c.write_created.ensures.writes states)

pub returns-in-Always-clause-writes : goal.returns-in-Always-clause-writes
returns-in-Always-clause-writes g c =
    let states = c.args.states.now in
    let P : DepKind → Type 0 = λ kind. Writes (g.W.ByteOut.held c.args.out.now) (g.W.ByteOut.held c.write_made_again.new.out) c.write_made_again.result (noted_text states (record { kind = kind; path = c.args.dep.now.path } ∷ [])) in
    subst P (sym c.in-Always.is) (c.write_made_again.ensures.writes states)

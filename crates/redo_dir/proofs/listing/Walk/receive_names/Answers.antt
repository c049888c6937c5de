use Rattle.std.proofs.Common.{◌≡◌, ◌++◌, ◌∷◌, [], ◌∙◌, ap, rules, sym, subst, append_assoc, Err}
use Rattle.std.specs.Prelude.{IfErr}
use Rattle.redo_dir.specs.inside.Levels.{BreaksIn, ReceivesName, progress}
use Rattle.redo_dir.proofs.ListingLemmas.{FoldsTo-last}
use Rattle.redo_dir.proofs.listing.Walk.receive_names.Goals as goal

pub names-preserved : goal.names-preserved
names-preserved c =
    let name = c.in-Some.name in
    let next : c.names.name-iterator.rest.items ≡ name ∷ c.next.new.self.rest.items = search rules in
    record {
      received = FoldsTo-last ReceivesName (progress c.args.self.now) (progress c.names.self) (progress c.receive_name.new.self) c.names.yielded name c.names.invariant.received c.in_ok-receive_name.ensures.some;
      left = c.names.invariant.left ∙ ap (λ ns. c.names.yielded ++ ns) next ∙ sym (append_assoc c.names.yielded (name ∷ []) c.next.new.self.rest.items);
    }

pub returns-in_err-receive_name-clause-stops : goal.returns-in_err-receive_name-clause-stops
returns-in_err-receive_name-clause-stops c =
    let name = c.in-Some.name in
    let next : c.names.name-iterator.rest.items ≡ name ∷ c.next.new.self.rest.items = search rules in
    let are = c.names.invariant.left ∙ ap (λ ns. c.names.yielded ++ ns) next in
    let told : Err c.in_err-receive_name.field-0.0 ≡ c.from_residual.result = search rules in
    subst (λ r. IfErr r (BreaksIn c.args.names.items)) told
    (c.names.yielded, c.next.new.self.rest.items, name, are, c.in_err-receive_name.ensures.broken)

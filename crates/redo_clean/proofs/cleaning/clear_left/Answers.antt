use Rattle.std.proofs.Common.{◌∙◌, ◌++◌, ap, sym, take, [], Option}
use Rattle.std.specs.Option.{option_map_or}
use Rattle.redo_dir.specs.Stored.{place_of}
use Rattle.redo_dir.specs.Storing.{steps_to_clear}
use Rattle.redo_dir.specs.declared.clearing.Left.{Left}
use Rattle.redo_clean.proofs.cleaning.clear_left.Goals as goal

pub returns-in-Err-clause-fault : goal.returns-in-Err-clause-fault
returns-in-Err-clause-fault g c =
    let steps = ap (λ (o : Option Left). option_map_or (λ left. steps_to_clear c.args.plan.now.over left.book left.own.items) o []) c.in-Some.is in
    record {
      left = c.in-Some.left;
      is_left = c.in-Some.is;
      why = c.in-Err.ensures.refused;
      log = c.in-Err.ensures.done ∙ ap (λ ss. g.D.WorkDir.done c.args.dir.now ++ take (place_of c.in-Err.fault) ss) (sym steps);
    }

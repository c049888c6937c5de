use Rattle.std.proofs.Common.{◌∙◌, ap, sym}
use Rattle.redo_record.specs.Paths.{is_among}
use Rattle.redo_record.proofs.KindLemmas.{entered-among}
use Rattle.redo_record.proofs.deps.Many.contains.Goals as goal

pub returns : goal.returns
returns c =
    let dep = c.args.dep.now in
    c.contains.ensures ∙ ap (λ ps. is_among ps dep.path) c.of_kind.ensures
    ∙ sym (entered-among c.args.self.now dep.kind dep.path)

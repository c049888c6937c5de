use Rattle.std.proofs.Common.{◌≡◌, ◌∙◌, ◌++◌, ap, subst, string_bytes, codes}
use Rattle.std.specs.Prelude.{IfOk, decimal}
use Rattle.redo_dir.specs.Own.{temporary_front}
use Rattle.redo_dir.proofs.own.Tag.name.Goals as goal

pub returns : goal.returns
returns c =
    subst (λ front. IfOk c.name_with.result (λ name. string_bytes name ≡ front ++ decimal c.args.number ++ codes ".tmp"))
    (c.deref.ensures ∙ c.self.invariant ∙ ap temporary_front c.self.view_is) c.name_with.ensures

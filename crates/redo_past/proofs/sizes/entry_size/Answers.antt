use Rattle.std.proofs.Common.{◌∷◌, [], subst, sym}
use Rattle.redo_record.specs.declared.deps.DepKind.{DepKind}
use Rattle.redo_past.specs.inside.Books.{AreSized}
use Rattle.redo_past.proofs.sizes.entry_size.Goals as goal

pub returns-in-Create : goal.returns-in-Create
returns-in-Create c =
    let P : DepKind → Type 0 = λ kind. AreSized c.args.files.now (record { kind = kind; path = c.args.dep.now.path } ∷ []) c.created_size.result in
    subst P (sym c.in-Create.is) (c.created_size.ensures c.args.files.now)

pub returns-in-Always : goal.returns-in-Always
returns-in-Always c =
    let P : DepKind → Type 0 = λ kind. AreSized c.args.files.now (record { kind = kind; path = c.args.dep.now.path } ∷ []) c.made_again_size.result in
    subst P (sym c.in-Always.is) (c.made_again_size.ensures c.args.files.now)

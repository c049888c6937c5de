use Rattle.std.proofs.Common.{◌≡◌, Err, false, refl, rules, subst, sym, ℕ}
use Rattle.std.specs.Prelude.{IfErr}
use Rattle.redo_dir.specs.Loaded.{IsLoaded, IsUnloaded, Leads, Unread}
use Rattle.redo_dir.specs.declared.contents.Wanted.{Wanted}
use Rattle.redo_dir.proofs.LoadLemmas.{bare, not_bare}
use Rattle.redo_dir.proofs.loading.load_names.Goals as goal

pub returns-clause-named : goal.returns-clause-named
returns-clause-named g c =
    let dir = c.args.dir.now in
    let wanted : Wanted = record { all = false; paths = c.new.result } in
    subst (λ (n : ℕ). IsLoaded (g.D.DirView.lists dir) (Leads (g.D.DirView.looks dir) Unread) c.in_ok-tree.tree n)
    (sym c.load.ensures.passed)
    (bare (g.D.DirView.lists dir) (g.D.DirView.looks dir) (g.D.DirView.reads dir) (g.D.DirView.refuses dir) wanted refl
    c.new.ensures c.in_ok-tree.tree c.in_ok-names.names.passed c.in_ok-tree.ensures.loaded)

pub returns-in_err-tree-clause-fault : goal.returns-in_err-tree-clause-fault
returns-in_err-tree-clause-fault g c =
    let dir = c.args.dir.now in
    let wanted : Wanted = record { all = false; paths = c.new.result } in
    let fault = c.in_err-tree.field-0.0 in
    let told : Err fault ≡ c.from_residual-in_err-tree.result = search rules in
    subst (λ r. IfErr r (IsUnloaded (g.D.DirView.lists dir) (Leads (g.D.DirView.looks dir) Unread) (g.D.DirView.refuses dir))) told
    (not_bare (g.D.DirView.lists dir) (g.D.DirView.looks dir) (g.D.DirView.reads dir) (g.D.DirView.refuses dir) wanted refl
    c.new.ensures fault c.in_err-tree.ensures.fault)

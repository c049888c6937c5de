use Rattle.std.proofs.Common.{◌∙◌, ap, List, Option, subst, sym}
use Rattle.std.specs.Prelude.{ℕ}
use Rattle.redo_dir.specs.inside.Batches.{Refusals}
use Rattle.redo_dir.proofs.ClearLemmas.{PutsFirst, all_cleared, what_is_uncleared}
use Rattle.redo_dir.proofs.clearing.clear.Goals.{in-Some+in_default-put_book, in_default}
use Rattle.redo_dir.proofs.clearing.clear.Goals as goal

-- the book was put, if there was one to be put
put_first : (g : _) (c : goal.After-remove_each g) → PutsFirst c.args.over c.args.left.now.book (g.D.WorkDir.done c.args.dir.now) (g.D.WorkDir.done c.match-left.dir)
put_first g c =
    let first : Option (List ℕ) → Type 0 = λ book. PutsFirst c.args.over book (g.D.WorkDir.done c.args.dir.now) (g.D.WorkDir.done c.match-left.dir) in
    elim c.match-left.branch [
      | in-Some+in_default-put_book w ↦ subst first (sym w.in-Some.is) (ap g.D.WorkDir.done w.dir-is ∙ w.in_default-put_book.ensures.put)
      | in_default w ↦ subst first (sym w.in_default.is) (ap g.D.WorkDir.done w.dir-is)
    ]

pub returns-clause-done : goal.returns-clause-done
returns-clause-done g c =
    let told : Refusals = λ path kind. (d : g.row.D.Denot) × g.D.DirView.refuses d path kind in
    let done = g.D.WorkDir.done in
    let own : List (List ℕ) = c.args.left.now.own.items in
    all_cleared told c.args.over c.args.left.now.book own c.count-first.result (done c.args.dir.now) (done c.match-left.dir) (done c.remove_each.new.dir) c.remove_each.result (put_first g c) c.count-first.ensures c.remove_each.ensures.all c.remove_each.ensures.part

pub returns-clause-refused : goal.returns-clause-refused
returns-clause-refused g c =
    let told : Refusals = λ path kind. (d : g.row.D.Denot) × g.D.DirView.refuses d path kind in
    let done = g.D.WorkDir.done in
    let own : List (List ℕ) = c.args.left.now.own.items in
    what_is_uncleared told c.args.over c.args.left.now.book own c.count-first.result (done c.args.dir.now) (done c.match-left.dir) (done c.remove_each.new.dir) c.remove_each.result (put_first g c) c.count-first.ensures c.remove_each.ensures.part

use Rattle.std.proofs.Common.{◌≡◌, ◌∙◌, ap, rules, length, drop, refl, subst, sym, Err}
use Rattle.std.proofs.lemmas.List.{length-map, take_at}
use Rattle.redo_dir.specs.inside.Batches.{Advances, Names, Refusals, asked, asked_of}
use Rattle.redo_dir.proofs.FrontLemmas.{names_advance, none_stored, stops_plainly}
use Rattle.redo_dir.proofs.storing.store_front.Goals as goal

pub returns-in_err-drafts : goal.returns-in_err-drafts
returns-in_err-drafts g c =
    let told : Refusals = λ path kind. (d : g.row.D.Denot) × g.D.DirView.refuses d path kind in
    let stored = g.D.WorkDir.done c.args.dir.now in
    let fault = c.in_err-drafts.field-0.0 in
    let result : Err fault ≡ c.from_residual.result = search rules in
    subst (Advances told c.args.tree.now c.args.files.now stored stored) result
    (none_stored told c.args.tree.now c.args.files.now stored stored fault refl (stops_plainly told c.args.files.now 0 fault c.in_err-drafts.ensures.fault))

pub returns : goal.returns
returns g c =
    let told : Refusals = λ path kind. (d : g.row.D.Denot) × g.D.DirView.refuses d path kind in
    let stored = g.D.WorkDir.done in
    let tree = c.args.tree.now in let files = c.args.files.now in
    let drafts = c.in_ok-drafts.drafts.items in
    let written = c.write_by.new.drafts in
    let asks = c.write_by.ensures.asked ∙ ap asked c.deref_mut.ensures.value in
    let as_many = sym (length-map written asked_of) ∙ ap length asks ∙ length-map drafts asked_of in
    let same = ap asked (take_at written (drop (length written) drafts) c.in_ok-drafts.drafts.len (as_many ∙ search rules)) ∙ asks in
    let names = subst (λ ds. Names told (stored c.args.dir.now) ds (stored c.name_each.new.dir) c.name_each.result) same c.name_each.ensures.names in
    names_advance told tree files (stored c.args.dir.now) (asked drafts) (stored c.name_each.new.dir) c.name_each.result (search rules) c.in_ok-drafts.ensures.front names

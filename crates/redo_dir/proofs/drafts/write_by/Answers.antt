use Rattle.std.proofs.Common.{◌≡◌, ◌<◌, ◌∙◌, ap, sym, subst, length, rules}
use Rattle.redo_dir.specs.Stored.{put_of}
use Rattle.redo_dir.specs.inside.Batches.{IsWritten, Refusals, asked_of}
use Rattle.redo_dir.proofs.ListingLemmas.{all_each, map_each}
use Rattle.redo_dir.proofs.drafts.write_by.Goals as goal

pub returns-clause-asked : goal.returns-clause-asked
returns-clause-asked g c =
    let old = c.args.drafts.now in let new = c.for_each_mut.new.s in
    map_each asked_of old new (search rules) (λ k d l.
    let change = (c.for_each_mut.ensures k d l).1 in
    let before = change.argument.now in let after = change.after_call.now in
    ap asked_of (sym change.left) ∙
    ap (λ p. put_of (p, after.content) after.over) change.call.0 ∙
    ap (λ b. put_of (before.path, b) after.over) change.call.1.0 ∙
    ap (λ o. put_of (before.path, before.content) o) change.call.1.1.0 ∙
    ap asked_of change.argument_is)

pub returns-clause-written : goal.returns-clause-written
returns-clause-written g c =
    let told : Refusals = λ path kind. (d : g.row.D.Denot) × g.D.DirView.refuses d path kind in
    let written = IsWritten told g.D.Draft.Drafted.drafted in
    let old = c.args.drafts.now in let new = c.for_each_mut.new.s in
    let len : length new ≡ length old = search rules in
    all_each written new (λ k d l.
    let change = (c.for_each_mut.ensures k d (subst (λ n. k < n) len l)).1 in
    subst written change.left change.call.1.1.1)

use Rattle.std.proofs.Common.{◌≡◌, ◌++◌, ◌∷◌, [], ◌∙◌, ap, append-nil, append_assoc, rules, subst, sym}
use Rattle.std.proofs.lemmas.List.{map-append, nil_from_length}
use Rattle.std.specs.Prelude.{OnErr}
use Rattle.redo_dir.specs.inside.Batches.{GivesUpRest, Names, Refusals, asked, asked_of}
use Rattle.redo_dir.proofs.FrontLemmas.{names_left, names_more}
use Rattle.redo_dir.proofs.GoneLemmas.{gave_up_first, gave_up_more}
use Rattle.redo_dir.proofs.drafts.name_each.Goals as goal

pub drafts-preserved-then-is_ok : goal.drafts-preserved-then-is_ok
drafts-preserved-then-is_ok g c =
    let told : Refusals = λ path kind. (d : g.row.D.Denot) × g.D.DirView.refuses d path kind in
    let stored = g.D.WorkDir.done in
    let draft = c.in-Some.draft in
    let seam = map-append asked_of c.drafts.yielded (draft ∷ []) in
    let next : c.drafts.draft-iterator.rest.items ≡ draft ∷ c.next.new.self.rest.items = search rules in
    record {
      names = subst (λ ds. Names told (stored c.args.dir.now) ds (stored c.name-outcome.new.dir) c.name-outcome.result) (sym seam)
          (names_more told (stored c.args.dir.now) (asked c.drafts.yielded) (stored c.drafts.dir) (stored c.name-outcome.new.dir) (draft.path, draft.content) draft.over c.drafts.outcome c.name-outcome.result c.drafts.invariant.names (search rules) c.name-outcome.ensures.text c.name-outcome.ensures.stored c.name-outcome.ensures.kept c.name-outcome.ensures.refused);
      gone = gave_up_first g.D.Draft.Drafted.gone (stored c.args.dir.now) (stored c.drafts.dir) (stored c.name-outcome.new.dir) c.drafts.yielded draft c.drafts.outcome c.name-outcome.result
          c.drafts.invariant.names.all (search rules) c.name-outcome.ensures.kept c.name-outcome.ensures.gone;
      left = c.drafts.invariant.left ∙ ap (λ ds. c.drafts.yielded ++ ds) next ∙ sym (append_assoc c.drafts.yielded (draft ∷ []) c.next.new.self.rest.items);
    }

pub drafts-preserved : goal.drafts-preserved
drafts-preserved g c =
    let told : Refusals = λ path kind. (d : g.row.D.Denot) × g.D.DirView.refuses d path kind in
    let stored = g.D.WorkDir.done in
    let draft = c.in-Some.draft in
    let seam = map-append asked_of c.drafts.yielded (draft ∷ []) in
    let next : c.drafts.draft-iterator.rest.items ≡ draft ∷ c.next.new.self.rest.items = search rules in
    record {
      names = subst (λ ds. Names told (stored c.args.dir.now) ds (stored c.drafts.dir) c.drafts.outcome) (sym seam)
          (names_left told (stored c.args.dir.now) (asked c.drafts.yielded) (stored c.drafts.dir) (asked_of draft) c.drafts.outcome c.drafts.invariant.names (search rules));
      gone = gave_up_more g.D.Draft.Drafted.gone (stored c.args.dir.now) (stored c.drafts.dir) c.drafts.yielded draft c.drafts.outcome c.drafts.invariant.gone c.discard.ensures;
      left = c.drafts.invariant.left ∙ ap (λ ds. c.drafts.yielded ++ ds) next ∙ sym (append_assoc c.drafts.yielded (draft ∷ []) c.next.new.self.rest.items);
    }

pub returns-clause-names : goal.returns-clause-names
returns-clause-names g c =
    let told : Refusals = λ path kind. (d : g.row.D.Denot) × g.D.DirView.refuses d path kind in
    let stored = g.D.WorkDir.done in
    let none = nil_from_length c.drafts.draft-iterator.rest.items (search rules) in
    let whole : c.drafts.yielded ≡ c.args.drafts.items = sym (c.drafts.invariant.left ∙ ap (λ ds. c.drafts.yielded ++ ds) none ∙ append-nil c.drafts.yielded) in
    subst (λ ds. Names told (stored c.args.dir.now) (asked ds) (stored c.drafts.dir) c.drafts.outcome) whole c.drafts.invariant.names

pub returns-clause-gone : goal.returns-clause-gone
returns-clause-gone g c =
    let stored = g.D.WorkDir.done in
    let none = nil_from_length c.drafts.draft-iterator.rest.items (search rules) in
    let whole : c.drafts.yielded ≡ c.args.drafts.items = sym (c.drafts.invariant.left ∙ ap (λ ds. c.drafts.yielded ++ ds) none ∙ append-nil c.drafts.yielded) in
    subst (λ ds. OnErr c.drafts.outcome (GivesUpRest g.D.Draft.Drafted.gone (stored c.args.dir.now) ds (stored c.drafts.dir))) whole c.drafts.invariant.gone

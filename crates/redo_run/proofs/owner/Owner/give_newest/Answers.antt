use Rattle.std.proofs.Common.{◌≡◌, ◌∙◌, ◌-◌, ◌<◌, ◌++◌, ◌∷◌, [], List, ap, arith, sym, subst}
use Rattle.std.specs.Prelude.{IsNone}
use Rattle.redo_build.specs.Schedule.Event.{Take}
use Rattle.redo_core.specs.Taken.{HasTaken}
use Rattle.redo_core.specs.Views.{BoardView, WorkView, after, ready_count}
use Rattle.redo_rules.specs.Results.{IsGiven}
use Rattle.redo_sync.specs.Relay.{Pair, Source}
use Rattle.redo_run.specs.declared.owner.Owner.TheInside.{Inside}
use Rattle.redo_run.specs.inside.Workers.{OwnerView, HasKeptUp}
use Rattle.redo_run.proofs.OpenedLemmas.{one_given}
use Rattle.redo_run.proofs.owner.Owner.give_newest.Goals as goal
use Rattle.redo_run.proofs.owner.Owner.give_newest.Goals.{then-may_offer, else-may_offer}

-- the work is of the build that the type names
pub new-requires : goal.new-requires
new-requires g c = λ other is.
    let Of : OwnerView → Type 0 = λ d. IsGiven g.B.BuildBrand.tree g.B.BuildBrand.request g.B.BuildBrand.limits d.board.given in
    let mine : IsGiven g.B.BuildBrand.tree g.B.BuildBrand.request g.B.BuildBrand.limits c.self.inside.board.given =
    subst Of (sym c.self.view_is) c.requires.of_build in
    c.in_ok-work.ensures.work.given ∙ one_given c.a_tree_has_one_past.ensures _ _ _ _ other mine is

-- the job that is given is the one that the board has taken
pub returns-clause-kept_up : goal.returns-clause-kept_up
returns-clause-kept_up g c =
    let b = c.self.inside.board in let given = c.self.inside.source.given in let work = c.in_ok-work.work in
    let new : OwnerView =
    record {
      board = c.if-may_offer.self-inside.board;
      source = c.by_giving.new.source;
      own = c.if-may_offer.self-inside.taker.relay;
    } in
    let boards : c.if-may_offer.self-inside.board ≡ c.take.new.self = elim c.if-may_offer.branch [
      | then-may_offer w ↦ ap (λ (i : Inside g.row.B.Denot g.B.BuildBrand). i.board) w.self-inside-is
      | else-may_offer w ↦ ap (λ (i : Inside g.row.B.Denot g.B.BuildBrand). i.board) w.self-inside-is
    ] in
    let sources : c.if-may_offer.self-inside.source ≡ c.self.inside.source = elim c.if-may_offer.branch [
      | then-may_offer w ↦ ap (λ (i : Inside g.row.B.Denot g.B.BuildBrand). i.source) w.self-inside-is
      | else-may_offer w ↦ ap (λ (i : Inside g.row.B.Denot g.B.BuildBrand). i.source) w.self-inside-is
    ] in
    let next : c.if-may_offer.self-inside.board ≡ after b (Take (c.ready.result - 1)) = boards ∙ c.in_ok-work.ensures.ok in
    let Runs : OwnerView → Type 0 = λ d. IsNone d.board.stopped in
    let runs : IsNone b.stopped = subst Runs (sym c.self.view_is) c.requires.running in
    let Ready : OwnerView → Type 0 = λ d. 0 < ready_count d.board in
    let ready : 0 < ready_count b = subst Ready (sym c.self.view_is) c.requires.ready in
    let there : c.ready.result - 1 < ready_count b = omega (arith, c.ready.ensures, ready) in
    let pairs : WorkView → List Pair = λ w. given ++ (w.target, w.turn) ∷ [] in
    let behind : Source → List Pair = λ s. s.given ++ (c.new.result.work.target, c.new.result.work.turn) ∷ [] in
    let P : OwnerView → Type 0 = λ d. HasKeptUp d new in
    let S : BoardView → Type 0 = λ v. IsNone v.stopped in
    let V : BoardView → Type 0 = λ v. HasTaken v (pairs work) in
    let L : List Pair → Type 0 = λ l. HasTaken c.if-may_offer.self-inside.board l in
    subst P c.self.view_is (
      subst S (sym next) runs,
      λ had.
          let took = c.what_was_taken.ensures.take b given (c.ready.result - 1) work had there c.in_ok-work.ensures.work in
          subst L (sym (c.in_ok-right.ensures.given ∙ ap behind sources ∙ ap pairs c.new.ensures)) (subst V (sym next) took),
    )

use denote.Exit.{yes}
use denote.Param.{param}
use denote.Param.Send.{arg_send, param_send}
use Rattle.std.proofs.Common.{◌≡◌, ◌∙◌, sym, subst}
use Rattle.std.proofs.lemmas.Result.{on_ok_weaker}
use Rattle.redo_build.specs.Outcomes.{IsTooMany}
use Rattle.redo_rules.specs.Build.{GivenView, rules_for}
use Rattle.redo_rules.specs.Results.{IsGiven}
use Rattle.redo_run.specs.inside.Workers.{OwnerView, HasKeptUp, NeedsMany}
use Rattle.redo_run.proofs.CrossingLemmas.{job_of_send, message_send}
use Rattle.redo_run.proofs.owner.build_newest.Lts.{arg-4-1, arg-4-2}
use Rattle.redo_run.proofs.owner.build_newest.Goals as goal
use Rattle.redo_run.proofs.owner.build_newest.Goals.{then-is_for_worker+in-Full, else-is_for_worker}

-- jobs go to other threads
pub start-requires-send-J : goal.start-requires-send-J
start-requires-send-J g c κs within =
    let job = arg-4-1 g.row.E g.row.B g.row.R g.row.O g.E.laws g.B.laws g.R.laws g.O.laws g.B.BuildBrand g.B.BuildBrand-dict g.R.Threads g.R.Threads-dict g.R.Wait g.R.Wait-dict g.O.Observer g.O.Observer-dict κs in
    param_send 1 job (arg_send _ yes _ (job_of_send (param 1 g.row.B) g.B.BuildBrand))

-- and so do what they come to
pub start-requires-send-M : goal.start-requires-send-M
start-requires-send-M g c κs within =
    let message = arg-4-2 g.row.E g.row.B g.row.R g.row.O g.E.laws g.B.laws g.R.laws g.O.laws g.B.BuildBrand g.B.BuildBrand-dict g.R.Threads g.R.Threads-dict g.R.Wait g.R.Wait-dict g.O.Observer g.O.Observer-dict κs in
    param_send 2 message (arg_send _ yes _ (message_send (param 1 g.row.B) g.B.BuildBrand))

-- too many targets of the board are too many of its build
abbrev Many : GivenView → Type 0
Many given = IsTooMany (rules_for given) given.request given.limits.targets

-- the board is still of that build
pub advance_claimed-requires-clause-of_build : goal.advance_claimed-requires-clause-of_build
advance_claimed-requires-clause-of_build g c κs within =
    let of : OwnerView → Type 0 = λ d. IsGiven g.B.BuildBrand.tree g.B.BuildBrand.request g.B.BuildBrand.limits d.board.given in
    let same : c.if-is_for_worker.owner ≡ c.give_newest.new.self = elim c.if-is_for_worker.branch [
      | then-is_for_worker+in-Full w ↦ w.owner-is ∙ c.owner.view_is
      | else-is_for_worker w ↦ w.owner-is
    ] in
    subst of (sym same)
    (subst (IsGiven g.B.BuildBrand.tree g.B.BuildBrand.request g.B.BuildBrand.limits) (sym c.give_newest.ensures.same.0) c.requires.of_build)

-- the owner's own job is handed in behind the one that was given
pub returns-clause-kept_up : goal.returns-clause-kept_up
returns-clause-kept_up g c =
    let same : c.if-is_for_worker.owner ≡ c.give_newest.new.self = elim c.if-is_for_worker.branch [
      | then-is_for_worker+in-Full w ↦ w.owner-is ∙ c.owner.view_is
      | else-is_for_worker w ↦ w.owner-is
    ] in
    let first : HasKeptUp c.args.owner.now c.if-is_for_worker.owner =
    subst (HasKeptUp c.args.owner.now) (sym same) c.in_ok-right.ensures.kept_up in
    on_ok_weaker c.advance_claimed.result (λ kept. (kept.0, λ had. kept.1 (first.1 had))) c.advance_claimed.ensures.kept_up

pub returns-clause-too_many : goal.returns-clause-too_many
returns-clause-too_many g c = λ is.
    let same : c.if-is_for_worker.owner ≡ c.give_newest.new.self = elim c.if-is_for_worker.branch [
      | then-is_for_worker+in-Full w ↦ w.owner-is ∙ c.owner.view_is
      | else-is_for_worker w ↦ w.owner-is
    ] in
    subst Many c.give_newest.ensures.same.0 (subst NeedsMany same (c.advance_claimed.ensures.too_many is))

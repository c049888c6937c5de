use Rattle.std.proofs.Common.{◌∙◌, Option, Result, sym, subst}
use Rattle.std.specs.Prelude.{IsNone, OnOk}
use Rattle.redo_core.specs.declared.board.Stop.{Stop}
use Rattle.redo_run.specs.inside.Workers.{OwnerView, HasKeptUp, NeedsMany}
use Rattle.redo_run.proofs.RefusalLemmas.{too_many_running}
use Rattle.redo_run.proofs.owner.Owner.hand_in.Goals as goal
use Rattle.redo_run.proofs.owner.Owner.hand_in.Goals.{in-Ok, in-Err-TooMany, in-Err-Memory}

-- a piece that is taken in adds nothing to what was taken
pub returns-clause-kept_up : goal.returns-clause-kept_up
returns-clause-kept_up g c =
    let b = c.self.inside.board in
    let old : OwnerView = record { board = b; source = c.self.inside.source; own = c.self.inside.taker.relay } in
    let new : OwnerView = record { board = c.hand_in.new.self; source = c.self.inside.source; own = c.self.inside.taker.relay } in
    let Runs : OwnerView → Type 0 = λ d. IsNone d.board.stopped in
    let runs : IsNone b.stopped = subst Runs (sym c.self.view_is) c.requires.running in
    let P : OwnerView → Type 0 = λ d. OnOk c.match-hand_in.result (HasKeptUp d new) in
    let Q : Result Unit Stop → Type 0 = λ r. OnOk r (HasKeptUp old new) in
    let None' : Option Stop → Type 0 = λ s. IsNone s in
    subst P c.self.view_is (elim c.match-hand_in.branch [
      | in-Ok w ↦
          subst Q (sym w.result-is) (
            subst None' (sym w.in-Ok.ensures.ok.stopped) runs,
            λ had. c.what_was_taken.ensures.hand_in b c.hand_in.new.self c.self.inside.source.given _ _ had w.in-Ok.ensures.open w.in-Ok.ensures.ok,
          )
      | in-Err-TooMany w ↦ subst Q (sym w.result-is) tt
      | in-Err-Memory w ↦ subst Q (sym w.result-is) tt
    ])

-- the board stops at too many targets if its build needs as many
pub returns-clause-too_many : goal.returns-clause-too_many
returns-clause-too_many g c = λ is.
    let Runs : OwnerView → Type 0 = λ d. IsNone d.board.stopped in
    let runs : IsNone c.self.inside.board.stopped = subst Runs (sym c.self.view_is) c.requires.running in
    elim c.match-hand_in.branch [
      | in-Ok w ↦ absurd (let e = sym w.result-is ∙ is in cc)
      | in-Err-TooMany w ↦
          subst NeedsMany c.self.view_is
          (too_many_running c.self.inside.board c.hand_in.new.self c.into_piece-piece.result runs w.in-Err-TooMany.field-0
          w.in-Err-TooMany.ensures.err w.in-Err-TooMany.field-0-is)
      | in-Err-Memory w ↦ absurd (let e = sym w.result-is ∙ is in cc)
    ]

use Rattle.std.proofs.Common.{rules}
use Rattle.redo_step.proofs.ComesLemmas.{if_ok_map}
use Rattle.redo_step.proofs.KeptLemmas.{kept_within, kept_goes, kept_stops}
use Rattle.redo_step.proofs.machine.resume_before.Goals as goal

pub returns-in-Ok : goal.returns-in-Ok
returns-in-Ok g c =
    let first = rw c.in-Some.is at c.requires in
    if_ok_map c.run_from-in-Ok.result (λ p h. kept_goes _ _ c.args.stmts.now _ c.args.first c.in-Some.waiting first _ p (c.in-Ok.ensures.run _) h) c.run_from-in-Ok.ensures

pub returns-in-Err : goal.returns-in-Err
returns-in-Err g c =
    let first = rw c.in-Some.is at c.requires in
    if_ok_map c.stop_before.result (λ p is. kept_stops _ _ c.args.stmts.now _ c.args.first c.in-Some.waiting first c.in-Err.stop p (c.in-Err.ensures.run _) c.in-Err.ensures.keeps is) c.stop_before.ensures

pub overflow_add-first : goal.overflow_add-first
overflow_add-first g c =
    let first = rw c.in-Some.is at c.requires in
    let less = kept_within _ (g.A.Answers.ask c.args.shell.now.answers.now) c.args.stmts.now _ c.args.first c.in-Some.waiting first in
    search rules
